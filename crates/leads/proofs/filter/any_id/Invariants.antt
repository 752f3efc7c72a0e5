use Prim.Native.Nat.{◌-◌}
use lib.ListN.{length}
use Rattle.model.specs.Repair.{any_reading}
use Rattle.tree.specs.Lent.{entries_of}
use Rattle.walk.specs.Values.{readings_in}
use Rattle.walk.proofs.Finding.{Reading}
use Rattle.leads.specs.Links.{id_at}
use Rattle.leads.proofs.filter.any_id.Given as goal

abbrev pub invariant-loop-x : goal.invariant-loop-x
invariant-loop-x l =
    Reading (λ drawing a c. any_reading 4 (id_at l.drawing.characters.now (entries_of l.attributes) l.j) (readings_in drawing a c))
    l.drawing l.start l.initial.c l.c

abbrev pub decreases-loop-x : goal.decreases-loop-x
decreases-loop-x l = length l.drawing.script.now - l.c.at
