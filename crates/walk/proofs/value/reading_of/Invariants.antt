use Prim.Native.Nat.{◌-◌}
use lib.ListN.{length}
use Rattle.model.specs.Drawing.{reading_of}
use Rattle.walk.specs.Values.{readings_in}
use Rattle.walk.proofs.Finding.{Reading}
use Rattle.walk.proofs.value.reading_of.Given as goal

abbrev pub invariant-loop-x : goal.invariant-loop-x
invariant-loop-x l = Reading (λ drawing a c. reading_of l.kind (readings_in drawing a c)) l.drawing l.start l.initial.c l.c

abbrev pub decreases-loop-x : goal.decreases-loop-x
decreases-loop-x l = length l.drawing.script.now - l.c.at
