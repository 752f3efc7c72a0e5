use Prim.Native.Nat.{◌-◌}
use lib.ListN.{length}
use Rattle.model.specs.Drawing.{uses_in}
use Rattle.walk.specs.Values.{events_at, part_of}
use Rattle.walk.proofs.Along.{Along}
use Rattle.links.proofs.Linking.{led_by, leading_by}
use Rattle.links.proofs.link.leads_back_by.Given as goal

abbrev pub invariant-loop-u : goal.invariant-loop-u
invariant-loop-u l = Along (leading_by (part_of l.drawing.characters.now l.id) (part_of l.drawing.characters.now l.link))
    (led_by (part_of l.drawing.characters.now l.id) (part_of l.drawing.characters.now l.link) (uses_in 0 (events_at l.drawing l.initial.c))) l.drawing l.initial.c l.c
    l.level

abbrev pub decreases-loop-u : goal.decreases-loop-u
decreases-loop-u l = length l.drawing.script.now - l.c.at
