use Prim.Native.Nat.{◌-◌}
use lib.ListN.{length}
use Rattle.model.specs.Drawing.{texts_in}
use Rattle.walk.specs.Values.{events_at}
use Rattle.walk.proofs.Along.{Along}
use Rattle.walk.proofs.node.next_text.Given as goal

abbrev pub invariant-loop-e : goal.invariant-loop-e
invariant-loop-e l = Along texts_in (texts_in l.open_elements (events_at l.drawing l.initial.c)) l.drawing
    l.initial.c l.c l.level

abbrev pub decreases-loop-e : goal.decreases-loop-e
decreases-loop-e l = length l.drawing.script.now - l.c.at
