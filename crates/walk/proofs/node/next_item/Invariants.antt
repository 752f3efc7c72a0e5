use Prim.Native.Nat.{◌-◌}
use lib.ListN.{length}
use Rattle.model.specs.Drawing.{events_from}
use Rattle.walk.proofs.Walks.{Reach}
use Rattle.walk.proofs.node.next_item.Given as goal

abbrev pub invariant-loop-name : goal.invariant-loop-name
invariant-loop-name l = Reach (events_from l.drawing.characters.now) l.drawing l.initial.c l.c

abbrev pub decreases-loop-name : goal.decreases-loop-name
decreases-loop-name l = length l.drawing.script.now - l.c.at
