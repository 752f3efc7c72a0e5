use Prim.Native.Nat.{◌-◌}
use lib.ListN.{length}
use Rattle.walk.specs.Values.{events_at}
use Rattle.walk.specs.Nodes.{leave}
use Rattle.walk.proofs.Along.{Along}
use Rattle.walk.proofs.node.past_element.Given as goal

abbrev pub invariant-loop-e : goal.invariant-loop-e
invariant-loop-e l = Along leave (leave 0 (events_at l.drawing l.initial.c)) l.drawing l.initial.c l.c l.level

abbrev pub decreases-loop-e : goal.decreases-loop-e
decreases-loop-e l = length l.drawing.script.now - l.c.at
