use Prim.Native.Nat.{◌-◌}
use lib.ListN.{length}
use Rattle.walk.specs.Values.{events_at}
use Rattle.walk.proofs.Along.{Along}
use Rattle.parse.specs.Unbuilt.{past_unbuilt}
use Rattle.parse.proofs.unbuilt.past_unbuilt.Given as goal

abbrev pub invariant-loop-e : goal.invariant-loop-e
invariant-loop-e l = Along past_unbuilt (past_unbuilt 0 (events_at l.drawing l.initial.c)) l.drawing l.initial.c
    l.c l.level

abbrev pub decreases-loop-e : goal.decreases-loop-e
decreases-loop-e l = length l.drawing.script.now - l.c.at
