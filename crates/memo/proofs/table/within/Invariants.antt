use Prim.Native.Nat.{◌-◌}
use lib.ListN.{length}
use Rattle.walk.specs.Values.{events_at}
use Rattle.memo.specs.Table.{within}
use Rattle.memo.proofs.Within.{Seeking}
use Rattle.memo.proofs.table.within.Given as goal

abbrev pub invariant-loop-left : goal.invariant-loop-left
invariant-loop-left l = Seeking l.drawing l.id (within l.initial.left l.id (events_at l.drawing l.initial.c)) l.c
    l.left

abbrev pub decreases-loop-left : goal.decreases-loop-left
decreases-loop-left l = length l.drawing.script.now - l.c.at
