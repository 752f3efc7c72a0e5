use Prim.Native.Nat.{◌-◌}
use lib.ListN.{length}
use Rattle.script.proofs.Judging.{Checking}
use Rattle.script.proofs.check.check.Given as goal

abbrev pub invariant-loop-next : goal.invariant-loop-next
invariant-loop-next l = Checking l.drawing l.s l.c

abbrev pub decreases-loop-next : goal.decreases-loop-next
decreases-loop-next l = length l.drawing.script.now - l.c.at
