use Prim.Native.Nat.{◌-◌}
use lib.ListN.{length}
use Rattle.places.proofs.Seeking.{Sought}
use Rattle.places.proofs.seek.seek.Given as goal

abbrev pub invariant-loop-c : goal.invariant-loop-c
invariant-loop-c l = Sought l.drawing l.number l.c

abbrev pub decreases-loop-c : goal.decreases-loop-c
decreases-loop-c l = length l.drawing.script.now - l.c.at
