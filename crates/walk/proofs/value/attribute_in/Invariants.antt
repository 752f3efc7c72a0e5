use Prim.Native.Nat.{◌-◌}
use lib.ListN.{length}
use Rattle.walk.proofs.Finding.{Looking}
use Rattle.walk.proofs.value.attribute_in.Given as goal

abbrev pub invariant-loop-x : goal.invariant-loop-x
invariant-loop-x l = Looking l.drawing l.space l.name l.initial.c l.c

abbrev pub decreases-loop-x : goal.decreases-loop-x
decreases-loop-x l = length l.drawing.script.now - l.c.at
