use Prim.Native.Nat.{◌-◌}
use lib.ListN.{length}
use Rattle.walk.proofs.Walks.{Reach, rest_from}
use Rattle.walk.proofs.value.next_attribute.Given as goal

abbrev pub invariant-loop-name : goal.invariant-loop-name
invariant-loop-name l = Reach (rest_from l.drawing.characters.now) l.drawing l.initial.c l.c

abbrev pub decreases-loop-name : goal.decreases-loop-name
decreases-loop-name l = length l.drawing.script.now - l.c.at
