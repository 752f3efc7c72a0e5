use Prim.Native.Nat.{◌-◌}
use lib.ListN.{length}
use Rattle.walk.specs.Nodes.{Others}
use Rattle.walk.proofs.node.past_others.Given as goal

abbrev pub invariant-loop-n : goal.invariant-loop-n
invariant-loop-n l = Others l.drawing l.initial.c l.c

abbrev pub decreases-loop-n : goal.decreases-loop-n
decreases-loop-n l = length l.drawing.script.now - l.c.at
