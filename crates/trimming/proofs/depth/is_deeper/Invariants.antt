use Prim.Native.Nat.{◌+◌}
use Rattle.trimming.proofs.Depths.{Level}
use Rattle.trimming.proofs.depth.is_deeper.Given as goal

abbrev pub invariant-loop-x : goal.invariant-loop-x
invariant-loop-x l = Level l.nodes l.element l.count l.initial.x l.initial.y l.x l.y l.up1 l.up2

abbrev pub decreases-loop-x : goal.decreases-loop-x
decreases-loop-x l = l.x + l.y
