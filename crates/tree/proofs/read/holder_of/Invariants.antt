use mathlib.Core.Path.{◌≡◌}
use Prim.Native.Nat.{◌≤◌, ◌+◌}
use Rattle.model.specs.Tables.{parent_of, has_attribute, holder_of}
use Rattle.tree.specs.Lent.{plus_one, read_of}
use Rattle.tree.proofs.Climbs.{climb}
use Rattle.tree.proofs.read.holder_of.Given as goal

abbrev pub invariant-loop-above : goal.invariant-loop-above
invariant-loop-above l = (plus_one l.above ≤ l.i + 1) × (climb (λ k. has_attribute (read_of l.nodes l.attributes) k l.a) (parent_of
    (read_of l.nodes l.attributes)) (plus_one l.above) (plus_one l.above)
    ≡ holder_of (read_of l.nodes l.attributes) l.a l.i)

abbrev pub decreases-loop-above : goal.decreases-loop-above
decreases-loop-above l = plus_one l.above
