use mathlib.Core.Path.{◌≡◌}
use Prim.Native.Nat.{◌≤◌}
use lib.Dec.{eqb}
use Rattle.model.specs.Tables.{kind_of, parent_of}
use Rattle.model.specs.Questions.{element_from}
use Rattle.tree.specs.Lent.{plus_one, nodes_read}
use Rattle.tree.proofs.Climbs.{climb}
use Rattle.questions.proofs.find.parent_element.Given as goal

abbrev pub invariant-loop-above : goal.invariant-loop-above
invariant-loop-above l = (plus_one l.above ≤ l.i) × (climb (λ k. eqb (kind_of (nodes_read l.nodes) k) 2) (parent_of (nodes_read l.nodes))
    (plus_one l.above) (plus_one l.above)
    ≡ element_from (nodes_read l.nodes) l.i (parent_of (nodes_read l.nodes) l.i))

abbrev pub decreases-loop-above : goal.decreases-loop-above
decreases-loop-above l = plus_one l.above
