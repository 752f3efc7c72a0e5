use mathlib.Core.Path.{sym, ◌∙◌}
use native.Mathlib.Omega.{arith}
use Rattle.questions.proofs.Below.{below-passed}
use Rattle.questions.proofs.sound.are_nodes.Goals as goal

pub loop-n-preserved : goal.loop-n-preserved
loop-n-preserved c = below-passed _ _ (omega arith) (sym c.is_node.ensures ∙ c.if-not-is_node.false) ∙ c.loop-n.invariant
