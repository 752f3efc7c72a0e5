use mathlib.Core.Path.{◌≡◌}
use Rattle.model.specs.Questions.{is_node, all_below}
use Rattle.tree.specs.Lent.{nodes_of}
use Rattle.questions.proofs.sound.are_nodes.Given as goal

abbrev pub invariant-loop-n : goal.invariant-loop-n
invariant-loop-n l = all_below (is_node (nodes_of l.nodes l.counts)) l.n ≡ all_below (is_node (nodes_of l.nodes l.counts)) l.counts.nodes
