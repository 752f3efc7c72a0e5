use mathlib.Core.Path.{sym, ◌∙◌}
use Rattle.edges.proofs.Looking.{ends-filled}
use Rattle.edges.proofs.step.trim_last_edge.Goals as goal

pub remove_last_space-requires : goal.remove_last_space-requires
remove_last_space-requires c = ends-filled _ _ c.requires.ranged (sym c.ends_with_space.ensures ∙ c.if-ends_with_space.true)
