use mathlib.Core.Path.{◌∙◌}
use Rattle.build.proofs.Answering.{first-none, first_some}
use Rattle.build.proofs.tables.first_is_svg.Goals as goal

pub returns-in_default : goal.returns-in_default
returns-in_default c = first-none _ _ c.node_link.ensures c.in_default.is

pub returns : goal.returns
returns c = c.is_named.ensures ∙ first_some _ _ c.node_link.ensures _ c.in-Some.is
