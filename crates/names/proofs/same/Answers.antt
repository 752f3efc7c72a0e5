use mathlib.Core.Path.{◌∙◌}
use Rattle.names.proofs.Compared.{pointwise-is}
use Rattle.names.proofs.same.Goals as goal

pub returns : goal.returns
returns c = c.eq.ensures ∙ pointwise-is _ _
