use Rattle.std.proofs.Common.{rules}
use Rattle.names.proofs.Compared.{same-empty, no-fixed}
use mathlib.Core.Path.{◌∙◌}
use Rattle.names.proofs.is_fixed.Goals as goal

pub returns-in_default : goal.returns-in_default
returns-in_default c = rw (no-fixed c.args.n (search rules)) (c.is_empty.ensures ∙ same-empty _)
