use mathlib.Core.Path.{◌∙◌}
use Rattle.element.proofs.Fonts.{is-read}
use Rattle.element.proofs.font.is_read.Goals as goal

pub returns : goal.returns
returns c = c.is_some.ensures ∙ is-read _ c.args.v _ _ c.reading_of.ensures.same
