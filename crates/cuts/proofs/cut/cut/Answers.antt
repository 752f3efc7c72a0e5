use mathlib.Core.Path.{ap, ◌∙◌}
use Rattle.model.specs.Tables.{attribute_id}
use Rattle.cuts.proofs.Writing.{cut-some}
use Rattle.cuts.proofs.cut.cut.Goals as goal

pub returns-in-Some : goal.returns-in-Some
returns-in-Some c =
    cut-some _ _ _ _ (c.in-Some.ensures.found ∙ ap (attribute_id _ _) c.cut_name-name.ensures) _ c.set_none.ensures
