use mathlib.Core.Path.{◌∙◌}
use Rattle.repair.proofs.Mending.{tidy-seen}
use Rattle.build.proofs.Building.{finish-refused, finish-done}
use Rattle.build.proofs.whole.finish.Goals as goal

pub returns-then-not-first_is_svg : goal.returns-then-not-first_is_svg
returns-then-not-first_is_svg c =
    c.refuse_build.ensures _
    ∙ finish-refused _ _ _ _ _ c.requires _
    c.first_is_svg.ensures _
    c.if-not-first_is_svg.true

pub repair-requires-clause-tidy : goal.repair-requires-clause-tidy
repair-requires-clause-tidy c = tidy-seen _ _ _ _ _ c.requires.tidy

pub returns : goal.returns
returns c =
    finish-done _ _ _ _ _
    c.requires _
    c.first_is_svg.ensures _
    c.if-not-first_is_svg.false _ (c.repair.ensures _)
