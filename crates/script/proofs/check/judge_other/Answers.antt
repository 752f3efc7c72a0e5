use mathlib.Core.Path.{sym, ◌∙◌}
use Rattle.model.specs.Check.{tests_of}
use Rattle.script.proofs.Parts.{hit, over, passed}
use Rattle.script.proofs.Judging.{other-passes}
use Rattle.script.proofs.check.judge_other.Goals as goal

pub returns-then-is_half_font : goal.returns-then-is_half_font
unfolding tests_of
returns-then-is_half_font c = λ chars at ks h. hit _ _ (sym (c.is_half_font.ensures ks h) ∙ c.if-is_half_font.true)

pub returns : goal.returns
unfolding tests_of
returns c =
    λ chars at ks h. other-passes chars _ at ks (over _ _ _ (sym (c.is_half_font.ensures ks h) ∙ c.if-is_half_font.false) passed)
