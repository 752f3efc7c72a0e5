use mathlib.Core.Path.{sym, ◌∙◌}
use borrow.Author.Tests.{eq-eqb, ne_eqb}
use Rattle.model.specs.Check.{tests_of}
use Rattle.script.proofs.Parts.{hit, over, passed}
use Rattle.script.proofs.Judging.{close-passes}
use Rattle.script.proofs.check.judge_close.Goals as goal

pub returns-then-is_half_font : goal.returns-then-is_half_font
unfolding tests_of
returns-then-is_half_font c = λ chars at ks h. hit _ _ (sym (c.is_half_font.ensures ks h) ∙ c.if-is_half_font.true)

pub returns-then-s-eq0 : goal.returns-then-s-eq0
unfolding tests_of
returns-then-s-eq0 c =
    λ chars at ks h. over _ _ _ (sym (c.is_half_font.ensures ks h) ∙ c.if-is_half_font.false) (hit _ _ (eq-eqb _ _ c.if-s-eq0.true))

pub returns : goal.returns
unfolding tests_of
returns c =
    λ chars at ks h. close-passes chars _ at ks (over _ _ _ (sym (c.is_half_font.ensures ks h) ∙ c.if-is_half_font.false)
    (over _ _ _ (ne_eqb _ _ c.if-s-eq0.false) passed))
