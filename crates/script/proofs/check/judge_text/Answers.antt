use mathlib.Core.Path.{sym, ◌∙◌}
use borrow.Author.Tests.{eq-eqb, ne_eqb}
use Rattle.std.proofs.lemmas.Result.{err_from_is_err_and}
use Rattle.model.specs.Check.{tests_of}
use Rattle.script.proofs.Parts.{hit, over}
use Rattle.script.proofs.Judging.{text-passes}
use Rattle.script.proofs.check.judge_text.Goals as goal

pub returns-then-is_half_font : goal.returns-then-is_half_font
unfolding tests_of
returns-then-is_half_font c = λ ks h. hit _ _ (sym (c.is_half_font.ensures ks h) ∙ c.if-is_half_font.true)

pub returns-then-s-eq0 : goal.returns-then-s-eq0
unfolding tests_of
returns-then-s-eq0 c =
    λ ks h. over _ _ _ (sym (c.is_half_font.ensures ks h) ∙ c.if-is_half_font.false) (hit _ _ (eq-eqb _ _ c.if-s-eq0.true))

pub returns-in_err-test_string : goal.returns-in_err-test_string
unfolding tests_of
returns-in_err-test_string c =
    λ ks h. let out = err_from_is_err_and c.from_residual.result c.from_residual.ensures.1 in
    rw (out.1, out.2) (over _ _ _ (sym (c.is_half_font.ensures ks h) ∙ c.if-is_half_font.false)
    (over _ _ _ (ne_eqb _ _ c.if-s-eq0.false) c.in_err-test_string.ensures))

pub returns : goal.returns
unfolding tests_of
returns c =
    λ ks h. text-passes _ _ _ ks _ (over _ _ _ (sym (c.is_half_font.ensures ks h) ∙ c.if-is_half_font.false)
    (over _ _ _ (ne_eqb _ _ c.if-s-eq0.false) c.in_ok-test_string.ensures))
