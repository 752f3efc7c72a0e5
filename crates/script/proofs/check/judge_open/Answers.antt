use mathlib.Core.Path.{sym, ◌∙◌}
use borrow.Author.Tests.{le-leb, lt-leb}
use Rattle.model.specs.Check.{tests_of}
use Rattle.script.proofs.Parts.{hit, over, passed, code-outside, code-inside}
use Rattle.script.proofs.Judging.{open-passes}
use Rattle.script.proofs.check.judge_open.Goals as goal

pub returns-then-is_half_font : goal.returns-then-is_half_font
unfolding tests_of
returns-then-is_half_font c = λ chars at ks h. hit _ _ (sym (c.is_half_font.ensures ks h) ∙ c.if-is_half_font.true)

pub returns-then-not-is_element_code : goal.returns-then-not-is_element_code
unfolding tests_of
returns-then-not-is_element_code c =
    λ chars at ks h. over _ _ _ (sym (c.is_half_font.ensures ks h) ∙ c.if-is_half_font.false)
    (hit _ _ (code-outside _ _ _ _ c.is_element_code.ensures c.then-not-is_element_code.either))

pub returns-then-is_second : goal.returns-then-is_second
unfolding tests_of
returns-then-is_second c =
    λ chars at ks h. over _ _ _ (sym (c.is_half_font.ensures ks h) ∙ c.if-is_half_font.false)
    (over _ _ _ (code-inside _ _ _ _ c.is_element_code.ensures c.if-not-is_element_code.false c.if-space-gt4.false)
    (hit _ _ (sym c.is_second.ensures ∙ c.if-is_second.true)))

pub returns-then-is_deep : goal.returns-then-is_deep
unfolding tests_of
returns-then-is_deep c =
    λ chars at ks h. over _ _ _ (sym (c.is_half_font.ensures ks h) ∙ c.if-is_half_font.false)
    (over _ _ _ (code-inside _ _ _ _ c.is_element_code.ensures c.if-not-is_element_code.false c.if-space-gt4.false)
    (over _ _ _ (sym c.is_second.ensures ∙ c.if-is_second.false) (hit _ _ (le-leb _ _ c.if-is_deep.true))))

pub returns : goal.returns
unfolding tests_of
returns c =
    λ chars at ks h. open-passes chars _ at ks _ _ (over _ _ _ (sym (c.is_half_font.ensures ks h) ∙ c.if-is_half_font.false)
    (over _ _ _ (code-inside _ _ _ _ c.is_element_code.ensures c.if-not-is_element_code.false c.if-space-gt4.false)
    (over _ _ _ (sym c.is_second.ensures ∙ c.if-is_second.false) (over _ _ _ (lt-leb _ _ c.if-is_deep.false) passed))))
