use mathlib.Core.Path.{sym, ◌∙◌}
use mathlib.Core.Path.{ap}
use mathlib.Core.Bool.{not}
use Rattle.std.proofs.lemmas.Result.{err_from_is_err_and}
use Rattle.model.specs.Check.{tests_of}
use Rattle.script.proofs.Parts.{hit, over, code-outside, code-inside}
use Rattle.script.proofs.Judging.{attribute-passes, string-inside}
use Rattle.script.proofs.check.judge_attribute.Goals as goal

pub returns-then-is_half_font : goal.returns-then-is_half_font
unfolding tests_of
returns-then-is_half_font c = λ ks h. hit _ _ (sym (c.is_half_font.ensures ks h) ∙ c.if-is_half_font.true)

pub returns-then-not-is_attribute_code : goal.returns-then-not-is_attribute_code
unfolding tests_of
returns-then-not-is_attribute_code c =
    λ ks h. over _ _ _ (sym (c.is_half_font.ensures ks h) ∙ c.if-is_half_font.false)
    (hit _ _ (code-outside _ _ _ _ c.is_attribute_code.ensures c.then-not-is_attribute_code.either))

pub returns-then-not-may_attribute : goal.returns-then-not-may_attribute
unfolding tests_of
returns-then-not-may_attribute c =
    λ ks h. over _ _ _ (sym (c.is_half_font.ensures ks h) ∙ c.if-is_half_font.false)
    (over _ _ _ (code-inside _ _ _ _ c.is_attribute_code.ensures c.if-not-is_attribute_code.false c.if-space-gt4.false)
    (hit _ _ (ap not (sym c.may_attribute.ensures ∙ c.if-not-may_attribute.true))))

pub returns-in_err-test_string : goal.returns-in_err-test_string
unfolding tests_of
returns-in_err-test_string c =
    λ ks h. let out = err_from_is_err_and c.from_residual.result c.from_residual.ensures.1 in
    rw (out.1, out.2) (over _ _ _ (sym (c.is_half_font.ensures ks h) ∙ c.if-is_half_font.false)
    (over _ _ _ (code-inside _ _ _ _ c.is_attribute_code.ensures c.if-not-is_attribute_code.false c.if-space-gt4.false)
    (over _ _ _ (ap not (sym c.may_attribute.ensures ∙ c.if-not-may_attribute.false)) c.in_err-test_string.ensures)))

pub returns : goal.returns
unfolding tests_of
returns c =
    λ ks h. attribute-passes _ _ _ ks _ _ _ (over _ _ _ (sym (c.is_half_font.ensures ks h) ∙ c.if-is_half_font.false)
    (over _ _ _ (code-inside _ _ _ _ c.is_attribute_code.ensures c.if-not-is_attribute_code.false c.if-space-gt4.false)
    (over _ _ _ (ap not (sym c.may_attribute.ensures ∙ c.if-not-may_attribute.false)) c.in_ok-test_string.ensures)))
    (string-inside c.args.characters.now _ _ (sym c.in_ok-test_string.ensures))
