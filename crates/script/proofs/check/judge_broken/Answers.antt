use mathlib.Core.Path.{sym, ◌∙◌, refl}
use borrow.Author.Tests.{eq-eqb, ne_eqb}
use Rattle.model.specs.Check.{tests_of}
use Rattle.script.proofs.Parts.{hit, over}
use Rattle.script.proofs.check.judge_broken.Goals as goal
use Rattle.script.proofs.check.judge_broken.Goals.{else-b-ne4-via-then-b-ne4+else-is_half_font, else-b-ne4-via-else-b-ne4}

pub returns-then-is_half_font : goal.returns-then-is_half_font
unfolding tests_of
returns-then-is_half_font c =
    λ chars at ks h. hit _ _ (rw (ne_eqb _ _ c.if-b-ne4.true) (sym (c.is_half_font.ensures ks h) ∙ c.if-is_half_font.true))

pub returns : goal.returns
unfolding tests_of
returns c =
    λ chars at ks h. elim c.else-b-ne4.branch [
      | else-b-ne4-via-then-b-ne4+else-is_half_font w ↦ over _ _ _
          (rw (ne_eqb _ _ w.if-b-ne4.true) (sym (w.is_half_font.ensures ks h) ∙ w.if-is_half_font.false)) (hit _ _ refl)
      | else-b-ne4-via-else-b-ne4 w ↦ over _ _ _ (rw (eq-eqb _ _ w.if-b-ne4.false)) (hit _ _ refl)
    ]
