use mathlib.Core.Path.{sym, ◌∙◌}
use borrow.Author.Tests.{lt-ltb, le-ltb, le-leb, lt-leb}
use Rattle.model.specs.Check.{tests_at_end}
use Rattle.script.proofs.Parts.{hit, over, passed}
use Rattle.script.proofs.check.judge_end.Goals as goal

pub returns-then-is_half_font : goal.returns-then-is_half_font
unfolding tests_at_end
returns-then-is_half_font c = λ ks h. hit _ _ (sym (c.is_half_font.ensures ks h) ∙ c.if-is_half_font.true)

pub returns-then-is_open : goal.returns-then-is_open
unfolding tests_at_end
returns-then-is_open c =
    λ ks h. over _ _ _ (sym (c.is_half_font.ensures ks h) ∙ c.if-is_half_font.false) (hit _ _ (rw (le-leb _ _ c.if-is_open.true)))

pub returns-then-not-s : goal.returns-then-not-s
unfolding tests_at_end
returns-then-not-s c =
    λ ks h. over _ _ _ (sym (c.is_half_font.ensures ks h) ∙ c.if-is_half_font.false)
    (hit _ _ (rw (lt-leb _ _ c.if-is_open.false) c.if-not-s.true))

pub returns-then-is_more : goal.returns-then-is_more
unfolding tests_at_end
returns-then-is_more c =
    λ ks h. over _ _ _ (sym (c.is_half_font.ensures ks h) ∙ c.if-is_half_font.false)
    (over _ _ _ (rw (lt-leb _ _ c.if-is_open.false) c.if-not-s.false) (hit _ _ (lt-ltb _ _ c.if-is_more.true)))

pub returns : goal.returns
unfolding tests_at_end
returns c =
    λ ks h. over _ _ _ (sym (c.is_half_font.ensures ks h) ∙ c.if-is_half_font.false)
    (over _ _ _ (rw (lt-leb _ _ c.if-is_open.false) c.if-not-s.false) (over _ _ _ (le-ltb _ _ c.if-is_more.false) passed))
