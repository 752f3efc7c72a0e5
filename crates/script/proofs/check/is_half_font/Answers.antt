use mathlib.Core.Path.{sym, ◌∙◌}
use borrow.Author.Tests.{lt-leb, le-leb}
use Rattle.script.proofs.Mask.{half_at, half-nothing}
use Rattle.script.proofs.check.is_half_font.Goals as goal

pub returns-in_default : goal.returns-in_default
returns-in_default c = λ ks h. half-nothing _ c.in_default.is ks

pub returns-then-value-ge32 : goal.returns-then-value-ge32
returns-then-value-ge32 c = λ ks h. sym (half_at _ _ c.in-Some.is ks h ∙ rw (le-leb 32 _ c.if-value-ge32.true))

pub returns-else-value-ge32 : goal.returns-else-value-ge32
returns-else-value-ge32 c = λ ks h. sym (half_at _ _ c.in-Some.is ks h ∙ rw (lt-leb 32 _ c.if-value-ge32.false))
