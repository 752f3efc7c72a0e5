use native.Mathlib.Omega.{arith}
use mathlib.Core.Path.{sym, ◌∙◌}
use borrow.Author.Tests.{lt-ltb, le-ltb}
use Prim.Native.Nat.{◌+◌}
use Rattle.script.proofs.Parts.{utf8-part, hit, over, passed}
use Rattle.script.proofs.check.test_part.Goals as goal

pub returns-then-is_behind : goal.returns-then-is_behind
returns-then-is_behind c = hit _ _ (lt-ltb _ _ c.if-is_behind.true)

pub returns-then-is_repeated : goal.returns-then-is_repeated
returns-then-is_repeated c = over _ _ _ (le-ltb _ _ c.if-is_behind.false) (hit _ _ (sym c.is_repeated.ensures ∙ c.if-is_repeated.true))

pub returns-then-not-is_utf8 : goal.returns-then-not-is_utf8
returns-then-not-is_utf8 c =
    over _ _ _ (le-ltb _ _ c.if-is_behind.false)
    (over _ _ _ (sym c.is_repeated.ensures ∙ c.if-is_repeated.false)
    (hit _ _ (utf8-part _ (c.args.value.start + c.args.offset) _ _ _ _ c.is_utf8.ensures (omega arith) c.if-not-is_utf8.true)))

pub returns : goal.returns
returns c =
    over _ _ _ (le-ltb _ _ c.if-is_behind.false)
    (over _ _ _ (sym c.is_repeated.ensures ∙ c.if-is_repeated.false)
    (over _ _ _ (utf8-part _ (c.args.value.start + c.args.offset) _ _ _ _ c.is_utf8.ensures (omega arith) c.if-not-is_utf8.false)
    passed))
