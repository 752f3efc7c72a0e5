use native.Mathlib.Omega.{arith}
use borrow.Author.Tests.{lt-ltb, le-ltb}
use Rattle.script.proofs.Parts.{utf8-part, hit, over, passed}
use Rattle.script.proofs.check.test_string.Goals as goal

pub returns-then-characters-end : goal.returns-then-characters-end
returns-then-characters-end c = hit _ _ (lt-ltb _ _ c.if-characters-end.true)

pub returns-then-not-is_utf8 : goal.returns-then-not-is_utf8
returns-then-not-is_utf8 c =
    over _ _ _ (le-ltb _ _ c.if-characters-end.false)
    (hit _ _ (utf8-part _ c.args.at _ _ _ _ c.is_utf8.ensures (omega arith) c.if-not-is_utf8.true))

pub returns : goal.returns
returns c =
    over _ _ _ (le-ltb _ _ c.if-characters-end.false)
    (over _ _ _ (utf8-part _ c.args.at _ _ _ _ c.is_utf8.ensures (omega arith) c.if-not-is_utf8.false) passed)
