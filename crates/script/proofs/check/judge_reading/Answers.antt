use mathlib.Core.Path.{subst}
use borrow.Author.Tests.{lt-leb}
use borrow.Author.Rules.{rules}
use Rattle.std.proofs.lemmas.Result.{err_from_is_err_and}
use Rattle.script.specs.Known.{Inside, Held}
use Rattle.script.proofs.Parts.{and_none}
use Rattle.script.proofs.Judging.{reading-kind, reading-nowhere, reading-test, reading-passes}
use Rattle.script.proofs.check.judge_reading.Goals as goal
use Rattle.script.proofs.check.judge_reading.Goals.{then-kind-lt1-via-then-kind-lt1, then-kind-lt1-via-else-kind-lt1+then-kind-gt10}

pub returns-then-kind-lt1 : goal.returns-then-kind-lt1
returns-then-kind-lt1 c =
    λ at ks h. reading-kind _ c.args.s at ks _ _ _ (elim c.then-kind-lt1.branch [
      | then-kind-lt1-via-then-kind-lt1 w ↦ rw (lt-leb _ _ w.if-kind-lt1.true)
      | then-kind-lt1-via-else-kind-lt1+then-kind-gt10 w ↦ rw (lt-leb _ _ w.if-kind-gt10.true, and_none)
    ])

pub returns-in_default : goal.returns-in_default
returns-in_default c = λ at ks h. reading-nowhere _ c.args.s at ks _ _ _ c.in_default.is (search rules) (search rules)

pub test_part-requires : goal.test_part-requires
test_part-requires c = (search rules, subst (λ v. Inside c.args.characters.now v) c.in-Some.is c.requires)

pub returns-in_err-test_part : goal.returns-in_err-test_part
returns-in_err-test_part c =
    λ at ks h. let out = err_from_is_err_and c.from_residual.result c.from_residual.ensures.1 in
    rw (out.1, out.2) (reading-test _ c.args.s at ks _ _ _ _ c.in-Some.is (search rules) (search rules) h _
    c.in_err-test_part.ensures)

pub returns : goal.returns
returns c =
    λ at ks h. reading-passes _ _ at ks _ _ _ _ c.in-Some.is (search rules) (search rules) _
    (reading-test _ c.args.s at ks _ _ _ _ c.in-Some.is (search rules) (search rules) h _ c.in_ok-test_part.ensures)
    (c.with-kinds.ensures ks (subst (λ v. Held v ks) c.in-Some.is h))
    (subst (λ v. Inside c.args.characters.now v) c.in-Some.is c.requires)
