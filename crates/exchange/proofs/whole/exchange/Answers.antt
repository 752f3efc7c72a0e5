use mathlib.Core.Path.{refl, subst}
use Rattle.std.proofs.lemmas.Result.{err_from_is_err_and}
use Rattle.build.proofs.Answering.{refused-as-is}
use Rattle.exchange.specs.Changes.{TargetFit}
use Rattle.exchange.proofs.Settling.{fault-told, change-told}
use Rattle.exchange.proofs.whole.exchange.Goals as goal

pub returns-in_err-start : goal.returns-in_err-start
returns-in_err-start c =
    let out = err_from_is_err_and c.from_residual.result c.from_residual.ensures.1 in
    rw (out.1, out.2) (fault-told _ _ _ _ _ _ _ _ (subst (TargetFit _ _ _ _) c.in_err-start.was c.target_of.ensures) _
    (refused-as-is _ _ _ _ _ refl _))

pub returns-then-is_short : goal.returns-then-is_short
returns-then-is_short c =
    change-told _ _ _ _ _ _ _ _ (subst (TargetFit _ _ _ _) c.in_ok-start.was c.target_of.ensures) _ _ _ _ _ c.exchange_short.ensures

pub returns : goal.returns
returns c =
    change-told _ _ _ _ _ _ _ _ (subst (TargetFit _ _ _ _) c.in_ok-start.was c.target_of.ensures) _ _ _ _ _ c.exchange_long.ensures
