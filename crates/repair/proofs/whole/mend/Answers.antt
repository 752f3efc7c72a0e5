use native.Mathlib.Omega.{arith}
use Rattle.repair.proofs.Passing.{resolved-on}
use Rattle.repair.proofs.Mending.{before-turn, before-none, before_last, pass-at}
use Rattle.repair.proofs.whole.mend.Goals as goal

pub loop-pass-preserved : goal.loop-pass-preserved
loop-pass-preserved c =
    let inv = c.loop-pass.invariant in (
      before-turn _ _ _ _ _ _ _ _ (omega (arith, c.loop-pass-test.true)) inv.0 _ (pass-at _ _ c.loop-pass-test.true) _
          c.cut_pass.ensures,
      λ z. resolved-on _ _ _ _ _ _ inv.0.mendable _ _ c.cut_pass.ensures (inv.1 z),
    )

pub returns : goal.returns
returns c =
    before-none _ _ _ _ _ _ _ _
    (before_last _ _ _ _ _ _ _ _ c.loop-pass-test.false c.loop-pass.auto.pass-index-end c.loop-pass.invariant.0 _
    c.cut_images.ensures.tables)
