use native.Mathlib.Omega.{arith}
use mathlib.Core.Path.{sym, ◌∙◌}
use Rattle.text.proofs.Collapse.{trims-none, trims-dropped, trims-kept}
use Rattle.text.proofs.trim.trim_text.Goals as goal
use Rattle.text.proofs.trim.trim_text.Goals.{then-not-is_dropped, else-not-is_dropped}

pub loop-b-init : goal.loop-b-init
loop-b-init c = trims-none _ _ _ _ _

pub loop-b-preserved : goal.loop-b-preserved
loop-b-preserved c =
    elim c.if-not-is_dropped.branch [
      | then-not-is_dropped w ↦ rw (w.n-is, w.place-is, w.prev-is) (trims-kept _ _ _ _ _ _ _ _ _ c.loop-b.invariant
          (omega arith) _ c.converted-c.ensures
          (sym c.is_dropped.ensures ∙ w.if-not-is_dropped.true))
      | else-not-is_dropped w ↦ rw (w.n-is, w.place-is, w.prev-is) (trims-dropped _ _ _ _ _ _ _ _ _ c.loop-b.invariant
          (omega arith) _ c.converted-c.ensures
          (sym c.is_dropped.ensures ∙ w.if-not-is_dropped.false))
    ]
