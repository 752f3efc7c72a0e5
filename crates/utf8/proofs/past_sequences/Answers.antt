use native.Mathlib.Omega.{arith}
use mathlib.Core.Path.{refl, sym, ◌∙◌}
use Prim.Native.Nat.{◌+◌}
use Rattle.utf8.proofs.Ascii.{Reach, reach-on, reach-bad, reach-join}
use Rattle.utf8.proofs.past_sequences.Goals as goal

further : (c : goal.In_ok-n) → Reach c.args.s.now c.args.from (c.loop-i.i + c.in_ok-n.n)
further c =
    let e = c.in_ok-n.ensures in
    reach-join _ _ _ _ c.loop-i.invariant (reach-on _ _ (omega arith) _ e.1 (λ z. omega (arith, e.0, e.1)))

pub returns-in_err-n : goal.returns-in_err-n
returns-in_err-n c =
    rw c.from_residual.ensures
    (sym c.loop-i.invariant.same ∙ reach-bad _ c.loop-i.i (omega arith) 0 (omega (arith, c.in_err-n.ensures)) refl)

pub overflow_add-i : goal.overflow_add-i
overflow_add-i c = omega (arith, (further c).within)

pub loop-i-preserved : goal.loop-i-preserved
loop-i-preserved c = further c
