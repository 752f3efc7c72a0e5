use native.Mathlib.Omega.{arith}
use mathlib.Core.Path.{sym, ◌∙◌, subst}
use Prim.Native.Nat.{◌-◌}
use lib.ListN.{length}
use Rattle.utf8.proofs.Ascii.{Reach}
use Rattle.utf8.proofs.Blocks.{last-reach, begun-most}
use Rattle.utf8.proofs.Folds.{misplaced-part}
use Rattle.utf8.proofs.past_last.Goals as goal

pub overflow_sub-result : goal.overflow_sub-result
overflow_sub-result c =
    let s = c.args.s.now in
    omega (arith, c.begun_at-2.ensures, begun-most s (length s - 3))

pub returns : goal.returns
returns c =
    let s = c.args.s.now in
    let r : Reach s c.args.i (length s - c.begun_at-2.result) = subst (λ n. Reach s c.args.i (length s - n))
    (sym c.begun_at-2.ensures) (last-reach _ _ 32 (omega arith) (omega arith) (omega arith) (omega arith)
    (sym c.begun_at.ensures ∙ omega (arith, c.if-begun_at-gt0.false))
    (sym (misplaced-part s (length s - 35) (length s - (length s - 35)) 32 _ c.has_misplaced.ensures (omega arith) (omega arith)) ∙
    c.if-has_misplaced.false)) in
    (r.within, r.same)
