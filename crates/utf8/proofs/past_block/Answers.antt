use native.Mathlib.Omega.{arith}
use mathlib.Core.Path.{◌≡◌, ap, sym, ◌∙◌, subst}
use Prim.Native.Nat.{◌+◌, ◌-◌}
use Rattle.utf8.specs.Lead.{begun_at}
use Rattle.utf8.proofs.Ascii.{Reach, reach-block}
use Rattle.utf8.proofs.Blocks.{block-reach, block-of-two-reach, begun-most}
use Rattle.utf8.proofs.Folds.{ascii-part, misplaced-part, of_two-part}
use Rattle.utf8.proofs.past_block.Goals as goal
use Rattle.utf8.proofs.past_block.Goals.{else-has_misplaced_of_two-via-then-has_misplaced_of_two+else-has_misplaced}
use Rattle.utf8.proofs.past_block.Goals.{else-has_misplaced_of_two-via-else-has_misplaced_of_two}

pub returns-then-is_ascii : goal.returns-then-is_ascii
returns-then-is_ascii c =
    let s = c.args.s.now in
    let i = c.args.i in
    let r : Reach s i (i + 32) = reach-block s i 32 (omega arith)
    (ascii-part s i (i + 32 - i) 32 _ c.is_ascii.ensures c.if-is_ascii.true (omega arith) (omega arith)) in
    (omega arith, r.within, r.same)

pub overflow_sub-result : goal.overflow_sub-result
overflow_sub-result c = omega (arith, c.begun_at-2.ensures, begun-most c.args.s.now (c.args.i + 29))

pub returns : goal.returns
returns c =
    let s = c.args.s.now in
    let i = c.args.i in
    let x : begun_at s (i + 32 - 3) ≡ c.begun_at-2.result = ap (λ n. begun_at s n)
    (let y : i + 32 - 3 ≡ i + 29 = omega arith in y) ∙ sym c.begun_at-2.ensures in
    let none : begun_at s (i - 3) ≡ 0 = sym c.begun_at.ensures ∙ omega (arith, c.if-begun_at-gt0.false) in
    let r : Reach s i (i + 32 - c.begun_at-2.result) = subst (λ n. Reach s i (i + 32 - n)) x
    (elim c.else-has_misplaced_of_two.branch [
      | else-has_misplaced_of_two-via-then-has_misplaced_of_two+else-has_misplaced w ↦ block-reach s i 32 (omega arith) (omega arith) none
          (sym (misplaced-part s (i - 3) (i + 32 - (i - 3)) 32 _ w.has_misplaced.ensures (omega arith) (omega arith)) ∙
          w.if-has_misplaced.false)
      | else-has_misplaced_of_two-via-else-has_misplaced_of_two w ↦ block-of-two-reach s i 32 (omega arith) (omega arith) none
          (sym (of_two-part s (i - 3) (i + 32 - (i - 3)) 32 _ c.has_misplaced_of_two.ensures (omega arith) (omega arith)) ∙
          w.if-has_misplaced_of_two.false)
    ]) in
    (omega (arith, c.begun_at-2.ensures, begun-most s (i + 29)), r.within, r.same)
