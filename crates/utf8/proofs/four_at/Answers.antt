use native.Mathlib.Omega.{arith}
use mathlib.Core.Path.{◌≡◌, sym, ◌∙◌}
use lib.ListN.{drop}
use Rattle.model.specs.Utf8.{sequence_of, well_formed}
use Rattle.utf8.proofs.Sequence.{first-most, cut, four, bad-second, bad-third, bad-fourth}
use Rattle.utf8.proofs.four_at.Goals as goal
use Rattle.utf8.proofs.four_at.Goals.{else-s-i-ge4-via-then-s-i-ge4+then-is_second+then-is_further+else-is_further-2}
use Rattle.utf8.proofs.four_at.Goals.{else-s-i-ge4-via-then-s-i-ge4+then-is_second+else-is_further}
use Rattle.utf8.proofs.four_at.Goals.{else-s-i-ge4-via-then-s-i-ge4+else-is_second, else-s-i-ge4-via-else-s-i-ge4}

pub returns-then-is_further-2 : goal.returns-then-is_further-2
returns-then-is_further-2 c =
    let e : 4 ≡ sequence_of well_formed (drop c.args.i c.args.s.now) =
    four _ _ 4 c.requires.i_in_bounds (first-most _ 3 c.requires.i_value) (sym c.requires.i_value)
    (record {
      third = record {
        second = record { room = omega arith; size = omega arith; fits = sym c.is_second.ensures ∙ c.if-is_second.true };
        size = omega arith;
        fits = sym c.is_further.ensures ∙ c.if-is_further.true;
      };
      size = omega arith;
      fits = sym c.is_further-then-is_further.ensures ∙ c.if-is_further-2.true;
    }) in
    (omega (arith, e), e)

pub returns-else-s-i-ge4 : goal.returns-else-s-i-ge4
returns-else-s-i-ge4 c =
    let h = c.requires.i_in_bounds in
    let f = first-most _ 3 c.requires.i_value in
    let l = sym c.requires.i_value in
    let e : 0 ≡ sequence_of well_formed (drop c.args.i c.args.s.now) = elim c.else-s-i-ge4.branch [
      | else-s-i-ge4-via-then-s-i-ge4+then-is_second+then-is_further+else-is_further-2 w ↦ bad-fourth _ _ 4 h f l
          (record {
            second = record {
              room = omega (arith, w.if-s-i-ge4.true);
              size = omega arith;
              fits = sym w.is_second.ensures ∙ w.if-is_second.true;
            };
            size = omega arith;
            fits = sym w.is_further.ensures ∙ w.if-is_further.true;
          }) (omega arith) (sym w.is_further-then-is_further.ensures ∙ w.if-is_further-2.false)
      | else-s-i-ge4-via-then-s-i-ge4+then-is_second+else-is_further w ↦ bad-third _ _ 4 h f l
          (record {
            room = omega (arith, w.if-s-i-ge4.true);
            size = omega arith;
            fits = sym w.is_second.ensures ∙ w.if-is_second.true;
          }) (omega arith) (sym w.is_further.ensures ∙ w.if-is_further.false)
      | else-s-i-ge4-via-then-s-i-ge4+else-is_second w ↦ bad-second _ _ 4 h f l (omega (arith, w.if-s-i-ge4.true)) (omega arith)
          (sym w.is_second.ensures ∙ w.if-is_second.false)
      | else-s-i-ge4-via-else-s-i-ge4 w ↦ cut _ _ 4 h f l (omega (arith, w.if-s-i-ge4.false))
    ] in λ h. omega (arith, e)
