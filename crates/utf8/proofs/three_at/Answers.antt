use native.Mathlib.Omega.{arith}
use mathlib.Core.Path.{◌≡◌, sym, ◌∙◌}
use lib.ListN.{drop}
use Rattle.model.specs.Utf8.{sequence_of, well_formed}
use Rattle.utf8.proofs.Sequence.{first-most, three, bad-second, bad-third}
use Rattle.utf8.proofs.three_at.Goals as goal
use Rattle.utf8.proofs.three_at.Goals.{else-is_second-via-then-is_second+else-is_further, else-is_second-via-else-is_second}

pub returns-then-is_further : goal.returns-then-is_further
returns-then-is_further c =
    let e : 3 ≡ sequence_of well_formed (drop c.args.i c.args.s.now) =
    three _ c.args.i 3 (omega arith) (first-most _ 2 c.requires.i_value) (sym c.requires.i_value)
    (record {
      second = record { room = omega arith; size = omega arith; fits = sym c.is_second.ensures ∙ c.if-is_second.true };
      size = omega arith;
      fits = sym c.is_further.ensures ∙ c.if-is_further.true;
    }) (omega arith) in
    (omega (arith, e), e)

pub returns-else-is_second : goal.returns-else-is_second
returns-else-is_second c =
    let e : 0 ≡ sequence_of well_formed (drop c.args.i c.args.s.now) = elim c.else-is_second.branch [
      | else-is_second-via-then-is_second+else-is_further w ↦ bad-third _ c.args.i 3 (omega arith)
          (first-most _ 2 c.requires.i_value) (sym c.requires.i_value)
          (record { room = omega arith; size = omega arith; fits = sym c.is_second.ensures ∙ w.if-is_second.true })
          (omega arith) (sym w.is_further.ensures ∙ w.if-is_further.false)
      | else-is_second-via-else-is_second w ↦ bad-second _ c.args.i 3 (omega arith) (first-most _ 2 c.requires.i_value)
          (sym c.requires.i_value) (omega arith) (omega arith) (sym c.is_second.ensures ∙ w.if-is_second.false)
    ] in λ h. omega (arith, e)
