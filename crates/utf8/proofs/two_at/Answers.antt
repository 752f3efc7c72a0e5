use native.Mathlib.Omega.{arith}
use mathlib.Core.Path.{◌≡◌, sym, ap, ◌∙◌}
use Prim.Native.Nat.{◌+◌}
use lib.ListN.{get_or, drop}
use Rattle.model.specs.Utf8.{is_within, sequence_of, well_formed}
use Rattle.utf8.proofs.Sequence.{first-most, second-of-two, two}
use Rattle.utf8.proofs.two_at.Goals as goal

pub returns-then-is_further : goal.returns-then-is_further
returns-then-is_further c =
    let e : 2 ≡ sequence_of well_formed (drop c.args.i c.args.s.now) =
    two _ _ 2 c.requires.i_in_bounds (first-most _ 1 c.requires.i_value) (sym c.requires.i_value)
    (record {
      room = omega arith;
      size = omega arith;
      fits = ap (λ r. is_within (get_or c.args.s.now (c.args.i + 1) 0) r) (second-of-two _ c.requires.i_value)
          ∙ sym c.is_further.ensures ∙ c.if-is_further.true;
    }) (omega arith) in
    (omega (arith, e), e)
