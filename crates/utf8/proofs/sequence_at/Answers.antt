use native.Mathlib.Omega.{arith}
use mathlib.Core.Path.{◌≡◌, sym}
use lib.ListN.{drop}
use Rattle.model.specs.Utf8.{sequence_of, well_formed}
use Rattle.utf8.proofs.Sequence.{ascii-length, one}
use Rattle.utf8.proofs.sequence_at.Goals as goal

pub returns-then-b-lt128 : goal.returns-then-b-lt128
returns-then-b-lt128 c =
    let e : 1 ≡ sequence_of well_formed (drop c.args.i c.args.s.now) =
    one _ _ 1 c.requires (omega (arith, c.type_inv.s c.args.i)) (sym (ascii-length _ c.if-b-lt128.true)) (omega arith) in
    (omega (arith, e), e)
