use mathlib.Core.Path.{ap}
use Prim.Native.Nat.{◌+◌}
use native.Mathlib.Omega.{arith}
use Rattle.text.specs.Spaces.{space_in}
use Rattle.pieces.specs.Quotes.{texts_from}
use Rattle.pieces.proofs.Putting.{quoted-most, place-back}
use Rattle.pieces.proofs.quote.put_place.Goals as goal

pub overflow_cast-n : goal.overflow_cast-n
overflow_cast-n c =
    omega (
      arith,
      c.put_quoted-bytes.ensures.size,
      quoted-most (space_in c.args.space)
          c.args.drawing.now.characters.now
          (texts_from c.args.drawing.now
          c.args.from),
      c.requires.size_value,
      c.requires.size_bound.0,
    )

pub overflow_add-result : goal.overflow_add-result
overflow_add-result c =
    omega (
      arith,
      c.put_quoted-bytes.ensures.size,
      quoted-most (space_in c.args.space)
          c.args.drawing.now.characters.now
          (texts_from c.args.drawing.now
          c.args.from),
      c.requires.size_value,
      c.requires.size_bound.0,
    )

pub returns : goal.returns
returns c =
    record {
      end = ap (λ k. c.args.first + k)
          c.put_quoted-bytes.ensures.size;
      text = place-back (space_in c.args.space)
          c.args.drawing.now.characters.now
          (texts_from c.args.drawing.now
          c.args.from)
          c.args.first
          c.args.size
          c.requires.size_value
          c.args.text.now _
          c.requires.size_bound.1 c.put_quoted-bytes.ensures.place;
    }
