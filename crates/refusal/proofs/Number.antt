-- No cause has the number 0, which stands for an answer. Assumes nothing.
use Rattle.std.specs.Prelude.{◌≡◌}
use Rattle.refusal.specs.declared.Refusal.{Refusal}
use Rattle.refusal.specs.declared.Refusal.TheVariants.{TooLong, UnknownCommand, UnknownCode, Misplaced, TooManyOpen, OutOfCharacters, WrongReadings, CharactersLeft, NotUtf8, ElementsLimitReached, NotAnSvg, NodesFull, AttributesFull, TextFull, NoSuchText, InStyle, OtherLength, NewNotUtf8, UnsoundTables, NoSuchNode, NoSuchAttribute}
use Rattle.refusal.specs.Number.{number_of}
use native.Mathlib.Omega.{arith}

pub number_nonzero : (r : Refusal) → number_of r ≡ 0 → ⊥
number_nonzero TooLong e = omega arith
number_nonzero UnknownCommand e = omega arith
number_nonzero UnknownCode e = omega arith
number_nonzero Misplaced e = omega arith
number_nonzero TooManyOpen e = omega arith
number_nonzero OutOfCharacters e = omega arith
number_nonzero WrongReadings e = omega arith
number_nonzero CharactersLeft e = omega arith
number_nonzero NotUtf8 e = omega arith
number_nonzero ElementsLimitReached e = omega arith
number_nonzero NotAnSvg e = omega arith
number_nonzero NodesFull e = omega arith
number_nonzero AttributesFull e = omega arith
number_nonzero TextFull e = omega arith
number_nonzero NoSuchText e = omega arith
number_nonzero InStyle e = omega arith
number_nonzero OtherLength e = omega arith
number_nonzero NewNotUtf8 e = omega arith
number_nonzero UnsoundTables e = omega arith
number_nonzero NoSuchNode e = omega arith
number_nonzero NoSuchAttribute e = omega arith
