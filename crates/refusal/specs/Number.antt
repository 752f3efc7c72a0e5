-- The numbers of refusals.
use Rattle.std.specs.Prelude.{ℕ, Result, Ok, Err}
use Rattle.refusal.specs.declared.Refusal.{Refusal}
use Rattle.refusal.specs.declared.Refusal.TheVariants.{TooLong, UnknownCommand, UnknownCode, Misplaced, TooManyOpen, OutOfCharacters}
use Rattle.refusal.specs.declared.Refusal.TheVariants.{WrongReadings, CharactersLeft, NotUtf8, ElementsLimitReached, NotAnSvg, NodesFull}
use Rattle.refusal.specs.declared.Refusal.TheVariants.{AttributesFull, TextFull, NoSuchText, InStyle, OtherLength, NewNotUtf8}
use Rattle.refusal.specs.declared.Refusal.TheVariants.{UnsoundTables, NoSuchNode, NoSuchAttribute}

-- The number that docs/MANUAL.md gives to a cause.
abbrev pub number_of : Refusal → ℕ
number_of TooLong = 1
number_of UnknownCommand = 2
number_of UnknownCode = 3
number_of Misplaced = 4
number_of TooManyOpen = 5
number_of OutOfCharacters = 6
number_of WrongReadings = 7
number_of CharactersLeft = 8
number_of NotUtf8 = 9
number_of ElementsLimitReached = 20
number_of NotAnSvg = 21
number_of NodesFull = 22
number_of AttributesFull = 23
number_of TextFull = 24
number_of NoSuchText = 30
number_of InStyle = 31
number_of OtherLength = 32
number_of NewNotUtf8 = 33
number_of UnsoundTables = 40
number_of NoSuchNode = 41
number_of NoSuchAttribute = 42

-- The number of an answer: 0 where nothing is refused.
abbrev pub answer_of : {A : Type 0} → Result A Refusal → ℕ
answer_of (Ok _) = 0
answer_of (Err r) = number_of r
