-- What the searches by number answer, as the model has it.
use Rattle.std.specs.Prelude.{◌≡◌, ℕ, ◌+◌, Bool, false, List, [], ◌∷◌, Option, Some, None, eqb}
use Rattle.std.proofs.Math.Option as math
use Rattle.std.proofs.Math.Option.{none, some}
use Rattle.model.specs.Base.{pick}
use Rattle.model.specs.EId
use Rattle.model.specs.Drawing.{Command, opening, attribute, declaration, reading, closing, broken, Mark}
use Rattle.model.specs.Drawing.{Reading, Source, source_at, readings_at}
use Rattle.script.specs.declared.drawing.Drawing.{Drawing}
use Rattle.script.specs.declared.cursor.Cursor.{Cursor}
use Rattle.script.specs.Step.{Fit, Here, commands_at, mark_of, place_from}
use Rattle.walk.specs.Values.{readings_in}
use Rattle.places.specs.declared.seek.FoundText.{FoundText}

-- A text that was looked for.
abbrev pub source_of : List ℕ → Option FoundText → math.Option Source
source_of chars (Some t) = some (source_at chars (mark_of t.own) t.len)
source_of chars None = none

-- Whether it stands inside an element named style.
abbrev pub style_of : Option FoundText → Bool
style_of (Some t) = t.in_style
style_of None = false

-- Its place is one of the script.
abbrev pub FoundFit : Drawing → Option FoundText → Type 0
FoundFit drawing (Some t) = Fit drawing t.own
FoundFit drawing None = Unit {0}

-- How many elements are open from the outermost style on, behind the open of an element of that code.
abbrev pub style_level : ℕ → ℕ → ℕ
style_level k a = pick (eqb k 0) (λ u. pick (eqb a EId.Style) (λ v. 1) (λ v. 0)) (λ u. k + 1)

-- The readings of the value whose command is the next one; none where that has no value.
unfoldable pub readings_next : List ℕ → Mark → List Command → List Reading
readings_next chars m [] = []
readings_next chars m (opening a b ∷ cs) = []
readings_next chars m (attribute a b l ∷ cs) = readings_at chars m.at cs
readings_next chars m (declaration a b l ∷ cs) = readings_at chars m.at cs
readings_next chars m (reading k o l ∷ cs) = []
readings_next chars m (Command.text l ∷ cs) = []
readings_next chars m (Command.other ∷ cs) = []
readings_next chars m (closing ∷ cs) = []
readings_next chars m (broken b ∷ cs) = []

-- The readings of the value whose command stands at the cursor.
abbrev pub readings_here : Drawing → Cursor → List Reading
readings_here drawing c = readings_next drawing.characters.now (mark_of c) (commands_at drawing c)

-- The value whose command stands at c has the readings from n on.
pub record ReadFrom (drawing : Drawing) (c n : Cursor) : Type 0 where
  pub fit : Fit drawing n
  pub same : readings_here drawing c ≡ readings_in drawing c.chars n

-- A COMMAND AT A CURSOR

-- A command stands at c, and n is the cursor behind it.
pub record Passed (drawing : Drawing) (c n : Cursor) : Type 0 where
  pub command : Command
  pub here : Here drawing c command n
  pub fit : Fit drawing n

-- No whole command stands at c: there is no place further on.
abbrev pub IsLast : Drawing → Cursor → Type 0
IsLast drawing c = (j : ℕ) → place_from j c (commands_at drawing c) ≡ c
