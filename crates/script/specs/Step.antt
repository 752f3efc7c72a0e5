-- The commands of a script as the code has them: a cursor, and the step at it.
use Rattle.std.specs.Prelude.{◌≡◌, ℕ, zero, suc, ◌+◌, ◌*◌, ◌^◌, ◌<◌, ◌≤◌, Bool, true, false, List, [], ◌∷◌, length, drop}
use Rattle.model.specs.Base.{pick}
use Rattle.model.specs.Check.{most_bytes, check}
use Rattle.model.specs.Drawing.{
  Command,
  opening,
  attribute,
  declaration,
  reading,
  text,
  other,
  closing,
  broken,
  commands,
  Mark,
  taken,
  counted,
  Event,
  events,
}
use Rattle.script.specs.declared.drawing.Drawing.{Drawing}
use Rattle.script.specs.declared.cursor.Cursor.{Cursor}
use Rattle.script.specs.declared.cursor.Step.{Step}
use Rattle.script.specs.declared.cursor.Step.TheVariants.{Open, Attribute, Declaration, Reading, Text, Other, Close, Broken, End}

-- No place in the characters that a cursor of such a script can have is greater.
abbrev pub most_place : ℕ
most_place = 2 ^ 52

-- No part of the characters begins later: a reading's offset is added to a place.
abbrev pub most_start : ℕ
most_start = 2 ^ 53

-- The nodes of a drawing's document.
abbrev pub document : Drawing → List Event
document drawing = events drawing.script.now drawing.characters.now

-- check takes the drawing.
abbrev pub Checked : Drawing → Type 0
Checked drawing = check drawing.script.now drawing.characters.now ≡ 0

-- The commands from the cursor on.
unfoldable pub commands_at : Drawing → Cursor → List Command
commands_at drawing c = commands (drop c.at drawing.script.now)

-- The decoding at the cursor.
abbrev pub mark_of : Cursor → Mark
mark_of c = record { number = c.number; at = c.chars; texts = c.texts }

-- How many bytes a command takes.
abbrev pub bytes_of : Command → ℕ
bytes_of (opening c n) = 3
bytes_of (attribute a n l) = 7
bytes_of (declaration a i l) = 7
bytes_of (reading k o l) = 10
bytes_of (text l) = 5
bytes_of other = 1
bytes_of closing = 1
bytes_of (broken b) = 0

-- The cursor behind a command.
abbrev pub moved : Cursor → Command → Cursor
moved c x = record { at = c.at + bytes_of x; chars = c.chars + taken x; number = c.number + 1; texts = c.texts + counted x }

-- PLACES

-- The cursor before the first command.
abbrev pub at_start : Cursor
at_start = record { at = 0; chars = 0; number = 0; texts = 0 }

-- Is it no whole command?
abbrev pub is_broken : Command → Bool
is_broken (opening c n) = false
is_broken (attribute a n l) = false
is_broken (declaration a i l) = false
is_broken (reading k o l) = false
is_broken (text l) = false
is_broken other = false
is_broken closing = false
is_broken (broken b) = true

-- The cursor behind the next n commands; where there are fewer, behind the last whole one.
unfoldable pub place_from : ℕ → Cursor → List Command → Cursor
place_from zero c cs = c
place_from (suc n) c [] = c
place_from (suc n) c (x ∷ cs) = pick (is_broken x) (λ u. c) (λ u. place_from n (moved c x) cs)

-- The cursor behind the first n commands of a script: the command numbered n + 1 stands there.
unfoldable pub place_of : Drawing → ℕ → Cursor
place_of drawing n = place_from n at_start (commands drawing.script.now)

-- A cursor of a script of at most 1,048,576 bytes: it stands behind as many commands as its number says, and keeps every sum small.
pub record Fit (drawing : Drawing) (c : Cursor) : Type 0 where
  pub size : length drawing.script.now ≤ most_bytes
  pub at : c.at ≤ length drawing.script.now
  pub chars : c.chars ≤ c.at * 2 ^ 32
  pub number : c.number ≤ c.at
  pub texts : c.texts ≤ c.at
  pub placed : c ≡ place_of drawing c.number

-- The command x stands at the cursor c, and n is the cursor behind it.
pub record Here (drawing : Drawing) (c : Cursor) (x : Command) (n : Cursor) : Type 0 where
  pub more : commands_at drawing c ≡ x ∷ commands_at drawing n
  pub next : n ≡ moved c x
  pub further : c.at < n.at

-- THE STEP

-- A command, and the cursor behind it, as a step.
abbrev pub to_step : Command → Cursor → Step
to_step (opening c n) k = Open c n k
to_step (attribute a n l) k = Attribute a n l k
to_step (declaration a i l) k = Declaration a i l k
to_step (reading r o l) k = Reading r o l k
to_step (text l) k = Text l k
to_step other k = Other k
to_step closing k = Close k
to_step (broken b) k = Broken b

abbrev pub step_of : List Command → Cursor → Step
step_of [] c = End
step_of (x ∷ xs) c = to_step x (moved c x)

-- The step at a cursor.
unfoldable pub step_at : Drawing → Cursor → Step
step_at drawing c = step_of (commands_at drawing c) c

-- The cursor of a step is in range.
abbrev pub Going : Drawing → Step → Type 0
Going drawing (Open c n k) = Fit drawing k
Going drawing (Attribute a n l k) = Fit drawing k
Going drawing (Declaration a i l k) = Fit drawing k
Going drawing (Reading r o l k) = Fit drawing k
Going drawing (Text l k) = Fit drawing k
Going drawing (Other k) = Fit drawing k
Going drawing (Close k) = Fit drawing k
Going drawing (Broken b) = Unit {0}
Going drawing End = Unit {0}
