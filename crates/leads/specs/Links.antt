-- The links of nodes as the code reads them, and what reading them asks.
use Rattle.std.specs.Prelude.{◌≡◌, ℕ, ◌+◌, ◌*◌, ◌<◌, List, [], Option, Some, None, IfSome, length}
use Rattle.model.specs.Drawing.{Value, values_in}
use Rattle.model.specs.Tables.{Tree, ELEMENT, kind_of, to_of, entry_at, value_of}
use Rattle.model.specs.Theorems.Kept.{KeptEntry}
use Rattle.script.specs.declared.drawing.Drawing.{Drawing}
use Rattle.script.specs.declared.cursor.Cursor.{Cursor}
use Rattle.script.specs.Step.{Fit, Checked, document}
use Rattle.places.specs.Marks.{Marked}
use Rattle.tree.specs.Lent.{Readable, Valued}
use Rattle.places.specs.declared.marks.Marks.{Marks}

-- THE DRAWING

-- The values of a drawing.
abbrev pub values_of : Drawing → List Value
values_of drawing = values_in (document drawing)

-- A drawing that check takes, marks of its script, and a cursor in it.
pub record Drawn (drawing : Drawing) (marks : Marks) (c : Cursor) : Type 0 where
  pub checked : Checked drawing
  pub marked : Marked drawing marks
  pub fit : Fit drawing c

-- IDS

-- The entry j, if there is one, stands in the table, and its value is fixed or lies within that many characters.
abbrev pub Stands : ℕ → Tree → Option ℕ → Type 0
Stands size t o = IfSome o (λ j. (5 * j + 4 < length t.attributes) × Valued size (entry_at t j))

-- The id in the entry j; empty where there is none.
abbrev pub id_at : List ℕ → Tree → Option ℕ → List ℕ
id_at chars t None = []
id_at chars t (Some j) = value_of chars (entry_at t j)

-- Entry j stands in the table, and has what a build keeps true of entries.
pub record Known (size : ℕ) (t : Tree) (j : ℕ) : Type 0 where
  pub inside : 5 * j + 4 < length t.attributes
  pub kept : KeptEntry size (entry_at t j)

-- Node i can be read, and so can the entries of its range.
pub record KnownIn (size : ℕ) (t : Tree) (i : ℕ) : Type 0 where
  pub readable : Readable t i
  pub entries : kind_of t i ≡ ELEMENT → (j : ℕ) → j < to_of t i → KeptEntry size (entry_at t j)
