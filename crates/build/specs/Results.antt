-- The answer of an operation on the tables as the model has it, and what the steps of a build ask.
use Rattle.script.specs.Step.{Checked}
use Rattle.script.specs.declared.drawing.Drawing.{Drawing}
use Rattle.std.specs.Prelude.{◌≡◌, ℕ, ◌≤◌, Bool, true, false, List, length, Ok, Err}
use Rattle.model.specs.Tables.{Tree, cleared, rooted}
use Rattle.model.specs.Build.{Result}
use Rattle.std.specs.Prelude as std
use Rattle.refusal.specs.declared.Refusal.{Refusal}
use Rattle.refusal.specs.Number.{number_of}
use Rattle.model.specs.Theorems.Kept.{Tidy}
use Rattle.tree.specs.declared.Counts.{Counts}
use Rattle.tree.specs.Lent.{tree_of}
use Rattle.build.specs.declared.Built.{Built}

-- The answer of a build for a host.
abbrev pub built_of : std.Result Counts Refusal → Built
built_of (Ok c) = record { number = 0; nodes = c.nodes; attributes = c.attributes; text = c.text }
built_of (Err r) = record { number = number_of r; nodes = 0; attributes = 0; text = 0 }

-- How much of the tables is taken by an answer.
abbrev pub counts_of : Built → Counts
counts_of r = record { nodes = r.nodes; attributes = r.attributes; text = r.text }

-- The answer, with characters and tables as they are left.
abbrev pub result_of : List ℕ → List ℕ → List ℕ → List ℕ → Built → Result
result_of chars ns es bs r = record { number = r.number; characters = chars; tree = tree_of ns es bs (counts_of r) }

-- Nothing is taken.
abbrev pub nothing : Counts
nothing = record { nodes = 0; attributes = 0; text = 0 }

-- The root alone is taken.
abbrev pub root_alone : Counts
root_alone = record { nodes = 1; attributes = 0; text = 0 }

-- Tables as long as these, cleared.
abbrev pub cleared_as : List ℕ → List ℕ → List ℕ → Tree
cleared_as ns es bs = cleared (length ns) (length es) (length bs)

-- What a refusal leaves of these tables, with nothing taken: cleared ones, or the tables as they are.
abbrev pub left_by : Bool → List ℕ → List ℕ → List ℕ → Tree
left_by true ns es bs = cleared_as ns es bs
left_by false ns es bs = tree_of ns es bs nothing

-- A drawing that check takes, and tables as a build of it has them.
pub record Tended (drawing : Drawing) (t : Tree) : Type 0 where
  pub checked : Checked drawing
  pub tidy : Tidy (length drawing.characters.now) t

-- The same with the root alone in cleared tables.
pub record Rooted (drawing : Drawing) (t : Tree) : Type 0 where
  pub checked : Checked drawing
  pub room : 8 ≤ length t.nodes
  pub root : t ≡ rooted (cleared (length t.nodes) (length t.attributes) (length t.text))
