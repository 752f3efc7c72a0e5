-- What a trimming can reach. The proofs are in proofs/Theorems/Reach.antt.
use Prim.Native.Nat.{ℕ, ◌<◌}
use Rattle.std.specs.Prelude.{◌≡◌}
use mathlib.Core.List.{List}
use Rattle.model.specs.Tables.{Tree, TEXT, kind_of}
use Rattle.model.specs.Text.{Trimming, stop, look, cut}

-- A text node of the tree.
abbrev pub IsText : Tree → ℕ → Type 0
IsText t i = (i < t.node_count) × (kind_of t i ≡ TEXT)

-- The nodes that a program names all satisfy Q.
abbrev pub Within : (ℕ → Type 0) → Trimming → Type 0
Within Q stop = Unit {0}
Within Q (look i k) = Q i × ((v : List ℕ) → Within Q (k v))
Within Q (cut i a b k) = Q i × Within Q k
