-- Two trees that share all but the bounds and bytes of texts, with characters that spell the same values. What is read from them is
-- the same: proofs/Theorems/Same.antt.
use Prim.Native.Nat.{ℕ}
use Rattle.std.specs.Prelude.{◌≡◌}
use mathlib.Core.List.{List}
use Rattle.model.specs.Tables.{Tree, ELEMENT, kind_of, parent_of, first_child_of, code_of, from_of, to_of}
use Rattle.model.specs.Tables.{entry_at, value_of}

-- The two trees: `safe` says that every entry, used or not, has the same value by both characters.
pub record Same (one two : List ℕ) (s r : Tree) : Type 0 where
  pub count : s.node_count ≡ r.node_count
  pub attribute_count : s.attribute_count ≡ r.attribute_count
  pub attributes : s.attributes ≡ r.attributes
  pub kind : (i : ℕ) → kind_of s i ≡ kind_of r i
  pub parent : (i : ℕ) → parent_of s i ≡ parent_of r i
  pub child : (i : ℕ) → first_child_of s i ≡ first_child_of r i
  pub code : (i : ℕ) → code_of s i ≡ code_of r i
  pub range : (i : ℕ) → kind_of s i ≡ ELEMENT → (from_of s i ≡ from_of r i) × (to_of s i ≡ to_of r i)
  pub safe : (j : ℕ) → value_of one (entry_at s j) ≡ value_of two (entry_at s j)
