-- What writing leaves alone: the lengths of the tables, and the zeros past the counts. The proofs are in proofs/Theorems/Unused.antt.
use Rattle.std.specs.Prelude.{ℕ, ◌*◌, ◌≤◌, ◌≡◌, length, get_or}
use Rattle.model.specs.Tables.{Tree}

-- The three tables keep their lengths.
pub record SameLengths (s t : Tree) : Type 0 where
  pub nodes : length s.nodes ≡ length t.nodes
  pub attributes : length s.attributes ≡ length t.attributes
  pub text : length s.text ≡ length t.text

-- Every word and byte past the counts is zero.
pub record Unused (t : Tree) : Type 0 where
  pub nodes : (q : ℕ) → 8 * t.node_count ≤ q → get_or t.nodes q 0 ≡ 0
  pub attributes : (q : ℕ) → 5 * t.attribute_count ≤ q → get_or t.attributes q 0 ≡ 0
  pub text : (q : ℕ) → t.text_count ≤ q → get_or t.text q 0 ≡ 0
