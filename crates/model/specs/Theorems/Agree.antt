-- Lists of numbers that agree at the places where P asks. The laws of writing and reading are in proofs/Theorems/Agree.antt.
use Rattle.std.specs.Prelude.{ℕ, ◌≡◌, List, length, get_or}

-- As long as one another, and equal where P asks.
pub record Agree (P : ℕ → Type 0) (xs ys : List ℕ) : Type 0 where
  pub long : length xs ≡ length ys
  pub at : (i : ℕ) → P i → get_or xs i 0 ≡ get_or ys i 0
