-- A text with spaces taken off its ends. That a trimming does nothing else is in proofs/Theorems/Shaved.antt.
use Prim.Native.Nat.{ℕ}
use mathlib.Core.List.{List, [], ◌∷◌, ◌++◌}
use Rattle.model.specs.Text.{SPACE}

-- The second text is the first with spaces taken off its ends.
pub data Shaved : List ℕ → List ℕ → Type 0 where
  whole : {v : List ℕ} → Shaved v v
  front : {v w : List ℕ} → Shaved v (SPACE ∷ w) → Shaved v w
  back : {v w : List ℕ} → Shaved v (w ++ (SPACE ∷ [])) → Shaved v w
