-- What a step leaves in the state of the recursion. Assumes nothing.
use Prim.Native.Nat.{ℕ}
use mathlib.Core.Path.{◌≡◌, refl}
use Rattle.script.specs.declared.cursor.Cursor.{Cursor}
use Rattle.tree.specs.declared.Counts.{Counts}
use Rattle.parse.specs.declared.State.{State}

-- The cursor is moved to c.
pub record Stood (s : State) (c : Cursor) (s' : State) : Type 0 where
  pub place : s'.cursor ≡ c
  pub origin : s'.origin ≡ s.origin

-- The cursor is moved to c, and the number n of a `use` and the place d where its children begin are kept.
pub record StoodAside (s : State) (c d : Cursor) (n : ℕ) (s' : State) : Type 0 where
  pub stood : Stood s c s'
  pub aside : s'.children ≡ d
  pub copier : s'.copier ≡ n

-- So much is taken.
pub record Taken (k : Counts) (s' : State) : Type 0 where
  pub counts : s'.counts ≡ k

pub stored-place : (s : State) (c : Cursor) → Stood s c (record s { cursor = c })
stored-place s c = record { place = refl; origin = refl }

pub stored-aside : (s : State) (c d : Cursor) (n : ℕ) → StoodAside s c d n (record s { cursor = c; children = d; copier = n })
stored-aside s c d n = record { stood = record { place = refl; origin = refl }; aside = refl; copier = refl }

pub stored-counts : (s : State) (k : Counts) → Taken k (record s { counts = k })
stored-counts s k = record { counts = refl }
