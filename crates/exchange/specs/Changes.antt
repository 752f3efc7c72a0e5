-- What is known of a drawing in which one text may become other bytes.
use Rattle.std.specs.Prelude.{◌≡◌, ℕ, ◌+◌, ◌≤◌, List, length, Result, Ok, Err}
use Rattle.std.proofs.lemmas.List.Edits.{sets}
use Rattle.model.specs.Check.{check}
use Rattle.model.specs.Build.{build, exchange_fault, changed}
use Rattle.refusal.specs.declared.Refusal.{Refusal}
use Rattle.refusal.specs.Number.{number_of}

-- The bytes have their place in the characters from `start` on, check takes the drawing without and with them, and with any tables the
-- two builds give the same number.
pub record Changeable (script chars : List ℕ) (start : ℕ) (new : List ℕ) : Type 0 where
  pub within : start + length new ≤ length chars
  pub before : check script chars ≡ 0
  pub after : check script (sets chars start new) ≡ 0
  pub number : (n m b : ℕ) → (build script (sets chars start new) n m b).number ≡ (build script chars n m b).number

-- An exchange with no fault, of the text that begins at `start`.
pub record Granted (script chars : List ℕ) (t : ℕ) (new : List ℕ) (start : ℕ) : Type 0 where
  pub fault : exchange_fault script chars t new ≡ 0
  pub changed : changed script chars t new ≡ sets chars start new
  pub change : Changeable script chars start new

-- What is told of the exchange of text t: its fault, or where it begins.
abbrev pub TargetFit : List ℕ → List ℕ → ℕ → List ℕ → Result ℕ Refusal → Type 0
TargetFit script chars t new (Err r) = exchange_fault script chars t new ≡ number_of r
TargetFit script chars t new (Ok start) = Granted script chars t new start
