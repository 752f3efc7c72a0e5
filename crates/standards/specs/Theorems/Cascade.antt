-- What the Rust keeps of several declarations, beside `winner` of CssCascade. The theorems are in proofs/Theorems/Cascade.antt.
use Rattle.std.specs.Prelude.{Bool}
use mathlib.Core.List.{List}
use Rattle.std.proofs.Math.Option.{Option}
use Rattle.model.specs.Base.{or_else}
use Rattle.standards.specs.CssCascade.{first_of, last_of, those}

-- What the Rust keeps: the first important one, else the last.
unfoldable pub kept : {A : Type 0} → (A → Bool) → List A → Option A
kept important ds = or_else (first_of (those important ds)) (last_of ds)
