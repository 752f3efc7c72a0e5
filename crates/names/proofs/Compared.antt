-- Comparing two strings of bytes, a byte at a time. Assumes nothing.
use mathlib.Core.Path.{◌≡◌, refl}
use mathlib.Core.List.{List, [], ◌∷◌}
use mathlib.Core.Bool.{Bool, true, false, ◌&&◌}
use lib.Pointwise.{pointwise}
use Prim.Native.Nat.{ℕ, zero, suc, ◌≤◌}
use native.Mathlib.Omega.{arith}
use borrow.Author.Tests.{leb-true, leb-false, ne_eqb}
use lib.ListN.{length, get_or, get_or-eq_default}
use lib.Dec.{eqb, leb}
use Rattle.model.specs.Base.{pick, same_bytes}
use Rattle.model.specs.Names.{fixed_bytes, fixed_values}
use Rattle.names.proofs.Keys.{NoKey}

-- The library's comparison is the model's.
pub pointwise-is : (a b : List ℕ) → pointwise eqb a b ≡ same_bytes a b
unfolding same_bytes
pointwise-is [] [] = refl
pointwise-is [] (y ∷ b) = refl
pointwise-is (x ∷ a) [] = refl
pointwise-is (x ∷ a) (y ∷ b) = go (eqb x y) (pointwise-is a b)
  where
    go : (t : Bool) → pointwise eqb a b ≡ same_bytes a b → (t && pointwise eqb a b) ≡ pick t (λ u. same_bytes a b) (λ u. false)
    go true e = e
    go false e = refl

pub same-empty : (b : List ℕ) → eqb (length b) 0 ≡ same_bytes [] b
unfolding same_bytes
same-empty [] = refl
same-empty (y ∷ b) = ne_eqb (suc (length b)) 0 (λ e. omega arith)

-- The numbers 1 to k, each the key of an arm.
abbrev up_to : ℕ → List (List ℕ)
up_to zero = []
up_to (suc k) = (suc k ∷ []) ∷ up_to k

none_of : (k n : ℕ) → NoKey (up_to k) n → n ≤ k → n ≡ 0
none_of zero n h l = omega arith
none_of (suc k) n h l = none_of k n h.0 (let d : (n ≡ suc k → ⊥) = h.1 in omega arith)

-- A number of no fixed value stands for no bytes.
pub no-fixed : (n : ℕ) → NoKey (up_to 18) n → fixed_bytes n ≡ []
unfolding fixed_bytes fixed_values
no-fixed n h = go (leb n 18) refl
  where
    go : (b : Bool) → leb n 18 ≡ b → get_or ([] ∷ fixed_values) n [] ≡ []
    go true e = rw (none_of 18 n h (leb-true n 18 e))
    go false e = get_or-eq_default ([] ∷ fixed_values) [] {n = n} (leb-false n 18 e)
