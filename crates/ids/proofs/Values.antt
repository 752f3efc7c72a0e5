-- Strings that are compared, and the values of entries. Assumes nothing.
use mathlib.Core.Path.{◌≡◌, refl, sym, ap, ◌∙◌}
use mathlib.Core.Bool.{Bool, true, false, false≢true}
use mathlib.Core.List.{List, [], ◌∷◌}
use Prim.Native.Nat.{ℕ, ◌+◌, ◌-◌}
use native.Mathlib.Decide.{ℕ_discrete}
use native.Mathlib.Omega.{arith}
use borrow.Author.Tests.{eqb-true, eq-eqb, ne_eqb}
use lib.Dec.{eqb}
use lib.Seq.{slice}
use Rattle.model.specs.Base.{pick, same_bytes}
use Rattle.model.specs.AId
use Rattle.model.specs.Names.{fixed_bytes}
use Rattle.model.specs.Tables.{Tree, entry_word, entry_at, value_of, value_at_entry, attribute_id}
use Rattle.model.specs.Repair.{element_id}

-- STRINGS

eqb_swap : (x y : ℕ) → eqb x y ≡ eqb y x
eqb_swap x y = go (ℕ_discrete x y)
  where
    go : Dec (x ≡ y) → eqb x y ≡ eqb y x
    go (yes e) = eq-eqb x y e ∙ sym (eq-eqb y x (sym e))
    go (no d) = ne_eqb x y d ∙ sym (ne_eqb y x (λ z. d (sym z)))

pub same-swap : (a b : List ℕ) → same_bytes a b ≡ same_bytes b a
unfolding same_bytes
same-swap [] [] = refl
same-swap [] (y ∷ b) = refl
same-swap (x ∷ a) [] = refl
same-swap (x ∷ a) (y ∷ b) = rw (eqb_swap x y, same-swap a b) refl

pub same-eq : (a b : List ℕ) → same_bytes a b ≡ true → a ≡ b
unfolding same_bytes
same-eq [] [] h = refl
same-eq [] (y ∷ b) h = absurd (false≢true h)
same-eq (x ∷ a) [] h = absurd (false≢true h)
same-eq (x ∷ a) (y ∷ b) h = go (eqb x y) refl h (same-eq a b)
  where
    go : (t : Bool) → eqb x y ≡ t → pick t (λ u. same_bytes a b) (λ u. false) ≡ true → (same_bytes a b ≡ true → a ≡ b) → x ∷ a ≡ y ∷ b
    go true e k ih = let p : x ≡ y = eqb-true x y e in let q : a ≡ b = ih k in cc
    go false e k ih = absurd (false≢true k)

pub same-itself : (a : List ℕ) → same_bytes a a ≡ true
unfolding same_bytes
same-itself [] = refl
same-itself (x ∷ a) = rw (eq-eqb x x refl) (same-itself a)

-- THE VALUES OF ENTRIES

module _ (chars : List ℕ) (t : Tree) (j : ℕ) where
  pub value-fixed : entry_word t j 4 ≡ 0 → value_of chars (entry_at t j) ≡ fixed_bytes (entry_word t j 2)
  unfolding value_of entry_at
  value-fixed e = rw (eq-eqb (entry_word t j 4) 0 e) refl

  pub value-part : (entry_word t j 4 ≡ 0 → ⊥)
      → value_of chars (entry_at t j) ≡ slice (entry_word t j 2) (entry_word t j 2 + entry_word t j 3) chars
  unfolding value_of entry_at
  value-part e = rw (ne_eqb (entry_word t j 4) 0 e) refl

-- The same of words that were read.
module _ (chars : List ℕ) (t : Tree) (j n : ℕ) (c : n ≡ entry_word t j 4) (s : ℕ) (a : s ≡ entry_word t j 2) where
  pub read-fixed : n ≡ 0 → value_of chars (entry_at t j) ≡ fixed_bytes s
  read-fixed z = value-fixed chars t j (sym c ∙ z) ∙ ap fixed_bytes (sym a)

  pub read-part : (n ≡ 0 → ⊥) → (l : ℕ) → l ≡ entry_word t j 3 → (p : List ℕ) → p ≡ slice s (s + l) chars
      → p ≡ value_of chars (entry_at t j)
  read-part z l b p q =
      q ∙ ap (λ (x : ℕ). slice x (x + l) chars) a ∙ ap (λ (y : ℕ). slice (entry_word t j 2) (entry_word t j 2 + y) chars) b
      ∙ sym (value-part chars t j (λ x. z (c ∙ x)))

-- An element that has an id.
pub own-id : (chars : List ℕ) (t : Tree) (i j : ℕ) → j ≡ attribute_id t i AId.Id → (j ≡ 0 → ⊥)
    → element_id chars t i ≡ value_at_entry chars t j
unfolding element_id
own-id chars t i j e h = rw (ne_eqb (attribute_id t i AId.Id) 0 (λ z. h (e ∙ z)), ← e) refl

-- The same, by the entry.
pub id-entry : (chars : List ℕ) (t : Tree) (i j : ℕ) → j + 1 ≡ attribute_id t i AId.Id
    → element_id chars t i ≡ value_of chars (entry_at t j)
id-entry chars t i j e =
    own-id chars t i (j + 1) e (λ z. omega (arith, z))
    ∙ ap (λ (n : ℕ). value_of chars (entry_at t n)) (let z : j + 1 - 1 ≡ j = omega arith in z)
