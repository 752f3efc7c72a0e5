-- The keys of a `match` on a number: what follows from what the `_` arm is told, by one computed test over all keys. Assumes nothing.
use mathlib.Core.Path.{◌≡◌, refl, sym, subst}
use mathlib.Core.Logic.{◌⊎◌, inl, inr}
use mathlib.Core.List.{List, [], ◌∷◌}
use mathlib.Core.Bool.{Bool, true, false, ◌&&◌, ◌||◌}
use Prim.Native.Nat.{ℕ}
use borrow.Author.Tests.{ne_eqb}
use lib.Dec.{T, eqb, eqb→eq}
use types.Run.{OneOf}
use Rattle.model.specs.Base.{pick, among}

-- f holds of all the numbers.
unfoldable pub every : (ℕ → Bool) → List ℕ → Bool
every f [] = true
every f (x ∷ xs) = f x && every f xs

first : (a b : Bool) → T (a && b) → T a
first true b h = tt
first false b h = absurd h

later : (a b : Bool) → T (a && b) → T b
later true b h = h
later false b h = absurd h

-- The `_` arm: the number is no key of these arms, the last arm first.
abbrev pub NoKey : List (List ℕ) → ℕ → Type 0
NoKey [] a = Unit {0}
NoKey (ks ∷ arms) a = NoKey arms a × (OneOf ks a → ⊥)

abbrev pub keyed : List (List ℕ) → ℕ → Bool
keyed [] a = false
keyed (ks ∷ arms) a = among a ks || keyed arms a

one_of : (ks : List ℕ) (a : ℕ) → T (among a ks) → OneOf ks a
unfolding among
one_of [] a h = absurd h
one_of (x ∷ []) a h = go (eqb a x) (eqb→eq a x) h
  where
    go : (t : Bool) → (T t → a ≡ x) → T (pick t (λ u. true) (λ u. false)) → a ≡ x
    go true e h = e tt
    go false e h = absurd h
one_of (x ∷ (y ∷ ks)) a h = go (eqb a x) (eqb→eq a x) (one_of (y ∷ ks) a) h
  where
    go : (t : Bool) → (T t → a ≡ x) → (T (among a (y ∷ ks)) → OneOf (y ∷ ks) a) →
        T (pick t (λ u. true) (λ u. among a (y ∷ ks))) → (a ≡ x) ⊎ OneOf (y ∷ ks) a
    go true e o h = inl (e tt)
    go false e o h = inr (o h)

no_key : (arms : List (List ℕ)) (a : ℕ) → NoKey arms a → T (keyed arms a) → ⊥
no_key [] a n h = h
no_key (ks ∷ arms) a n h = go (among a ks) (λ t. n.1 (one_of ks a t)) (no_key arms a n.0) h
  where
    go : (t : Bool) → (T t → ⊥) → (T (keyed arms a) → ⊥) → T (t || keyed arms a) → ⊥
    go true e o h = e tt
    go false e o h = o h

differs : (arms : List (List ℕ)) (a x : ℕ) → NoKey arms a → T (keyed arms x) → a ≡ x → ⊥
differs arms a x n h e = no_key arms a n (subst (λ (y : ℕ). T (keyed arms y)) (sym e) h)

-- Where all of a list are keys, the number is not in the list.
pub unlisted : (arms : List (List ℕ)) (xs : List ℕ) (a : ℕ) → NoKey arms a → T (every (keyed arms) xs) → false ≡ among a xs
unfolding every among
unlisted arms [] a n e = refl
unlisted arms (x ∷ xs) a n e =
    rw (ne_eqb a x (differs arms a x n (first (keyed arms x) (every (keyed arms) xs) e)))
    (unlisted arms xs a n (later (keyed arms x) (every (keyed arms) xs) e))
