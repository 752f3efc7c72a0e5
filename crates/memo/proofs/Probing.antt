-- The search from slot to slot, for any slots. Assumes nothing.
use mathlib.Core.Path.{◌≡◌, refl, sym, ap, ◌∙◌, subst}
use mathlib.Core.List.{List}
use mathlib.Core.Bool.{Bool, true, false}
use Prim.Native.Nat.{ℕ, zero, suc, ◌+◌, ◌-◌, ◌<◌, ◌≤◌}
use native.Mathlib.Omega.{arith}
use borrow.Author.Tests.{eqb-true, eqb-false}
use lib.Dec.{eqb}
use Rattle.std.specs.Prelude.{Option, Some, None}
use Rattle.model.specs.Base.{pick}
use Rattle.model.specs.Drawing.{Event}
use Rattle.memo.specs.Table.{Seen, this, another, empty, Outcome, found, free, over, onward, probing, first_free, free_for}
use Rattle.memo.specs.Words.{unit, slot_in, probes, start_of, step_of, next_slot}

-- ONE TURN

turn : (f : ℕ → Seen) (g : ℕ → ℕ) (i k m : ℕ) → k ≡ m + 1 → probing f g i k ≡ onward (f i) (λ u. probing f g (g i) m)
unfolding probing
turn f g i k m e = ap (probing f g i) (let z : k ≡ suc m = omega (arith, e) in z)

-- The slot i is looked at, behind n slots of all that may be.
module _ (f : ℕ → Seen) (g : ℕ → ℕ) (i n : ℕ) (v : Outcome) (w : probing f g i (probes - n) ≡ v) where
  pub at-look : n < probes → (l : Seen) → l ≡ f i → onward l (λ u. probing f g (g i) (probes - (n + 1))) ≡ v
  at-look z l t =
      ap (λ x. onward x (λ u. probing f g (g i) (probes - (n + 1)))) t
      ∙ sym (turn f g i (probes - n) (probes - (n + 1)) (omega (arith, z))) ∙ w

  pub at-another : n < probes → another ≡ f i → (j : ℕ) → j ≡ g i → probing f g j (probes - (n + 1)) ≡ v
  at-another z t j e = ap (λ x. probing f g x (probes - (n + 1))) e ∙ at-look z another t

  pub at-over : probes ≤ n → over ≡ v
  unfolding probing
  at-over z = ap (probing f g i) (let e : 0 ≡ probes - n = omega (arith, z) in e) ∙ w

-- WHERE A SEARCH ENDS

-- What holds of all nodes that are seen with the id holds of those that are found.
abbrev pub OnThis : (List Event → Type 0) → Seen → Type 0
OnThis P (this xs) = P xs
OnThis P another = Unit {0}
OnThis P empty = Unit {0}

abbrev pub OnFound : (List Event → Type 0) → Outcome → Type 0
OnFound P (found xs) = P xs
OnFound P free = Unit {0}
OnFound P over = Unit {0}

pub found-holds : (P : List Event → Type 0) (f : ℕ → Seen) (g : ℕ → ℕ) → ((m : ℕ) → OnThis P (f m)) → (k i : ℕ)
    → OnFound P (probing f g i k)
unfolding probing
found-holds P f g h zero i = tt
found-holds P f g h (suc k) i = go (f i) (h i) (found-holds P f g h k (g i))
  where
    go : (l : Seen) → OnThis P l → OnFound P (probing f g (g i) k) → OnFound P (onward l (λ u. probing f g (g i) k))
    go (this xs) p r = p
    go another p r = r
    go empty p r = tt

abbrev pub IsFree : Outcome → Type 0
IsFree free = Unit {0}
IsFree (found xs) = ⊥
IsFree over = ⊥

abbrev pub IsEmpty : Seen → Type 0
IsEmpty empty = Unit {0}
IsEmpty (this xs) = ⊥
IsEmpty another = ⊥

abbrev pub IsThis : Seen → Type 0
IsThis (this xs) = Unit {0}
IsThis another = ⊥
IsThis empty = ⊥

module _ (f f' : ℕ → Seen) (g : ℕ → ℕ) (same : (m : ℕ) → (IsEmpty (f m) → ⊥) → f' m ≡ f m) where
  -- A search that ends elsewhere than at a free slot ends there still when a free slot is taken.
  pub stable : (k i : ℕ) → (IsFree (probing f g i k) → ⊥) → probing f' g i k ≡ probing f g i k
  unfolding probing
  stable zero i h = refl
  stable (suc k) i h = go (f i) refl h (stable k (g i))
    where
      go : (l : Seen) → f i ≡ l → (IsFree (onward l (λ u. probing f g (g i) k)) → ⊥)
          → ((IsFree (probing f g (g i) k) → ⊥) → probing f' g (g i) k ≡ probing f g (g i) k)
          → onward (f' i) (λ u. probing f' g (g i) k) ≡ onward (f i) (λ u. probing f g (g i) k)
      go (this xs) q n r =
          let e : f' i ≡ f i = same i (subst (λ l. IsEmpty l → ⊥) (sym q) (λ z. z)) in
          ap (λ l. onward l (λ u. probing f' g (g i) k)) (e ∙ q) ∙ sym (ap (λ l. onward l (λ u. probing f g (g i) k)) q)
      go another q n r =
          let e : f' i ≡ f i = same i (subst (λ l. IsEmpty l → ⊥) (sym q) (λ z. z)) in
          ap (λ l. onward l (λ u. probing f' g (g i) k)) (e ∙ q) ∙ r n ∙ sym (ap (λ l. onward l (λ u. probing f g (g i) k)) q)
      go empty q n r = absurd (n tt)

-- Where the same is seen in all slots, the search ends alike.
pub probing-same : (f f' : ℕ → Seen) (g : ℕ → ℕ) → ((m : ℕ) → f' m ≡ f m) → (k i : ℕ) → probing f' g i k ≡ probing f g i k
unfolding probing
probing-same f f' g h zero i = refl
probing-same f f' g h (suc k) i =
    ap (λ l. onward l (λ u. probing f' g (g i) k)) (h i) ∙ ap (λ o. onward (f i) (λ u. o)) (probing-same f f' g h k (g i))

-- FREE SLOTS

module _ (v : ℕ → ℕ) (g : ℕ → ℕ) where
  free-turn : (i k m : ℕ) → k ≡ m + 1 → first_free v g i k ≡ pick (eqb (v i) 0) (λ u. Some i) (λ u. first_free v g (g i) m)
  unfolding first_free
  free-turn i k m e = ap (first_free v g i) (let z : k ≡ suc m = omega (arith, e) in z)

  module _ (i n : ℕ) (o : Option ℕ) (w : first_free v g i (probes - n) ≡ o) where
    free-picked : n < probes → (b : Bool) → eqb (v i) 0 ≡ b
        → pick b (λ u. Some i) (λ u. first_free v g (g i) (probes - (n + 1))) ≡ o
    free-picked z b t =
        sym (ap (λ c. pick c (λ u. Some i) (λ u. first_free v g (g i) (probes - (n + 1)))) t)
        ∙ sym (free-turn i (probes - n) (probes - (n + 1)) (omega (arith, z))) ∙ w

    pub free-here : n < probes → eqb (v i) 0 ≡ true → Some i ≡ o
    free-here z t = free-picked z true t

    pub free-next : n < probes → eqb (v i) 0 ≡ false → (j : ℕ) → j ≡ g i → first_free v g j (probes - (n + 1)) ≡ o
    free-next z t j e = ap (λ a. first_free v g a (probes - (n + 1))) e ∙ free-picked z false t

    pub free-none : probes ≤ n → None ≡ o
    unfolding first_free
    free-none z = ap (first_free v g i) (let e : 0 ≡ probes - n = omega (arith, z) in e) ∙ w

  -- The slot that is answered is free.
  pub free-zero : (j k i : ℕ) → first_free v g i k ≡ Some j → v j ≡ 0
  unfolding first_free
  free-zero j zero i h = absurd (cc)
  free-zero j (suc k) i h = go (eqb (v i) 0) refl h (free-zero j k (g i))
    where
      go : (b : Bool) → eqb (v i) 0 ≡ b → pick b (λ u. Some i) (λ u. first_free v g (g i) k) ≡ Some j
          → (first_free v g (g i) k ≡ Some j → v j ≡ 0) → v j ≡ 0
      go true q e r = let z : i ≡ j = cc in ap v (sym z) ∙ eqb-true (v i) 0 q
      go false q e r = r e

  module _ (f : ℕ → Seen) (taken : (m : ℕ) → (v m ≡ 0 → ⊥) → IsEmpty (f m) → ⊥) where
    -- No slot is free: no search ends at one.
    pub none_free : (k i : ℕ) → first_free v g i k ≡ None → IsFree (probing f g i k) → ⊥
    unfolding first_free probing
    none_free zero i h z = z
    none_free (suc k) i h z = go (eqb (v i) 0) refl h (f i) refl z (none_free k (g i))
      where
        go : (b : Bool) → eqb (v i) 0 ≡ b → pick b (λ u. Some i) (λ u. first_free v g (g i) k) ≡ None → (l : Seen) → f i ≡ l
            → IsFree (onward l (λ u. probing f g (g i) k)) → (first_free v g (g i) k ≡ None → IsFree (probing f g (g i) k) → ⊥) → ⊥
        go true q e l t x r = absurd (cc)
        go false q e (this xs) t x r = x
        go false q e another t x r = r e x
        go false q e empty t x r = taken i (eqb-false (v i) 0 q) (subst IsEmpty (sym t) tt)

    -- The first free slot is taken by what is looked for: the search does not end at a free slot any more.
    pub now-found : (f' : ℕ → Seen) (j : ℕ) → ((m : ℕ) → (v m ≡ 0 → ⊥) → f' m ≡ f m) → IsThis (f' j) → (k i : ℕ)
        → first_free v g i k ≡ Some j → IsFree (probing f' g i k) → ⊥
    unfolding first_free probing
    now-found f' j same t zero i h z = z
    now-found f' j same t (suc k) i h z = go (eqb (v i) 0) refl h (now-found f' j same t k (g i))
      where
        here : (l : Seen) → IsThis l → IsFree (onward l (λ u. probing f' g (g i) k)) → ⊥
        here (this xs) a b = b
        here another a b = a
        here empty a b = a

        there : (l : Seen) → f i ≡ l → (IsEmpty (f i) → ⊥) → first_free v g (g i) k ≡ Some j
            → IsFree (onward l (λ u. probing f' g (g i) k)) → (first_free v g (g i) k ≡ Some j → IsFree (probing f' g (g i) k) → ⊥) → ⊥
        there (this xs) q n e x r = x
        there another q n e x r = r e x
        there empty q n e x r = n (subst IsEmpty (sym q) tt)

        go : (b : Bool) → eqb (v i) 0 ≡ b → pick b (λ u. Some i) (λ u. first_free v g (g i) k) ≡ Some j
            → (first_free v g (g i) k ≡ Some j → IsFree (probing f' g (g i) k) → ⊥) → ⊥
        go true q e r = let y : i ≡ j = cc in here (f' i) (subst (λ m. IsThis (f' m)) (sym y) t) z
        go false q e r =
            let n : v i ≡ 0 → ⊥ = eqb-false (v i) 0 q in
            there (f i) refl (taken i n) e (subst (λ l. IsFree (onward l (λ u. probing f' g (g i) k))) (same i n) z) r

-- The search for a free slot from its first slot on.
pub free-first : (slots : List ℕ) (key step i : ℕ) → step ≡ step_of (unit slots) key → i ≡ start_of (unit slots) key
    → first_free (slot_in slots) (next_slot (unit slots) step) i probes ≡ free_for slots key
free-first slots key step i e f =
    ap (λ n. first_free (slot_in slots) (next_slot (unit slots) n) i probes) e
    ∙ ap (λ n. first_free (slot_in slots) (next_slot (unit slots) (step_of (unit slots) key)) n probes) f
