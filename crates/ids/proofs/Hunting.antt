-- The search for an id along the chain of its bucket. Assumes nothing.
use mathlib.Core.Path.{◌≡◌, refl, sym, ap, ◌∙◌, subst}
use mathlib.Core.Bool.{Bool, true, false, false≢true}
use mathlib.Core.List.{List}
use Prim.Native.Nat.{ℕ, zero, suc, ◌+◌, ◌-◌, ◌/◌, ◌<◌, ◌≤◌}
use native.Mathlib.Omega.{arith}
use native.Mathlib.Decide.{ℕ_discrete}
use borrow.Author.Tests.{eqb-true, eq-eqb, ne_eqb}
use lib.Dec.{eqb}
use lib.ListN.{get_or}
use Rattle.std.proofs.Common.{Option, Some, None, IsSome, SomeIff}
use Rattle.model.specs.Base.{pick, same_bytes}
use Rattle.model.specs.AId
use Rattle.model.specs.Tables.{Tree, entry_word, entry_at, value_of, value_at_entry, attribute_id, has_id_bytes, last_with_id}
use Rattle.model.specs.Repair.{element_id}
use Rattle.tree.specs.Lent.{plus_one}
use Rattle.tree.proofs.Alike.{id-some}
use Rattle.tree.proofs.Entries.{one-less}
use Rattle.ids.specs.Chains.{bucket_of, is_in, last_in, Chained}
use Rattle.ids.proofs.Values.{same-eq, own-id}

-- A word that is an index plus 1, 0 for none.
pub minus-one : (x : ℕ) (o : Option ℕ) → SomeIff o (1 ≤ x) (x - 1) → plus_one o ≡ x
minus-one zero None h = refl
minus-one (suc x) None h = absurd (h (omega arith))
minus-one x (Some i) h = omega (arith, h.0, h.1)

module _ (chars : List ℕ) (t : Tree) where
  pub last-low : (b n : ℕ) → last_in chars t b n ≤ n
  unfolding last_in
  last-low b zero = omega arith
  last-low b (suc n) = go (is_in chars t b n) (last-low b n)
    where
      go : (x : Bool) → last_in chars t b n ≤ n → pick x (λ u. n + 1) (λ u. last_in chars t b n) ≤ suc n
      go true h = omega arith
      go false h = omega arith

  -- What is found stands in the bucket.
  pub in-here : (b n i : ℕ) → last_in chars t b n ≡ i + 1 → is_in chars t b i ≡ true
  unfolding last_in
  in-here b zero i e = absurd (omega arith)
  in-here b (suc n) i e = go (is_in chars t b n) refl e (in-here b n i)
    where
      go : (x : Bool) → is_in chars t b n ≡ x → pick x (λ u. n + 1) (λ u. last_in chars t b n) ≡ i + 1
          → (last_in chars t b n ≡ i + 1 → is_in chars t b i ≡ true) → is_in chars t b i ≡ true
      go true h z r = let d : n ≡ i = omega arith in ap (is_in chars t b) (sym d) ∙ h
      go false h z r = r z

  -- What stands in a bucket has an id of it.
  pub in-own : (b i : ℕ) → is_in chars t b i ≡ true → (attribute_id t i AId.Id ≡ 0 → ⊥) × (bucket_of (element_id chars t i) ≡ b)
  unfolding is_in
  in-own b i h = go (ℕ_discrete (attribute_id t i AId.Id) 0)
    where
      go : Dec (attribute_id t i AId.Id ≡ 0) → (attribute_id t i AId.Id ≡ 0 → ⊥) × (bucket_of (element_id chars t i) ≡ b)
      go (yes e) = absurd (false≢true (rw (eq-eqb (attribute_id t i AId.Id) 0 e) at h))
      go (no e) = (e, eqb-true (bucket_of (element_id chars t i)) b (rw (ne_eqb (attribute_id t i AId.Id) 0 e) at h))

  -- What does not stand in the bucket of an id has another id.
  not_in : (id : List ℕ) (i : ℕ) → is_in chars t (bucket_of id) i ≡ false → has_id_bytes chars t id i ≡ false
  unfolding is_in has_id_bytes
  not_in id i h = go (ℕ_discrete (attribute_id t i AId.Id) 0)
    where
      go : Dec (attribute_id t i AId.Id ≡ 0)
          → pick (eqb (attribute_id t i AId.Id) 0) (λ u. false) (λ u. same_bytes (value_at_entry chars t (attribute_id t i AId.Id)) id)
          ≡ false
      go (yes e) = rw (eq-eqb (attribute_id t i AId.Id) 0 e) refl
      go (no e) = rw (ne_eqb (attribute_id t i AId.Id) 0 e) (bytes (same_bytes (value_at_entry chars t (attribute_id t i AId.Id)) id) refl)
        where
          bytes : (x : Bool) → same_bytes (value_at_entry chars t (attribute_id t i AId.Id)) id ≡ x → x ≡ false
          bytes false z = refl
          bytes true z =
              let own : element_id chars t i ≡ id = own-id chars t i (attribute_id t i AId.Id) refl e ∙ same-eq _ id z in
              let k : eqb (bucket_of (element_id chars t i)) (bucket_of id) ≡ true = eq-eqb _ _ (ap bucket_of own) in
              absurd (false≢true (sym (rw (ne_eqb (attribute_id t i AId.Id) 0 e) at h) ∙ k))

  -- So the search may go from one node of the bucket to the one before it.
  jump : (id : List ℕ) (n : ℕ) → last_with_id chars t id n ≡ last_with_id chars t id (last_in chars t (bucket_of id) n)
  unfolding last_in last_with_id
  jump id zero = refl
  jump id (suc n) = go (is_in chars t (bucket_of id) n) refl (jump id n)
    where
      go : (x : Bool) → is_in chars t (bucket_of id) n ≡ x
          → last_with_id chars t id n ≡ last_with_id chars t id (last_in chars t (bucket_of id) n)
          → last_with_id chars t id (suc n) ≡ last_with_id chars t id (pick x (λ u. n + 1) (λ u. last_in chars t (bucket_of id) n))
      go true h r = let e : suc n ≡ n + 1 = omega arith in ap (last_with_id chars t id) e
      go false h r = rw (not_in id n h) r

-- In the middle of a search: the node whose index plus 1 is n is next.
pub record Hunting (chars : List ℕ) (t : Tree) (id : List ℕ) (count n : ℕ) : Type 0 where
  pub high : n ≤ count
  pub here : (n ≡ 0 → ⊥) → is_in chars t (bucket_of id) (n - 1) ≡ true
  pub same : last_with_id chars t id n ≡ last_with_id chars t id count

module _ (chars : List ℕ) (t : Tree) (hs : List ℕ) (count : ℕ) (k : Chained chars t hs count) (id : List ℕ) where
  -- From the last one of the bucket before n on.
  from : (n : ℕ) → n ≤ count → last_with_id chars t id n ≡ last_with_id chars t id count
      → Hunting chars t id count (last_in chars t (bucket_of id) n)
  from n l e =
      let low : last_in chars t (bucket_of id) n ≤ n = last-low chars t (bucket_of id) n in
      record {
        high = omega arith;
        here = λ z. in-here chars t (bucket_of id) n (last_in chars t (bucket_of id) n - 1) (omega arith);
        same = sym (jump chars t id n) ∙ e;
      }

  pub hunt-first : (b : ℕ) → b ≡ bucket_of id → b < 2048 → (o : Option ℕ) → plus_one o ≡ get_or hs b 0
      → Hunting chars t id count (plus_one o)
  hunt-first b e l o f = rw (f, k.heads b l, e) (from count (omega arith) refl)

  pub hunting-at : (o x : Option ℕ) → o ≡ x → Hunting chars t id count (plus_one o) → Hunting chars t id count (plus_one x)
  hunting-at o x e w = subst (λ (y : Option ℕ). Hunting chars t id count (plus_one y)) e w

  -- At node n.
  module _ (n : ℕ) (w : Hunting chars t id count (n + 1)) where
    less : n + 1 - 1 ≡ n
    less = omega arith

    own : (attribute_id t n AId.Id ≡ 0 → ⊥) × (bucket_of (element_id chars t n) ≡ bucket_of id)
    own = in-own chars t (bucket_of id) n (sym (ap (is_in chars t (bucket_of id)) less) ∙ w.here (λ x. omega (arith, x)))

    pub hunt-low : n < count
    hunt-low = let high : n + 1 ≤ count = w.high in omega arith

    -- A node of a bucket has an id.
    pub hunt-id : (o : Option ℕ) → plus_one o ≡ attribute_id t n AId.Id → IsSome o
    hunt-id None e = absurd (own.0 (sym e))
    hunt-id (Some j) e = refl

    turn : last_with_id chars t id (n + 1) ≡ pick (has_id_bytes chars t id n) (λ u. n + 1) (λ u. last_with_id chars t id n)
    unfolding last_with_id
    turn = let e : n + 1 ≡ suc n = omega arith in ap (last_with_id chars t id) e

    module _ (j : ℕ) (e : j + 1 ≡ attribute_id t n AId.Id) (r : Bool) (h : r ≡ same_bytes (value_of chars (entry_at t j)) id) where
      has : has_id_bytes chars t id n ≡ r
      has = id-some chars t id n j e ∙ sym h

      pub hunt-hit : r ≡ true → n + 1 ≡ last_with_id chars t id count
      hunt-hit z = sym (turn ∙ rw (has ∙ z)) ∙ w.same

      pub hunt-on : r ≡ false → (x : ℕ) → x ≡ entry_word t j 1 → (o : Option ℕ) → plus_one o ≡ x / 2
          → Hunting chars t id count (plus_one o) × (plus_one o < n + 1)
      hunt-on z x q o f =
          let high : n + 1 ≤ count = w.high in
          let p : plus_one o ≡ last_in chars t (bucket_of id) n =
          f ∙ ap (λ (y : ℕ). y / 2) (q ∙ ap (λ (y : ℕ). entry_word t y 1) (sym (one-less j e))) ∙ k.next n (omega arith) own.0
          ∙ ap (λ (b : ℕ). last_in chars t b n) own.1 in
          let s : last_with_id chars t id n ≡ last_with_id chars t id count = sym (turn ∙ rw (has ∙ z)) ∙ w.same in
          let low : last_in chars t (bucket_of id) n ≤ n = last-low chars t (bucket_of id) n in
          (rw p (from n (omega arith) s), omega (arith, p, low))

  pub hunt-none : Hunting chars t id count 0 → 0 ≡ last_with_id chars t id count
  unfolding last_with_id
  hunt-none w = w.same
