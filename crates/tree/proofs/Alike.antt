-- Definitions that look at some of the tables only: the others may be any. Assumes nothing.
use mathlib.Core.Path.{◌≡◌, refl, sym, ap, ◌∙◌}
use mathlib.Core.Bool.{Bool, true, false, not}
use mathlib.Core.List.{List}
use Prim.Native.Nat.{ℕ, zero, suc, ◌+◌, ◌-◌, ◌*◌, ◌<◌, ◌≤◌}
use native.Mathlib.Omega.{arith}
use lib.ListN.{length}
use lib.Dec.{eqb}
use Rattle.model.specs.Base.{pick, and, same_bytes}
use Rattle.model.specs.Names.{fixed_bytes, is_possible_none}
use Rattle.model.specs.Tables.{Tree, ELEMENT, kind_of, parent_of, from_of, to_of, entry_at, entry_word, find_entry, attribute_id}
use Rattle.model.specs.Tables.{has_attribute, value_of, value_at_entry, attribute_of, holder_from, has_id_bytes, last_with_id}
use Rattle.tree.specs.Lent.{read_of, entries_of, Valued, ReadableIn, HeldBy}
use Rattle.tree.proofs.Entries.{taken, one-less}
use Rattle.tree.proofs.Climbs.{climb-same, holder-climbs}

pub else_same : (b : Bool) (z : ℕ) {x y : ℕ} → x ≡ y → pick b (λ u. z) (λ u. x) ≡ pick b (λ u. z) (λ u. y)
else_same true z e = refl
else_same false z e = e

pub find-same : (t : Tree) (a j n : ℕ) → find_entry (entries_of t.attributes) a j n ≡ find_entry t a j n
unfolding find_entry
find-same t a j zero = refl
find-same t a j (suc n) = else_same (eqb (entry_word t j 0) a) (j + 1) (find-same t a (j + 1) n)

module _ (t : Tree) where
  -- t as a function sees it that is lent nodes and attributes.
  abbrev seen : Tree
  seen = read_of t.nodes t.attributes

  pub id_same : (i a : ℕ) → attribute_id seen i a ≡ attribute_id t i a
  unfolding attribute_id
  id_same i a = go (eqb (kind_of t i) ELEMENT)
    where
      go : (b : Bool) → pick b (λ u. find_entry seen a (from_of t i) (to_of t i - from_of t i)) (λ u. 0) ≡
          pick b (λ u. find_entry t a (from_of t i) (to_of t i - from_of t i)) (λ u. 0)
      go true = sym (find-same seen a (from_of t i) (to_of t i - from_of t i)) ∙ find-same t a (from_of t i) (to_of t i - from_of t i)
      go false = refl

  pub attribute-same : (chars : List ℕ) (i a : ℕ) → attribute_of chars seen i a ≡ attribute_of chars t i a
  unfolding attribute_of entry_at
  attribute-same chars i a =
      ap (λ (j : ℕ). pick (eqb j 0) (λ u. 0)
      (λ u. pick (and (is_possible_none a) (same_bytes (value_at_entry chars t j) (fixed_bytes 1))) (λ v. 0) (λ v. j))) (id_same i a)

  pub holder-same : (a n w : ℕ) → holder_from seen a n w ≡ holder_from t a n w
  holder-same a n w =
      holder-climbs seen a n w
      ∙ climb-same (λ i. has_attribute seen i a) (λ i. has_attribute t i a) (parent_of t)
      (λ k. ap (λ (j : ℕ). not (eqb j 0)) (id_same k a)) n w
      ∙ sym (holder-climbs t a n w)

  pub has-id-same : (chars id : List ℕ) (i : ℕ) → has_id_bytes chars seen id i ≡ has_id_bytes chars t id i
  unfolding has_id_bytes entry_at
  has-id-same chars id i = ap (λ (j : ℕ). pick (eqb j 0) (λ u. false) (λ u. same_bytes (value_at_entry chars t j) id)) (id_same i 65)

  pub last-same : (chars id : List ℕ) (n : ℕ) → last_with_id chars seen id n ≡ last_with_id chars t id n
  unfolding last_with_id
  last-same chars id zero = refl
  last-same chars id (suc n) = rw (has-id-same chars id n) (else_same (has_id_bytes chars t id n) (n + 1) (last-same chars id n))

-- A turn of the search from the last node down.
pub last_step : (chars : List ℕ) (t : Tree) (id : List ℕ) (n : ℕ) → 0 < n
    → last_with_id chars t id n ≡ pick (has_id_bytes chars t id (n - 1)) (λ u. n - 1 + 1) (λ u. last_with_id chars t id (n - 1))
unfolding last_with_id
last_step chars t id n h = let e : n ≡ suc (n - 1) = omega arith in ap (last_with_id chars t id) e

pub last_end : (chars : List ℕ) (t : Tree) (id : List ℕ) (n : ℕ) → n ≤ 0 → 0 ≡ last_with_id chars t id n
unfolding last_with_id
last_end chars t id n h = let e : n ≡ 0 = omega arith in ap (last_with_id chars t id) (sym e)

-- The entry of an attribute that is there can be read.
pub held-value : (size : ℕ) (t : Tree) (i j : ℕ) → ReadableIn size t i → HeldBy t i j
    → (5 * j + 4 < length t.attributes) × Valued size (entry_at (entries_of t.attributes) j)
unfolding entry_at
held-value size t i j r h =
    let m : 5 * to_of t i ≤ length t.attributes = r.readable.range h.element in
    (omega (arith, h.inside), r.values h.element j h.inside)

-- Whether an element has the id, by what `attribute_id` finds.
pub id-none : (chars : List ℕ) (t : Tree) (id : List ℕ) (i : ℕ) → 0 ≡ attribute_id t i 65 → false ≡ has_id_bytes chars t id i
unfolding has_id_bytes
id-none chars t id i e = rw (sym e)

pub id-some : (chars : List ℕ) (t : Tree) (id : List ℕ) (i j : ℕ) → j + 1 ≡ attribute_id t i 65
    → has_id_bytes chars t id i ≡ same_bytes (value_of chars (entry_at t j)) id
unfolding has_id_bytes
id-some chars t id i j e = rw (taken j e, one-less j e)
