-- An element is the last one with its id, and links with that id lead to it. Assumes nothing.
use mathlib.Core.Path.{◌≡◌, refl, sym, ap, ◌∙◌}
use mathlib.Core.Bool.{Bool, true, false, not, false≢true}
use mathlib.Core.List.{List, []}
use Prim.Native.Nat.{ℕ, zero, suc, ◌+◌, ◌*◌, ◌<◌, ◌≤◌}
use native.Mathlib.Omega.{arith}
use native.Mathlib.Decide.{ℕ_discrete}
use borrow.Author.Tests.{eq-eqb, ne_eqb}
use lib.Dec.{eqb}
use lib.ListN.{length}
use lib.Seq.{slice}
use Rattle.model.specs.Base.{pick, and, same_bytes}
use Rattle.model.specs.AId
use Rattle.model.specs.Names.{fixed_bytes, fixed_values}
use Rattle.model.specs.Tables.{Tree, to_of, entry_word, entry_at, value_of, value_at_entry, attribute_id, has_id_bytes}
use Rattle.model.specs.Tables.{last_with_id, element_by_id}
use Rattle.model.specs.Questions.{all_below}
use Rattle.model.specs.Repair.{element_id}
use Rattle.tree.specs.Lent.{entries_of, ReadableIn, HeldBy}
use Rattle.tree.proofs.Bools.{and-false}
use Rattle.leads.specs.Links.{Known, KnownIn}
use Rattle.ids.proofs.Values.{same-swap, same-eq, same-itself, read-fixed, read-part, id-entry}

-- FIXED VALUES

below_each : (f : ℕ → Bool) (n : ℕ) → all_below f n ≡ true → (i : ℕ) → i < n → f i ≡ true
unfolding all_below
below_each f zero h i l = absurd (omega arith)
below_each f (suc n) h i l = go (f n) refl h (λ g. below_each f n g i) (ℕ_discrete i n)
  where
    go : (b : Bool) → f n ≡ b → pick b (λ u. all_below f n) (λ u. false) ≡ true → (all_below f n ≡ true → i < n → f i ≡ true) → Dec (i ≡ n)
        → f i ≡ true
    go true e k r (yes d) = ap f d ∙ e
    go true e k r (no d) = r k (omega arith)
    go false e k r d = absurd (false≢true k)

-- Are two tests alike?
abbrev alike : Bool → Bool → Bool
alike a b = pick a (λ u. b) (λ u. not b)

alike-eq : (a b : Bool) → alike a b ≡ true → a ≡ b
alike-eq true true h = refl
alike-eq true false h = sym h
alike-eq false true h = h
alike-eq false false h = refl

-- Two fixed values have different bytes.
pub fixed-apart : (n m : ℕ) → n ≤ 18 → m ≤ 18 → eqb n m ≡ same_bytes (fixed_bytes n) (fixed_bytes m)
unfolding all_below same_bytes fixed_bytes fixed_values
fixed-apart n m h k =
    alike-eq (eqb n m) (same_bytes (fixed_bytes n) (fixed_bytes m))
    (below_each (λ x. alike (eqb n x) (same_bytes (fixed_bytes n) (fixed_bytes x))) 19
    (below_each (λ y. all_below (λ x. alike (eqb y x) (same_bytes (fixed_bytes y) (fixed_bytes x))) 19) 19 refl n (omega arith)) m
    (omega arith))

-- Two entries with fixed values, by their numbers.
pub both-fixed : (chars : List ℕ) (size : ℕ) (t : Tree) (j k : ℕ) → Known size t j → Known size t k
    → (n : ℕ) → n ≡ entry_word t j 4 → n ≡ 0 → (m : ℕ) → m ≡ entry_word t k 4 → m ≡ 0
    → (a : ℕ) → a ≡ entry_word t j 2 → (b : ℕ) → b ≡ entry_word t k 2
    → eqb a b ≡ same_bytes (value_of chars (entry_at t j)) (value_of chars (entry_at t k))
unfolding entry_at
both-fixed chars size t j k p q n c z m d y a e b f =
    let l = p.kept.fixed (sym c ∙ z) in
    let r = q.kept.fixed (sym d ∙ y) in
    fixed-apart a b (omega (arith, l.1, e)) (omega (arith, r.1, f))
    ∙ sym (ap (λ (x : List ℕ). same_bytes x (value_of chars (entry_at t k))) (read-fixed chars t j n c a e z)
    ∙ ap (λ (x : List ℕ). same_bytes (fixed_bytes a) x) (read-fixed chars t k m d b f y))

-- IDS

-- What is found has the id.
pub found-has : (chars : List ℕ) (t : Tree) (id : List ℕ) (n i : ℕ) → last_with_id chars t id n ≡ i + 1 → has_id_bytes chars t id i ≡ true
unfolding last_with_id
found-has chars t id zero i e = absurd (omega arith)
found-has chars t id (suc n) i e = go (has_id_bytes chars t id n) refl e (found-has chars t id n i)
  where
    go : (b : Bool) → has_id_bytes chars t id n ≡ b → pick b (λ u. n + 1) (λ u. last_with_id chars t id n) ≡ i + 1
        → (last_with_id chars t id n ≡ i + 1 → has_id_bytes chars t id i ≡ true) → has_id_bytes chars t id i ≡ true
    go true h z r = let d : n ≡ i = omega arith in ap (has_id_bytes chars t id) (sym d) ∙ h
    go false h z r = r z

module _ (chars : List ℕ) (t : Tree) (i : ℕ) where
  -- An element that has an id, and one that has none.
  pub has-own : (attribute_id t i AId.Id ≡ 0 → ⊥) → has_id_bytes chars t (element_id chars t i) i ≡ true
  unfolding has_id_bytes element_id
  has-own h = rw (ne_eqb (attribute_id t i AId.Id) 0 h) (same-itself (value_at_entry chars t (attribute_id t i AId.Id)))

  has-none : attribute_id t i AId.Id ≡ 0 → (id : List ℕ) → has_id_bytes chars t id i ≡ false
  unfolding has_id_bytes
  has-none h id = rw (eq-eqb (attribute_id t i AId.Id) 0 h) refl

  -- An element with an id is found by its bytes alone.
  has_same : (id : List ℕ) → has_id_bytes chars t id i ≡ true → same_bytes id (element_id chars t i) ≡ true
  unfolding has_id_bytes element_id
  has_same id h = go (ℕ_discrete (attribute_id t i AId.Id) 0) h
    where
      go : Dec (attribute_id t i AId.Id ≡ 0)
          → pick (eqb (attribute_id t i AId.Id) 0) (λ u. false) (λ u. same_bytes (value_at_entry chars t (attribute_id t i AId.Id)) id)
          ≡ true
          → same_bytes id (pick (eqb (attribute_id t i AId.Id) 0) (λ u. []) (λ u. value_at_entry chars t (attribute_id t i AId.Id))) ≡ true
      go (yes e) k = absurd (false≢true (rw (eq-eqb (attribute_id t i AId.Id) 0 e) at k))
      go (no e) k = rw (ne_eqb (attribute_id t i AId.Id) 0 e)
          (same-swap id (value_at_entry chars t (attribute_id t i AId.Id)) ∙ (rw (ne_eqb (attribute_id t i AId.Id) 0 e) at k))

  -- A link leads to element i exactly if links with its id do, and the link's bytes are its id.
  pub compared : (bs : List ℕ) → eqb (element_by_id chars t bs) (i + 1)
      ≡ and (eqb (element_by_id chars t (element_id chars t i)) (i + 1)) (same_bytes bs (element_id chars t i))
  unfolding element_by_id
  compared bs = go (same_bytes bs (element_id chars t i)) refl
    where
      go : (b : Bool) → same_bytes bs (element_id chars t i) ≡ b
          → eqb (element_by_id chars t bs) (i + 1)
          ≡ and (eqb (element_by_id chars t (element_id chars t i)) (i + 1)) (same_bytes bs (element_id chars t i))
      go true e = rw (e, same-eq bs (element_id chars t i) e) (whole (eqb (element_by_id chars t (element_id chars t i)) (i + 1)))
        where
          whole : (b : Bool) → b ≡ and b true
          whole true = refl
          whole false = refl
      go false e =
          rw e
          (ne_eqb (element_by_id chars t bs) (i + 1)
          (λ z. false≢true (sym e ∙ has_same bs (found-has chars t bs t.node_count i z)))
          ∙ and-false (eqb (element_by_id chars t (element_id chars t i)) (i + 1)))

  -- It has no id.
  pub last-absent : attribute_id t i AId.Id ≡ 0 → (id : List ℕ) (n : ℕ) → false ≡ eqb (last_with_id chars t id n) (i + 1)
  last-absent h id n =
      sym (ne_eqb (last_with_id chars t id n) (i + 1) (λ z. false≢true (sym (has-none h id) ∙ found-has chars t id n i z)))

-- The entry of an attribute.
pub known-entry : (size : ℕ) (t : Tree) (i j : ℕ) → KnownIn size t i → HeldBy t i j → Known size (entries_of t.attributes) j
unfolding entry_at
known-entry size t i j r h =
    let m : 5 * to_of t i ≤ length t.attributes = r.readable.range h.element in
    record { inside = omega (arith, h.inside); kept = r.entries h.element j h.inside }

pub known-readable : (size : ℕ) (t : Tree) (i : ℕ) → KnownIn size t i → ReadableIn size t i
known-readable size t i r = record { readable = r.readable; values = λ e j l. (r.entries e j l).inside }

-- The search for an element's id, where that is a part of the characters, a fixed value, or not there.
module _ (chars : List ℕ) (t : Tree) (i count w : ℕ) where
  module _ (j : ℕ) (e : j + 1 ≡ attribute_id t i AId.Id) where
    pub last-part : (n : ℕ) → n ≡ entry_word t j 4 → (n ≡ 0 → ⊥) → (s : ℕ) → s ≡ entry_word t j 2 → (l : ℕ) → l ≡ entry_word t j 3
        → (p : List ℕ) → p ≡ slice s (s + l) chars → w ≡ last_with_id chars t p count
        → w ≡ last_with_id chars t (element_id chars t i) count
    last-part n c y s a l d p q f =
        f ∙ ap (λ (id : List ℕ). last_with_id chars t id count)
        (read-part chars t j n c s a y l d p q ∙ sym (id-entry chars t i j e))

    pub last_entry : w ≡ last_with_id chars t (value_of chars (entry_at t j)) count
        → w ≡ last_with_id chars t (element_id chars t i) count
    last_entry f = f ∙ ap (λ (id : List ℕ). last_with_id chars t id count) (sym (id-entry chars t i j e))

  pub last_none : 0 ≡ attribute_id t i AId.Id → (p : List ℕ) → p ≡ slice 0 0 chars → w ≡ last_with_id chars t p count
      → w ≡ last_with_id chars t (element_id chars t i) count
  unfolding element_id
  last_none e p q f = f ∙ ap (λ (id : List ℕ). last_with_id chars t id count) (q ∙ rw (sym e) refl)
