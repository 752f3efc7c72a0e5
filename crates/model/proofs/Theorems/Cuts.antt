-- What a cut changes: one value is none, and everything else that the repairs read is as it was.
use Prim.Native.Nat.{ℕ, zero, suc, ◌+◌, ◌-◌, ◌*◌, ◌≤◌, ◌<◌}
use Rattle.std.specs.Prelude.{◌≡◌, true, false, eqb}
use Rattle.std.proofs.Math.Path.{refl, ap}
use Rattle.std.proofs.Common.{sym, ◌∙◌, arith, eqb-true, eq-eqb, ne_eqb}
use Rattle.std.proofs.Math.Bool.{Bool}
use mathlib.Core.List.{List, [], ◌∷◌}
use Rattle.std.proofs.Math.Decide.{ℕ_discrete, dec_lt}
use Rattle.std.proofs.lemmas.Bool.{eqb-false}
use Rattle.model.specs.Base.{pick, and, same_bytes}
use Rattle.model.specs.Names.{is_possible_none, fixed_bytes}
use Rattle.model.specs.AId
use Rattle.model.specs.Drawing.{Reading, Value, readings_of}
use Rattle.model.specs.Tables.{Tree, ELEMENT, kind_of, from_of, to_of, entry_word, entry_at, value_of, find_entry, attribute_id}
use Rattle.model.specs.Tables.{attribute_of}
use Rattle.model.specs.Tables.{value_at_entry, has_id_bytes, last_with_id, element_by_id, set_none}
use Rattle.model.specs.Repair.{element_id, readings_of_attribute}
use Rattle.model.proofs.Theorems.Agree.{sets-out}
use Rattle.model.proofs.Theorems.Entries.{none-others, none-entry}
use Rattle.model.specs.Theorems.Kept.{Tidy}
use Rattle.model.proofs.Theorems.Kept.{find-within, attribute-any}

-- THE ENTRY OF AN ATTRIBUTE

-- What a search in a range finds has the name.
find-named : (t : Tree) (a j n : ℕ) → (find_entry t a j n ≡ 0 → ⊥) → entry_word t (find_entry t a j n - 1) 0 ≡ a
unfolding find_entry
find-named t a j zero h = absurd (h refl)
find-named t a j (suc n) h = go (eqb (entry_word t j 0) a) refl h (find-named t a (j + 1) n)
  where
    go : (b : Bool) → eqb (entry_word t j 0) a ≡ b → (pick b (λ u. j + 1) (λ u. find_entry t a (j + 1) n) ≡ 0 → ⊥) →
        ((find_entry t a (j + 1) n ≡ 0 → ⊥) → entry_word t (find_entry t a (j + 1) n - 1) 0 ≡ a) →
        entry_word t (pick b (λ u. j + 1) (λ u. find_entry t a (j + 1) n) - 1) 0 ≡ a
    go true e g r = let z : j + 1 - 1 ≡ j = omega arith in rw z (eqb-true _ _ e)
    go false e g r = r g

-- An attribute that is there: its node is an element, its entry lies in the node's range and has the name.
pub record Holds (t : Tree) (i a : ℕ) : Type 0 where
  pub element : kind_of t i ≡ ELEMENT
  pub low : from_of t i < attribute_id t i a
  pub high : attribute_id t i a ≤ to_of t i
  pub named : entry_word t (attribute_id t i a - 1) 0 ≡ a

pub holds-attribute : (size : ℕ) (t : Tree) → Tidy size t → (i a : ℕ) → (attribute_id t i a ≡ 0 → ⊥) → Holds t i a
unfolding attribute_id
holds-attribute size t k i a h = go (ℕ_discrete (kind_of t i) ELEMENT)
  where
    go : Dec (kind_of t i ≡ ELEMENT) → Holds t i a
    go (no e) = absurd (h (rw (ne_eqb (kind_of t i) ELEMENT e) refl))
    go (yes e) =
        let q : attribute_id t i a ≡ find_entry t a (from_of t i) (to_of t i - from_of t i) = rw (eq-eqb (kind_of t i) ELEMENT e) refl in
        let f = find-within t a (from_of t i) (to_of t i - from_of t i) (λ z. h (q ∙ z)) in
        let n = find-named t a (from_of t i) (to_of t i - from_of t i) (λ z. h (q ∙ z)) in
        let l : i < t.node_count = counted (dec_lt i t.node_count) in
        let r = (k.kept.nodes i l).range e in
        record {
          element = e;
          low = omega (arith, q, f.0);
          high = omega (arith, q, f.1, r.0);
          named = ap (λ j. entry_word t (j - 1) 0) q ∙ n;
        }
      where
        counted : Dec (i < t.node_count) → i < t.node_count
        counted (yes l) = l
        counted (no l) = absurd (let z : ◌≡◌ {A = ℕ} 0 2 = sym (k.unused.nodes (8 * i + 0) (omega arith)) ∙ e in omega arith)

-- One entry is the attribute of one node alone, under one name.
pub one-owner : (size : ℕ) (t : Tree) → Tidy size t → (i j a b : ℕ) → (attribute_id t i a ≡ 0 → ⊥) →
    attribute_id t i a ≡ attribute_id t j b → (i ≡ j) × (a ≡ b)
one-owner size t k i j a b h e =
    let p = holds-attribute size t k i a h in
    let q = holds-attribute size t k j b (λ z. h (e ∙ z)) in
    (owner p q (ℕ_discrete i j) (dec_lt i j), sym p.named ∙ ap (λ n. entry_word t (n - 1) 0) e ∙ q.named)
  where
    counted : (x : ℕ) → kind_of t x ≡ ELEMENT → x < t.node_count
    counted x y = go (dec_lt x t.node_count)
      where
        go : Dec (x < t.node_count) → x < t.node_count
        go (yes l) = l
        go (no l) = absurd (let z : ◌≡◌ {A = ℕ} 0 2 = sym (k.unused.nodes (8 * x + 0) (omega arith)) ∙ y in omega arith)

    owner : Holds t i a → Holds t j b → Dec (i ≡ j) → Dec (i < j) → i ≡ j
    owner p q (yes d) l = d
    owner p q (no d) (yes l) =
        let o = k.ordered i j l (counted j q.element) p.element q.element in absurd (omega (arith, e, p.high, q.low))
    owner p q (no d) (no l) =
        let o = k.ordered j i (omega arith) (counted i p.element) q.element p.element in
        absurd (omega (arith, e, p.low, q.high))

-- THE CUT

-- The names of entries stay, so that every search finds what it found.
find-same : (n : ℕ) (t : Tree) (a j m : ℕ) → find_entry (set_none n t) a j m ≡ find_entry t a j m
unfolding find_entry set_none
find-same n t a j zero = refl
find-same n t a j (suc m) =
    rw (sets-out (1 ∷ 0 ∷ 0 ∷ []) t.attributes (5 * n + 2) (5 * j + 0) (λ x y. omega arith), find-same n t a (j + 1) m) refl

pub id_same : (n : ℕ) (t : Tree) (i a : ℕ) → attribute_id (set_none n t) i a ≡ attribute_id t i a
unfolding attribute_id set_none
id_same n t i a = go (eqb (kind_of t i) ELEMENT)
  where
    go : (b : Bool) → pick b (λ u. find_entry (set_none n t) a (from_of t i) (to_of t i - from_of t i)) (λ u. 0)
        ≡ pick b (λ u. find_entry t a (from_of t i) (to_of t i - from_of t i)) (λ u. 0)
    go true = find-same n t a (from_of t i) (to_of t i - from_of t i)
    go false = refl

-- An attribute that is read is the first of its name.
pub attribute-there : (chars : List ℕ) (t : Tree) (j b : ℕ) → (attribute_of chars t j b ≡ 0 → ⊥) →
    (attribute_of chars t j b ≡ attribute_id t j b) × (attribute_id t j b ≡ 0 → ⊥)
unfolding attribute_of
attribute-there chars t j b z = go (eqb (attribute_id t j b) 0) refl z
  where
    read : Bool → ℕ
    read c = pick c (λ u. 0)
        (λ u. pick (and (is_possible_none b) (same_bytes (value_at_entry chars t (attribute_id t j b)) (fixed_bytes 1))) (λ v. 0)
        (λ v. attribute_id t j b))

    inner : (c : Bool) → (pick c (λ v. 0) (λ v. attribute_id t j b) ≡ 0 → ⊥) → pick c (λ v. 0) (λ v. attribute_id t j b)
        ≡ attribute_id t j b
    inner true y = absurd (y refl)
    inner false y = refl

    go : (c : Bool) → eqb (attribute_id t j b) 0 ≡ c → (read c ≡ 0 → ⊥) → (read c ≡ attribute_id t j b) × (attribute_id t j b ≡ 0 → ⊥)
    go true e y = absurd (y refl)
    go false e y = (
      inner (and (is_possible_none b) (same_bytes (value_at_entry chars t (attribute_id t j b)) (fixed_bytes 1))) y,
      eqb-false _ 0 e,
    )

-- The attribute a of node i is cut.
module _ (size : ℕ) (chars : List ℕ) (values : List Value) (bare : readings_of 0 values ≡ []) (t : Tree) (k : Tidy size t) (i a : ℕ)
    (h : attribute_id t i a ≡ 0 → ⊥) where
  abbrev pub after : Tree
  after = set_none (attribute_id t i a - 1) t

  -- The entry of any other attribute is as it was.
  pub entry_kept : (j b : ℕ) → (attribute_id t j b ≡ 0 → ⊥) → (j ≡ i → b ≡ a → ⊥) →
      entry_at after (attribute_id t j b - 1) ≡ entry_at t (attribute_id t j b - 1)
  entry_kept j b z d = none-others (attribute_id t i a - 1) t (attribute_id t j b - 1)
      (λ e. let q : attribute_id t i a ≡ attribute_id t j b = omega arith in let o = one-owner size t k i j a b h q in
      d (sym o.0) (sym o.1))

  value-kept : (j b : ℕ) → (attribute_id t j b ≡ 0 → ⊥) → (j ≡ i → b ≡ a → ⊥) →
      value_at_entry chars after (attribute_id t j b) ≡ value_at_entry chars t (attribute_id t j b)
  value-kept j b z d = ap (value_of chars) (entry_kept j b z d)

  -- What it counts as, and its readings.
  pub attribute-kept : (j b : ℕ) → (j ≡ i → b ≡ a → ⊥) → attribute_of chars after j b ≡ attribute_of chars t j b
  unfolding attribute_of
  attribute-kept j b d = rw (id_same (attribute_id t i a - 1) t j b) (go (ℕ_discrete (attribute_id t j b) 0))
    where
      read : Tree → ℕ
      read u = pick (eqb (attribute_id t j b) 0) (λ x. 0)
          (λ x. pick (and (is_possible_none b) (same_bytes (value_at_entry chars u (attribute_id t j b)) (fixed_bytes 1))) (λ y. 0)
          (λ y. attribute_id t j b))

      go : Dec (attribute_id t j b ≡ 0) → read after ≡ read t
      go (yes e) = rw (eq-eqb _ 0 e) refl
      go (no e) = ap (λ (v : List ℕ). pick (eqb (attribute_id t j b) 0) (λ x. 0)
          (λ x. pick (and (is_possible_none b) (same_bytes v (fixed_bytes 1))) (λ y. 0) (λ y. attribute_id t j b))) (value-kept j b e d)

  pub readings-kept : (j b : ℕ) → (j ≡ i → b ≡ a → ⊥) → readings_of_attribute chars values after b j
      ≡ readings_of_attribute chars values t b j
  unfolding readings_of_attribute
  readings-kept j b d = rw (attribute-kept j b d) (go (ℕ_discrete (attribute_of chars t j b) 0))
    where
      read : Tree → List Reading
      read u = pick (eqb (attribute_of chars t j b) 0) (λ x. [])
          (λ x. readings_of (entry_at u (attribute_of chars t j b - 1)).command values)

      go : Dec (attribute_of chars t j b ≡ 0) → read after ≡ read t
      go (yes e) = rw (eq-eqb _ 0 e) refl
      go (no e) =
          let f = attribute-there chars t j b e in
          let q : entry_at after (attribute_of chars t j b - 1) ≡ entry_at t (attribute_of chars t j b - 1) =
          rw f.0 (entry_kept j b f.1 d) in
          ap (λ x. pick (eqb (attribute_of chars t j b) 0) (λ x. []) (λ y. readings_of x.command values)) q

  -- The cut value has no readings.
  pub readings-gone : readings_of_attribute chars values after a i ≡ []
  unfolding readings_of_attribute
  readings-gone = go (ℕ_discrete (attribute_of chars after i a) 0)
    where
      fixed : (entry_at after (attribute_id t i a - 1)).command ≡ 0
      fixed = ap (λ x. x.command) (none-entry (attribute_id t i a - 1) t
          (omega (arith, attribute-any size t k.kept k.unused i a h, k.kept.fits.entries)))

      go : Dec (attribute_of chars after i a ≡ 0) →
          pick (eqb (attribute_of chars after i a) 0) (λ u. [])
          (λ u. readings_of (entry_at after (attribute_of chars after i a - 1)).command
          values) ≡ []
      go (yes e) = rw (eq-eqb _ 0 e) refl
      go (no e) =
          let f : attribute_of chars after i a ≡ attribute_id t i a =
          (attribute-there chars after i a e).0 ∙ id_same (attribute_id t i a - 1)
          t i a in
          rw (ne_eqb _ 0 e, f, fixed) bare

  -- Ids are as they were, where the name is not `id`.
  module _ (other : a ≡ AId.Id → ⊥) where
    has-id-kept : (id : List ℕ) (j : ℕ) → has_id_bytes chars after id j ≡ has_id_bytes chars t id j
    unfolding has_id_bytes
    has-id-kept id j = rw (id_same (attribute_id t i a - 1) t j AId.Id) (go (ℕ_discrete (attribute_id t j AId.Id) 0))
      where
        test : Tree → Bool
        test u = pick (eqb (attribute_id t j AId.Id) 0) (λ x. false) (λ x. same_bytes (value_at_entry chars u (attribute_id t j AId.Id)) id)

        go : Dec (attribute_id t j AId.Id ≡ 0) → test after ≡ test t
        go (yes e) = rw (eq-eqb _ 0 e) refl
        go (no e) = ap (λ (v : List ℕ). pick (eqb (attribute_id t j AId.Id) 0) (λ x. false) (λ x. same_bytes v id))
            (value-kept j AId.Id e (λ x y. other (sym y)))

    last-kept : (id : List ℕ) (n : ℕ) → last_with_id chars after id n ≡ last_with_id chars t id n
    unfolding last_with_id
    last-kept id zero = refl
    last-kept id (suc n) = rw (has-id-kept id n, last-kept id n) refl

    pub by-id-kept : (id : List ℕ) → element_by_id chars after id ≡ element_by_id chars t id
    unfolding element_by_id set_none
    by-id-kept id = last-kept id t.node_count

    pub element-id-kept : (j : ℕ) → element_id chars after j ≡ element_id chars t j
    unfolding element_id
    element-id-kept j = rw (id_same (attribute_id t i a - 1) t j AId.Id) (go (ℕ_discrete (attribute_id t j AId.Id) 0))
      where
        bytes : Tree → List ℕ
        bytes u = pick (eqb (attribute_id t j AId.Id) 0) (λ x. []) (λ x. value_at_entry chars u (attribute_id t j AId.Id))

        go : Dec (attribute_id t j AId.Id ≡ 0) → bytes after ≡ bytes t
        go (yes e) = rw (eq-eqb _ 0 e) refl
        go (no e) = ap (λ (v : List ℕ). pick (eqb (attribute_id t j AId.Id) 0) (λ x. []) (λ x. v))
            (value-kept j AId.Id e (λ x y. other (sym y)))
