-- The space that is handed down from a node to its children, in tables that grow. Assumes nothing.
use Prim.Native.Nat.{ℕ, zero, suc, ◌+◌, ◌-◌, ◌*◌, ◌≤◌, ◌<◌}
use mathlib.Core.Path.{◌≡◌, refl, sym, ap, ◌∙◌}
use mathlib.Core.Bool.{Bool, true, false}
use mathlib.Core.List.{List}
use native.Mathlib.Omega.{arith}
use native.Mathlib.Decide.{ℕ_discrete}
use borrow.Author.Tests.{eq-eqb, ne_eqb, eqb-false}
use lib.Dec.{eqb}
use lib.ListN.{get_or}
use Rattle.std.specs.Prelude.{Option, Some, None}
use Rattle.std.specs.Option.{is_some}
use Rattle.tree.specs.Lent.{plus_one}
use Rattle.model.specs.Base.{pick, same_bytes}
use Rattle.model.specs.AId
use Rattle.model.specs.Tables.{Tree, ELEMENT, kind_of, parent_of, from_of, to_of, find_entry, attribute_id, has_attribute}
use Rattle.model.specs.Tables.{value_of, value_at_entry, holder_from}
use Rattle.model.specs.Text.{XmlSpace, default, preserve, preserve_word, get_xmlspace, space_of}
use Rattle.model.proofs.Theorems.Entries.{entry-by-words}
use Rattle.model.proofs.Theorems.Kept.{find-within}
use Rattle.tree.proofs.Climbs.{holder-climbs, climb-step}

-- The space from the node whose index plus 1 is w.
abbrev pub space_from : List ℕ → Tree → ℕ → XmlSpace
space_from chars t w =
    pick (eqb (holder_from t AId.Space w w) 0) (λ u. default) (λ u. get_xmlspace chars t (holder_from t AId.Space w w - 1) default)

pub space-from : (chars : List ℕ) (t : Tree) (i : ℕ) → space_of chars t i ≡ space_from chars t (i + 1)
unfolding space_of
space-from chars t i = refl

-- What a node says itself does not depend on what it is handed.
said : (chars : List ℕ) (t : Tree) (i : ℕ) (v w : XmlSpace) → eqb (attribute_id t i AId.Space) 0 ≡ false →
    get_xmlspace chars t i v ≡ get_xmlspace chars t i w
unfolding get_xmlspace
said chars t i v w e = rw e refl

pub unsaid : (chars : List ℕ) (t : Tree) (i : ℕ) (w : XmlSpace) → eqb (attribute_id t i AId.Space) 0 ≡ true → get_xmlspace chars t i w ≡ w
unfolding get_xmlspace
unsaid chars t i w e = rw e refl

-- A node hands down what it says itself, else what it is handed.
pub space-step : (chars : List ℕ) (t : Tree) (i : ℕ) → ((k : ℕ) → k ≤ i → parent_of t k ≤ k) →
    space_of chars t i ≡ get_xmlspace chars t i (space_from chars t (parent_of t i))
unfolding space_of
space-step chars t i falls = go (eqb (attribute_id t i AId.Space) 0) refl
  where
    has : ℕ → Bool
    has k = has_attribute t k AId.Space

    one : i + 1 - 1 ≡ i
    one = omega arith

    held : holder_from t AId.Space (i + 1) (i + 1)
        ≡ pick (has i) (λ v. i + 1) (λ v. holder_from t AId.Space (parent_of t i) (parent_of t i))
    held =
        holder-climbs t AId.Space (i + 1) (i + 1)
        ∙ climb-step has (parent_of t) i falls
        ∙ ap (λ k. pick (has i) (λ v. i + 1) (λ v. k)) (sym (holder-climbs t AId.Space (parent_of t i) (parent_of t i)))

    go : (b : Bool) → eqb (attribute_id t i AId.Space) 0 ≡ b →
        pick (eqb (holder_from t AId.Space (i + 1) (i + 1)) 0) (λ u. default)
        (λ u. get_xmlspace chars t (holder_from t AId.Space (i + 1) (i + 1) - 1) default)
        ≡ get_xmlspace chars t i (space_from chars t (parent_of t i))
    go true e =
        let h : holder_from t AId.Space (i + 1) (i + 1) ≡ holder_from t AId.Space (parent_of t i) (parent_of t i) =
        held ∙ rw e refl in
        rw h (sym (unsaid chars t i (space_from chars t (parent_of t i)) e))
    go false e =
        let h : holder_from t AId.Space (i + 1) (i + 1) ≡ i + 1 = held ∙ rw e refl in
        rw (h, ne_eqb (i + 1) 0 (λ z. omega arith), one) (said chars t i default (space_from chars t (parent_of t i)) e)

unset : (o : Option ℕ) → is_some o ≡ false → plus_one o ≡ 0
unset None e = refl
unset (Some i) e = cc

-- Where a node says no space itself, its parent hands down the same.
pub parent-space : (chars : List ℕ) (t : Tree) (p q : ℕ) → ((k : ℕ) → k ≤ p → parent_of t k ≤ k) → parent_of t p ≡ q + 1 → (w : XmlSpace) →
    w ≡ space_of chars t p → (o : Option ℕ) → plus_one o ≡ attribute_id t p AId.Space → is_some o ≡ false → w ≡ space_of chars t q
parent-space chars t p q falls e w told o found none =
    told ∙ space-step chars t p falls ∙ unsaid chars t p _ (eq-eqb _ 0 (sym found ∙ unset o none)) ∙ ap (space_from chars t) e
    ∙ sym (space-from chars t q)

-- IN TABLES THAT GROW

-- Node i and its entries, which lie among the first n, are the same.
module _ (chars : List ℕ) (t u : Tree) (n i : ℕ) (kind : kind_of u i ≡ kind_of t i) (from : from_of u i ≡ from_of t i)
    (to : to_of u i ≡ to_of t i)
    (range : kind_of t i ≡ ELEMENT → (from_of t i ≤ to_of t i) × (to_of t i ≤ n))
    (agree : (q : ℕ) → q < 5 * n → get_or u.attributes q 0 ≡ get_or t.attributes q 0) where
  find-same : (a j m : ℕ) → j + m ≤ n → find_entry u a j m ≡ find_entry t a j m
  unfolding find_entry
  find-same a j zero l = refl
  find-same a j (suc m) l = rw (agree (5 * j + 0) (omega arith), find-same a (j + 1) m (omega arith)) refl

  id_same : (a : ℕ) → attribute_id u i a ≡ attribute_id t i a
  unfolding attribute_id
  id_same a = rw (kind, from, to) (go (ℕ_discrete (kind_of t i) ELEMENT))
    where
      go : Dec (kind_of t i ≡ ELEMENT)
          → pick (eqb (kind_of t i) ELEMENT) (λ u'. find_entry u a (from_of t i) (to_of t i - from_of t i)) (λ u'. 0)
          ≡ pick (eqb (kind_of t i) ELEMENT) (λ u'. find_entry t a (from_of t i) (to_of t i - from_of t i)) (λ u'. 0)
      go (yes e) =
          let r = range e in
          rw (eq-eqb (kind_of t i) ELEMENT e) (find-same a (from_of t i) (to_of t i - from_of t i) (omega (arith, r.0, r.1)))
      go (no e) = rw (ne_eqb (kind_of t i) ELEMENT e) refl

  id-within : (a : ℕ) → (attribute_id t i a ≡ 0 → ⊥) → attribute_id t i a ≤ n
  unfolding attribute_id
  id-within a h = go (ℕ_discrete (kind_of t i) ELEMENT)
    where
      go : Dec (kind_of t i ≡ ELEMENT) → attribute_id t i a ≤ n
      go (no e) = absurd (h (rw (ne_eqb (kind_of t i) ELEMENT e) refl))
      go (yes e) =
          let r = range e in
          let q : attribute_id t i a ≡ find_entry t a (from_of t i) (to_of t i - from_of t i) = rw (eq-eqb (kind_of t i) ELEMENT e) refl in
          let f = find-within t a (from_of t i) (to_of t i - from_of t i) (λ m. h (q ∙ m)) in
          omega (arith, q, f.1, r.0, r.1)

  pub says_same : (w : XmlSpace) → get_xmlspace chars u i w ≡ get_xmlspace chars t i w
  unfolding get_xmlspace
  says_same w = rw (id_same AId.Space) (go (eqb (attribute_id t i AId.Space) 0) refl)
    where
      go : (b : Bool) → eqb (attribute_id t i AId.Space) 0 ≡ b →
          pick b (λ u'. w) (λ u'. pick (same_bytes (value_at_entry chars u (attribute_id t i AId.Space)) preserve_word) (λ v. preserve)
          (λ v. default))
          ≡ pick b (λ u'. w) (λ u'. pick (same_bytes (value_at_entry chars t (attribute_id t i AId.Space)) preserve_word) (λ v. preserve)
          (λ v. default))
      go true e = refl
      go false e =
          let l : attribute_id t i AId.Space ≤ n = id-within AId.Space (eqb-false _ 0 e) in
          let d : (attribute_id t i AId.Space ≡ 0 → ⊥) = eqb-false _ 0 e in
          ap (λ x. pick (same_bytes (value_of chars x) preserve_word) (λ v. preserve) (λ v. default))
          (entry-by-words u t (attribute_id t i AId.Space - 1) (λ k b. agree (5 * (attribute_id t i AId.Space - 1) + k) (omega arith)))

-- The space of every node that was there stays.
module _ (chars : List ℕ) (t u : Tree) (n : ℕ)
    (says : (i : ℕ) → i < n → (w : XmlSpace) → get_xmlspace chars u i w ≡ get_xmlspace chars t i w)
    (parents : (i : ℕ) → i < n → parent_of u i ≡ parent_of t i) (falls : (i : ℕ) → i < n → parent_of t i ≤ i) where
  from-same : (m w : ℕ) → w ≤ m → w ≤ n → space_from chars u w ≡ space_from chars t w
  unfolding holder_from
  from-same zero w h l = let z : w ≡ 0 = omega arith in rw z refl
  from-same (suc m) w h l = go (ℕ_discrete w 0) (λ v a b. from-same m v a b)
    where
      go : Dec (w ≡ 0) → ((v : ℕ) → v ≤ m → v ≤ n → space_from chars u v ≡ space_from chars t v)
          → space_from chars u w ≡ space_from chars t w
      go (yes z) r = rw z refl
      go (no z) r =
          let i : ℕ = w - 1 in
          let e : w ≡ i + 1 = omega arith in
          let f : parent_of t i ≤ i = falls i (omega arith) in
          rw e (
          sym (space-from chars u i)
          ∙ space-step chars u i (λ k b. let g = parents k (omega arith) in omega (arith, falls k (omega arith)))
          ∙ ap (λ q. get_xmlspace chars u i (space_from chars u q)) (parents i (omega arith))
          ∙ says i (omega arith) (space_from chars u (parent_of t i))
          ∙ ap (get_xmlspace chars t i) (r (parent_of t i) (omega arith) (omega arith))
          ∙ sym (space-step chars t i (λ k b. falls k (omega arith))) ∙ space-from chars t i)

  pub old-space : (i : ℕ) → i < n → space_of chars u i ≡ space_of chars t i
  old-space i l =
      space-from chars u i ∙ from-same (i + 1) (i + 1) (omega arith) (omega arith) ∙ sym (space-from chars t i)
