-- The xml:space in force at a node stays the same whatever is built, trimmed or repaired after it.
use Prim.Native.Nat.{ℕ, zero, suc, ◌+◌, ◌-◌, ◌*◌, ◌≤◌, ◌<◌}
use Rattle.std.specs.Prelude.{◌≡◌, Bool, List, [], ◌∷◌, get_or, set}
use Rattle.std.proofs.Math.Path.{refl, ap}
use Rattle.std.proofs.Common.{sym, ◌∙◌, subst, inl, inr, get_or-set_other}
use Rattle.std.proofs.Math.Bool.{true, false}
use native.Mathlib.Omega.{arith}
use Rattle.std.proofs.Math.Decide.{dec_lt}
use borrow.Author.Tests.{eqb-true, eqb-false}
use Rattle.std.proofs.Math.Dec.{eqb}
use Rattle.model.specs.Base.{pick, same_bytes}
use Rattle.model.specs.AId
use Rattle.model.specs.Tables.{Tree, ELEMENT, TEXT, word, kind_of, parent_of, from_of, to_of, Entry, entry_word, entry_at, value_of}
use Rattle.model.specs.Tables.{value_at_entry}
use Rattle.model.specs.Tables.{find_entry, attribute_id, has_attribute, holder_from, set_text, set_none, add_element, add_text}
use Rattle.model.specs.Text.{default, preserve, preserve_word, get_xmlspace, space_of, cut_text, cut_from, cut_to}
use Rattle.model.specs.Repair.{Cut, cut_name, cut_entry, apply_cut, applied}
use Rattle.model.proofs.Theorems.Agree.{sets-out}
use Rattle.model.proofs.Theorems.Entries.{holder-falls, old-entry, none-others}
use Rattle.standards.proofs.Theorems.Trimmings.{bound-else}
use Rattle.standards.proofs.Theorems.WholeTexts.{text-old, element-old, one-cut}
use Rattle.standards.proofs.Theorems.Cascade.{id-name}

-- The first n nodes of the tree r have the same parents as in s, and say the same of xml:space.
pub record Sees (chars : List ℕ) (s r : Tree) (n : ℕ) : Type 0 where
  pub ids : (i : ℕ) → i < n → attribute_id r i AId.Space ≡ attribute_id s i AId.Space
  pub parents : (i : ℕ) → i < n → parent_of r i ≡ parent_of s i
  pub values : (i : ℕ) → i < n → (attribute_id s i AId.Space ≡ 0 → ⊥) →
      value_at_entry chars r (attribute_id s i AId.Space) ≡ value_at_entry chars s (attribute_id s i AId.Space)

module _ (chars : List ℕ) (s r : Tree) (n : ℕ) (k : Sees chars s r n) (falls : (i : ℕ) → i < n → parent_of s i ≤ i) where
  holder-seen : (m w : ℕ) → w ≤ n → holder_from r AId.Space m w ≡ holder_from s AId.Space m w
  unfolding holder_from
  holder-seen zero w l = refl
  holder-seen (suc m) w l = go (eqb w 0) refl (λ v b. holder-seen m v b)
    where
      go : (b : Bool) → eqb w 0 ≡ b → ((v : ℕ) → v ≤ n → holder_from r AId.Space m v ≡ holder_from s AId.Space m v) →
          pick b (λ u. 0) (λ u. pick (has_attribute r (w - 1) AId.Space) (λ v. w) (λ v. holder_from r AId.Space m (parent_of r (w - 1))))
          ≡ pick b (λ u. 0) (λ u. pick (has_attribute s (w - 1) AId.Space) (λ v. w) (λ v. holder_from s AId.Space m (parent_of s (w - 1))))
      go true e h = refl
      go false e h =
          let d : (w ≡ 0 → ⊥) = eqb-false w 0 e in
          let b : w - 1 < n = omega arith in
          rw (k.ids (w - 1) b, k.parents (w - 1) b, h (parent_of s (w - 1)) (omega (arith, falls (w - 1) b))) refl

  said-seen : (i : ℕ) → i < n → get_xmlspace chars r i default ≡ get_xmlspace chars s i default
  unfolding get_xmlspace
  said-seen i l = rw (k.ids i l) (go (eqb (attribute_id s i AId.Space) 0) refl)
    where
      go : (b : Bool) → eqb (attribute_id s i AId.Space) 0 ≡ b →
          pick b (λ u. default) (λ u. pick (same_bytes (value_at_entry chars r (attribute_id s i AId.Space)) preserve_word) (λ v. preserve)
          (λ v. default))
          ≡ pick b (λ u. default) (λ u. pick (same_bytes (value_at_entry chars s (attribute_id s i AId.Space)) preserve_word)
          (λ v. preserve)
          (λ v. default))
      go true e = refl
      go false e = rw (k.values i l (eqb-false (attribute_id s i AId.Space) 0 e)) refl

  pub space-seen : (i : ℕ) → i < n → space_of chars r i ≡ space_of chars s i
  unfolding space_of
  space-seen i l = rw (holder-seen (i + 1) (i + 1) (omega arith)) (go (eqb (holder_from s AId.Space (i + 1) (i + 1)) 0) refl)
    where
      low : holder_from s AId.Space (i + 1) (i + 1) ≤ i + 1
      low = holder-falls s AId.Space (i + 1) (i + 1) (λ j b. falls j (omega arith))

      go : (b : Bool) → eqb (holder_from s AId.Space (i + 1) (i + 1)) 0 ≡ b →
          pick b (λ u. default) (λ u. get_xmlspace chars r (holder_from s AId.Space (i + 1) (i + 1) - 1) default)
          ≡ pick b (λ u. default) (λ u. get_xmlspace chars s (holder_from s AId.Space (i + 1) (i + 1) - 1) default)
      go true e = refl
      go false e = said-seen (holder_from s AId.Space (i + 1) (i + 1) - 1) (omega (arith, low))

-- LOOKING UP A NAME

find-low : (t : Tree) (a j m : ℕ) → find_entry t a j m ≤ j + m
unfolding find_entry
find-low t a j zero = omega arith
find-low t a j (suc m) = go (eqb (entry_word t j 0) a) (find-low t a (j + 1) m)
  where
    go : (b : Bool) → find_entry t a (j + 1) m ≤ j + 1 + m → pick b (λ u. j + 1) (λ u. find_entry t a (j + 1) m) ≤ j + suc m
    go true h = omega arith
    go false h = omega arith

none_found : (t : Tree) (a j : ℕ) → find_entry t a j 0 ≡ 0
unfolding find_entry
none_found t a j = refl

-- The entry that is found lies before the end of the node's range.
id-low : (t : Tree) (i a : ℕ) → attribute_id t i a ≤ to_of t i
unfolding attribute_id
id-low t i a = go (eqb (kind_of t i) ELEMENT)
  where
    go : (b : Bool) → pick b (λ u. find_entry t a (from_of t i) (to_of t i - from_of t i)) (λ u. 0) ≤ to_of t i
    go true = at (dec_lt (from_of t i) (to_of t i))
      where
        at : Dec (from_of t i < to_of t i) → find_entry t a (from_of t i) (to_of t i - from_of t i) ≤ to_of t i
        at (yes l) = omega (arith, find-low t a (from_of t i) (to_of t i - from_of t i))
        at (no l) =
            let z : to_of t i - from_of t i ≡ 0 = omega arith in
            let e : find_entry t a (from_of t i) (to_of t i - from_of t i) ≡ 0 = ap (λ m. find_entry t a (from_of t i) m) z
            ∙ none_found t a (from_of t i) in
            omega (arith, e)
    go false = omega arith

find-below : (s r : Tree) (c a : ℕ) → ((j : ℕ) → j < c → entry_word r j 0 ≡ entry_word s j 0) → (j m : ℕ) → j + m ≤ c →
    find_entry r a j m ≡ find_entry s a j m
unfolding find_entry
find-below s r c a h j zero l = refl
find-below s r c a h j (suc m) l = rw (h j (omega arith), find-below s r c a h (j + 1) m (omega arith)) refl

-- The same of a node with the same range.
id_below : (s r : Tree) (c i a : ℕ) → ((j : ℕ) → j < c → entry_word r j 0 ≡ entry_word s j 0) → kind_of r i ≡ kind_of s i →
    (kind_of s i ≡ ELEMENT → (from_of r i ≡ from_of s i) × (to_of r i ≡ to_of s i) × (to_of s i ≤ c)) → attribute_id r i a
    ≡ attribute_id s i a
unfolding attribute_id
id_below s r c i a h x l = rw x (go (eqb (kind_of s i) ELEMENT) refl)
  where
    at : (to_of s i ≤ c) → Dec (from_of s i < to_of s i) →
        find_entry r a (from_of s i) (to_of s i - from_of s i) ≡ find_entry s a (from_of s i) (to_of s i - from_of s i)
    at k (yes b) = find-below s r c a h (from_of s i) (to_of s i - from_of s i) (omega arith)
    at k (no b) =
        let q : to_of s i - from_of s i ≡ 0 = omega arith in
        ap (λ m. find_entry r a (from_of s i) m) q ∙ none_found r a (from_of s i)
        ∙ sym (ap (λ m. find_entry s a (from_of s i) m) q ∙ none_found s a (from_of s i))

    go : (b : Bool) → eqb (kind_of s i) ELEMENT ≡ b → pick b (λ u. find_entry r a (from_of r i) (to_of r i - from_of r i)) (λ u. 0)
        ≡ pick b (λ u. find_entry s a (from_of s i) (to_of s i - from_of s i)) (λ u. 0)
    go true e = let k = l (eqb-true (kind_of s i) ELEMENT e) in rw (k.0, k.1) (at k.2 (dec_lt (from_of s i) (to_of s i)))
    go false e = refl

id-kind : (t : Tree) (i a : ℕ) → (attribute_id t i a ≡ 0 → ⊥) → kind_of t i ≡ ELEMENT
unfolding attribute_id
id-kind t i a = go (eqb (kind_of t i) ELEMENT) refl
  where
    go : (b : Bool) → eqb (kind_of t i) ELEMENT ≡ b → (pick b (λ u. find_entry t a (from_of t i) (to_of t i - from_of t i)) (λ u. 0) ≡ 0 →
        ⊥) → kind_of t i ≡ ELEMENT
    go true e h = eqb-true (kind_of t i) ELEMENT e
    go false e h = absurd (h refl)

-- THE SAME NODES

-- Every range of the first n nodes ends before entry c.
abbrev pub Ranges : Tree → ℕ → ℕ → Type 0
Ranges t n c = (i : ℕ) → i < n → kind_of t i ≡ ELEMENT → to_of t i ≤ c

-- The first n nodes of r are those of s but for links and for the bounds of texts, and the first c entries are the same.
pub record SameNodes (s r : Tree) (n c : ℕ) : Type 0 where
  pub kinds : (i : ℕ) → i < n → kind_of r i ≡ kind_of s i
  pub parents : (i : ℕ) → i < n → parent_of r i ≡ parent_of s i
  pub bounds : (i : ℕ) → i < n → kind_of s i ≡ ELEMENT → (from_of r i ≡ from_of s i) × (to_of r i ≡ to_of s i)
  pub entries : (j : ℕ) → j < c → entry_at r j ≡ entry_at s j

entry-name : (s r : Tree) (j : ℕ) → entry_at r j ≡ entry_at s j → entry_word r j 0 ≡ entry_word s j 0
unfolding entry_at
entry-name s r j h = ap (λ (e : Entry). e.name) h

pub same-sees : (chars : List ℕ) (s r : Tree) (n c : ℕ) → Ranges s n c → SameNodes s r n c → Sees chars s r n
same-sees chars s r n c g h = record {
  ids = λ i l. id_below s r c i AId.Space (λ j b. entry-name s r j (h.entries j b)) (h.kinds i l)
      (λ e. let b = h.bounds i l e in (b.0, b.1, g i l e));
  parents = h.parents;
  values = λ i l d. ap (value_of chars) (h.entries (attribute_id s i AId.Space - 1)
      (omega (arith, id-low s i AId.Space, g i l (id-kind s i AId.Space d))));
}

-- AFTER AN ELEMENT

pub element-same : (c : ℕ) (es : List Entry) (p : ℕ) (t : Tree) → SameNodes t (add_element c es p t) t.node_count t.attribute_count
element-same c es p t = record {
  kinds = λ i l. element-old c es p t i 0 l (omega arith) (λ x y. omega arith);
  parents = λ i l. element-old c es p t i 1 l (omega arith) (λ x y. omega arith);
  bounds = λ i l e. (
    element-old c es p t i 6 l (omega arith) (λ x y. omega arith),
    element-old c es p t i 7 l (omega arith)
        (λ x y. omega arith),
  );
  entries = λ j l. old-entry c es p t j (λ x y. omega arith);
}

-- AFTER A TEXT

pub text_same : (bs : List ℕ) (n p : ℕ) (t : Tree) → SameNodes t (add_text bs n p t) t.node_count t.attribute_count
text_same bs n p t = record {
  kinds = λ i l. text-old bs n p t i 0 l (omega arith) (λ x y. omega arith);
  parents = λ i l. text-old bs n p t i 1 l (omega arith) (λ x y. omega arith);
  bounds = λ i l e. (
    text-old bs n p t i 6 l (omega arith) (λ x y. omega arith),
    text-old bs n p t i 7 l (omega arith)
        (λ x y. omega arith),
  );
  entries = λ j l. unfold entry_at add_text in refl;
}

-- AFTER A CUT OF A TEXT

word_cut : (i a b : ℕ) (t : Tree) (j k : ℕ) → k < 6 → word (cut_text i a b t).nodes j k ≡ word t.nodes j k
unfolding cut_text set_text
word_cut i a b t j k l =
    get_or-set_other (set t.nodes (8 * i + 6) (cut_from (from_of t i) (to_of t i) a)) (8 * i + 7) (8 * j + k)
    (cut_to (from_of t i) (to_of t i) a b) 0 (omega arith)
    ∙ get_or-set_other t.nodes (8 * i + 6) (8 * j + k) (cut_from (from_of t i) (to_of t i) a) 0 (omega arith)

entries-cut : (i a b : ℕ) (t : Tree) (j : ℕ) → entry_at (cut_text i a b t) j ≡ entry_at t j
unfolding cut_text set_text entry_at
entries-cut i a b t j = refl

-- What a cut of a text node leaves as it was in s.
pub same-cut : (s : Tree) (n c i a b : ℕ) (t : Tree) → kind_of t i ≡ TEXT → ((j : ℕ) → kind_of t j ≡ kind_of s j) → SameNodes s t n c →
    SameNodes s (cut_text i a b t) n c
same-cut s n c i a b t k f h = record {
  kinds = λ j l. word_cut i a b t j 0 (omega arith) ∙ h.kinds j l;
  parents = λ j l. word_cut i a b t j 1 (omega arith) ∙ h.parents j l;
  bounds = λ j l e.
      let d : (j ≡ i → ⊥) = λ q. (let z : ◌≡◌ {A = ℕ} 2 3 = sym e ∙ sym (f j) ∙ ap (λ m. kind_of t m) q ∙ k in omega arith) in
      let u = h.bounds j l e in (bound-else i a b t j 6 (inl refl) d ∙ u.0, bound-else i a b t j 7 (inr refl) d ∙ u.1);
  entries = λ j l. entries-cut i a b t j ∙ h.entries j l;
}

-- AFTER THE REPAIRS

-- No pass cuts an attribute `space`.
cut-other : (k : ℕ) → cut_name k ≡ AId.Space → ⊥
unfolding cut_name
cut-other zero h = let z : ◌≡◌ {A = ℕ} 0 150 = h in omega arith
cut-other (suc zero) h = let z : ◌≡◌ {A = ℕ} 31 150 = h in omega arith
cut-other (suc (suc zero)) h = let z : ◌≡◌ {A = ℕ} 159 150 = h in omega arith
cut-other (suc (suc (suc zero))) h = let z : ◌≡◌ {A = ℕ} 9 150 = h in omega arith
cut-other (suc (suc (suc (suc zero)))) h = let z : ◌≡◌ {A = ℕ} 90 150 = h in omega arith
cut-other (suc (suc (suc (suc (suc zero))))) h = let z : ◌≡◌ {A = ℕ} 34 150 = h in omega arith
cut-other (suc (suc (suc (suc (suc (suc zero)))))) h = let z : ◌≡◌ {A = ℕ} 34 150 = h in omega arith
cut-other (suc (suc (suc (suc (suc (suc (suc k))))))) h = let z : ◌≡◌ {A = ℕ} 0 150 = h in omega arith

none-name : (j : ℕ) (t : Tree) (i : ℕ) → entry_word (set_none j t) i 0 ≡ entry_word t i 0
unfolding set_none
none-name j t i = sets-out (1 ∷ 0 ∷ 0 ∷ []) t.attributes (5 * j + 2) (5 * i + 0) (λ x y. omega arith)

none-find : (j : ℕ) (t : Tree) (a i m : ℕ) → find_entry (set_none j t) a i m ≡ find_entry t a i m
unfolding find_entry
none-find j t a i zero = refl
none-find j t a i (suc m) = rw (none-name j t i, none-find j t a (i + 1) m) refl

none-id : (j : ℕ) (t : Tree) (i a : ℕ) → attribute_id (set_none j t) i a ≡ attribute_id t i a
unfolding attribute_id find_entry set_none
none-id j t i a = go (eqb (kind_of t i) ELEMENT)
  where
    same_nodes : (set_none j t).nodes ≡ t.nodes
    same_nodes = refl

    go : (b : Bool) → pick (eqb (kind_of (set_none j t) i) ELEMENT)
        (λ u. find_entry (set_none j t) a (from_of (set_none j t) i) (to_of (set_none j t) i - from_of (set_none j t) i)) (λ u. 0)
        ≡ pick (eqb (kind_of t i) ELEMENT) (λ u. find_entry t a (from_of t i) (to_of t i - from_of t i)) (λ u. 0)
    go b = rw (same_nodes, none-find j t a (from_of t i) (to_of t i - from_of t i)) refl

none-sees : (chars : List ℕ) (j n : ℕ) (t : Tree) → ((entry_at t j).name ≡ AId.Space → ⊥) → Sees chars t (set_none j t) n
none-sees chars j n t d = record {
  ids = λ i l. none-id j t i AId.Space;
  parents = λ i l. unfold set_none in refl;
  values = λ i l q. ap (value_of chars) (none-others j t (attribute_id t i AId.Space - 1)
      (λ e. d (ap (λ (m : ℕ). (entry_at t m).name) (sym e) ∙ id-name t i AId.Space q)));
}

cut-space : (chars : List ℕ) (c : Cut) (t : Tree) → ((i : ℕ) → i < t.node_count → parent_of t i ≤ i) → (i : ℕ) → i < t.node_count →
    space_of chars (apply_cut t c) i ≡ space_of chars t i
unfolding apply_cut
cut-space chars c t falls i l = go (eqb (cut_entry t c.pass c.node) 0) refl
  where
    go : (b : Bool) → eqb (cut_entry t c.pass c.node) 0 ≡ b →
        space_of chars (pick b (λ u. t) (λ u. set_none (cut_entry t c.pass c.node - 1) t)) i ≡ space_of chars t i
    go true e = refl
    go false e = space-seen chars t (set_none (cut_entry t c.pass c.node - 1) t) t.node_count
        (none-sees chars (cut_entry t c.pass c.node - 1) t.node_count t
        (λ q. cut-other c.pass (sym (id-name t c.node (cut_name c.pass) (eqb-false (cut_entry t c.pass c.node) 0 e)) ∙ q)))
        falls i l

pub repaired-space : (chars : List ℕ) (cs : List Cut) (t : Tree) → ((i : ℕ) → i < t.node_count → parent_of t i ≤ i) → (i : ℕ) →
    i < t.node_count →
    space_of chars (applied t cs) i ≡ space_of chars t i
unfolding applied
repaired-space chars [] t falls i l = refl
repaired-space chars (c ∷ cs) t falls i l =
    let o = one-cut c t in
    repaired-space chars cs (apply_cut t c)
    (λ j b. subst (λ (ns : List ℕ). get_or ns (8 * j + 1) 0 ≤ j) (sym o.0) (falls j (subst (λ (m : ℕ). j < m) o.2 b))) i
    (subst (λ (m : ℕ). i < m) (sym o.2) l)
    ∙ cut-space chars c t falls i l
