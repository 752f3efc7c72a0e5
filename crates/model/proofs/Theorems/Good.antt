-- What holds of the tables and the notes of a build at all times, and what a trimming can reach.
use Rattle.std.specs.Prelude.{ℕ, zero, suc, ◌+◌, ◌*◌, ◌≤◌, ◌<◌, ◌≡◌, refl, true, List, [], ◌∷◌, eqb, length, get_or}
use Rattle.std.proofs.Common.{sym, ap, ◌∙◌, inl, inr, arith, add-one, eq-eqb, ne_eqb}
use Rattle.std.proofs.Math.Decide.{dec_lt}
use Rattle.model.specs.EId
use Rattle.model.specs.Base.{pick}
use Rattle.model.specs.Names.{is_element}
use Rattle.model.specs.Drawing.{Source}
use Rattle.model.specs.Text.{total_size}
use Rattle.model.specs.Tables.{Tree, ELEMENT, TEXT, word, kind_of, from_of, to_of, appended, Entry, add_element, add_text}
use Rattle.model.specs.Noted.{Note, size, In, note_of}
use Rattle.model.specs.Demand3.{text_nodes_down}
use Rattle.model.specs.Theorems.Sim.{Every}
use Rattle.model.specs.Theorems.Kept.{KeptEntry}
use Rattle.model.proofs.Theorems.Kept.{tidy-element, tidy-text}
use Rattle.model.proofs.Theorems.Laws.{appended-old, appended-new}
use Rattle.model.specs.Under.{Under, IsTextElement}
use Rattle.model.proofs.Under.{under-appended, under-new}
use Rattle.model.specs.Theorems.Good.{Fits, Good}

-- Notes still fit where the words of their nodes are the same.
fits_on : (n : Note) (s t : Tree) → kind_of t n.node ≡ kind_of s n.node → from_of t n.node ≡ from_of s n.node →
    to_of t n.node ≡ to_of s n.node →
    Fits n s → Fits n t
fits_on n s t a b c f = record { kind = a ∙ f.kind; low = rw b f.low; mid = rw (b, c) f.mid; high = rw c f.high }

-- APPENDING

module _ (kind code from to : ℕ) (ns : List ℕ) (p i : ℕ) where
  old : (j k : ℕ) → j < i → k < 8 → (2 ≤ k → k ≤ 4 → ⊥) → word (appended kind code from to ns p i) j k ≡ word ns j k
  old j k l b h = appended-old kind code from to ns p i j k l b h

  pub old_element : (j c : ℕ) → j < i → (word ns j 0 ≡ ELEMENT) × (word ns j 5 ≡ c) →
      (word (appended kind code from to ns p i) j 0 ≡ ELEMENT) × (word (appended kind code from to ns p i) j 5 ≡ c)
  old_element j c l h = (old j 0 l (omega arith) (λ x y. omega arith) ∙ h.0, old j 5 l (omega arith) (λ x y. omega arith) ∙ h.1)

-- The text nodes of tables with the same kinds.
pub text-nodes-keep : (s t : Tree) (n : ℕ) → ((j : ℕ) → j < n → kind_of s j ≡ kind_of t j) → text_nodes_down s n ≡ text_nodes_down t n
unfolding text_nodes_down
text-nodes-keep s t zero h = refl
text-nodes-keep s t (suc n) h = rw (h n (omega arith), text-nodes-keep s t n (λ j l. h j (omega arith))) refl

-- One node more.
text-nodes-more : (t : Tree) (n : ℕ) →
    text_nodes_down t (n + 1) ≡ pick (eqb (kind_of t n) TEXT) (λ u. n ∷ text_nodes_down t n) (λ u. text_nodes_down t n)
unfolding text_nodes_down
text-nodes-more t n = ap (text_nodes_down t) (add-one n)

pub good-element : (size' : ℕ) (ns : List Note) (c : ℕ) (es : List Entry) (p : ℕ) (t : Tree) → is_element c ≡ true → p < t.node_count →
    8 * t.node_count + 8 ≤ length t.nodes → 5 * (t.attribute_count + length es) ≤ length t.attributes → Every (KeptEntry size') es →
    Good size' ns t → Good size' ns (add_element c es p t)
unfolding add_element
good-element size' ns c es p t is pb room space ev g = record {
  tidy = tidy-element size' t g.tidy c es p is pb room space ev;
  tiles = g.tiles;
  each = g.each ∙ sym (text-nodes-keep (add_element c es p t) t t.node_count (λ j l. was j 0 l (omega arith) (λ x y. omega arith)))
      ∙ sym (text-nodes-more (add_element c es p t) t.node_count ∙ rw (ne_eqb _ TEXT new-kind) refl);
  fits = λ n h. let b : n.node < t.node_count = (g.below n h).0 in
      fits_on n t _ (was n.node 0 b (omega arith) (λ x y. omega arith)) (was n.node 6 b (omega arith) (λ x y. omega arith))
      (was n.node 7 b (omega arith) (λ x y. omega arith)) (g.fits n h);
  below = λ n h. (omega (arith, (g.below n h).0), (g.below n h).1);
  apart = g.apart;
  placed = λ n h. let f = g.placed n h in (
    omega (arith, f.0),
    old_element ELEMENT c a b t.nodes p t.node_count n.elem EId.Text f.0 f.1,
    under-appended ELEMENT c a b t.nodes p t.node_count n.elem n.node (g.below n h).0 f.2,
  );
  noted = λ i h k. go i h k (dec_lt i t.node_count);
}
  where
    a : ℕ
    a = t.attribute_count

    b : ℕ
    b = t.attribute_count + length es

    was : (j k : ℕ) → j < t.node_count → k < 8 → (2 ≤ k → k ≤ 4 → ⊥) →
        word (appended ELEMENT c a b t.nodes p t.node_count) j k ≡ word t.nodes j k
    was j k l x h = appended-old ELEMENT c a b t.nodes p t.node_count j k l x h

    new-kind : word (appended ELEMENT c a b t.nodes p t.node_count) t.node_count 0 ≡ TEXT → ⊥
    new-kind k =
        let z : ◌≡◌ {A = ℕ} 2 3 = sym (appended-new ELEMENT c a b t.nodes p t.node_count 0 room (omega arith) (λ x y. omega arith))
        ∙ k in omega arith

    go : (i : ℕ) → i < t.node_count + 1 → word (appended ELEMENT c a b t.nodes p t.node_count) i 0 ≡ TEXT → Dec (i < t.node_count) →
        (n : Note) × In n ns × (n.node ≡ i)
    go i h k (yes l) = g.noted i l (sym (was i 0 l (omega arith) (λ x y. omega arith)) ∙ k)
    go i h k (no l) =
        let e : i ≡ t.node_count = omega arith in
        absurd (new-kind (rw e at k))

pub good-text : (size' : ℕ) (ns : List Note) (e p : ℕ) (bs : List ℕ) (from : List Source) (t : Tree) →
    8 * t.node_count + 8 ≤ length t.nodes →
    t.text_count + total_size from ≤ length t.text → length bs ≤ total_size from → e < t.node_count → IsTextElement t e →
    p < t.node_count →
    Under t.nodes e p → Good size' ns t → Good size' (note_of e from t.node_count t.text_count ∷ ns) (add_text bs (total_size from) p t)
unfolding add_text
good-text size' ns e p bs from t room space l eb ec pb pu g = record {
  tidy = tidy-text size' t g.tidy bs (total_size from) p pb room l space;
  tiles = (refl, g.tiles);
  each = ap (λ m. t.node_count ∷ m) (g.each
      ∙ sym (text-nodes-keep grown t t.node_count (λ j l. was j 0 l (omega arith) (λ x y. omega arith))))
      ∙ sym (text-nodes-more grown t.node_count ∙ rw (eq-eqb _ TEXT (its 0 (omega arith) (λ x y. omega arith))) refl);
  fits = λ n h. fit n h;
  below = λ n h. low n h;
  apart = (g.below, g.apart);
  placed = λ n h. place n h;
  noted = λ i h k. go i h k (dec_lt i t.node_count);
}
  where
    new : Note
    new = note_of e from t.node_count t.text_count

    grown : Tree
    grown = add_text bs (total_size from) p t

    a : ℕ
    a = t.text_count

    b : ℕ
    b = t.text_count + length bs

    was : (j k : ℕ) → j < t.node_count → k < 8 → (2 ≤ k → k ≤ 4 → ⊥) →
        word (appended TEXT 0 a b t.nodes p t.node_count) j k ≡ word t.nodes j k
    was j k l x h = appended-old TEXT 0 a b t.nodes p t.node_count j k l x h

    its : (k : ℕ) → k < 8 → (2 ≤ k → k ≤ 4 → ⊥) → word (appended TEXT 0 a b t.nodes p t.node_count) t.node_count k
        ≡ get_or (TEXT ∷ (p + 1) ∷ 0 ∷ 0 ∷ 0 ∷ 0 ∷ a ∷ b ∷ []) k 0
    its k x h = appended-new TEXT 0 a b t.nodes p t.node_count k room x h

    fit : (n : Note) → In n (new ∷ ns) → Fits n grown
    fit n (inl h) = rw h (record {
      kind = its 0 (omega arith) (λ x y. omega arith);
      low = rw (its 6 (omega arith) (λ x y. omega arith)) (omega arith);
      mid = rw (its 6 (omega arith) (λ x y. omega arith), its 7 (omega arith) (λ x y. omega arith)) (omega arith);
      high = rw (its 7 (omega arith) (λ x y. omega arith)) (omega arith);
    })
    fit n (inr h) =
        let b : n.node < t.node_count = (g.below n h).0 in
        fits_on n t _ (was n.node 0 b (omega arith) (λ x y. omega arith)) (was n.node 6 b (omega arith) (λ x y. omega arith))
        (was n.node 7 b (omega arith) (λ x y. omega arith)) (g.fits n h)

    place : (n : Note) → In n (new ∷ ns) → (n.elem < t.node_count + 1)
        × ((word (appended TEXT 0 a b t.nodes p t.node_count) n.elem 0 ≡ ELEMENT)
        × (word (appended TEXT 0 a b t.nodes p t.node_count) n.elem 5 ≡ EId.Text))
        × Under (appended TEXT 0 a b t.nodes p t.node_count) n.elem n.node
    place n (inl h) = rw h (
      omega arith,
      old_element TEXT 0 a b t.nodes p t.node_count e EId.Text eb ec,
      under-new TEXT 0
          a b t.nodes p t.node_count e room pb pu,
    )
    place n (inr h) = let f = g.placed n h in (
      omega (arith, f.0),
      old_element TEXT 0 a b t.nodes p t.node_count n.elem EId.Text f.0 f.1,
      under-appended TEXT 0 a b t.nodes p t.node_count n.elem n.node (g.below n h).0 f.2,
    )

    low : (n : Note) → In n (new ∷ ns) → (n.node < grown.node_count) × (n.start + size n ≤ grown.text_count)
    low n (inl h) = rw h (omega arith, omega arith)
    low n (inr h) = (omega (arith, (g.below n h).0), omega (arith, (g.below n h).1))

    go : (i : ℕ) → i < t.node_count + 1 → word (appended TEXT 0 a b t.nodes p t.node_count) i 0 ≡ TEXT → Dec (i < t.node_count) →
        (n : Note) × In n (new ∷ ns) × (n.node ≡ i)
    go i h k (yes d) = let f = g.noted i d (sym (was i 0 d (omega arith) (λ x y. omega arith)) ∙ k) in (f.0, inr f.1, f.2)
    go i h k (no d) = (new, inl refl, omega arith)
