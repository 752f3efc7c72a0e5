-- What a new node inside a text element leaves true of the tables. Assumes nothing.
use Prim.Native.Nat.{ℕ, ◌+◌, ◌*◌, ◌≤◌, ◌<◌}
use mathlib.Core.Path.{◌≡◌, refl, ap, ◌∙◌, subst}
use mathlib.Core.Bool.{Bool, true, false}
use mathlib.Core.List.{List}
use native.Mathlib.Omega.{arith}
use native.Mathlib.Decide.{dec_lt}
use borrow.Author.Tests.{leb-true, ltb-true}
use lib.Dec.{eqb, leb, ltb}
use lib.ListN.{length, get_or}
use Rattle.model.specs.Base.{pick}
use Rattle.model.specs.Names.{is_element}
use Rattle.model.specs.Drawing.{Element, Source}
use Rattle.model.specs.Tables.{Tree, refused, done, most, ELEMENT, TEXT, word, node_room, attribute_room, text_room}
use Rattle.model.specs.Tables.{entries_words, appended, add_element, add_text}
use Rattle.model.specs.Element.{entries_of, most_nodes, parse_svg_element}
use Rattle.model.specs.Text.{XmlSpace, get_xmlspace, space_of, trim_text, total_size, joined, append_text}
use Rattle.model.proofs.Theorems.Agree.{sets-out}
use Rattle.model.proofs.Theorems.Laws.{appended-old, appended-new}
use Rattle.model.specs.Theorems.Inside.{LiesElement}
use Rattle.model.specs.Theorems.Kept.{Tidy}
use Rattle.model.proofs.Theorems.Kept.{tidy-text}
use Rattle.element.proofs.Keeping.{element-grown}
use Rattle.label.specs.Walk.{Sound, quote_of}
use Rattle.label.proofs.Handing.{says_same}
use Rattle.pieces.proofs.Putting.{quoted-most}

-- From t to u nodes were added, each under e.
pub record Onward (size e : ℕ) (t u : Tree) : Type 0 where
  pub sound : Sound size e u
  pub more : t.node_count ≤ u.node_count
  pub old : (i : ℕ) → i < t.node_count → word u.nodes i 1 ≡ word t.nodes i 1
  pub says : (chars : List ℕ) (i : ℕ) → i < t.node_count → (w : XmlSpace) → get_xmlspace chars u i w ≡ get_xmlspace chars t i w

pub onward-none : (size e : ℕ) (t : Tree) → Sound size e t → Onward size e t t
onward-none size e t s = record { sound = s; more = omega arith; old = λ i l. refl; says = λ chars i l w. refl }

pub onward_then : (size e : ℕ) (t u v : Tree) → Onward size e t u → Onward size e u v → Onward size e t v
onward_then size e t u v a b = record {
  sound = b.sound;
  more = omega (arith, a.more, b.more);
  old = λ i l. b.old i (omega (arith, a.more)) ∙ a.old i l;
  says = λ chars i l w. b.says chars i (omega (arith, a.more)) w ∙ a.says chars i l w;
}

-- The new node below p is the last one.
pub record Under (size e : ℕ) (t u : Tree) (p : ℕ) : Type 0 where
  pub onward : Onward size e t u
  pub one : u.node_count ≡ t.node_count + 1
  pub new : word u.nodes t.node_count 1 ≡ p + 1

-- An element that was done is added.
pub made-element : (t : Tree) (p tag : ℕ) (b : Bool) (x : Element) (u : Tree) → done u ≡ parse_svg_element x tag b p t →
    (u ≡ add_element tag (entries_of t p tag b x) p t) × (t.node_count < node_room t)
unfolding parse_svg_element
made-element t p tag b x u h =
    go (leb (t.attribute_count + length (entries_of t p tag b x)) (attribute_room t)) (leb t.node_count most_nodes)
    (ltb t.node_count (node_room t)) refl h
  where
    go : (i j k : Bool) → ltb t.node_count (node_room t) ≡ k →
        done u ≡ pick i (λ v. pick j (λ v. pick k (λ w. done (add_element tag (entries_of t p tag b x) p t)) (λ w. refused 22))
        (λ v. refused 20)) (λ v. refused 23) →
        (u ≡ add_element tag (entries_of t p tag b x) p t) × (t.node_count < node_room t)
    go true true true q h = (cc, ltb-true _ _ q)
    go true true false q h = let z : ◌≡◌ {A = ℕ} 0 1 = cc in absurd (omega arith)
    go true false k q h = let z : ◌≡◌ {A = ℕ} 0 1 = cc in absurd (omega arith)
    go false j k q h = let z : ◌≡◌ {A = ℕ} 0 1 = cc in absurd (omega arith)

module _ (size e : ℕ) (t : Tree) (s : Sound size e t) (p : ℕ) (up : e ≤ p) (below : p < t.node_count) where
  with-node : (u : Tree) (kind code from to : ℕ) → u.nodes ≡ appended kind code from to t.nodes p t.node_count →
      u.node_count ≡ t.node_count + 1 → 8 * t.node_count + 8 ≤ length t.nodes → Tidy size u →
      (u.node_count ≤ most) × (u.attribute_count ≤ most) × (u.text_count ≤ most) →
      ((q : ℕ) → q < 5 * t.attribute_count → get_or u.attributes q 0 ≡ get_or t.attributes q 0) → Under size e t u p
  with-node u kind code from to nodes one room tidy few agree = record {
    onward = record {
      sound = record { tidy = tidy; few = few; under = λ i l b. under i l b (dec_lt i t.node_count) };
      more = omega (arith, one);
      old = λ i l. old i 1 l (omega arith) (λ x y. omega arith);
      says = λ chars i l w. says_same chars t u t.attribute_count i (old i 0 l (omega arith) (λ x y. omega arith))
          (old i 6 l (omega arith) (λ x y. omega arith)) (old i 7 l (omega arith) (λ x y. omega arith))
          (s.tidy.kept.nodes i l).range agree w;
    };
    one = one;
    new = new;
  }
    where
      old : (i k : ℕ) → i < t.node_count → k < 8 → (2 ≤ k → k ≤ 4 → ⊥) → word u.nodes i k ≡ word t.nodes i k
      old i k l b h =
          ap (λ (ns : List ℕ). word ns i k) nodes ∙ appended-old kind code from to t.nodes p t.node_count i k l b h

      new : word u.nodes t.node_count 1 ≡ p + 1
      new =
          ap (λ (ns : List ℕ). word ns t.node_count 1) nodes
          ∙ appended-new kind code from to t.nodes p t.node_count 1 room (omega arith) (λ x y. omega arith)

      under : (i : ℕ) → e < i → i < u.node_count → Dec (i < t.node_count) → e + 1 ≤ word u.nodes i 1
      under i l b (yes d) = omega (arith, old i 1 d (omega arith) (λ x y. omega arith), s.under i l d)
      under i l b (no d) =
          let z : i ≡ t.node_count = omega (arith, one) in
          let y : word u.nodes i 1 ≡ p + 1 = ap (λ k. word u.nodes k 1) z ∙ new in
          omega arith

  -- An element.
  module _ (tag : ℕ) (is : is_element tag ≡ true) (b : Bool) (x : Element) (lies : LiesElement size x) where
    pub element-under : (u : Tree) → done u ≡ parse_svg_element x tag b p t → Under size e t u p
    unfolding add_element node_room
    element-under u h =
        let m = made-element t p tag b x u h in
        let g = element-grown size t s.tidy tag is p below b x lies u h in
        let texts : u.text_count ≡ t.text_count = ap (λ (v : Tree). v.text_count) m.0 in
        with-node u ELEMENT tag t.attribute_count (t.attribute_count + length (entries_of t p tag b x))
        (ap (λ (v : Tree). v.nodes) m.0) g.one
        (omega (arith, m.1)) g.tidy (g.few.0, g.few.1, omega (arith, texts, s.few.2))
        (λ q l. ap (λ (v : Tree). get_or v.attributes q 0) m.0
        ∙ sets-out (entries_words (entries_of t p tag b x)) t.attributes (5 * t.attribute_count) q (λ y z. omega arith))

  -- A text node.
  module _ (chars : List ℕ) (from : List Source) where
    abbrev bytes : List ℕ
    bytes = trim_text (space_of chars t p) (joined chars from)

    made-text : (u : Tree) → done u ≡ append_text chars from p t →
        (u ≡ add_text bytes (total_size from) p t) × (t.text_count + total_size from ≤ text_room t) × (t.node_count < node_room t)
    unfolding append_text
    made-text u h = go (leb (t.text_count + total_size from) (text_room t)) (ltb t.node_count (node_room t)) refl refl h
      where
        go : (i k : Bool) → leb (t.text_count + total_size from) (text_room t) ≡ i → ltb t.node_count (node_room t) ≡ k →
            done u ≡ pick i (λ v. pick k (λ w. done (add_text bytes (total_size from) p t)) (λ w. refused 22)) (λ v. refused 24) →
            (u ≡ add_text bytes (total_size from) p t) × (t.text_count + total_size from ≤ text_room t) × (t.node_count < node_room t)
        go true true q r h = (cc, leb-true _ _ q, ltb-true _ _ r)
        go true false q r h = let z : ◌≡◌ {A = ℕ} 0 1 = cc in absurd (omega arith)
        go false k q r h = let z : ◌≡◌ {A = ℕ} 0 1 = cc in absurd (omega arith)

    pub text-onward : (u : Tree) → done u ≡ append_text chars from p t → Onward size e t u
    unfolding add_text node_room text_room
    text-onward u h =
        let m = made-text u h in
        let tidy = tidy-text size t s.tidy bytes (total_size from) p below (omega (arith, m.2))
        (quoted-most (space_of chars t p) chars from) (omega (arith, m.1)) in
        (with-node u TEXT 0 t.text_count (t.text_count + length bytes) (ap (λ (v : Tree). v.nodes) m.0)
        (ap (λ (v : Tree). v.node_count) m.0) (omega (arith, m.2)) (rw m.0 tidy)
        (rw m.0 (omega (arith, m.2), s.few.1, omega (arith, m.1)))
        (λ q l. ap (λ (v : Tree). get_or v.attributes q 0) m.0)).onward

    pub quote-onward : (u : Tree) → done u ≡ quote_of chars from p t → Onward size e t u
    quote-onward u h = go (eqb (total_size from) 0) h
      where
        go : (b : Bool) → done u ≡ pick b (λ v. done t) (λ v. append_text chars from p t) → Onward size e t u
        go true h = let z : t ≡ u = cc in subst (Onward size e t) z (onward-none size e t s)
        go false h = text-onward u h
