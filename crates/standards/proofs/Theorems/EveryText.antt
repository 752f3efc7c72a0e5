-- Every build: what every text node is made of, by the xml:space in force, and SVG 1.1's text of a node that is alone in its text element.
use Prim.Native.Nat.{ℕ, zero, suc, ◌+◌, ◌-◌, ◌*◌, ◌≤◌, ◌<◌}
use Rattle.std.proofs.Math.Path.{◌≡◌, sym, subst}
use Rattle.std.specs.Prelude.{refl, Bool, true, false, eqb, leb, ltb, set, replicate}
use Rattle.std.proofs.Common.{ap, ap₂, ◌∙◌, inl, inr, get_or-set_same}
use mathlib.Core.List.{List, [], ◌∷◌}
use native.Mathlib.Omega.{arith}
use Rattle.std.proofs.Math.Decide.{dec_lt, ℕ_discrete}
use borrow.Author.Tests.{eqb-true, eqb-false, ne_eqb, leb-true, not-false}
use Rattle.std.proofs.Math.ListN.{length, get_or}
use Rattle.std.proofs.Math.Seq.{slice, get_or-set_other}
use Rattle.model.specs.Base.{pick}
use Rattle.model.specs.EId
use Rattle.model.specs.Utf8.{is_utf8}
use Rattle.model.specs.Drawing.{Command, opening, attribute, declaration, reading, closing, broken, Mark, past, Element, Source, Event}
use Rattle.model.specs.Drawing.{commands, events_from, events, values_in}
use Rattle.model.specs.Check.{State, starting, first_of, string_tests, tests_of, stepped, check_from, check}
use Rattle.model.specs.Tables.{Tree, Out, refused, done, ELEMENT, TEXT, word, kind_of, parent_of, to_of, text_of, Entry, node_room}
use Rattle.model.specs.Tables.{attribute_room, text_room, add_element, add_text, cleared, rooted}
use Rattle.model.specs.Element.{entries_of, most_nodes, parse_svg_element}
use Rattle.model.specs.Text.{XmlSpace, default, preserve, space_of, get_xmlspace, trim_text, total_size, joined, append_text, Trimming}
use Rattle.model.specs.Text.{stop}
use Rattle.model.specs.Text.{look, cut, cut_text, run, TextNode, depth_below, text_nodes, own_text_nodes, trimming, trim_text_nodes}
use Rattle.model.specs.Parse.{inside, label, plain}
use Rattle.model.specs.Noted.{Note, size, Noted, In, note_of, noting, noted_parsed, noted_tree, notes_of, notes, stripped}
use Rattle.model.specs.Build.{Result, build, answered, with_repairs, with_root, parsed, tested, first_is_svg}
use Rattle.model.specs.Repair.{Cut, applied, repairs, repaired}
use Rattle.model.proofs.Theorems.Laws.{appended-new, room_fits}
use Rattle.model.specs.Theorems.Reach.{Within}
use Rattle.model.proofs.Theorems.Reach.{within-trimming, own-collected}
use Rattle.model.specs.Theorems.Sim.{Every}
use Rattle.model.proofs.Theorems.Inside.{first-drop, check-cons, check-walk}
use Rattle.model.specs.Theorems.Always.{Always}
use Rattle.model.proofs.Theorems.Always.{always-then}
use Rattle.model.proofs.Theorems.Whole.{build-checked, build-noted}
use Rattle.standards.specs.SvgSpace.{NEWLINE, BLANK, RETURN, without, convert, as_default, as_preserve}
use Rattle.standards.proofs.Theorems.Trimmings.{told, run-told}
use Rattle.standards.specs.Theorems.Shaved.{Shaved, whole}
use Rattle.standards.proofs.Theorems.Shaved.{shaved-then, trimming-kept, shaved-shorter, shaved-visible, shaved-no-two}
use Rattle.standards.proofs.Theorems.Shaved.{shaved-utf8}
use Rattle.standards.proofs.Theorems.Spaces.{NoTwo, trim-no-two, trim-visible}
use Rattle.standards.proofs.Theorems.Sequences.{trim-text-utf8, joined-utf8}
use Rattle.standards.proofs.Theorems.OneText.{one-text-default, one-text-preserve}
use Rattle.standards.proofs.Theorems.WholeTexts.{Held, always-test, element-held, text-held, finish-held, root-held, Noticed, lies}
use Rattle.standards.proofs.Theorems.WholeTexts.{places, run-keeps, kind-cut, element-text, element-old, old-text, text-old, new_word}
use Rattle.standards.proofs.Theorems.WholeTexts.{new-text, made-fits, cuts-texts, own-rising}
use Rattle.standards.proofs.Theorems.Recursion.{TextsOf, AtLeast, inside-law, parsed-law}
use Rattle.standards.proofs.Theorems.SpaceStays.{Ranges, SameNodes, same-sees, space-seen, element-same, text_same, same-cut}
use Rattle.standards.proofs.Theorems.SpaceStays.{repaired-space}

-- SVG 1.1's text of a source by xml:space: for default of the source with its newlines made spaces (the difference of
-- `default-is-standard`), carriage returns taken as newlines.
abbrev pub standard_text : XmlSpace → List ℕ → List ℕ
standard_text default bs = as_default (convert NEWLINE BLANK (convert RETURN NEWLINE bs))
standard_text preserve bs = as_preserve (convert RETURN NEWLINE bs)

-- No other text node stands in its text element.
abbrev pub Alone : Note → List Note → Type 0
Alone k ns = (m : Note) → In m ns → m.elem ≡ k.elem → m.node ≡ k.node

-- A text of the drawing is UTF-8.
abbrev pub Spelled : List ℕ → Source → Type 0
Spelled chars a = is_utf8 (slice a.start (a.start + a.size) chars) ≡ true

module _ (chars : List ℕ) where
  -- The node has the standard's text, where the same xml:space is in force at its parent and at its text element.
  abbrev pub Exact : Note → Tree → Type 0
  Exact k t = (w : XmlSpace) → space_of chars t (parent_of t k.node - 1) ≡ w → space_of chars t k.elem ≡ w →
      text_of t k.node ≡ standard_text w (joined chars k.texts)

  -- The node has what `trim_text` made, by the xml:space in force at its parent.
  abbrev Raw : Note → Tree → Type 0
  Raw k t = (w : XmlSpace) → space_of chars t (parent_of t k.node - 1) ≡ w → text_of t k.node ≡ trim_text w (joined chars k.texts)

  -- The node has what `trim_text` made by the xml:space in force at its parent, with spaces taken off its ends.
  abbrev pub Pinned : Note → Tree → Type 0
  Pinned k t = Shaved (trim_text (space_of chars t (parent_of t k.node - 1)) (joined chars k.texts)) (text_of t k.node)

  -- What holds of tables and notes at all times.
  record Sound (s : Noted) : Type 0 where
    pub held : Held chars s
    pub falls : (i : ℕ) → i < s.tree.node_count → parent_of s.tree i ≤ i
    pub ranges : Ranges s.tree s.tree.node_count s.tree.attribute_count
    pub elems : (k : Note) → In k s.notes → k.elem < k.node
    pub pinned : (k : Note) → In k s.notes → Pinned k s.tree
    pub sources : (k : Note) → In k s.notes → Every (Spelled chars) k.texts

  -- Between text elements.
  record Outside (s : Noted) : Type 0 where
    pub sound : Sound s
    pub exact : (k : Note) → In k s.notes → Alone k s.notes → Exact k s.tree

  -- Inside the text element e.
  record Inside (e : ℕ) (s : Noted) : Type 0 where
    pub sound : Sound s
    pub there : e < s.tree.node_count
    pub old : (k : Note) → In k s.notes → k.node ≤ e → Alone k s.notes → Exact k s.tree
    pub new : (k : Note) → In k s.notes → e < k.node → (k.elem ≡ e) × Raw k s.tree

  -- WHAT STAYS

  module _ (s : Noted) (h : Sound s) (r : Tree) (n : SameNodes s.tree r s.tree.node_count s.tree.attribute_count) where
    space-same : (i : ℕ) → i < s.tree.node_count → space_of chars r i ≡ space_of chars s.tree i
    space-same = space-seen chars s.tree r s.tree.node_count
        (same-sees chars s.tree r s.tree.node_count s.tree.attribute_count h.ranges n) h.falls

    parent-same : (k : Note) → In k s.notes → space_of chars r (parent_of r k.node - 1)
        ≡ space_of chars s.tree (parent_of s.tree k.node - 1)
    parent-same k i =
        let b = (h.held.below k i).0 in
        ap (λ p. space_of chars r (p - 1)) (n.parents k.node b)
        ∙ space-same (parent_of s.tree k.node - 1) (omega (arith, h.falls k.node b))

    elem-same : (k : Note) → In k s.notes → space_of chars r k.elem ≡ space_of chars s.tree k.elem
    elem-same k i = space-same k.elem (omega (arith, (h.held.below k i).0, h.elems k i))

    exact-stays : (k : Note) → In k s.notes → text_of r k.node ≡ text_of s.tree k.node → Exact k s.tree → Exact k r
    exact-stays k i e x w p q = e ∙ x w (sym (parent-same k i) ∙ p) (sym (elem-same k i) ∙ q)

    pinned-as : (k : Note) → In k s.notes → Shaved (text_of s.tree k.node) (text_of r k.node) → Pinned k r
    pinned-as k i e =
        subst (λ (v : XmlSpace). Shaved (trim_text v (joined chars k.texts)) (text_of r k.node)) (sym (parent-same k i))
        (shaved-then (h.pinned k i) e)

    pinned-stays : (k : Note) → In k s.notes → text_of r k.node ≡ text_of s.tree k.node → Pinned k r
    pinned-stays k i e = pinned-as k i (subst (λ (v : List ℕ). Shaved (text_of s.tree k.node) v) (sym e) whole)

    raw-stays : (k : Note) → In k s.notes → text_of r k.node ≡ text_of s.tree k.node → Raw k s.tree → Raw k r
    raw-stays k i e x w p = e ∙ x w (sym (parent-same k i) ∙ p)

  -- AN ELEMENT

  module _ (c : ℕ) (es : List Entry) (p : ℕ) (s : Noted) (room : 8 * s.tree.node_count + 8 ≤ length s.tree.nodes)
      (low : p < s.tree.node_count) where
    grown_by : Noted
    grown_by = record { tree = add_element c es p s.tree; notes = s.notes }

    sound-element : Sound s → Sound grown_by
    unfolding grown_by add_element
    sound-element h = record {
      held = element-held chars c es p s room h.held;
      falls = λ i l. falls i l (dec_lt i t.node_count);
      ranges = λ i l e. ranges i l e (dec_lt i t.node_count);
      elems = h.elems;
      sources = h.sources;
      pinned = λ k i. pinned-stays s h (add_element c es p t) (element-same c es p t) k i
          (element-text c es p t k.node (h.held.below k i).0);
    }
      where
        t : Tree
        t = s.tree

        new : (k : ℕ) → k < 8 → (2 ≤ k → k ≤ 4 → ⊥) → word (add_element c es p t).nodes t.node_count k
            ≡ get_or (ELEMENT ∷ (p + 1) ∷ 0 ∷ 0 ∷ 0 ∷ c ∷ t.attribute_count ∷ (t.attribute_count + length es) ∷ []) k 0
        new k b f = appended-new ELEMENT c t.attribute_count (t.attribute_count + length es) t.nodes p t.node_count k room b f

        falls : (i : ℕ) → i < t.node_count + 1 → Dec (i < t.node_count) → parent_of (add_element c es p t) i ≤ i
        falls i l (yes b) = rw (element-old c es p t i 1 b (omega arith) (λ x y. omega arith)) (h.falls i b)
        falls i l (no b) = let e : i ≡ t.node_count = omega arith in rw (e, new 1 (omega arith) (λ x y. omega arith)) (omega arith)

        ranges : (i : ℕ) → i < t.node_count + 1 → kind_of (add_element c es p t) i ≡ ELEMENT → Dec (i < t.node_count) →
            to_of (add_element c es p t) i ≤ t.attribute_count + length es
        ranges i l e (yes b) =
            let k = h.ranges i b (sym (element-old c es p t i 0 b (omega arith) (λ x y. omega arith)) ∙ e) in
            rw (element-old c es p t i 7 b (omega arith) (λ x y. omega arith)) (omega arith)
        ranges i l e (no b) = let q : i ≡ t.node_count = omega arith in rw (q, new 7 (omega arith) (λ x y. omega arith)) (omega arith)

    text-stays : (k : Note) → In k s.notes → Sound s → text_of (add_element c es p s.tree) k.node ≡ text_of s.tree k.node
    text-stays k i h = element-text c es p s.tree k.node (h.held.below k i).0

    outside-element : Outside s → Outside grown_by
    unfolding grown_by
    outside-element h = record {
      sound = sound-element h.sound;
      exact = λ k i a. exact-stays s h.sound (add_element c es p s.tree) (element-same c es p s.tree) k i
          (text-stays k i h.sound) (h.exact k i a);
    }

    inside-element : (e : ℕ) → Inside e s → Inside e grown_by
    unfolding grown_by
    inside-element e h = record {
      sound = sound-element h.sound;
      there = unfold add_element in omega (arith, h.there);
      old = λ k i l a. exact-stays s h.sound (add_element c es p s.tree) (element-same c es p s.tree) k i
          (text-stays k i h.sound) (h.old k i l a);
      new = λ k i l. let f = h.new k i l in (
        f.0,
        raw-stays s h.sound (add_element c es p s.tree) (element-same c es p s.tree) k i (text-stays k i h.sound)
            f.1,
      );
    }

  -- A TEXT

  module _ (e : ℕ) (from : List Source) (p : ℕ) (s : Noted) (room : 8 * s.tree.node_count + 8 ≤ length s.tree.nodes)
      (space : s.tree.text_count + total_size from ≤ length s.tree.text) (low : p < s.tree.node_count)
      (spelled : Every (Spelled chars) from) where
    -- What `trim_text` makes of it.
    abbrev bytes : List ℕ
    bytes = trim_text (space_of chars s.tree p) (joined chars from)

    with_it : Noted
    with_it = record {
      tree = add_text bytes (total_size from) p s.tree;
      notes = note_of e from s.tree.node_count s.tree.text_count ∷ s.notes;
    }

    inside-text : Inside e s → Inside e with_it
    unfolding with_it add_text
    inside-text h = record {
      sound = record {
        held = text-held chars (space_of chars t p) e from p s room space h.sound.held;
        falls = λ i l. falls i l (dec_lt i t.node_count);
        ranges = λ i l k. ranges i l k (dec_lt i t.node_count);
        elems = λ k i. elems k i;
        pinned = λ k i. pinned k i;
        sources = λ k i. sources k i;
      };
      there = omega (arith, h.there);
      old = λ k i l a. old k i l a;
      new = λ k i l. new k i l;
    }
      where
        t : Tree
        t = s.tree

        r : Tree
        r = add_text bytes (total_size from) p t

        note : Note
        note = note_of e from t.node_count t.text_count

        its : (k : ℕ) → k < 8 → (2 ≤ k → k ≤ 4 → ⊥) → word r.nodes t.node_count k
            ≡ get_or (TEXT ∷ (p + 1) ∷ 0 ∷ 0 ∷ 0 ∷ 0 ∷ t.text_count ∷ (t.text_count + length bytes) ∷ []) k 0
        its k x y = new_word bytes (total_size from) p t room k x y

        falls : (i : ℕ) → i < t.node_count + 1 → Dec (i < t.node_count) → parent_of r i ≤ i
        falls i l (yes b) = rw (text-old bytes (total_size from) p t i 1 b (omega arith) (λ x y. omega arith)) (h.sound.falls i b)
        falls i l (no b) = let q : i ≡ t.node_count = omega arith in rw (q, its 1 (omega arith) (λ x y. omega arith)) (omega arith)

        ranges : (i : ℕ) → i < t.node_count + 1 → kind_of r i ≡ ELEMENT → Dec (i < t.node_count) → to_of r i ≤ t.attribute_count
        ranges i l k (yes b) =
            rw (text-old bytes (total_size from) p t i 7 b (omega arith) (λ x y. omega arith))
            (h.sound.ranges i b (sym (text-old bytes (total_size from) p t i 0 b (omega arith) (λ x y. omega arith)) ∙ k))
        ranges i l k (no b) =
            let q : i ≡ t.node_count = omega arith in
            let z : ◌≡◌ {A = ℕ} 3 2 = sym (its 0 (omega arith) (λ x y. omega arith)) ∙ (rw q at k) in
            absurd (omega arith)

        elems : (k : Note) → In k (note ∷ s.notes) → k.elem < k.node
        elems k (inl q) = rw q h.there
        elems k (inr i) = h.sound.elems k i

        sources : (k : Note) → In k (note ∷ s.notes) → Every (Spelled chars) k.texts
        sources k (inl q) = rw q spelled
        sources k (inr i) = h.sound.sources k i

        kept : (k : Note) → In k s.notes → text_of r k.node ≡ text_of t k.node
        kept k i =
            let b = h.sound.held.below k i in
            old-text bytes (total_size from) p t k.node b.0 (omega (arith, (h.sound.held.fits k i).high, b.1))

        old : (k : Note) → In k (note ∷ s.notes) → k.node ≤ e → Alone k (note ∷ s.notes) → Exact k r
        old k (inl q) l a = let z : k.node ≡ t.node_count = ap (λ (m : Note). m.node) q in absurd (omega (arith, h.there))
        old k (inr i) l a = exact-stays s h.sound r (text_same bytes (total_size from) p t) k i (kept k i)
            (h.old k i l (λ m j. a m (inr j)))

        short : length bytes ≤ total_size from
        short = made-fits (space_of chars t p) chars from

        z : p + 1 - 1 ≡ p
        z = omega arith

        back : space_of chars t p ≡ space_of chars r (parent_of r t.node_count - 1)
        back = sym (ap (λ (i : ℕ). space_of chars r (i - 1)) (its 1 (omega arith) (λ x y. omega arith))
            ∙ ap (λ (i : ℕ). space_of chars r i) z
            ∙ space-same s h.sound r (text_same bytes (total_size from) p t) p low)

        own : Raw note r
        own w q = new-text bytes (total_size from) p t room (omega (arith, short))
            ∙ ap (λ (v : XmlSpace). trim_text v (joined chars from)) (back ∙ q)

        pinned : (k : Note) → In k (note ∷ s.notes) → Pinned k r
        pinned k (inl q) = subst (λ (m : Note). Pinned m r) (sym q)
            (subst (λ (v : XmlSpace). Shaved (trim_text v (joined chars from)) (text_of r t.node_count)) back
            (subst (λ (v : List ℕ). Shaved bytes v) (sym (new-text bytes (total_size from) p t room (omega (arith, short)))) whole))
        pinned k (inr i) = pinned-stays s h.sound r (text_same bytes (total_size from) p t) k i (kept k i)

        new : (k : Note) → In k (note ∷ s.notes) → e < k.node → (k.elem ≡ e) × Raw k r
        new k (inl q) l = subst (λ (m : Note). (m.elem ≡ e) × Raw m r) (sym q) (refl, own)
        new k (inr i) l = let f = h.new k i l in (
          f.0,
          raw-stays s h.sound r (text_same bytes (total_size from) p t) k i (kept k i)
              f.1,
        )

-- THE END OF A TEXT ELEMENT

-- A node that a trimming does not name keeps its text.
told-else : (e : ℕ) (g : Trimming) (f : ℕ → List ℕ) → Within (λ i. e < i) g → (j : ℕ) → j ≤ e → told g f j ≡ f j
unfolding told
told-else e stop f w j l = refl
told-else e (look i k) f w j l = told-else e (k (f i)) f (w.1 (f i)) j l
told-else e (cut i a b k) f w j l =
    told-else e k _ w.1 j l ∙ rw (ne_eqb j i (λ q. omega (arith, w.0))) refl

-- Text nodes: none, or one.
none-among : (chars : List ℕ) (t : Tree) (w : XmlSpace) (e n i : ℕ) → ((m : ℕ) → i ≤ m → m < i + n → kind_of t m ≡ TEXT → ⊥) →
    text_nodes chars t w e i n ≡ []
unfolding text_nodes
none-among chars t w e zero i h = refl
none-among chars t w e (suc n) i h = go (eqb (kind_of t i) TEXT) refl
    (none-among chars t w e n (i + 1) (λ m x y. h m (omega arith) (omega arith)))
  where
    go : (b : Bool) → eqb (kind_of t i) TEXT ≡ b → text_nodes chars t w e (i + 1) n ≡ [] →
        pick b (λ u. record { node = i; depth = depth_below t e i i; space = get_xmlspace chars t (parent_of t i - 1) w }
        ∷ text_nodes chars t w e (i + 1) n)
        (λ u. text_nodes chars t w e (i + 1) n) ≡ []
    go true q r = absurd (h i (omega arith) (omega arith) (eqb-true (kind_of t i) TEXT q))
    go false q r = r

one-among : (chars : List ℕ) (t : Tree) (w : XmlSpace) (e n i j : ℕ) → i ≤ j → j < i + n → kind_of t j ≡ TEXT →
    ((m : ℕ) → i ≤ m → m < i + n → kind_of t m ≡ TEXT → m ≡ j) → (a : TextNode) × (a.node ≡ j) × (text_nodes chars t w e i n ≡ a ∷ [])
unfolding text_nodes
one-among chars t w e zero i j x y k h = absurd (omega arith)
one-among chars t w e (suc n) i j x y k h = go (eqb (kind_of t i) TEXT) refl
    (λ z. one-among chars t w e n (i + 1) j z (omega arith) k (λ m u v. h m (omega arith) (omega arith)))
  where
    go : (b : Bool) → eqb (kind_of t i) TEXT ≡ b → (i + 1 ≤ j →
        (a : TextNode) × (a.node ≡ j) × (text_nodes chars t w e (i + 1) n ≡ a ∷ [])) →
        (a : TextNode) × (a.node ≡ j) × (pick b (λ u. record {
          node = i;
          depth = depth_below t e i i;
          space =
              get_xmlspace chars t (parent_of t i - 1) w;
        }
        ∷ text_nodes chars t w e (i + 1) n) (λ u. text_nodes chars t w e (i + 1) n) ≡ a ∷ [])
    go true q r =
        let z : i ≡ j = h i (omega arith) (omega arith) (eqb-true (kind_of t i) TEXT q) in
        let a : TextNode = record { node = i; depth = depth_below t e i i; space = get_xmlspace chars t (parent_of t i - 1) w } in (
          a,
          z,
          ap (λ l. a ∷ l) (none-among chars t w e n (i + 1)
              (λ m u v o. (let d : m ≡ j = h m (omega arith) (omega arith) o in omega arith))),
        )
    go false q r = r (at (ℕ_discrete i j))
      where
        at : Dec (i ≡ j) → i + 1 ≤ j
        at (yes z) = absurd (eqb-false (kind_of t i) TEXT q (ap (λ m. kind_of t m) z ∙ k))
        at (no z) = omega arith

run-count : (g : Trimming) (t : Tree) → ((run g t).node_count ≡ t.node_count) × ((run g t).attribute_count ≡ t.attribute_count)
unfolding run cut_text Rattle.model.specs.Tables.set_text
run-count stop t = (refl, refl)
run-count (look i k) t = run-count (k (text_of t i)) t
run-count (cut i a b k) t = run-count k (cut_text i a b t)

module _ (chars : List ℕ) (e : ℕ) (s : Noted) (h : Inside chars e s) where
  -- The tree at the end.
  abbrev tree : Tree
  tree = s.tree

  -- The xml:space of the element.
  abbrev spaced : XmlSpace
  spaced = space_of chars tree e

  -- The program.
  program : Trimming
  program = trimming spaced (own_text_nodes chars tree spaced e tree.node_count)

  names : (Q : ℕ → Type 0) → ((j : ℕ) → e < j → j < tree.node_count → kind_of tree j ≡ TEXT → Q j) → Within Q program
  unfolding program
  names Q f = within-trimming Q spaced _ (own-collected Q chars tree spaced e tree.node_count h.there f)

  -- What it leaves of the nodes.
  record Leaves (t : Tree) : Type 0 where
    pub nodes : SameNodes tree t tree.node_count tree.attribute_count
    pub kinds : (j : ℕ) → kind_of t j ≡ kind_of tree j

  leaves : Leaves (run program tree)
  leaves = run-keeps (λ i. kind_of tree i ≡ TEXT) Leaves
      (λ i a b t q k. record {
        nodes = same-cut tree tree.node_count tree.attribute_count i a b t (k.kinds i ∙ q) k.kinds k.nodes;
        kinds = λ j. kind-cut i a b t j ∙ k.kinds j;
      })
      program (names (λ i. kind_of tree i ≡ TEXT) (λ j x y k. k)) tree
      (record {
        nodes = record {
          kinds = λ i l. refl;
          parents = λ i l. refl;
          bounds = λ i l q. (refl, refl);
          entries =
              λ j l. refl;
        };
        kinds = λ j. refl;
      })

  ended : Tree
  ended = run program tree

  told_text : (k : Note) → In k s.notes → text_of ended k.node ≡ told program (text_of tree) k.node
  unfolding ended
  told_text k i = run-told (Noticed chars s h.sound.held) program tree (text_of tree)
      (names (Noticed chars s h.sound.held) (λ j x y q. h.sound.held.noted j y q)) (places chars s h.sound.held)
      (λ j q. refl) k.node (k, i, refl)

  old-exact : (k : Note) → In k s.notes → k.node ≤ e → Alone k s.notes → Exact chars k ended
  unfolding ended
  old-exact k i l a =
      exact-stays chars s h.sound (run program tree) leaves.nodes k i
      (told_text k i ∙ told-else e program (text_of tree) (names (λ j. e < j) (λ j x y q. x)) k.node l) (h.old k i l a)

  -- A node that is alone in the element is the only text node behind it.
  only : (k : Note) → In k s.notes → e < k.node → Alone k s.notes → (w : XmlSpace) →
      (a : TextNode) × (a.node ≡ k.node) × (own_text_nodes chars tree w e tree.node_count ≡ a ∷ [])
  unfolding own_text_nodes
  only k i l a w = one-among chars tree w e (tree.node_count - (e + 1)) (e + 1) k.node (omega arith)
      (omega (arith, (h.sound.held.below k i).0, h.there)) (h.sound.held.fits k i).kind
      (λ m x y q. let f = h.sound.held.noted m (omega (arith, h.there)) q in
      sym f.2 ∙ a f.0 f.1 ((h.new f.0 f.1 (subst (λ (j : ℕ). e < j) (sym f.2) (omega arith))).0 ∙ sym (h.new k i l).0))

  new-exact : (k : Note) → In k s.notes → e < k.node → Alone k s.notes → Exact chars k (trim_text_nodes chars e tree)
  unfolding trim_text_nodes program
  new-exact k i l a w p q = byspace w same-elem ((h.new k i l).1 w same-parent)
    where
      same-parent : space_of chars tree (parent_of tree k.node - 1) ≡ w
      same-parent = sym (parent-same chars s h.sound (run program tree) leaves.nodes k i) ∙ p

      same-elem : space_of chars tree e ≡ w
      same-elem = ap (λ (j : ℕ). space_of chars tree j) (sym (h.new k i l).0)
          ∙ sym (elem-same chars s h.sound (run program tree) leaves.nodes k i) ∙ q

      byspace : (w : XmlSpace) → space_of chars tree e ≡ w → text_of tree k.node ≡ trim_text w (joined chars k.texts) →
          text_of (trim_text_nodes chars e tree) k.node ≡ standard_text w (joined chars k.texts)
      byspace default v m =
          let o = only k i l a default in
          subst (λ (j : ℕ). text_of (trim_text_nodes chars e tree) j ≡ standard_text default (joined chars k.texts)) o.1
          (one-text-default chars tree e o.0 (joined chars k.texts)
          (record { space = v; only = o.2; held = rw o.1 (lies chars s h.sound.held k i); made = rw o.1 m }))
      byspace preserve v m =
          let o = only k i l a preserve in
          subst (λ (j : ℕ). text_of (trim_text_nodes chars e tree) j ≡ standard_text preserve (joined chars k.texts)) o.1
          (one-text-preserve chars tree e o.0 (joined chars k.texts)
          (record { space = v; only = o.2; held = rw o.1 (lies chars s h.sound.held k i); made = rw o.1 m }))

  finish-outside : Outside chars (record { tree = trim_text_nodes chars e tree; notes = s.notes })
  unfolding trim_text_nodes program ended
  finish-outside =
      let c = run-count program tree in
      let n = leaves.nodes in
      record {
        sound = record {
          held = finish-held chars s h.sound.held e;
          falls = λ i l. let b : i < tree.node_count = subst (λ (m : ℕ). i < m) c.0 l in rw (n.parents i b) (h.sound.falls i b);
          ranges = λ i l q.
              let b : i < tree.node_count = subst (λ (m : ℕ). i < m) c.0 l in
              let was = sym (n.kinds i b) ∙ q in
              rw ((n.bounds i b was).1, c.1) (h.sound.ranges i b was);
          elems = h.sound.elems;
          sources = h.sound.sources;
          pinned = λ k i. pinned-as chars s h.sound (run program tree) n k i
              (subst (λ (v : List ℕ). Shaved (text_of tree k.node) v) (sym (told_text k i))
              (trimming-kept (text_of tree) spaced e _ (own-rising chars tree spaced e tree.node_count) k.node));
        };
        exact = λ k i a. at k i a (dec_lt e k.node);
      }
    where
      at : (k : Note) → In k s.notes → Alone k s.notes → Dec (e < k.node) → Exact chars k (run program tree)
      at k i a (yes l) = new-exact k i l a
      at k i a (no l) = old-exact k i (omega arith) a

-- EVERY BUILD

module _ (chars : List ℕ) (all : List Event) (ok : TextsOf (Spelled chars) all) where
  element-step : (x : Element) (c : ℕ) (i : Bool) (p : ℕ) (s : Noted) → p < s.tree.node_count → (P : Noted → Type 0) →
      ((es : List Entry) → 8 * s.tree.node_count + 8 ≤ length s.tree.nodes →
      P (record { tree = add_element c es p s.tree; notes = s.notes })) →
      Always P ((noting (plain chars)).element x c i p s)
  unfolding parse_svg_element
  element-step x c i p s l P f =
      let t = s.tree in
      let es = entries_of t p c i x in
      always-then (λ r. P (record { tree = r; notes = s.notes })) P (parse_svg_element x c i p t) _
      (always-test _ (leb (t.attribute_count + length es) (attribute_room t)) _ _
      (λ a. always-test _ (leb t.node_count most_nodes) _ _
      (λ b. always-test _ (ltb t.node_count (node_room t)) _ _ (λ r. f es (room_fits t r)) (λ r e. omega arith))
      (λ b e. omega arith)) (λ a e. omega arith))
      (λ r k. k)

  outside-step : (x : Element) (c : ℕ) (i : Bool) (p : ℕ) (s : Noted) → p < s.tree.node_count → Outside chars s →
      Always (AtLeast (noting (plain chars)) (Outside chars) (s.tree.node_count + 1)) ((noting (plain chars)).element x c i p s)
  outside-step x c i p s l h = element-step x c i p s l _ (λ es room. (
    unfold grown_by in outside-element chars c es p s room l h,
    unfold add_element in omega arith,
  ))

  inside-step : (e : ℕ) (x : Element) (c p : ℕ) (s : Noted) → p < s.tree.node_count → Inside chars e s →
      Always (AtLeast (noting (plain chars)) (Inside chars e) (s.tree.node_count + 1)) ((noting (plain chars)).element x c false p s)
  inside-step e x c p s l h = element-step x c false p s l _ (λ es room. (
    unfold grown_by in inside-element chars c es p s room l e h,
    unfold add_element in omega arith,
  ))

  text-step : (e : ℕ) (from : List Source) → Every (Spelled chars) from → (p : ℕ) (s : Noted) → p < s.tree.node_count → Inside chars e s →
      Always (AtLeast (noting (plain chars)) (Inside chars e) (s.tree.node_count + 1)) ((noting (plain chars)).text e from p s)
  unfolding append_text text_room
  text-step e from sp p s l h =
      let t = s.tree in
      let ns = note_of e from t.node_count t.text_count ∷ s.notes in
      always-then (λ r. AtLeast (noting (plain chars)) (Inside chars e) (t.node_count + 1) (record { tree = r; notes = ns }))
      (AtLeast (noting (plain chars)) (Inside chars e) (t.node_count + 1)) (append_text chars from p t) _
      (always-test _ (leb (t.text_count + total_size from) (text_room t)) _ _
      (λ a. always-test _ (ltb t.node_count (node_room t)) _ _
      (λ b. (
        unfold with_it in inside-text chars e from p s (room_fits t b)
            (omega (arith, leb-true (t.text_count + total_size from) (text_room t) a)) l sp h,
        unfold add_text in omega arith,
      ))
      (λ b k. omega arith)) (λ a k. omega arith))
      (λ r k. k)

  label-step : (x : Element) (xs : List Event) → TextsOf (Spelled chars) xs → (i : Bool) (p : ℕ) (s : Noted) → p < s.tree.node_count →
      Outside chars s →
      Always (AtLeast (noting (plain chars)) (Outside chars) s.tree.node_count) (label (noting (plain chars)) all x xs i p s)
  label-step x xs ts i p s l h =
      always-then (Inside chars s.tree.node_count) (AtLeast (noting (plain chars)) (Outside chars) s.tree.node_count)
      ((noting (plain chars)).element x EId.Text i p s) _
      (element-step x EId.Text i p s l _ (λ es room. begun es room (unfold grown_by in outside-element chars EId.Text es p s room l h)))
      (λ r k. always-then (Inside chars s.tree.node_count) (AtLeast (noting (plain chars)) (Outside chars) s.tree.node_count)
      (inside (noting (plain chars)) all s.tree.node_count xs zero s.tree.node_count r) _
      (inside-law (noting (plain chars)) all (Spelled chars) ok s.tree.node_count (Inside chars s.tree.node_count)
      (inside-step s.tree.node_count) (text-step s.tree.node_count)
      (λ q u b f. omega (arith, f.sound.falls q b)) xs ts zero s.tree.node_count r k.there k)
      (λ u f. (finish-outside chars s.tree.node_count u f, rw (ends u) (omega (arith, f.there)))))
    where
      ends : (u : Noted) → (trim_text_nodes chars s.tree.node_count u.tree).node_count ≡ u.tree.node_count
      ends u = unfold trim_text_nodes in (run-count _ u.tree).0

      begun : (es : List Entry) → 8 * s.tree.node_count + 8 ≤ length s.tree.nodes →
          Outside chars (record { tree = add_element EId.Text es p s.tree; notes = s.notes }) →
          Inside chars s.tree.node_count (record { tree = add_element EId.Text es p s.tree; notes = s.notes })
      begun es room o = record {
        sound = o.sound;
        there = unfold add_element in omega arith;
        old = λ k j b a. o.exact k j a;
        new = λ k j b. absurd (omega (arith, (h.sound.held.below k j).0));
      }

  zero-at : (n i : ℕ) → get_or (replicate {A = ℕ} n 0) i 0 ≡ 0
  zero-at zero i = refl
  zero-at (suc n) zero = refl
  zero-at (suc n) (suc i) = zero-at n i

  root-outside : (n m b : ℕ) → ltb 0 (node_room (cleared n m b)) ≡ true →
      Outside chars (record { tree = rooted (cleared n m b); notes = [] })
  unfolding rooted cleared
  root-outside n m b h = record {
    sound = record {
      held = root-held chars n m b h;
      falls = λ i l. let q : i ≡ 0 = omega arith in rw q (omega (arith, top));
      ranges = λ i l k.
          let q : i ≡ 0 = omega arith in
          let z : ◌≡◌ {A = ℕ} 1 2 = sym (get_or-set_same (replicate n 0) 0 1 0 (omega (arith, room_fits (cleared n m b) h)))
          ∙ (rw q at k) in
          absurd (omega arith);
      elems = λ k i. absurd i;
      pinned = λ k i. absurd i;
      sources = λ k i. absurd i;
    };
    exact = λ k i a. absurd i;
  }
    where
      top : get_or (set (replicate {A = ℕ} n 0) 0 1) 1 0 ≡ 0
      top = get_or-set_other (replicate n 0) 0 1 1 0 (omega arith) ∙ zero-at n 1

  tree-outside : (n m b : ℕ) → Always (Outside chars) (noted_tree (plain chars) all (cleared n m b))
  unfolding noted_tree with_root noted_parsed tested
  tree-outside n m b =
      always-then (λ r. (0 < r.node_count) × Outside chars (record { tree = r; notes = [] })) (Outside chars) (with_root (cleared n m b)) _
      (always-test _ (ltb 0 (node_room (cleared n m b))) _ _ (λ h. (unfold rooted in omega arith, root-outside n m b h))
      (λ h e. omega arith))
      (λ r k. always-then (AtLeast (noting (plain chars)) (Outside chars) r.node_count) (Outside chars)
      (parsed (noting (plain chars)) all (record { tree = r; notes = [] })) _
      (parsed-law (noting (plain chars)) all (Spelled chars) ok (Outside chars) outside-step label-step
      (record { tree = r; notes = [] }) k.0 k.1)
      (λ s g. always-then (λ u. Outside chars (record { tree = u; notes = s.notes })) (Outside chars) (tested s.tree) _
      (always-test _ (first_is_svg s.tree) _ _ (λ e. g.0) (λ e f. omega arith)) (λ u k. k)))

-- CHECK

spelled-string : (chars : List ℕ) (size at l : ℕ) → first_of (string_tests chars size at l) ≡ 0 → is_utf8 (slice at (at + l) chars) ≡ true
spelled-string chars size at l h = not-false (is_utf8 (slice at (at + l) chars)) (first-drop 8 _ _ (first-drop 5 _ _ h).1).0

-- The texts of commands that check has seen.
texts-seen : (chars : List ℕ) (size : ℕ) (s : State) (m : Mark) (cs : List Command) → m.at ≡ s.at → check_from chars size s cs ≡ 0 →
    TextsOf (Spelled chars) (events_from chars m cs)
unfolding events_from tests_of stepped
texts-seen chars size s m [] e h = tt
texts-seen chars size s m (opening c n ∷ cs) e h = (
  tt,
  texts-seen chars size (stepped chars size s (opening c n)) (past m (opening c n)) cs (omega arith)
      (check-cons chars size s (opening c n) cs h).1,
)
texts-seen chars size s m (attribute a n l ∷ cs) e h =
    texts-seen chars size (stepped chars size s (attribute a n l)) (past m (attribute a n l)) cs (omega arith)
    (check-cons chars size s (attribute a n l) cs h).1
texts-seen chars size s m (declaration a i l ∷ cs) e h =
    texts-seen chars size (stepped chars size s (declaration a i l)) (past m (declaration a i l)) cs (omega arith)
    (check-cons chars size s (declaration a i l) cs h).1
texts-seen chars size s m (reading k o l ∷ cs) e h =
    texts-seen chars size (stepped chars size s (reading k o l)) (past m (reading k o l)) cs (omega arith)
    (check-cons chars size s (reading k o l) cs h).1
texts-seen chars size s m (Command.text l ∷ cs) e h =
    let c = check-cons chars size s (Command.text l) cs h in (
      rw e (spelled-string chars size s.at l (first-drop 3 _ _ (first-drop 6 _ _ c.0).1).1),
      texts-seen chars size (stepped chars size s (Command.text l)) (past m (Command.text l)) cs (omega arith) c.1,
    )
texts-seen chars size s m (Command.other ∷ cs) e h =
    texts-seen chars size (stepped chars size s Command.other) (past m Command.other) cs (omega arith)
    (check-cons chars size s Command.other cs h).1
texts-seen chars size s m (closing ∷ cs) e h =
    texts-seen chars size (stepped chars size s closing) (past m closing) cs (omega arith) (check-cons chars size s closing cs h).1
texts-seen chars size s m (broken b ∷ cs) e h = tt

texts-spelled : (script chars : List ℕ) → check script chars ≡ 0 → TextsOf (Spelled chars) (events script chars)
unfolding events starting
texts-spelled script chars h =
    texts-seen chars (length chars) starting (record { number = 0; at = 0; texts = 0 }) (commands script) refl (check-walk script chars h)

-- THEOREMS

-- What is known of the text nodes of a tree, by their notes.
record Texts (chars : List ℕ) (ns : List Note) (t : Tree) : Type 0 where
  pub noted : (i : ℕ) → i < t.node_count → kind_of t i ≡ TEXT → (k : Note) × In k ns × (k.node ≡ i)
  pub pinned : (k : Note) → In k ns → Pinned chars k t
  pub exact : (k : Note) → In k ns → Alone k ns → Exact chars k t
  pub sources : (k : Note) → In k ns → Every (Spelled chars) k.texts

-- The repairs keep it.
repaired-texts : (chars : List ℕ) (s : Noted) (cs : List Cut) → Outside chars s → Texts chars s.notes (applied s.tree cs)
unfolding text_of
repaired-texts chars s cs h = record {
  noted = λ i l e. h.sound.held.noted i (rw (← c.2) l) (ap (λ (ns : List ℕ). get_or ns (8 * i + 0) 0) (sym c.0) ∙ e);
  pinned = λ k i. subst (λ (v : XmlSpace). Shaved (trim_text v (joined chars k.texts)) (text_of r k.node)) (sym (around k i))
      (subst (λ (v : List ℕ). Shaved (trim_text (space_of chars t (parent_of t k.node - 1)) (joined chars k.texts)) v) (sym (text k))
      (h.sound.pinned k i));
  sources = h.sound.sources;
  exact = λ k i a w p q. text k ∙ h.exact k i a w (sym (around k i) ∙ p)
      (sym (spaces k.elem (omega (arith, h.sound.elems k i, low k i))) ∙ q);
}
  where
    t : Tree
    t = s.tree

    r : Tree
    r = applied t cs

    c : (r.nodes ≡ t.nodes) × (r.text ≡ t.text) × (r.node_count ≡ t.node_count)
    c = cuts-texts cs t

    low : (k : Note) → In k s.notes → k.node < t.node_count
    low k i = (h.sound.held.below k i).0

    text : (k : Note) → text_of r k.node ≡ text_of t k.node
    text k = ap₂ (λ (ns ts : List ℕ). slice (get_or ns (8 * k.node + 6) 0) (get_or ns (8 * k.node + 7) 0) ts) c.0 c.1

    spaces : (i : ℕ) → i < t.node_count → space_of chars r i ≡ space_of chars t i
    spaces i l = repaired-space chars cs t h.sound.falls i l

    around : (k : Note) → In k s.notes → space_of chars r (parent_of r k.node - 1) ≡ space_of chars t (parent_of t k.node - 1)
    around k i = ap (λ (ns : List ℕ). space_of chars r (get_or ns (8 * k.node + 1) 0 - 1)) c.0
        ∙ spaces (parent_of t k.node - 1) (omega (arith, h.sound.falls k.node (low k i), low k i))

all-texts : (script chars : List ℕ) (n m b : ℕ) → (build script chars n m b).number ≡ 0 →
    Texts chars (notes script chars n m b) (build script chars n m b).tree
unfolding notes notes_of stripped repaired
all-texts script chars n m b h = subst (λ (r : Result). Texts chars (notes script chars n m b) r.tree) (sym is)
    (go (noted_tree (plain chars) all (cleared n m b)) (tree-outside chars all
    (texts-spelled script chars (build-checked script chars n m b h)) n m b) (subst (λ (r : Result). r.number ≡ 0) is h))
  where
    all : List Event
    all = events script chars

    answer : Out Noted → Result
    answer o = answered chars (cleared n m b) (with_repairs chars all (stripped o))

    is : build script chars n m b ≡ answer (noted_tree (plain chars) all (cleared n m b))
    is = build-noted script chars n m b (build-checked script chars n m b h)

    go : (o : Out Noted) → Always (Outside chars) o → (answer o).number ≡ 0 → Texts chars (notes_of o) (answer o).tree
    go (refused q) x h = absurd (x h)
    go (done s) x h = repaired-texts chars s (repairs chars (values_in all) s.tree) x

-- EVERY TEXT NODE. In every build that is accepted, every text node has a note of what it is made from, and its text is what `trim_text`
-- made of these sources by the xml:space in force at its parent, with spaces taken off its ends. Every drawing with a text meets it.
pub texts-made : (script chars : List ℕ) (n m b : ℕ) → (build script chars n m b).number ≡ 0 →
    (i : ℕ) → i < (build script chars n m b).tree.node_count → kind_of (build script chars n m b).tree i ≡ TEXT →
    (k : Note) × In k (notes script chars n m b) × (k.node ≡ i) × Pinned chars k (build script chars n m b).tree
texts-made script chars n m b h i l e =
    let f = all-texts script chars n m b h in
    let q = f.noted i l e in (q.0, q.1, q.2, f.pinned q.0 q.1)

-- ONE TEXT NODE. In every build that is accepted, a text node that is alone in its text element, where the same xml:space is in force at
-- its parent and at its text element, has SVG 1.1's text of its sources by that xml:space. The drawing <text> a </text> has such a node,
-- with default; <text xml:space="preserve"><tspan> a </tspan></text> has one with preserve. (`k` is the note that `texts-made` gives.)
pub alone-is-standard : (script chars : List ℕ) (n m b : ℕ) → (build script chars n m b).number ≡ 0 →
    (k : Note) → In k (notes script chars n m b) → Alone k (notes script chars n m b) → Exact chars k (build script chars n m b).tree
alone-is-standard script chars n m b h k i a = (all-texts script chars n m b h).exact k i a

-- WHAT FOLLOWS for each text node of a build, k its note and t the build's tree (`texts-made` gives them).
module _ (chars : List ℕ) (k : Note) (t : Tree) (m : Pinned chars k t) where
  -- No node gains a character: its text is no longer than its sources are together.
  pub no_longer : length (text_of t k.node) ≤ size k
  no_longer = omega (arith, shaved-shorter m, made-fits (space_of chars t (parent_of t k.node - 1)) chars k.texts)

  -- Its characters other than white space are those of its sources, in their order.
  pub same-visible : without BLANK (text_of t k.node) ≡ without BLANK (as_preserve (convert RETURN NEWLINE (joined chars k.texts)))
  same-visible = shaved-visible m ∙ trim-visible (space_of chars t (parent_of t k.node - 1)) (joined chars k.texts)

  -- Where default is in force at its parent, as in <text> a  b </text>, no two spaces stand in a row.
  pub no-two-spaces : space_of chars t (parent_of t k.node - 1) ≡ default → NoTwo (text_of t k.node)
  no-two-spaces e = shaved-no-two m (subst (λ (v : XmlSpace). NoTwo (trim_text v (joined chars k.texts))) (sym e)
      (trim-no-two (joined chars k.texts)))

  -- Where its sources are UTF-8, so is its text.
  spelled-text : Every (Spelled chars) k.texts → is_utf8 (text_of t k.node) ≡ true
  spelled-text h = shaved-utf8 m (trim-text-utf8 (space_of chars t (parent_of t k.node - 1)) (joined chars k.texts)
      (joined-utf8 chars k.texts h))

-- UTF-8. In every build that is accepted, the text of every text node is UTF-8.
pub texts-utf8 : (script chars : List ℕ) (n m b : ℕ) → (build script chars n m b).number ≡ 0 →
    (i : ℕ) → i < (build script chars n m b).tree.node_count → kind_of (build script chars n m b).tree i ≡ TEXT →
    is_utf8 (text_of (build script chars n m b).tree i) ≡ true
texts-utf8 script chars n m b h i l e =
    let f = all-texts script chars n m b h in
    let q = f.noted i l e in
    subst (λ (j : ℕ). is_utf8 (text_of (build script chars n m b).tree j) ≡ true) q.2
    (spelled-text chars q.0 (build script chars n m b).tree (f.pinned q.0 q.1) (f.sources q.0 q.1))
