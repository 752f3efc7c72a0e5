-- Two builds of one drawing with characters that differ in one text: what an exchanged text can change.
use Prim.Native.Nat.{ℕ, zero, suc, ◌+◌, ◌-◌, ◌*◌, ◌/◌, ◌≤◌, ◌<◌, min}
use Rattle.std.specs.Prelude.{◌≡◌, ◌⊎◌, Bool}
use Rattle.std.proofs.Math.Path.{refl, sym, ap}
use Rattle.std.proofs.Common.{◌∙◌, inl, length-take, length-drop}
use Rattle.std.proofs.Math.Logic.{inr}
use Rattle.std.proofs.Math.Bool.{true, false}
use mathlib.Core.List.{List, [], ◌∷◌, ◌++◌, map}
use native.Mathlib.Omega.{arith}
use borrow.Author.Tests.{eq-eqb, eqb-false, leb-true}
use Rattle.std.proofs.Math.Dec.{eqb, leb, ltb}
use Rattle.std.proofs.Math.ListN.{length, get_or, length-append}
use Rattle.std.proofs.Math.Seq.{sets, slice}
use Rattle.model.specs.Base.{pick, and, or, among}
use Rattle.model.specs.EId
use Rattle.model.specs.Drawing.{Element, Source, Event}
use Rattle.model.specs.Tables.{Tree, Out, ELEMENT, TEXT, word, kind_of, parent_of, most, node_room, attribute_room, text_room, Entry}
use Rattle.model.specs.Tables.{entry_at, add_element, add_text}
use Rattle.model.specs.Element.{entries_of, most_nodes, parse_svg_element}
use Rattle.model.specs.Text.{XmlSpace, is_default, SPACE, converted, trim_text_after, trim_text, space_of, total_size, joined, append_text}
use Rattle.model.specs.Text.{Trimming, run, TextNode, own_text_nodes, trimming, trim_text_nodes}
use Rattle.model.specs.Parse.{label, plain}
use Rattle.model.specs.Build.{parsed}
use Rattle.model.specs.Theorems.Sim.{Rel, both, same, Every, Events, Carried, Grown, IsCode}
use Rattle.model.proofs.Theorems.Sim.{rel_map, then-rel, text-code, inside-sim}
use Rattle.model.proofs.Theorems.Sim.{top-sim}
use Rattle.model.specs.Noted.{Note, size, sources, Noted, note_of, with_notes, noting, In}
use Rattle.model.specs.Theorems.Agree.{Agree}
use Rattle.model.proofs.Theorems.Agree.{agree-sym, agree_trans, agree-weak, agree-sets, agree-outs}
use Rattle.model.specs.Theorems.Same.{Same}
use Rattle.model.proofs.Theorems.Same.{entries-same, space-same, own-nodes-same}
use Rattle.model.specs.Theorems.Entries.{Closed}
use Rattle.model.proofs.Theorems.Entries.{absurd-bool, entry-by-words, every-entry}
use Rattle.model.specs.Theorems.Kept.{KeptEntry}
use Rattle.model.proofs.Theorems.Kept.{kept-attribute}
use Rattle.model.specs.Theorems.Inside.{LiesPart, LiesElement}
use Rattle.model.proofs.Theorems.Inside.{lies-read}
use Rattle.model.proofs.Theorems.Laws.{appended-agree, appended-new, room_fits}
use Rattle.model.specs.Under.{Under, here, IsTextElement}
use Rattle.model.proofs.Under.{under-keep, under_parent, under-appended, under-new}
use Rattle.model.specs.Theorems.Good.{Good}
use Rattle.model.proofs.Theorems.Good.{old_element, good-element, good-text}
use Rattle.model.specs.Theorems.Reach.{IsText, Within}
use Rattle.model.proofs.Theorems.Reach.{good-run, run-unmoved, run_out, run-both, within-trimming, own-collected}
use Rattle.model.proofs.Theorems.Spelled.{Safe, SpelledElement, safe-entries, add-safe}

-- The text element e is noted with a text node made from text t.
unfoldable pub holds : ℕ → ℕ → List Note → Bool
holds t e [] = false
holds t e (n ∷ ns) = or (and (eqb n.elem e) (among t (sources n))) (holds t e ns)

or-true : (a b : Bool) → b ≡ true → or a b ≡ true
or-true true b h = refl
or-true false b h = h

holds_more : (t e : ℕ) (n : Note) (ns : List Note) → holds t e ns ≡ true → holds t e (n ∷ ns) ≡ true
unfolding holds
holds_more t e n ns h = or-true (and (eqb n.elem e) (among t (sources n))) (holds t e ns) h

holds-new : (t : ℕ) (n : Note) (ns : List Note) → among t (sources n) ≡ true → holds t n.elem (n ∷ ns) ≡ true
unfolding holds
holds-new t n ns h = rw (eq-eqb n.elem n.elem refl, h)

-- The words of nodes, and the bytes of texts, that the exchange of t leaves alone.
abbrev pub Stable : ℕ → List Note → ℕ → Type 0
Stable t ns q = (n : Note) → In n ns → holds t n.elem ns ≡ true → ((q ≡ 8 * n.node + 6) → ⊥) × ((q ≡ 8 * n.node + 7) → ⊥)

abbrev pub Steady : ℕ → List Note → ℕ → Type 0
Steady t ns q = (n : Note) → In n ns → holds t n.elem ns ≡ true → n.start ≤ q → q < n.start + size n → ⊥

-- A word that is neither from nor to is stable.
pub stable-word : (t : ℕ) (ns : List Note) (i k : ℕ) → k < 6 → Stable t ns (8 * i + k)
stable-word t ns i k b n h d = (λ e. omega arith, λ e. omega arith)

-- The two states between any two steps of the builds.
pub record Outer (t : ℕ) (one two : List ℕ) (s r : Noted) : Type 0 where
  pub notes : s.notes ≡ r.notes
  pub node_count : s.tree.node_count ≡ r.tree.node_count
  pub attribute_count : s.tree.attribute_count ≡ r.tree.attribute_count
  pub text_count : s.tree.text_count ≡ r.tree.text_count
  pub attributes : s.tree.attributes ≡ r.tree.attributes
  pub nodes : Agree (Stable t s.notes) s.tree.nodes r.tree.nodes
  pub text : Agree (Steady t s.notes) s.tree.text r.tree.text
  pub safe : (j : ℕ) → Safe one two (entry_at s.tree j)
  pub left : Good (length one) s.notes s.tree
  pub right : Good (length one) s.notes r.tree

-- The same, and node p may get a child.
pub record Open (t : ℕ) (one two : List ℕ) (p : ℕ) (s r : Noted) : Type 0 where
  pub outer : Outer t one two s r
  pub opened : p < s.tree.node_count

-- The same inside the text element e, whose first byte is at low, with the element of node p open.
pub record Inner (t : ℕ) (one two : List ℕ) (e low p : ℕ) (s r : Noted) : Type 0 where
  pub outer : Outer t one two s r
  pub base : low ≤ s.tree.text_count
  pub past : e < s.tree.node_count
  pub split : (n : Note) → In n s.notes → ((n.elem ≡ e) × (low ≤ n.start)) ⊎ ((n.node ≤ e) × (n.start + size n ≤ low))
  pub label : IsTextElement s.tree e
  pub opened : (p < s.tree.node_count) × Under s.tree.nodes e p

-- Two tests that are the same test.
pick-both : (R : Noted → Noted → Type 0) (ns ms : List Note) (b c : Bool) (x y x' y' : Unit {0} → Out Tree) → b ≡ c →
    (b ≡ true → Rel R (with_notes ns (x tt)) (with_notes ms (x' tt))) → Rel R (with_notes ns (y tt)) (with_notes ms (y' tt)) →
    Rel R (with_notes ns (pick b x y)) (with_notes ms (pick c x' y'))
pick-both R ns ms true true x y x' y' e f g = f refl
pick-both R ns ms true false x y x' y' e f g = absurd-bool e
pick-both R ns ms false true x y x' y' e f g = absurd-bool (sym e)
pick-both R ns ms false false x y x' y' e f g = g

node-room-same : (s r : Tree) → length s.nodes ≡ length r.nodes → node_room s ≡ node_room r
unfolding node_room
node-room-same s r h = ap (λ n. min (n / 8) most) h

attribute-room-same : (s r : Tree) → s.attributes ≡ r.attributes → attribute_room s ≡ attribute_room r
unfolding attribute_room
attribute-room-same s r h = ap (λ (l : List ℕ). min (length l / 5) most) h

text-room-same : (s r : Tree) → length s.text ≡ length r.text → text_room s ≡ text_room r
unfolding text_room
text-room-same s r h = ap (λ n. min n most) h

-- There is room for as many bytes.
text-room-fits : (t : Tree) (n : ℕ) → leb (t.text_count + n) (text_room t) ≡ true → t.text_count + n ≤ length t.text
unfolding text_room
text-room-fits t n h = omega (arith, leb-true (t.text_count + n) (min (length t.text) most) h)

-- There is room for as many entries.
entries_fit : (t : Tree) (n : ℕ) → leb (t.attribute_count + n) (attribute_room t) ≡ true →
    5 * (t.attribute_count + n) ≤ length t.attributes
unfolding attribute_room
entries_fit t n h = omega (arith, leb-true (t.attribute_count + n) (min (length t.attributes / 5) most) h)

-- Entries are safe in a tree with the same attribute table.
entry-safe : (one two : List ℕ) (s r : Tree) → s.attributes ≡ r.attributes → ((j : ℕ) → Safe one two (entry_at r j)) → (j : ℕ) →
    Safe one two (entry_at s j)
entry-safe one two s r h safe j = rw (entry-by-words s r j (λ k b. ap (λ (l : List ℕ). get_or l (5 * j + k) 0) h)) (safe j)

module _ (t : ℕ) (one two : List ℕ) where
  pub outer_same : (s r : Noted) → Outer t one two s r → Same one two s.tree r.tree
  outer_same s r o = record {
    count = o.node_count;
    attribute_count = o.attribute_count;
    attributes = o.attributes;
    kind = λ i. o.nodes.at (8 * i + 0) (stable-word t s.notes i 0 (omega arith));
    parent = λ i. o.nodes.at (8 * i + 1) (stable-word t s.notes i 1 (omega arith));
    child = λ i. o.nodes.at (8 * i + 3) (stable-word t s.notes i 3 (omega arith));
    code = λ i. o.nodes.at (8 * i + 5) (stable-word t s.notes i 5 (omega arith));
    range = λ i k. (
      o.nodes.at (8 * i + 6) (λ n h d. (λ e. odd i k n h (omega arith), λ e. omega arith)),
      o.nodes.at (8 * i + 7) (λ n h d. (λ e. omega arith, λ e. odd i k n h (omega arith))),
    );
    safe = o.safe;
  }
    where
      odd : (i : ℕ) → kind_of s.tree i ≡ ELEMENT → (n : Note) → In n s.notes → n.node ≡ i → ⊥
      odd i k n h e = let z : kind_of s.tree i ≡ TEXT = rw e at (o.left.fits n h).kind in omega arith

  -- AN ELEMENT

  -- Both trees with a new element of these entries.
  abbrev grown : ℕ → List Entry → ℕ → Noted → Noted
  grown c es p s = record { tree = add_element c es p s.tree; notes = s.notes }

  outer-add : (c p : ℕ) (es : List Entry) (s r : Noted) → Outer t one two s r → IsCode c → p < s.tree.node_count →
      8 * s.tree.node_count + 8 ≤ length s.tree.nodes → 5 * (s.tree.attribute_count + length es) ≤ length s.tree.attributes →
      Every (Safe one two) es → Every (KeptEntry (length one)) es → Outer t one two (grown c es p s) (grown c es p r)
  unfolding add_element
  outer-add c p es s r o is pb room fit sf ke = record {
    notes = o.notes;
    node_count = ap (λ n. n + 1) o.node_count;
    attribute_count = ap (λ n. n + length es) o.attribute_count;
    text_count = o.text_count;
    attributes = ap (λ l. sets l (5 * s.tree.attribute_count) (Rattle.model.specs.Tables.entries_words es)) o.attributes
        ∙ ap (λ n. sets r.tree.attributes (5 * n) (Rattle.model.specs.Tables.entries_words es)) o.attribute_count;
    nodes = rw (← o.node_count, ← o.attribute_count)
        (appended-agree ELEMENT c s.tree.attribute_count _ _ p s.tree.node_count (stable-word t s.notes p 3 (omega arith))
        (stable-word t s.notes p 4 (omega arith))
        (λ u. refl) o.nodes);
    text = o.text;
    safe = add-safe one two c es p s.tree fit sf o.safe;
    left = good-element (length one) s.notes c es p s.tree is pb room fit ke o.left;
    right = good-element (length one) s.notes c es p r.tree is (rw o.node_count at pb) (rw (← o.node_count, ← o.nodes.long) room)
        (rw (← o.attribute_count, ← o.attributes) fit) ke o.right;
  }

  -- What is asked of an element of the drawing: its values are spelled alike, and lie within the characters.
  abbrev pub Fine : Element → Type 0
  Fine x = SpelledElement one two x × LiesElement (length one) x

  kept-closed : Closed (KeptEntry (length one)) (λ v c. (c ≡ 0 → ⊥) × LiesPart (length one) v)
  kept-closed = record {
    made = λ a i v c x h. record { name = x; fixed = λ z. absurd (h.0 z); inside = λ z. h.1 };
    fixed = λ a i n x f. record { name = x; fixed = λ z. (f.0, f.1, refl); inside = λ z. absurd (z refl) };
    over = λ v e h k. record { name = k.name; fixed = λ z. absurd (h.0 z); inside = λ z. h.1 };
  }

  entries-kept : (n : List Note) (u : Tree) → Good (length one) n u → (p c : ℕ) → p < u.node_count → (i : Bool) (x : Element) →
      LiesElement (length one) x → Every (KeptEntry (length one)) (entries_of u p c i x)
  entries-kept n u g p c l i x h =
      every-entry (KeptEntry (length one)) _ kept-closed u p c (λ j b. (g.tidy.kept.nodes j (omega arith)).falls)
      (λ j a b z. kept-attribute (length one) u g.tidy.kept j a (omega arith) z) i x (lies-read (length one) x h)

  element-rel : (R : Noted → Noted → Type 0) (x : Element) → Fine x → (c : ℕ) → IsCode c → (i : Bool) (p : ℕ) (s r : Noted) →
      Open t one two p s r →
      ((es : List Entry) → 8 * s.tree.node_count + 8 ≤ length s.tree.nodes → Outer t one two (grown c es p s) (grown c es p r) →
      R (grown c es p s) (grown c es p r)) →
      Rel R ((noting (plain one)).element x c i p s) ((noting (plain two)).element x c i p r)
  unfolding parse_svg_element
  element-rel R x g c is i p s r q f =
      let o = q.outer in
      rw (← entries-same one two s.tree r.tree (outer_same s r o) p c i x)
      (pick-both R s.notes r.notes (leb (s.tree.attribute_count + length es) (attribute_room s.tree))
      (leb (r.tree.attribute_count + length es) (attribute_room r.tree)) _ _ _ _
      (ap (λ n. leb (n + length es) (attribute_room s.tree)) o.attribute_count ∙ ap (λ n. leb (r.tree.attribute_count + length es) n)
      (attribute-room-same _ _ o.attributes))
      (λ fit. pick-both R s.notes r.notes (leb s.tree.node_count most_nodes) (leb r.tree.node_count most_nodes) _ _ _ _
      (ap (λ n. leb n most_nodes) o.node_count)
      (λ few. pick-both R s.notes r.notes (ltb s.tree.node_count (node_room s.tree))
      (ltb r.tree.node_count (node_room r.tree)) _ _ _ _
      (ap (λ n. ltb n (node_room s.tree)) o.node_count ∙ ap (λ n. ltb r.tree.node_count n) (node-room-same _ _ o.nodes.long))
      (λ room. same (f es (room_fits s.tree room)
      (outer-add c p es s r o is q.opened (room_fits s.tree room) (entries_fit s.tree (length es) fit)
      (safe-entries one two s.tree p c (λ j b. (o.left.tidy.kept.nodes j (omega (arith, q.opened))).falls) o.safe i x g.0)
      (entries-kept s.notes s.tree o.left p c q.opened i x g.1)))) (both 22))
      (both 20))
      (both 23))
    where
      es : List Entry
      es = entries_of s.tree p c i x

  -- With the new node open, or any that was.
  open-grown : (c p : ℕ) (es : List Entry) (s r : Noted) → Outer t one two s r → Outer t one two (grown c es p s) (grown c es p r) →
      Grown (Open t one two) r.tree.node_count s r (grown c es p s) (grown c es p r)
  unfolding add_element
  open-grown c p es s r o q =
      (record { outer = q; opened = omega (arith, o.node_count) }, λ p' k. record { outer = q; opened = omega (arith, k.opened) })

  outer-element : (x : Element) → Fine x → (c : ℕ) → IsCode c → (i : Bool) (p : ℕ) (s r : Noted) → Open t one two p s r →
      Rel (Grown (Open t one two) r.tree.node_count s r) ((noting (plain one)).element x c i p s) ((noting (plain two)).element x c i p r)
  outer-element x g c is i p s r o =
      element-rel (Grown (Open t one two) r.tree.node_count s r) x g c is i p s r o (λ es room q. open-grown c p es s r o.outer q)

  -- INSIDE A TEXT ELEMENT

  -- The text element itself has been appended.
  enter : (x : Element) → Fine x → (i : Bool) (p : ℕ) (s r : Noted) → Open t one two p s r →
      Rel (Inner t one two s.tree.node_count s.tree.text_count s.tree.node_count) ((noting (plain one)).element x EId.Text i p s)
      ((noting (plain two)).element x EId.Text i p r)
  unfolding add_element
  enter x g i p s r o = element-rel (Inner t one two s.tree.node_count s.tree.text_count s.tree.node_count) x g EId.Text
      text-code i p s r o (λ es room q. record {
        outer = q;
        base = omega arith;
        past = omega arith;
        split = λ n h. inr (omega (arith, (o.outer.left.below n h).0), (o.outer.left.below n h).1);
        label = (its es room 0 (omega arith) (λ x y. omega arith), its es room 5 (omega arith) (λ x y. omega arith));
        opened = (omega arith, here);
      })
    where
      its : (es : List Entry) → 8 * s.tree.node_count + 8 ≤ length s.tree.nodes → (k : ℕ) → k < 8 → (2 ≤ k → k ≤ 4 → ⊥) →
          word (add_element EId.Text es p s.tree).nodes s.tree.node_count k
          ≡ get_or (ELEMENT ∷ (p + 1) ∷ 0 ∷ 0 ∷ 0 ∷ EId.Text ∷ s.tree.attribute_count ∷ (s.tree.attribute_count + length es) ∷ []) k 0
      its es room k b h = appended-new ELEMENT EId.Text _ _ s.tree.nodes p s.tree.node_count k room b h

  inner-element : (e low : ℕ) (x : Element) → Fine x → (c : ℕ) → IsCode c → (p : ℕ) (s r : Noted) → Inner t one two e low p s r →
      Rel (Grown (Inner t one two e low) r.tree.node_count s r) ((noting (plain one)).element x c false p s)
      ((noting (plain two)).element x c false p r)
  unfolding add_element
  inner-element e low x g c is p s r i = element-rel _ x g c is false p s r (record { outer = i.outer; opened = i.opened.0 })
      (λ es room q. let keep = kept es q in (
        record {
          outer = q;
          base = i.base;
          past = omega (arith, i.past);
          split = i.split;
          label = (keep p i).label;
          opened = rw (← i.outer.node_count) (
            omega arith,
            under-new ELEMENT c _ _ s.tree.nodes p s.tree.node_count
                e room i.opened.0 i.opened.1,
          );
        },
        keep,
      ))
    where
      kept : (es : List Entry) → Outer t one two (grown c es p s) (grown c es p r) →
          Carried (Inner t one two e low) s r (grown c es p s) (grown c es p r)
      kept es q p' j = record {
        outer = q;
        base = j.base;
        past = omega (arith, j.past);
        split = j.split;
        label = old_element ELEMENT c _ _ s.tree.nodes p s.tree.node_count e EId.Text j.past j.label;
        opened = (
          omega (arith, j.opened.0),
          under-appended ELEMENT c _ _ s.tree.nodes p s.tree.node_count e p' j.opened.0
              j.opened.1,
        );
      }

  inner_up : (e low p : ℕ) (s r : Noted) → eqb p e ≡ false → Inner t one two e low p s r →
      Inner t one two e low (parent_of r.tree p - 1) s r
  inner_up e low p s r f i =
      let u = under_parent s.tree.nodes e p (eqb-false p e f) i.opened.1 in
      rw (← i.outer.nodes.at (8 * p + 1) (stable-word t s.notes p 1 (omega arith))) (record {
        outer = i.outer;
        base = i.base;
        past = i.past;
        split = i.split;
        label = i.label;
        opened = (omega (arith, u.0, i.opened.0), u.1);
      })

  -- A TEXT NODE

  -- A text that is not t is spelled alike by both.
  abbrev pub Harmless : Source → Type 0
  Harmless a = (a.number ≡ t → ⊥) → slice a.start (a.start + a.size) one ≡ slice a.start (a.start + a.size) two

  joined_same : (from : List Source) → Every Harmless from → among t (map (λ a. a.number) from) ≡ false → joined one from ≡ joined two from
  unfolding joined among
  joined_same [] h f = refl
  joined_same (a ∷ more) h f = go (joined_same more h.1) (eqb t a.number) refl f
    where
      go : (among t (map (λ a. a.number) more) ≡ false → joined one more ≡ joined two more) → (b : Bool) → eqb t a.number ≡ b →
          pick b (λ u. true) (λ u. among t (map (λ a. a.number) more)) ≡ false →
          slice a.start (a.start + a.size) one ++ joined one more ≡ slice a.start (a.start + a.size) two ++ joined two more
      go k true e g = absurd-bool g
      go k false e g = rw (h.0 (λ x. eqb-false t a.number e (sym x)), k g)

  -- All texts that a text node is made from are noted.
  all_noted : (e : ℕ) (from : List Source) (i j : ℕ) → among t (map (λ a. a.number) from) ≡ true →
      among t (sources (note_of e from i j)) ≡ true
  all_noted e from i j h = h

  -- Both trees with a new text node.
  abbrev worded : ℕ → List Source → List ℕ → ℕ → Noted → Noted
  worded e from bs p s = record {
    tree = add_text bs (total_size from) p s.tree;
    notes = note_of e from s.tree.node_count s.tree.text_count ∷ s.notes;
  }

  inner-worded : (e low p : ℕ) (from : List Source) (s r : Noted) (us vs : List ℕ) → length us ≤ total_size from →
      length vs ≤ total_size from →
      ((us ≡ vs) ⊎ (among t (map (λ a. a.number) from) ≡ true)) → 8 * s.tree.node_count + 8 ≤ length s.tree.nodes →
      s.tree.text_count + total_size from ≤ length s.tree.text → Inner t one two e low p s r →
      Carried (Inner t one two e low) s r (worded e from us p s) (worded e from vs p r)
  unfolding add_text entry_at
  inner-worded e low p from s r us vs la lb c room space i p' j = record {
    outer = record {
      notes = notes-same;
      node_count = ap (λ n. n + 1) o.node_count;
      attribute_count = o.attribute_count;
      text_count = ap (λ n. n + total_size from) o.text_count;
      attributes = o.attributes;
      nodes = rw (← o.node_count, ← o.text_count) (appended-agree TEXT 0 s.tree.text_count _ _ p s.tree.node_count
          (stable-word t ns p 3 (omega arith)) (stable-word t ns p 4 (omega arith))
          (λ f. to f c) (agree-weak (λ q f n h d. f n (inr h) (holds_more t n.elem new s.notes d)) o.nodes));
      text = bytes c;
      safe = o.safe;
      left = good-text (length one) s.notes e p us from s.tree room space la i.past i.label i.opened.0 i.opened.1
          o.left;
      right = rw (o.node_count, o.text_count) (good-text (length one) s.notes e p vs from r.tree
          (rw (← o.node_count, ← o.nodes.long) room)
          (rw (← o.text_count, ← o.text.long) space) lb (rw o.node_count at i.past) (
            sym (o.nodes.at (8 * e + 0) (stable-word t s.notes e 0 (omega arith)))
                ∙ i.label.0,
            sym (o.nodes.at (8 * e + 5) (stable-word t s.notes e 5 (omega arith))) ∙ i.label.1,
          )
          (rw o.node_count at i.opened.0)
          (under-keep s.tree.nodes r.tree.nodes e s.tree.node_count
          (λ m b. sym (o.nodes.at (8 * m + 1) (stable-word t s.notes m 1 (omega arith)))) p i.opened.0 i.opened.1)
          o.right);
    };
    base = omega (arith, i.base);
    past = omega (arith, i.past);
    split = λ n h. split n h;
    label = old_element TEXT 0 _ _ s.tree.nodes p s.tree.node_count e EId.Text i.past i.label;
    opened = (
      omega (arith, j.opened.0),
      under-appended TEXT 0 _ _ s.tree.nodes p s.tree.node_count e p' j.opened.0
          j.opened.1,
    );
  }
    where
      o : Outer t one two s r
      o = i.outer

      new : Note
      new = note_of e from s.tree.node_count s.tree.text_count

      ns : List Note
      ns = new ∷ s.notes

      notes-same : new ∷ s.notes ≡ note_of e from r.tree.node_count r.tree.text_count ∷ r.notes
      notes-same = λ x. note_of e from (o.node_count x) (o.text_count x) ∷ o.notes x

      to : Stable t ns (8 * s.tree.node_count + 7) → (us ≡ vs) ⊎ (among t (map (λ a. a.number) from) ≡ true) →
          s.tree.text_count + length us ≡ s.tree.text_count + length vs
      to f (inl x) = rw x
      to f (inr x) =
          absurd ((f new (inl refl) (holds-new t new s.notes (all_noted e from s.tree.node_count s.tree.text_count x))).1 refl)

      weak : Agree (Steady t ns) s.tree.text r.tree.text
      weak = agree-weak (λ q f n h d. f n (inr h) (holds_more t n.elem new s.notes d)) o.text

      bytes : (us ≡ vs) ⊎ (among t (map (λ a. a.number) from) ≡ true) →
          Agree (Steady t ns) (sets s.tree.text s.tree.text_count us) (sets r.tree.text r.tree.text_count vs)
      bytes (inl x) = rw (x, ← o.text_count) (agree-sets vs s.tree.text_count weak)
      bytes (inr x) =
          let w = holds-new t new s.notes (all_noted e from s.tree.node_count s.tree.text_count x) in
          agree_trans (agree-outs us s.tree.text s.tree.text_count (λ j a b f. f new (inl refl) w a (omega arith)))
          (agree_trans weak (agree-sym (agree-outs vs r.tree.text r.tree.text_count
          (λ j a b f. f new (inl refl) w (omega (arith, o.text_count)) (omega (arith, o.text_count))))))

      split : (n : Note) → In n ns → ((n.elem ≡ e) × (low ≤ n.start)) ⊎ ((n.node ≤ e) × (n.start + size n ≤ low))
      split n (inl h) = inl (ap (λ (m : Note). m.elem) h, rw h i.base)
      split n (inr h) = i.split n h

  trim-fits : (w : XmlSpace) (prev : ℕ) (bs : List ℕ) → length (trim_text_after w prev bs) ≤ length bs
  unfolding trim_text_after
  trim-fits w prev [] = omega arith
  trim-fits w prev (b ∷ bs) = go (trim-fits w prev bs) (trim-fits w (converted b) bs)
      (and (is_default w) (and (eqb (converted b) SPACE) (eqb (converted b) prev)))
    where
      go : length (trim_text_after w prev bs) ≤ length bs → length (trim_text_after w (converted b) bs) ≤ length bs → (c : Bool) →
          length (pick c (λ u. trim_text_after w prev bs) (λ u. converted b ∷ trim_text_after w (converted b) bs)) ≤ suc (length bs)
      go f g true = omega arith
      go f g false = omega arith

  joined-fits : (chars : List ℕ) (from : List Source) → length (joined chars from) ≤ total_size from
  unfolding joined total_size
  joined-fits chars [] = omega arith
  joined-fits chars (a ∷ more) =
      let h : length (slice a.start (a.start + a.size) chars) ≤ a.size = simp (length-drop, length-take) (omega arith) in
      rw length-append (omega (arith, h, joined-fits chars more))

  text-fits : (w : XmlSpace) (chars : List ℕ) (from : List Source) → length (trim_text w (joined chars from)) ≤ total_size from
  unfolding trim_text
  text-fits w chars from = omega (arith, trim-fits w 48 (joined chars from), joined-fits chars from)

  texts-same : (w x : XmlSpace) → w ≡ x → (from : List Source) → Every Harmless from →
      (trim_text w (joined one from) ≡ trim_text x (joined two from)) ⊎ (among t (map (λ a. a.number) from) ≡ true)
  texts-same w x q from h = go (among t (map (λ a. a.number) from)) refl
    where
      go : (b : Bool) → among t (map (λ a. a.number) from) ≡ b →
          (trim_text w (joined one from) ≡ trim_text x (joined two from)) ⊎ (among t (map (λ a. a.number) from) ≡ true)
      go true e = inr e
      go false e = inl (rw (q, joined_same from h e))

  inner-text : (e low : ℕ) (from : List Source) → Every Harmless from → (p : ℕ) (s r : Noted) → Inner t one two e low p s r →
      Rel (Carried (Inner t one two e low) s r) ((noting (plain one)).text e from p s) ((noting (plain two)).text e from p r)
  unfolding append_text
  inner-text e low from h p s r i =
      pick-both (Carried (Inner t one two e low) s r) _ _ (leb (s.tree.text_count + total_size from) (text_room s.tree))
      (leb (r.tree.text_count + total_size from) (text_room r.tree)) _ _ _ _
      (ap (λ n. leb (n + total_size from) (text_room s.tree)) i.outer.text_count
      ∙ ap (λ n. leb (r.tree.text_count + total_size from) n) (text-room-same _ _ i.outer.text.long))
      (λ x. pick-both (Carried (Inner t one two e low) s r) _ _ (ltb s.tree.node_count (node_room s.tree))
      (ltb r.tree.node_count (node_room r.tree)) _ _ _ _
      (ap (λ n. ltb n (node_room s.tree)) i.outer.node_count ∙ ap (λ n. ltb r.tree.node_count n)
      (node-room-same _ _ i.outer.nodes.long))
      (λ room. same (inner-worded e low p from s r _ _ (text-fits _ one from) (text-fits _ two from)
      (texts-same _ _ (space-same one two s.tree r.tree (outer_same s r i.outer) p) from h) (room_fits s.tree room)
      (text-room-fits s.tree (total_size from) x) i)) (both 22))
      (both 24)

  -- THE END OF A TEXT ELEMENT

  module _ (e low p : ℕ) (s r : Noted) (i : Inner t one two e low p s r) where
    -- The text nodes behind e are those of e.
    mine : (j : ℕ) → e < j → j < s.tree.node_count → kind_of s.tree j ≡ TEXT →
        (n : Note) × In n s.notes × (n.node ≡ j) × (n.elem ≡ e) × (low ≤ n.start)
    mine j a b k = let f = i.outer.left.noted j b k in go f (i.split f.0 f.1)
      where
        go : (f : (n : Note) × In n s.notes × (n.node ≡ j)) →
            ((f.0.elem ≡ e) × (low ≤ f.0.start)) ⊎ ((f.0.node ≤ e) × (f.0.start + size f.0 ≤ low)) →
            (n : Note) × In n s.notes × (n.node ≡ j) × (n.elem ≡ e) × (low ≤ n.start)
        go f (inl x) = (f.0, f.1, f.2, x.0, x.1)
        go f (inr x) = absurd (omega (arith, f.2))

    w : XmlSpace
    w = space_of one s.tree e

    is : List TextNode
    is = own_text_nodes one s.tree w e s.tree.node_count

    g : Trimming
    g = trimming w is

    -- The right side runs the same program.
    right-run : trim_text_nodes two e r.tree ≡ run g r.tree
    unfolding trim_text_nodes g is w
    right-run = ap (λ l. run l r.tree) (sym program)
      where
        o : Outer t one two s r
        o = i.outer

        h : Same one two s.tree r.tree
        h = outer_same s r o

        wr : XmlSpace
        wr = space_of two r.tree e

        program : trimming w is ≡ trimming wr (own_text_nodes two r.tree wr e r.tree.node_count)
        program =
            ap (λ l. trimming w l) (own-nodes-same one two s.tree r.tree h w e s.tree.node_count
            ∙ ap (λ n. own_text_nodes two r.tree w e n) o.node_count)
            ∙ ap (λ v. trimming v (own_text_nodes two r.tree v e r.tree.node_count)) (space-same one two s.tree r.tree h e)

    within : (Q : ℕ → Type 0) → ((j : ℕ) → e < j → j < s.tree.node_count → kind_of s.tree j ≡ TEXT → Q j) → Within Q g
    unfolding is g
    within Q h = within-trimming Q w is (own-collected Q one s.tree w e s.tree.node_count i.past h)

    abbrev Alike : Tree → Tree → Type 0
    Alike a b = Agree (Stable t s.notes) a.nodes b.nodes × Agree (Steady t s.notes) a.text b.text

    -- The element holds the exchanged text: its own from, to and bytes may change, and nothing else.
    held : holds t e s.notes ≡ true → Alike (run g s.tree) (run g r.tree)
    held h = (
      agree_trans a.0 (agree_trans i.outer.nodes (agree-sym b.0)),
      agree_trans a.1
          (agree_trans i.outer.text (agree-sym b.1)),
    )
      where
        loose : Within (λ j. (Stable t s.notes (8 * j + 6) → ⊥) × (Stable t s.notes (8 * j + 7) → ⊥)
            × ((n : Note) × In n s.notes × (n.node ≡ j) × ((q : ℕ) → n.start ≤ q → q < n.start + size n → Steady t s.notes q →
            ⊥))) g
        loose = within _ (λ j x y k. let m = mine j x y k in
            let d : holds t m.0.elem s.notes ≡ true = rw m.3 h in (
              λ f. (f m.0 m.1 d).0 (omega (arith, m.2)),
              λ f. (f m.0 m.1 d).1 (omega (arith, m.2)),
              (m.0, m.1, m.2, λ q u v f. f m.0 m.1 d u v),
            ))

        a : Alike (run g s.tree) s.tree
        a = run_out (length one) s.notes g s.tree i.outer.left loose

        b : Alike (run g r.tree) r.tree
        b = run_out (length one) s.notes g r.tree i.outer.right loose

    -- It does not: no word and no byte of its own may change.
    own-stable : holds t e s.notes ≡ false → (j k : ℕ) → e < j → 6 ≤ k → k ≤ 7 → Stable t s.notes (8 * j + k)
    own-stable h j k a x y n q d = go (i.split n q)
      where
        go : ((n.elem ≡ e) × (low ≤ n.start)) ⊎ ((n.node ≤ e) × (n.start + size n ≤ low)) →
            ((8 * j + k ≡ 8 * n.node + 6) → ⊥) × ((8 * j + k ≡ 8 * n.node + 7) → ⊥)
        go (inl z) = absurd-bool (sym d ∙ ap (λ m. holds t m s.notes) z.0 ∙ h)
        go (inr z) = (λ f. omega arith, λ f. omega arith)

    own-steady : holds t e s.notes ≡ false → (q : ℕ) → low ≤ q → Steady t s.notes q
    own-steady h q a n m d x y = go (i.split n m)
      where
        go : ((n.elem ≡ e) × (low ≤ n.start)) ⊎ ((n.node ≤ e) × (n.start + size n ≤ low)) → ⊥
        go (inl z) = absurd-bool (sym d ∙ ap (λ m. holds t m s.notes) z.0 ∙ h)
        go (inr z) = omega arith

    free : holds t e s.notes ≡ false → Alike (run g s.tree) (run g r.tree)
    free h = run-both (length one) s.notes g s.tree r.tree i.outer.left
        (within _ (λ j x y k. let m = mine j x y k in (
          own-stable h j 6 x (omega arith) (omega arith),
          own-stable h j 7 x (omega arith) (omega arith),
          (m.0, m.1, m.2, λ q u v. own-steady h q (omega (arith, m.4))),
        ))) i.outer.nodes i.outer.text

    trimmed-alike : Alike (run g s.tree) (run g r.tree)
    trimmed-alike = go (holds t e s.notes) refl
      where
        go : (b : Bool) → holds t e s.notes ≡ b → Alike (run g s.tree) (run g r.tree)
        go true h = held h
        go false h = free h

    leave : Outer t one two ((noting (plain one)).finish e s) ((noting (plain two)).finish e r)
    unfolding trim_text_nodes entry_at g is w
    leave =
        let o = i.outer in
        let u = run-unmoved g s.tree in
        let v = run-unmoved g r.tree in
        rw right-run (record {
          notes = o.notes;
          node_count = u.node_count ∙ o.node_count ∙ sym v.node_count;
          attribute_count = u.attribute_count ∙ o.attribute_count ∙ sym v.attribute_count;
          text_count = u.text_count ∙ o.text_count ∙ sym v.text_count;
          attributes = u.attributes ∙ o.attributes ∙ sym v.attributes;
          nodes = trimmed-alike.0;
          text = trimmed-alike.1;
          safe = λ j. entry-safe one two (run g s.tree) s.tree u.attributes o.safe j;
          left = good-run (length one) s.notes g s.tree (within (IsText s.tree) (λ j x y k. (y, k))) o.left;
          right = good-run (length one) s.notes g r.tree (within (IsText r.tree) (λ j x y k. (
            rw o.node_count at y,
            sym (o.nodes.at (8 * j + 0) (stable-word t s.notes j 0 (omega arith))) ∙ k,
          ))) o.right;
        })

    -- A node before the text element may still get children.
    leave-open : (q : ℕ) → q < e → Open t one two q ((noting (plain one)).finish e s) ((noting (plain two)).finish e r)
    unfolding trim_text_nodes g is w
    leave-open q l = record { outer = leave; opened = omega (arith, i.past, (run-unmoved g s.tree).node_count) }

  -- A TEXT ELEMENT WHOLE

  label-rel : (all : List Event) → Events Fine Harmless all → (x : Element) → Fine x → (xs : List Event) → Events Fine Harmless xs →
      (i : Bool) (p : ℕ) (s r : Noted) → Open t one two p s r →
      Rel (Carried (Open t one two) s r) (label (noting (plain one)) all x xs i p s) (label (noting (plain two)) all x xs i p r)
  label-rel all ok x g xs h i p s r o =
      let e = s.tree.node_count in
      let low = s.tree.text_count in
      rel_map (λ a b. (q : ℕ) → q < e → Open t one two q a b) (Carried (Open t one two) s r) (λ a b f q m. f q m.opened)
      (then-rel (Inner t one two e low e) (λ a b. (q : ℕ) → q < e → Open t one two q a b) _ _ (enter x g i p s r o) (λ s' r' j.
      rw (← o.outer.node_count)
      (then-rel (λ a b. (q : ℕ) × Inner t one two e low q a b) (λ a b. (q : ℕ) → q < e → Open t one two q a b) _ _
      (inside-sim (Inner t one two e low) (λ a b. (q : ℕ) × Inner t one two e low q a b)
      Fine Harmless (noting (plain one)) (noting (plain two)) all ok e
      (λ y gy c is q a b k. inner-element e low y gy c is q a b k)
      (λ from hf q a b k. inner-text e low from hf q a b k)
      (λ q a b k. k.outer.node_count)
      (λ q a b k. ap (λ n. n - 1) (k.outer.nodes.at (8 * q + 1) (stable-word t a.notes q 1 (omega arith))))
      (λ q a b f k. inner_up e low q a b f k)
      (λ q a b k. (q, k)) xs h zero e s' r' j)
      (λ a b k. same (λ q l. leave-open e low k.0 a b k.1 q l)))))

  -- THE NODES OF THE TOP LEVEL

  pub top-related : (all : List Event) → Events Fine Harmless all → (s r : Noted) → Open t one two 0 s r →
      Rel (Carried (Open t one two) s r) (parsed (noting (plain one)) all s) (parsed (noting (plain two)) all r)
  top-related all ok s r o =
      top-sim (Open t one two) Fine Harmless (noting (plain one)) (noting (plain two)) all ok
      (λ x g c is i p a b q. outer-element x g c is i p a b q) (λ x g xs h i p a b q. label-rel all ok x g xs h i p a b q)
      (λ p a b q. q.outer.node_count) s r o
