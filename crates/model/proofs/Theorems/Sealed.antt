-- The proofs of what the sealed panel relies on.
use Prim.Native.Nat.{ℕ, zero, suc, ◌+◌, ◌-◌, ◌<◌}
use Rattle.std.specs.Prelude.{◌≡◌, Bool, List, [], ◌∷◌, eqb, length}
use Rattle.std.proofs.Math.Path.{refl}
use Rattle.std.proofs.Common.{sym, ap, ◌∙◌, arith, eqb-true, ltb-true}
use Rattle.std.proofs.Math.Bool.{true, false}
use Rattle.std.proofs.lemmas.Bool.{eqb-false}
use Rattle.std.proofs.Math.Dec.{ltb}
use Rattle.std.proofs.Math.ListN.{length-replicate}
use Rattle.std.proofs.Math.Seq.{slice}
use Rattle.model.specs.Base.{pick}
use Rattle.model.specs.Drawing.{Reading, Attribute, Declaration, Element, Source, Event, begin, text, other, close, events, values_in}
use Rattle.model.specs.Check.{check}
use Rattle.model.specs.Tables.{Tree, Out, refused, done, ELEMENT, TEXT, word, kind_of, parent_of, first_child_of, from_of, to_of, entry_at}
use Rattle.model.specs.Tables.{cleared, text_of}
use Rattle.model.specs.Parse.{plain}
use Rattle.model.specs.Build.{with_repairs, Result, answered, build, exchanged, exchange_fault, changed, settled, exchange}
use Rattle.model.specs.Questions.{is_sound, question_fault, attribute_question, element_from, self_or_parent, find_attribute_impl}
use Rattle.model.specs.Questions.{find_attribute_question, element_by_id_question, TextPart, empty_part, text_of_node, text_at}
use Rattle.model.specs.Questions.{text_question}
use Rattle.model.specs.Noted.{Note, Noted, stripped, notes_of, noted_tree, notes}
use Rattle.model.proofs.Noted.{notes-forgotten}
use Rattle.model.specs.Under.{Under, here, up}
use Rattle.model.specs.Demand3.{Spared, Alike, Exchangeable, Demand3}
use Rattle.model.specs.Panel.{Request, Valid, AllValid, asked, performed, numbers_given, changed_by, EveryExchangeAccepted, part_bytes}
use Rattle.model.specs.Panel.{SameAnswers, Passes, BuiltPasses}
use Rattle.model.specs.Theorems.Sim.{Rel, both, same, Every, Events}
use Rattle.model.specs.Theorems.Unused.{SameLengths}
use Rattle.model.specs.Theorems.Kept.{Coherent}
use Rattle.model.proofs.Theorems.Sound.{kept-sound}
use Rattle.model.specs.Theorems.Same.{Same}
use Rattle.model.proofs.Theorems.Same.{attribute-id-same, attribute-of-same, holder-same, by-id-same}
use Rattle.model.specs.Theorems.Inside.{LiesElement, LiesText}
use Rattle.model.proofs.Theorems.Inside.{all-inside}
use Rattle.model.specs.Theorems.Good.{Good}
use Rattle.model.proofs.Theorems.Spelled.{SpelledElement}
use Rattle.model.proofs.Theorems.Related.{Outer, Fine, Harmless}
use Rattle.model.proofs.Theorems.Whole.{build-checked, build-noted, answered-chars, outer-repaired, trees-related, demand3}
use Rattle.model.specs.Theorems.Always.{Always}
use Rattle.model.proofs.Theorems.Always.{built-lengths}

-- ONE BUILD

-- A drawing is related to itself.
spelled-self : (chars : List ℕ) (x : Element) → SpelledElement chars chars x
spelled-self chars x = (attributes x.attributes, declarations x.declarations)
  where
    attributes : (xs : List Attribute) → Every (λ (a : Attribute).
        slice a.value.part.start (a.value.part.start + a.value.part.size) chars ≡ slice a.value.part.start
        (a.value.part.start + a.value.part.size) chars) xs
    attributes [] = tt
    attributes (x ∷ xs) = (refl, attributes xs)

    readings : (xs : List Reading) →
        Every (λ (r : Reading). slice r.part.start (r.part.start + r.part.size) chars ≡ slice r.part.start
        (r.part.start + r.part.size) chars) xs
    readings [] = tt
    readings (x ∷ xs) = (refl, readings xs)

    declarations : (xs : List Declaration) → Every (λ (d : Declaration).
        (slice d.value.part.start (d.value.part.start + d.value.part.size) chars ≡ slice d.value.part.start
        (d.value.part.start + d.value.part.size) chars)
        × Every (λ (r : Reading). slice r.part.start (r.part.start + r.part.size) chars ≡ slice r.part.start
        (r.part.start + r.part.size) chars) d.value.readings) xs
    declarations [] = tt
    declarations (x ∷ xs) = ((refl, readings x.value.readings), declarations xs)

fine-self : (chars : List ℕ) (xs : List Event) → Events (LiesElement (length chars)) (LiesText (length chars)) xs →
    Events (Fine 0 chars chars) (Harmless 0 chars chars) xs
fine-self chars [] h = tt
fine-self chars (begin x ∷ xs) h = ((spelled-self chars x, h.0), fine-self chars xs h.1)
fine-self chars (text a ∷ xs) h = (λ e. refl, fine-self chars xs h.1)
fine-self chars (other ∷ xs) h = fine-self chars xs h
fine-self chars (close ∷ xs) h = fine-self chars xs h

module _ (script chars : List ℕ) (n m b : ℕ) where
  abbrev all : List Event
  all = events script chars

  abbrev empty : Tree
  empty = cleared n m b

  -- What a build is, before and with its repairs.
  abbrev parts : Out Noted → Out Tree
  parts x = with_repairs chars all (stripped x)

  parts-always : Always (λ t. SameLengths t empty) (parts (noted_tree (plain chars) all empty))
  parts-always = rw (notes-forgotten (plain chars) all empty) (built-lengths chars all n m b)

  -- The tables are as long as they were lent.
  lengths-of : (o : Out Tree) → Always (λ t. SameLengths t empty) o → SameLengths (answered chars empty o).tree empty
  lengths-of (refused k) h = record { nodes = refl; attributes = refl; text = refl }
  lengths-of (done t) h = h

  good_of : (x y : Out Noted) → Rel (Outer 0 chars chars) x y → (answered chars empty (parts x)).number ≡ 0 →
      Always (λ t. SameLengths t empty) (parts x) →
      Good (length chars) (notes_of x) (answered chars empty (parts x)).tree
  unfolding stripped notes_of
  good_of x y (both k) z h = absurd (h z)
  good_of x y (same {s = s} {t = r} o) z h = (outer-repaired 0 chars chars (values_in all) s r o).left

  module _ (h : (build script chars n m b).number ≡ 0) where
    checked : check script chars ≡ 0
    checked = build-checked script chars n m b h

    noted : build script chars n m b ≡ answered chars empty (parts (noted_tree (plain chars) all empty))
    noted = build-noted script chars n m b checked

    pub built-characters : (build script chars n m b).characters ≡ chars
    built-characters = ap (λ (r : Result). r.characters) noted ∙ answered-chars chars empty (parts (noted_tree (plain chars) all empty))

    pub built-as-lent : SameLengths (build script chars n m b).tree empty
    built-as-lent = rw noted (lengths-of (parts (noted_tree (plain chars) all empty)) parts-always)

    -- What holds of the tables and notes of a build at all times holds of what it gives.
    pub built-good : Good (length chars) (notes script chars n m b) (build script chars n m b).tree
    unfolding notes
    built-good =
        let r = trees-related 0 chars chars all (fine-self chars all (all-inside script chars checked)) n m b in
        rw noted (good_of _ _ r (sym (ap (λ (r : Result). r.number) noted) ∙ h) parts-always)

    passes : Passes (build script chars n m b)
    passes = record {
      sound = rw built-characters (kept-sound chars _ built-good.tidy.kept);
      nodes = built-good.tidy.unused.nodes;
      attributes = built-good.tidy.unused.attributes;
      text = built-good.tidy.unused.text;
    }

-- An exchange that is accepted is the build of the changed drawing, which is accepted.
exchange-built : (script chars : List ℕ) (t : ℕ) (new ns ats ts : List ℕ) → (exchange script chars t new ns ats ts).number ≡ 0 →
    (exchange script chars t new ns ats ts ≡ build script (changed script chars t new) (length ns) (length ats) (length ts))
    × ((build script (changed script chars t new) (length ns) (length ats) (length ts)).number ≡ 0)
unfolding exchange
exchange-built script chars t new ns ats ts h = go (eqb (exchange_fault script chars t new) 0) refl h
  where
    r : Result
    r = build script (changed script chars t new) (length ns) (length ats) (length ts)

    kept : Result
    kept = record {
      number = exchange_fault script chars t new;
      characters = chars;
      tree = record {
        nodes = ns;
        attributes = ats;
        text = ts;
        node_count = 0;
        attribute_count = 0;
        text_count = 0;
      };
    }

    settle : (c : Bool) → eqb r.number 0 ≡ c →
        (pick c (λ u. r) (λ u. record { number = r.number; characters = chars; tree = r.tree })).number ≡ 0 →
        (pick c (λ u. r) (λ u. record { number = r.number; characters = chars; tree = r.tree }) ≡ r) × (r.number ≡ 0)
    settle true e g = (refl, g)
    settle false e g = absurd (eqb-false r.number 0 e g)

    go : (c : Bool) → eqb (exchange_fault script chars t new) 0 ≡ c → (pick c (λ u. settled chars r) (λ u. kept)).number ≡ 0 →
        (pick c (λ u. settled chars r) (λ u. kept) ≡ r) × (r.number ≡ 0)
    go true e g = settle (eqb r.number 0) refl g
    go false e g = absurd (eqb-false (exchange_fault script chars t new) 0 e g)

pub built-passes : BuiltPasses
built-passes = record {
  build = passes;
  exchange = λ script chars t new ns ats ts h.
      let e = exchange-built script chars t new ns ats ts h in
      rw e.0 (passes script (changed script chars t new) (length ns) (length ats) (length ts) e.1);
}

-- EVERY EXCHANGE IS ACCEPTED

-- A valid request in a drawing that was built.
exchangeable : (script chars : List ℕ) (n m b : ℕ) → (build script chars n m b).number ≡ 0 → (q : Request) → (v : Valid script chars q) →
    Exchangeable script chars n m b q.number v.place q.bytes
exchangeable script chars n m b h q v = record { built = h; text = v.text; outside = v.outside; size = v.size; utf8 = v.utf8 }

-- The changed drawing takes what the drawing took: its events are the same.
valid-again : (script one two : List ℕ) → events script two ≡ events script one → (q : Request) → Valid script one q → Valid script two q
valid-again script one two e q v = record {
  place = v.place;
  text = rw e v.text;
  outside = rw e v.outside;
  size = v.size;
  utf8 = v.utf8;
}

all-valid-again : (script one two : List ℕ) → events script two ≡ events script one → (qs : List Request) → AllValid script one qs →
    AllValid script two qs
all-valid-again script one two e [] h = tt
all-valid-again script one two e (q ∷ qs) h = (valid-again script one two e q h.0, all-valid-again script one two e qs h.1)

-- The changed drawing is exchangeable again, for every text.
pub exchangeable-again : (script chars : List ℕ) (n m b t : ℕ) (a : Source) (new : List ℕ) → Exchangeable script chars n m b t a new →
    (u : ℕ) (c : Source) (more : List ℕ) → Exchangeable script chars n m b u c more →
    Exchangeable script (exchanged a new chars) n m b u c more
exchangeable-again script chars n m b t a new h u c more k =
    let d = demand3 script chars n m b t a new h in
    record {
      built = d.number;
      text = rw d.same_events k.text;
      outside = rw d.same_events k.outside;
      size = k.size;
      utf8 = k.utf8;
    }

module _ (script chars : List ℕ) (n m b : ℕ) (h : (build script chars n m b).number ≡ 0) (q : Request) (v : Valid script chars q) where
  abbrev two : List ℕ
  two = exchanged v.place q.bytes chars

  demand : Demand3 script chars n m b q.number v.place q.bytes
  demand = demand3 script chars n m b q.number v.place q.bytes (exchangeable script chars n m b h q v)

  changed-is : changed script chars q.number q.bytes ≡ two
  unfolding changed
  changed-is = rw v.text

  asked_is : asked script (build script chars n m b) q ≡ build script two n m b
  unfolding cleared
  asked_is =
      let l = built-as-lent script chars n m b h in
      rw (built-characters script chars n m b h) (demand.accepted _ _ _ (l.nodes ∙ length-replicate {A = ℕ} n 0) (l.attributes
      ∙ length-replicate {A = ℕ} m 0)
      (l.text ∙ length-replicate {A = ℕ} b 0))

-- One number more.
first : {k : ℕ} {l l' : List ℕ} → k ≡ 0 → l ≡ l' → k ∷ l ≡ 0 ∷ l'
first e f = λ i. e i ∷ f i

pub every-exchange-accepted : EveryExchangeAccepted
unfolding performed numbers_given changed_by
every-exchange-accepted script chars n m b h [] vs = (refl, refl)
every-exchange-accepted script chars n m b h (q ∷ qs) vs =
    let d = demand script chars n m b h q vs.0 in
    let e = asked_is script chars n m b h q vs.0 in
    let r = every-exchange-accepted script (two script chars n m b h q vs.0) n m b d.number qs
    (all-valid-again script chars (two script chars n m b h q vs.0) d.same_events qs vs.1) in
    rw (e, changed-is script chars n m b h q vs.0) (first d.number r.0, r.1)

-- EVERY ANSWER STAYS

-- Trees that are alike are the same in what the questions read.
alike_same : (t : ℕ) (ns : List Note) (one two : List ℕ) (s r : Tree) → Alike t ns one two s r → Same one two s r
unfolding entry_at
alike_same t ns one two s r a = record {
  count = a.node_count;
  attribute_count = a.attribute_count;
  attributes = a.attributes;
  kind = λ i. a.words i 0 (omega arith) (λ e. omega arith);
  parent = λ i. a.words i 1 (omega arith) (λ e. omega arith);
  child = λ i. a.words i 3 (omega arith) (λ e. omega arith);
  code = λ i. a.words i 5 (omega arith) (λ e. omega arith);
  range = λ i k. (a.words i 6 (omega arith) (λ e. absurd (odd i k e)), a.words i 7 (omega arith) (λ e. absurd (odd i k e)));
  safe = λ j. a.values j ∙ rw a.attributes refl;
}
  where
    odd : (i : ℕ) → kind_of s i ≡ ELEMENT → kind_of s i ≡ TEXT → ⊥
    odd i k e = let z : ◌≡◌ {A = ℕ} 2 3 = sym k ∙ e in omega arith

module _ (one two : List ℕ) (s r : Tree) (h : Same one two s r) where
  element-from-same : (n w : ℕ) → element_from s n w ≡ element_from r n w
  unfolding element_from
  element-from-same zero w = refl
  element-from-same (suc n) w = rw (h.kind (w - 1), h.parent (w - 1), element-from-same n (parent_of r (w - 1)))

  self-or-parent-same : (i a : ℕ) → self_or_parent s i a ≡ self_or_parent r i a
  self-or-parent-same i a = rw (
    attribute-id-same one two s r h i a,
    h.parent i,
    element-from-same i (parent_of r i),
    attribute-id-same one two s r h (element_from r i (parent_of r i) - 1) a,
  )

  find-impl-same : (i a : ℕ) → find_attribute_impl s i a ≡ find_attribute_impl r i a
  unfolding find_attribute_impl
  find-impl-same i a = rw (holder-same one two s r h a (i + 1) (i + 1), self-or-parent-same i a)

  -- The same number stands against a question, if the tables pass the test or both do not.
  module _ (sound : is_sound one s ≡ is_sound two r) where
    fault-same : (i a : ℕ) → question_fault one s i a ≡ question_fault two r i a
    unfolding question_fault
    fault-same i a = rw (sound, h.count) refl

    attribute-same : (i a : ℕ) → attribute_question one s i a ≡ attribute_question two r i a
    unfolding attribute_question
    attribute-same i a = rw (fault-same i a, attribute-of-same one two s r h i a) refl

    find-attribute-same : (i a : ℕ) → find_attribute_question one s i a ≡ find_attribute_question two r i a
    unfolding find_attribute_question
    find-attribute-same i a = rw (fault-same i a, find-impl-same i a, attribute-of-same one two s r h (find_attribute_impl r i a - 1) a)
        refl

    by-id-question-same : (id : List ℕ) → element_by_id_question one s id ≡ element_by_id_question two r id
    unfolding element_by_id_question
    by-id-question-same id = rw (sound, by-id-same one two s r h id) refl

-- A node whose text is asked: the first child of a spared element is spared.
spared-child : (ns : List Note) (s : Tree) (t i : ℕ) → Coherent s → i < s.node_count → (first_child_of s i ≡ 0 → ⊥) →
    kind_of s (first_child_of s i - 1) ≡ TEXT →
    Spared ns s t i → Spared ns s t (first_child_of s i - 1)
spared-child ns s t i c l z k h e b x u d = go u
  where
    parent : word s.nodes (first_child_of s i - 1) 1 ≡ i + 1
    parent = c i l z

    at : (j : ℕ) → j ≡ first_child_of s i - 1 → Under s.nodes e j → ⊥
    at j y here = let w : ◌≡◌ {A = ℕ} 2 3 = sym x.0 ∙ ap (λ m. kind_of s m) y ∙ k in omega arith
    at j y (up q p w v g) = let f : p ≡ i = omega (arith, parent, ap (λ m. word s.nodes m 1) y) in h e b x (rw f at g) d

    go : Under s.nodes e (first_child_of s i - 1) → ⊥
    go u = at (first_child_of s i - 1) refl u

module _ (script chars : List ℕ) (n m b t : ℕ) (a : Source) (new : List ℕ) (h : Exchangeable script chars n m b t a new) where
  abbrev after : List ℕ
  after = exchanged a new chars

  abbrev s : Tree
  s = (build script chars n m b).tree

  abbrev r : Tree
  r = (build script after n m b).tree

  demanded : Demand3 script chars n m b t a new
  demanded = demand3 script chars n m b t a new h

  trees-same : Same chars after s r
  trees-same = alike_same t _ chars after s r demanded.alike

  sound-one : is_sound chars s ≡ true
  sound-one = rw (built-characters script chars n m b h.built) at (passes script chars n m b h.built).sound

  sound-two : is_sound after r ≡ true
  sound-two = rw (built-characters script after n m b demanded.number) at (passes script after n m b demanded.number).sound

  both-sound : is_sound chars s ≡ is_sound after r
  both-sound = sound-one ∙ sym sound-two

  -- The text of a spared text node.
  node-text : (i : ℕ) → i < s.node_count → (kind_of s i ≡ TEXT → Spared (notes script chars n m b) s t i) →
      (text_of_node s i ≡ text_of_node r i) × (part_bytes s (text_of_node s i) ≡ part_bytes r (text_of_node r i))
  unfolding text_of
  node-text i l f = rw (← trees-same.kind i) (go (eqb (kind_of s i) TEXT) refl)
    where
      part : Tree → TextPart
      part u = record { start = from_of u i; size = to_of u i - from_of u i }

      go : (c : Bool) → eqb (kind_of s i) TEXT ≡ c →
          (pick c (λ u. part s) (λ u. empty_part) ≡ pick c (λ u. part r) (λ u. empty_part))
          × (part_bytes s (pick c (λ u. part s) (λ u. empty_part)) ≡ part_bytes r (pick c (λ u. part r) (λ u. empty_part)))
      go true e =
          let k = eqb-true (kind_of s i) TEXT e in
          let x = demanded.alike.texts i l k (f k) in
          let o = ((built-good script chars n m b h.built).tidy.kept.nodes i l).bytes k in
          let q : from_of s i + (to_of s i - from_of s i) ≡ to_of s i = omega (arith, o.0) in
          let y : part s ≡ part r = λ j. record { start = x.0 j; size = x.1 j - x.0 j } in
          (y, rw (← x.0, ← x.1, q) (x.2 ∙ rw (x.0, x.1) refl))
      go false e = (refl, refl)

  -- The text of any spared node.
  any-text : (i : ℕ) → i < s.node_count → Spared (notes script chars n m b) s t i →
      (text_at s i ≡ text_at r i) × (part_bytes s (text_at s i) ≡ part_bytes r (text_at r i))
  any-text i l f =
      let e : text_at r i ≡ shaped r (kind_of s i) (first_child_of s i) =
      λ x. shaped r (sym (trees-same.kind i) x) (sym (trees-same.child i) x) in
      let p = go (eqb (kind_of s i) ELEMENT) (eqb (first_child_of s i) 0) refl in
      (p.0 ∙ sym e, p.1 ∙ ap (part_bytes r) (sym e))
    where
      -- The text of node i of a tree, if its kind is k and its first child c.
      shaped : Tree → ℕ → ℕ → TextPart
      shaped u k c = pick (eqb k ELEMENT) (λ x. pick (eqb c 0) (λ v. empty_part) (λ v. text_of_node u (c - 1))) (λ x. text_of_node u i)

      g : Good (length chars) (notes script chars n m b) s
      g = built-good script chars n m b h.built

      j : ℕ
      j = first_child_of s i - 1

      go : (c d : Bool) → eqb (first_child_of s i) 0 ≡ d →
          (pick c (λ u. pick d (λ v. empty_part) (λ v. text_of_node s j)) (λ u. text_of_node s i)
          ≡ pick c (λ u. pick d (λ v. empty_part) (λ v. text_of_node r j)) (λ u. text_of_node r i))
          × (part_bytes s (pick c (λ u. pick d (λ v. empty_part) (λ v. text_of_node s j)) (λ u. text_of_node s i))
          ≡ part_bytes r (pick c (λ u. pick d (λ v. empty_part) (λ v. text_of_node r j)) (λ u. text_of_node r i)))
      go true true e = (refl, refl)
      go true false e =
          let z = eqb-false (first_child_of s i) 0 e in
          let x = (g.tidy.kept.nodes i l).first z in
          node-text j (omega (arith, x.0, x.1)) (λ k. spared-child (notes script chars n m b) s t i g.tidy.coherent l z k f)
      go false d e = node-text i l (λ k. f)

  pub answers_stay : SameAnswers t script chars after n m b s r
  unfolding text_question
  answers_stay = record {
    attribute = attribute-same chars after s r trees-same both-sound;
    find_attribute = find-attribute-same chars after s r trees-same both-sound;
    element_by_id = by-id-question-same chars after s r trees-same both-sound;
    text = λ i f. rw (sound-one, sound-two, ← trees-same.count) (go i f (ltb i s.node_count) refl);
  }
    where
      go : (i : ℕ) → Spared (notes script chars n m b) s t i → (c : Bool) → ltb i s.node_count ≡ c →
          (pick c (λ u. text_at s i) (λ u. empty_part) ≡ pick c (λ u. text_at r i) (λ u. empty_part))
          × (part_bytes s (pick c (λ u. text_at s i) (λ u. empty_part)) ≡ part_bytes r (pick c (λ u. text_at r i) (λ u. empty_part)))
      go i f true e = any-text i (ltb-true i s.node_count e) f
      go i f false e = (refl, refl)
