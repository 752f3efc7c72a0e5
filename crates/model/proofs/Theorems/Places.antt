-- Places in the characters: a text's place is disjoint from every other string's, which follows from the decoding; so a drawing with one
-- text
-- exchanged has the same events, and check takes it.
use Rattle.std.specs.Prelude.{ℕ, ◌+◌, ◌≤◌, ◌<◌, ◌≡◌, ◌⊎◌, Bool}
use Rattle.std.proofs.Math.Path.{refl, sym, ap}
use Rattle.std.proofs.Common.{◌∙◌, inr}
use Rattle.std.proofs.Math.Logic.{inl}
use Rattle.std.proofs.Math.Bool.{true, false, not}
use mathlib.Core.List.{List, [], ◌∷◌}
use Rattle.std.proofs.Math.Option.{Option, none, some}
use native.Mathlib.Omega.{arith}
use Rattle.std.proofs.Math.Decide.{ℕ_discrete}
use borrow.Author.Tests.{eqb-true, eqb-false, ltb-false}
use lib.Dec.{eqb, ltb}
use Rattle.std.proofs.Math.Seq.{slice}
use Rattle.model.specs.Base.{pick}
use Rattle.model.specs.Utf8.{is_utf8}
use Rattle.model.specs.Drawing.{Command, opening, attribute, declaration, reading, closing, broken, Reading, Attribute, Declaration}
use Rattle.model.specs.Drawing.{Source, Event, begin, text, other, close, Mark, past, part_at, readings_at, value_at, attributes_at}
use Rattle.model.specs.Drawing.{declarations_at, element_at, source_at, events_from, text_numbered}
use Rattle.model.specs.Check.{State, Last, nothing, value, ◌if◌, first_of, is_nothing, value_start, value_size, value_kinds, tests_of}
use Rattle.model.specs.Check.{tests_at_end, stepped, check_from}
use Rattle.model.specs.Theorems.Sim.{Every, Events}
use Rattle.model.specs.Theorems.Agree.{Agree}
use Rattle.model.proofs.Theorems.Agree.{agree-slice}
use Rattle.model.proofs.Theorems.Spelled.{Spelled, SpelledElement}
use Rattle.model.proofs.Theorems.Related.{Harmless}
use Rattle.model.proofs.Theorems.Entries.{absurd-bool}
use Rattle.model.proofs.Theorems.Inside.{first-drop, first-keep, first-none, reading-placed, never-broken, check-cons, check-step}
use Rattle.model.specs.Theorems.Inside.{Bounded}

-- A string that was taken ends within the characters.
text-within : (chars : List ℕ) (size : ℕ) (s : State) (l : ℕ) → first_of (tests_of chars size s (Command.text l)) ≡ 0 → s.at + l ≤ size
unfolding tests_of
text-within chars size s l h = ltb-false _ _ (first-drop 5 _ _ (first-drop 3 _ _ (first-drop 6 _ _ h).1).1).0

-- THE PLACE OF TEXT t

-- A string of n bytes from p on lies outside the place of the text a.
abbrev pub Away : Source → ℕ → ℕ → Type 0
Away a p n = (p + n ≤ a.start) ⊎ (a.start + a.size ≤ p)

abbrev pub Outside : Source → ℕ → Type 0
Outside a j = (j < a.start) ⊎ (a.start + a.size ≤ j)

module _ (t : ℕ) (a : Source) where
  -- Every string of the commands behind a mark lies away from the place of a, unless it is text t, whose place is that of a.
  abbrev pub Clear : Mark → List Command → Type 0
  Clear m [] = Unit {0}
  Clear m (opening c n ∷ cs) = Clear (past m (opening c n)) cs
  Clear m (attribute b n l ∷ cs) = Away a m.at l × Clear (past m (attribute b n l)) cs
  Clear m (declaration b i l ∷ cs) = Away a m.at l × Clear (past m (declaration b i l)) cs
  Clear m (reading k o l ∷ cs) = Clear (past m (reading k o l)) cs
  Clear m (Command.text l ∷ cs) =
      ((m.texts + 1 ≡ t → ⊥) → Away a m.at l) × (m.texts + 1 ≡ t → (m.at ≡ a.start) × (l ≡ a.size))
      × Clear (past m (Command.text l)) cs
  Clear m (Command.other ∷ cs) = Clear (past m Command.other) cs
  Clear m (closing ∷ cs) = Clear (past m closing) cs
  Clear m (broken b ∷ cs) = Unit {0}

  clear_behind : (m : Mark) (cs : List Command) → a.start + a.size ≤ m.at → t ≤ m.texts → Clear m cs
  clear_behind m [] h k = tt
  clear_behind m (opening c n ∷ cs) h k = clear_behind (past m (opening c n)) cs (omega arith) (omega arith)
  clear_behind m (attribute b n l ∷ cs) h k = (inr h, clear_behind (past m (attribute b n l)) cs (omega arith) (omega arith))
  clear_behind m (declaration b i l ∷ cs) h k = (inr h, clear_behind (past m (declaration b i l)) cs (omega arith) (omega arith))
  clear_behind m (reading c o l ∷ cs) h k = clear_behind (past m (reading c o l)) cs (omega arith) (omega arith)
  clear_behind m (Command.text l ∷ cs) h k = (
    λ x. inr h,
    λ e. absurd (omega arith),
    clear_behind (past m (Command.text l))
        cs (omega arith) (omega arith),
  )
  clear_behind m (Command.other ∷ cs) h k = clear_behind (past m Command.other) cs (omega arith) (omega arith)
  clear_behind m (closing ∷ cs) h k = clear_behind (past m closing) cs (omega arith) (omega arith)
  clear_behind m (broken b ∷ cs) h k = tt

  some_same : (x y : Source) → ◌≡◌ {A = Option Source} (some x) (some y) → x ≡ y
  some_same x y h = ap (λ (o : Option Source). elim o [ some z ↦ z | none ↦ x ]) h

  no_none : {B : Type 0} (x : Source) → ◌≡◌ {A = Option Source} none (some x) → B
  no_none x h = let z : ◌≡◌ {A = ℕ} 0 1 = ap (λ (o : Option Source). elim o [ some y ↦ 1 | none ↦ 0 ]) h in absurd (omega arith)

  -- What is known where text t stands behind the mark.
  pub record Ahead (m : Mark) (cs : List Command) : Type 0 where
    pub before : m.at ≤ a.start
    pub number : a.number ≡ t
    pub clear : Clear m cs

  pub ahead : (chars : List ℕ) (m : Mark) (cs : List Command) → text_numbered t (events_from chars m cs) ≡ some a → Ahead m cs
  unfolding events_from text_numbered
  ahead chars m [] h = no_none a h
  ahead chars m (opening c n ∷ cs) h = let r = ahead chars (past m (opening c n)) cs h in
      record { before = omega (arith, r.before); number = r.number; clear = r.clear }
  ahead chars m (attribute b n l ∷ cs) h =
      let r = ahead chars (past m (attribute b n l)) cs h in
      record { before = omega (arith, r.before); number = r.number; clear = (inl r.before, r.clear) }
  ahead chars m (declaration b i l ∷ cs) h =
      let r = ahead chars (past m (declaration b i l)) cs h in
      record { before = omega (arith, r.before); number = r.number; clear = (inl r.before, r.clear) }
  ahead chars m (reading k o l ∷ cs) h = let r = ahead chars (past m (reading k o l)) cs h in
      record { before = omega (arith, r.before); number = r.number; clear = r.clear }
  ahead chars m (Command.text l ∷ cs) h = go (eqb (m.texts + 1) t) refl h (λ g. ahead chars (past m (Command.text l)) cs g)
    where
      go : (b : Bool) → eqb (m.texts + 1) t ≡ b →
          pick b (λ u. some (source_at chars m l)) (λ u. text_numbered t (events_from chars (past m (Command.text l)) cs)) ≡ some a →
          (text_numbered t (events_from chars (past m (Command.text l)) cs) ≡ some a → Ahead (past m (Command.text l)) cs) →
          Ahead m (Command.text l ∷ cs)
      go true e g r =
          let q : source_at chars m l ≡ a = some_same _ _ g in
          let n : m.texts + 1 ≡ t = eqb-true _ _ e in
          let x : m.at ≡ a.start = ap (λ (s : Source). s.start) q in
          let y : l ≡ a.size = ap (λ (s : Source). s.size) q in
          record {
            before = omega arith;
            number = sym (ap (λ (s : Source). s.number) q) ∙ n;
            clear = (λ f. absurd (f n), λ f. (x, y), clear_behind (past m (Command.text l)) cs (omega arith) (omega arith));
          }
      go false e g r =
          let k = r g in
          let n : m.texts + 1 ≡ t → ⊥ = eqb-false _ _ e in
          record { before = omega (arith, k.before); number = k.number; clear = (λ f. inl k.before, λ f. absurd (n f), k.clear) }
  ahead chars m (Command.other ∷ cs) h = let r = ahead chars (past m Command.other) cs h in
      record { before = omega (arith, r.before); number = r.number; clear = r.clear }
  ahead chars m (closing ∷ cs) h = let r = ahead chars (past m closing) cs h in
      record { before = omega (arith, r.before); number = r.number; clear = r.clear }
  ahead chars m (broken b ∷ cs) h = no_none a h

  -- The place of the text ends within the characters.
  pub within : (chars : List ℕ) (size : ℕ) (s : State) (m : Mark) (cs : List Command) → s.at ≡ m.at → check_from chars size s cs ≡ 0 →
      text_numbered t (events_from chars m cs) ≡ some a → a.start + a.size ≤ size
  unfolding events_from text_numbered stepped
  within chars size s m [] e k h = no_none a h
  within chars size s m (opening c n ∷ cs) e k h =
      within chars size (stepped chars size s (opening c n)) (past m (opening c n)) cs (omega arith)
      (check-cons chars size s (opening c n) cs k).1 h
  within chars size s m (attribute b n l ∷ cs) e k h =
      within chars size (stepped chars size s (attribute b n l)) (past m (attribute b n l)) cs (omega arith)
      (check-cons chars size s (attribute b n l) cs k).1 h
  within chars size s m (declaration b i l ∷ cs) e k h =
      within chars size (stepped chars size s (declaration b i l)) (past m (declaration b i l)) cs (omega arith)
      (check-cons chars size s (declaration b i l) cs k).1 h
  within chars size s m (reading c o l ∷ cs) e k h =
      within chars size (stepped chars size s (reading c o l)) (past m (reading c o l)) cs (omega arith)
      (check-cons chars size s (reading c o l) cs k).1 h
  within chars size s m (Command.text l ∷ cs) e k h =
      let d = check-cons chars size s (Command.text l) cs k in
      go (eqb (m.texts + 1) t) h (λ g. within chars size (stepped chars size s (Command.text l)) (past m (Command.text l)) cs
      (omega arith) d.1 g)
      (text-within chars size s l d.0)
    where
      go : (b : Bool) → pick b (λ u. some (source_at chars m l)) (λ u. text_numbered t (events_from chars (past m (Command.text l)) cs))
          ≡ some a →
          (text_numbered t (events_from chars (past m (Command.text l)) cs) ≡ some a → a.start + a.size ≤ size) → s.at + l ≤ size →
          a.start + a.size ≤ size
      go true q r f =
          let x : source_at chars m l ≡ a = some_same _ _ q in
          let y : m.at ≡ a.start = ap (λ (s : Source). s.start) x in
          let z : l ≡ a.size = ap (λ (s : Source). s.size) x in
          omega arith
      go false q r f = r q
  within chars size s m (Command.other ∷ cs) e k h =
      within chars size (stepped chars size s Command.other) (past m Command.other) cs (omega arith)
      (check-cons chars size s Command.other cs k).1 h
  within chars size s m (closing ∷ cs) e k h = within chars size (stepped chars size s closing) (past m closing) cs (omega arith)
      (check-cons chars size s closing cs k).1 h
  within chars size s m (broken b ∷ cs) e k h = no_none a h

  -- TWO LISTS OF CHARACTERS THAT AGREE OUTSIDE THAT PLACE

  module _ (one two : List ℕ) (g : Agree (Outside a) one two) where
    away-same : (p n : ℕ) → Away a p n → slice p (p + n) one ≡ slice p (p + n) two
    away-same p n (inl h) = agree-slice p (p + n) (λ j x y. inl (omega arith)) g
    away-same p n (inr h) = agree-slice p (p + n) (λ j x y. inr (omega arith)) g

    part_same : (p n : ℕ) → Away a p n → part_at one p n ≡ part_at two p n
    unfolding part_at
    part_same p n h = ap (λ (b : List ℕ). record { start = p; size = n; bytes = b }) (away-same p n h)

    -- A reading within a value that is away is away too.
    away-part : (v n o l : ℕ) → Away a v n → o + l ≤ n → Away a (v + o) l
    away-part v n o l (inl h) b = inl (omega arith)
    away-part v n o l (inr h) b = inr (omega arith)

    readings-same : (v n : ℕ) (cs : List Command) → Away a v n → Bounded n cs →
        (readings_at one v cs ≡ readings_at two v cs) × Every (λ (r : Reading). Spelled one two r.part) (readings_at one v cs)
    unfolding readings_at part_at
    readings-same v n [] h b = (refl, tt)
    readings-same v n (reading k o l ∷ cs) h b =
        let w = away-part v n o l h b.0 in
        let r = readings-same v n cs h b.1 in
        ((λ i. record { kind = k; part = part_same (v + o) l w i } ∷ r.0 i), (away-same (v + o) l w, r.1))
    readings-same v n (opening c s ∷ cs) h b = (refl, tt)
    readings-same v n (attribute c s l ∷ cs) h b = (refl, tt)
    readings-same v n (declaration c i l ∷ cs) h b = (refl, tt)
    readings-same v n (Command.text l ∷ cs) h b = (refl, tt)
    readings-same v n (Command.other ∷ cs) h b = (refl, tt)
    readings-same v n (closing ∷ cs) h b = (refl, tt)
    readings-same v n (broken c ∷ cs) h b = (refl, tt)

    value_same : (m : Mark) (l : ℕ) (cs : List Command) → Away a m.at l → Bounded l cs →
        (value_at one m l cs ≡ value_at two m l cs) × Spelled one two (value_at one m l cs).part
        × Every (λ (r : Reading). Spelled one two r.part) (value_at one m l cs).readings
    unfolding value_at part_at
    value_same m l cs h b =
        let r = readings-same m.at l cs h b in
        ((λ i. record { command = m.number + 1; part = part_same m.at l h i; readings = r.0 i }), away-same m.at l h, r.1)

    attributes-same : (m : Mark) (n : ℕ) (cs : List Command) → Clear m cs → Bounded n cs →
        (attributes_at one m cs ≡ attributes_at two m cs) × Every (λ (x : Attribute). Spelled one two x.value.part)
        (attributes_at one m cs)
    unfolding attributes_at
    attributes-same m n [] h b = (refl, tt)
    attributes-same m n (attribute c s l ∷ cs) h b =
        let v = value_same m l cs h.0 b in
        let r = attributes-same (past m (attribute c s l)) l cs h.1 b in
        ((λ i. record { name = c; namespace = s; value = v.0 i } ∷ r.0 i), (v.1, r.1))
    attributes-same m n (reading k o l ∷ cs) h b = attributes-same (past m (reading k o l)) n cs h b.1
    attributes-same m n (opening c s ∷ cs) h b = (refl, tt)
    attributes-same m n (declaration c i l ∷ cs) h b = (refl, tt)
    attributes-same m n (Command.text l ∷ cs) h b = (refl, tt)
    attributes-same m n (Command.other ∷ cs) h b = (refl, tt)
    attributes-same m n (closing ∷ cs) h b = (refl, tt)
    attributes-same m n (broken c ∷ cs) h b = (refl, tt)

    declarations-same : (m : Mark) (n : ℕ) (cs : List Command) → Clear m cs → Bounded n cs →
        (declarations_at one m cs ≡ declarations_at two m cs)
        × Every (λ (x : Declaration). Spelled one two x.value.part × Every (λ (r : Reading). Spelled one two r.part)
        x.value.readings) (declarations_at one m cs)
    unfolding declarations_at
    declarations-same m n [] h b = (refl, tt)
    declarations-same m n (attribute c s l ∷ cs) h b = declarations-same (past m (attribute c s l)) l cs h.1 b
    declarations-same m n (declaration c i l ∷ cs) h b =
        let v = value_same m l cs h.0 b in
        let r = declarations-same (past m (declaration c i l)) l cs h.1 b in
        ((λ j. record { name = c; important = i; value = v.0 j } ∷ r.0 j), ((v.1, v.2), r.1))
    declarations-same m n (reading k o l ∷ cs) h b = declarations-same (past m (reading k o l)) n cs h b.1
    declarations-same m n (opening c s ∷ cs) h b = (refl, tt)
    declarations-same m n (Command.text l ∷ cs) h b = (refl, tt)
    declarations-same m n (Command.other ∷ cs) h b = (refl, tt)
    declarations-same m n (closing ∷ cs) h b = (refl, tt)
    declarations-same m n (broken c ∷ cs) h b = (refl, tt)

    element-same : (m : Mark) (c s : ℕ) (cs : List Command) → Clear (past m (opening c s)) cs → Bounded 0 cs →
        (element_at one m c s cs ≡ element_at two m c s cs) × SpelledElement one two (element_at one m c s cs)
    unfolding element_at
    element-same m c s cs h b =
        let x = attributes-same (past m (opening c s)) 0 cs h b in
        let y = declarations-same (past m (opening c s)) 0 cs h b in
        ((λ i. record { number = m.number + 1; code = c; namespace = s; attributes = x.0 i; declarations = y.0 i }), (x.1, y.1))

    -- The documents are the same, their values are spelled alike, and so are all texts but t.
    pub events-same : (m : Mark) (n : ℕ) (cs : List Command) → Clear m cs → Bounded n cs →
        (events_from one m cs ≡ events_from two m cs) × Events (SpelledElement one two) (Harmless t one two) (events_from one m cs)
    unfolding events_from
    events-same m n [] h b = (refl, tt)
    events-same m n (opening c s ∷ cs) h b =
        let x = element-same m c s cs h b in
        let r = events-same (past m (opening c s)) 0 cs h b in
        ((λ i. begin (x.0 i) ∷ r.0 i), (x.1, r.1))
    events-same m n (attribute c s l ∷ cs) h b = events-same (past m (attribute c s l)) l cs h.1 b
    events-same m n (declaration c i l ∷ cs) h b = events-same (past m (declaration c i l)) l cs h.1 b
    events-same m n (reading k o l ∷ cs) h b = events-same (past m (reading k o l)) n cs h b.1
    events-same m n (Command.text l ∷ cs) h b =
        let r = events-same (past m (Command.text l)) 0 cs h.2 b in
        (ap (λ (xs : List Event). text (source_at one m l) ∷ xs) r.0, (λ k. away-same m.at l (h.0 k), r.1))
    events-same m n (Command.other ∷ cs) h b =
        let r = events-same (past m Command.other) 0 cs h b in (ap (λ (xs : List Event). other ∷ xs) r.0, r.1)
    events-same m n (closing ∷ cs) h b =
        let r = events-same (past m closing) 0 cs h b in (ap (λ (xs : List Event). close ∷ xs) r.0, r.1)
    events-same m n (broken c ∷ cs) h b = (refl, tt)

    -- CHECK TAKES BOTH

    -- The value that stands before is away.
    abbrev LastAway : Last → Type 0
    LastAway nothing = Unit {0}
    LastAway (value v n ks) = Away a v n

    -- A test of a string gives the same by both characters.
    utf8-same : (p n : ℕ) → Away a p n → is_utf8 (slice p (p + n) one) ≡ is_utf8 (slice p (p + n) two)
    utf8-same p n h = ap is_utf8 (away-same p n h)

    module _ (size : ℕ) (spelled : is_utf8 (slice a.start (a.start + a.size) two) ≡ true) where
      -- The tests of one command apply no more with the other characters.
      passes : (s : State) (m : Mark) (c : Command) (cs : List Command) → s.at ≡ m.at → LastAway s.last → Clear m (c ∷ cs) →
          first_of (tests_of one size s c) ≡ 0 → first_of (tests_of two size s c) ≡ 0
      unfolding tests_of
      passes s m (opening c n) cs e l h f = f
      passes s m (attribute c n k) cs e l h f = rw (← utf8-same s.at k (rw e h.0)) f
      passes s m (declaration c i k) cs e l h f = rw (← utf8-same s.at k (rw e h.0)) f
      passes s m (reading k o n) cs e l h f = go s.last l f
        where
          go : (w : Last) → LastAway w →
              first_of (3 if not (Rattle.model.specs.Base.and (lib.Dec.leb 1 k) (lib.Dec.leb k 10)) ∷ 4 if is_nothing w ∷ 6
              if ltb (value_size w) (o + n)
              ∷ 7 if Rattle.model.specs.Base.and (not (eqb k 4)) (Rattle.model.specs.Base.among k (value_kinds w))
              ∷ 9 if not (is_utf8 (slice (value_start w + o) (value_start w + o + n) one)) ∷ []) ≡ 0 →
              first_of (3 if not (Rattle.model.specs.Base.and (lib.Dec.leb 1 k) (lib.Dec.leb k 10)) ∷ 4 if is_nothing w ∷ 6
              if ltb (value_size w) (o + n)
              ∷ 7 if Rattle.model.specs.Base.and (not (eqb k 4)) (Rattle.model.specs.Base.among k (value_kinds w))
              ∷ 9 if not (is_utf8 (slice (value_start w + o) (value_start w + o + n) two)) ∷ []) ≡ 0
          go nothing q f = absurd-bool (first-drop 3 _ _ (first-drop 2 _ _ f).1).0
          go (value v z ks) q f =
              let d = first-drop 5 _ _ (first-drop 3 _ _ (first-drop 2 _ _ f).1).1 in
              rw (← utf8-same (v + o) n (away-part v z o n q (ltb-false _ _ d.0))) f
      passes s m (Command.text n) cs e l h f = go (ℕ_discrete (m.texts + 1) t)
        where
          go : Dec (m.texts + 1 ≡ t) → first_of (tests_of two size s (Command.text n)) ≡ 0
          go (no k) = rw (← utf8-same s.at n (rw e (h.0 k))) f
          go (yes k) =
              let q = h.1 k in
              let x = first-drop 6 _ _ f in
              let y = first-drop 3 _ _ x.1 in
              let z = first-drop 5 _ _ y.1 in
              let u : is_utf8 (slice s.at (s.at + n) two) ≡ true = rw (e ∙ q.0, q.1) spelled in
              first-keep 7 _ _ x.0 (first-keep 4 _ _ y.0 (first-keep 6 _ _ z.0 (first-keep 9 _ [] (ap not u) first-none)))
      passes s m Command.other cs e l h f = f
      passes s m closing cs e l h f = f
      passes s m (broken c) cs e l h f = f

      pub check-same : (s : State) (m : Mark) (cs : List Command) → s.at ≡ m.at → LastAway s.last → Clear m cs →
          check_from one size s cs ≡ 0 → check_from two size s cs ≡ 0
      unfolding tests_at_end check_from stepped
      check-same s m [] e l h k = k
      check-same s m (opening c n ∷ cs) e l h k =
          let d = check-cons one size s (opening c n) cs k in
          check-step two size s (opening c n) cs (passes s m (opening c n) cs e l h d.0)
          (check-same (stepped two size s (opening c n)) (past m (opening c n))
          cs (omega arith) tt h d.1)
      check-same s m (attribute c n j ∷ cs) e l h k =
          let d = check-cons one size s (attribute c n j) cs k in
          check-step two size s (attribute c n j) cs (passes s m (attribute c n j) cs e l h d.0)
          (check-same (stepped two size s (attribute c n j)) (past m (attribute c n j)) cs (omega arith) (rw e h.0) h.1 d.1)
      check-same s m (declaration c i j ∷ cs) e l h k =
          let d = check-cons one size s (declaration c i j) cs k in
          check-step two size s (declaration c i j) cs (passes s m (declaration c i j) cs e l h d.0)
          (check-same (stepped two size s (declaration c i j)) (past m (declaration c i j)) cs (omega arith) (rw e h.0) h.1 d.1)
      check-same s m (reading c o j ∷ cs) e l h k =
          let d = check-cons one size s (reading c o j) cs k in
          check-step two size s (reading c o j) cs (passes s m (reading c o j) cs e l h d.0)
          (check-same (stepped two size s (reading c o j)) (past m (reading c o j)) cs (omega arith)
          (still s.last l (reading-placed one size s c o j d.0)) h d.1)
        where
          still : (w : Last) → LastAway w → is_nothing w ≡ false → Away a (value_start w) (value_size w)
          still nothing q f = absurd-bool f
          still (value v n ks) q f = q
      check-same s m (Command.text j ∷ cs) e l h k =
          let d = check-cons one size s (Command.text j) cs k in
          check-step two size s (Command.text j) cs (passes s m (Command.text j) cs e l h d.0)
          (check-same (stepped two size s (Command.text j)) (past m (Command.text j))
          cs (omega arith) tt h.2 d.1)
      check-same s m (Command.other ∷ cs) e l h k =
          let d = check-cons one size s Command.other cs k in
          check-step two size s Command.other cs (passes s m Command.other cs e l h d.0)
          (check-same (stepped two size s Command.other) (past m Command.other)
          cs (omega arith) tt h d.1)
      check-same s m (closing ∷ cs) e l h k =
          let d = check-cons one size s closing cs k in
          check-step two size s closing cs (passes s m closing cs e l h d.0)
          (check-same (stepped two size s closing) (past m closing) cs (omega arith) tt h d.1)
      check-same s m (broken c ∷ cs) e l h k =
          absurd (never-broken one size s c (check-cons one size s (broken c) cs k).0)
