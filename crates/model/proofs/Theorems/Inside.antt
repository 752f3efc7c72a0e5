-- What check has seen of a script that it takes; every string of it lies within the characters.
use Rattle.std.specs.Prelude.{ℕ, suc, ◌+◌, ◌≤◌, ◌≡◌, refl, Bool, true, false, eqb, ltb, length}
use mathlib.Core.List.{List, [], ◌∷◌}
use native.Mathlib.Omega.{arith}
use Rattle.std.proofs.Common.{eqb-true, ltb-false}
use Rattle.std.proofs.lemmas.Bool.{eqb-false}
use Rattle.model.specs.Base.{pick, or}
use Rattle.model.specs.Drawing.{Command, opening, attribute, declaration, reading, closing, broken, commands, Reading}
use Rattle.model.specs.Drawing.{Attribute, Declaration, Element, Mark, past, part_at, readings_at, value_at}
use Rattle.model.specs.Drawing.{attributes_at, declarations_at, element_at, events_from, events}
use Rattle.model.specs.Check.{State, Test, ◌if◌, first_of, is_nothing, value_size, tests_of, stepped, starting, check_from, most_bytes}
use Rattle.model.specs.Check.{check}
use Rattle.model.specs.Theorems.Sim.{Every, Events}
use Rattle.model.specs.Theorems.Entries.{ReadFrom}
use Rattle.model.proofs.Theorems.Entries.{absurd-bool}
use Rattle.model.specs.Theorems.Inside.{Bounded, LiesPart, LiesValue, LiesElement, LiesText}

-- WHAT CHECK HAS SEEN

-- One test did not apply, and neither did the rest.
pub first-drop : (n : ℕ) (b : Bool) (ts : List Test) → first_of ((suc n) if b ∷ ts) ≡ 0 → (b ≡ false) × (first_of ts ≡ 0)
unfolding first_of
first-drop n true ts h = absurd (omega arith)
first-drop n false ts h = (refl, h)

pub first-keep : (n : ℕ) (b : Bool) (ts : List Test) → b ≡ false → first_of ts ≡ 0 → first_of (n if b ∷ ts) ≡ 0
unfolding first_of
first-keep n true ts h g = absurd-bool h
first-keep n false ts h g = g

pub first-none : first_of [] ≡ 0
unfolding first_of
first-none = refl

-- A reading has a value before it, and a broken command does not pass.
pub reading-placed : (chars : List ℕ) (size : ℕ) (s : State) (k o l : ℕ) → first_of (tests_of chars size s (reading k o l)) ≡ 0 →
    is_nothing s.last ≡ false
unfolding tests_of
reading-placed chars size s k o l h = (first-drop 3 _ _ (first-drop 2 _ _ h).1).0

pub never-broken : (chars : List ℕ) (size : ℕ) (s : State) (b : ℕ) → first_of (tests_of chars size s (broken b)) ≡ 0 → ⊥
unfolding tests_of
never-broken chars size s b h = absurd-bool (first-drop 1 true [] (first-drop 6 _ _ h).1).0

-- The first command passed, and so did the rest.
pub check-cons : (chars : List ℕ) (size : ℕ) (s : State) (c : Command) (cs : List Command) → check_from chars size s (c ∷ cs) ≡ 0 →
    (first_of (tests_of chars size s c) ≡ 0) × (check_from chars size (stepped chars size s c) cs ≡ 0)
unfolding check_from
check-cons chars size s c cs h = go (eqb (first_of (tests_of chars size s c)) 0) refl h
  where
    go : (b : Bool) → eqb (first_of (tests_of chars size s c)) 0 ≡ b →
        pick b (λ u. check_from chars size (stepped chars size s c) cs) (λ u. first_of (tests_of chars size s c)) ≡ 0 →
        (first_of (tests_of chars size s c) ≡ 0) × (check_from chars size (stepped chars size s c) cs ≡ 0)
    go true e g = (eqb-true _ _ e, g)
    go false e g = absurd (eqb-false _ _ e g)

pub check-step : (chars : List ℕ) (size : ℕ) (s : State) (c : Command) (cs : List Command) → first_of (tests_of chars size s c) ≡ 0 →
    check_from chars size (stepped chars size s c) cs ≡ 0 → check_from chars size s (c ∷ cs) ≡ 0
unfolding check_from
check-step chars size s c cs h g = rw h g

pub bounded : (chars : List ℕ) (size : ℕ) (s : State) (cs : List Command) → check_from chars size s cs ≡ 0 → Bounded (value_size s.last) cs
unfolding tests_of stepped
bounded chars size s [] h = tt
bounded chars size s (reading k o l ∷ cs) h =
    let c = check-cons chars size s (reading k o l) cs h in
    let a = first-drop 2 _ _ c.0 in
    let b = first-drop 3 _ _ a.1 in
    let d = first-drop 5 _ _ b.1 in
    (ltb-false _ _ d.0, bounded chars size (stepped chars size s (reading k o l)) cs c.1)
bounded chars size s (attribute a n l ∷ cs) h =
    bounded chars size (stepped chars size s (attribute a n l)) cs (check-cons chars size s (attribute a n l) cs h).1
bounded chars size s (declaration a i l ∷ cs) h =
    bounded chars size (stepped chars size s (declaration a i l)) cs (check-cons chars size s (declaration a i l) cs h).1
bounded chars size s (opening c n ∷ cs) h =
    bounded chars size (stepped chars size s (opening c n)) cs (check-cons chars size s (opening c n) cs h).1
bounded chars size s (Command.text l ∷ cs) h =
    bounded chars size (stepped chars size s (Command.text l)) cs (check-cons chars size s (Command.text l) cs h).1
bounded chars size s (Command.other ∷ cs) h =
    bounded chars size (stepped chars size s Command.other) cs (check-cons chars size s Command.other cs h).1
bounded chars size s (closing ∷ cs) h = bounded chars size (stepped chars size s closing) cs (check-cons chars size s closing cs h).1
bounded chars size s (broken b ∷ cs) h = tt

-- A STRING ENDS WITHIN THE CHARACTERS

-- A string of l characters passed its two tests.
string-within : (chars : List ℕ) (size at l : ℕ) → first_of (Rattle.model.specs.Check.string_tests chars size at l) ≡ 0 → at + l ≤ size
string-within chars size at l h = ltb-false _ _ (first-drop 5 _ _ h).0

-- Every string of the commands ends within that many characters, where `at` are taken before them.
abbrev pub Ending : ℕ → ℕ → List Command → Type 0
Ending size at [] = Unit {0}
Ending size at (attribute a n l ∷ cs) = (at + l ≤ size) × Ending size (at + l) cs
Ending size at (declaration a i l ∷ cs) = (at + l ≤ size) × Ending size (at + l) cs
Ending size at (Command.text l ∷ cs) = (at + l ≤ size) × Ending size (at + l) cs
Ending size at (reading k o l ∷ cs) = Ending size at cs
Ending size at (opening c n ∷ cs) = Ending size at cs
Ending size at (Command.other ∷ cs) = Ending size at cs
Ending size at (closing ∷ cs) = Ending size at cs
Ending size at (broken b ∷ cs) = Unit {0}

ending : (chars : List ℕ) (size : ℕ) (s : State) (cs : List Command) → check_from chars size s cs ≡ 0 → Ending size s.at cs
unfolding tests_of stepped
ending chars size s [] h = tt
ending chars size s (reading k o l ∷ cs) h =
    ending chars size (stepped chars size s (reading k o l)) cs (check-cons chars size s (reading k o l) cs h).1
ending chars size s (attribute a n l ∷ cs) h =
    let c = check-cons chars size s (attribute a n l) cs h in (
      string-within chars size s.at l (first-drop 3 _ _ (first-drop 2 _ _ (first-drop 6 _ _ c.0).1).1).1,
      ending chars size (stepped chars size s (attribute a n l))
          cs c.1,
    )
ending chars size s (declaration a i l ∷ cs) h =
    let c = check-cons chars size s (declaration a i l) cs h in (
      string-within chars size s.at l (first-drop 3 _ _ (first-drop 2 _ _ (first-drop 6 _ _ c.0).1).1).1,
      ending chars size (stepped chars size s (declaration a i l))
          cs c.1,
    )
ending chars size s (opening c n ∷ cs) h =
    ending chars size (stepped chars size s (opening c n)) cs (check-cons chars size s (opening c n) cs h).1
ending chars size s (Command.text l ∷ cs) h =
    let c = check-cons chars size s (Command.text l) cs h in (
      string-within chars size s.at l (first-drop 3 _ _ (first-drop 6 _ _ c.0).1).1,
      ending chars size (stepped chars size s (Command.text l)) cs c.1,
    )
ending chars size s (Command.other ∷ cs) h =
    ending chars size (stepped chars size s Command.other) cs (check-cons chars size s Command.other cs h).1
ending chars size s (closing ∷ cs) h = ending chars size (stepped chars size s closing) cs (check-cons chars size s closing cs h).1
ending chars size s (broken b ∷ cs) h = tt

-- EVERY VALUE, READING AND TEXT LIES WITHIN THE CHARACTERS

-- A command that takes no characters.
lower : (size : ℕ) (m : Mark) (cs : List Command) → Ending size m.at cs → Ending size (m.at + 0) cs
lower size m cs h = let e : m.at + 0 ≡ m.at = omega arith in rw e h

module _ (chars : List ℕ) (size : ℕ) where
  readings-lie : (v n : ℕ) → v + n ≤ size → (cs : List Command) → Bounded n cs →
      Every (λ (r : Reading). LiesPart size r.part) (readings_at chars v cs)
  unfolding readings_at part_at
  readings-lie v n h [] b = tt
  readings-lie v n h (reading k o l ∷ cs) b = (omega (arith, b.0), readings-lie v n h cs b.1)
  readings-lie v n h (opening c m ∷ cs) b = tt
  readings-lie v n h (attribute c m l ∷ cs) b = tt
  readings-lie v n h (declaration c i l ∷ cs) b = tt
  readings-lie v n h (Command.text l ∷ cs) b = tt
  readings-lie v n h (Command.other ∷ cs) b = tt
  readings-lie v n h (closing ∷ cs) b = tt
  readings-lie v n h (broken c ∷ cs) b = tt

  value-lies : (m : Mark) (l : ℕ) (cs : List Command) → m.at + l ≤ size → Bounded l cs → LiesValue size (value_at chars m l cs)
  unfolding value_at part_at
  value-lies m l cs h b = (omega arith, h, readings-lie m.at l h cs b)

  attributes-lie : (m : Mark) (n : ℕ) (cs : List Command) → Ending size m.at cs → Bounded n cs →
      Every (λ (a : Attribute). LiesValue size a.value) (attributes_at chars m cs)
  unfolding attributes_at
  attributes-lie m n [] h b = tt
  attributes-lie m n (attribute a s l ∷ cs) h b = (value-lies m l cs h.0 b, attributes-lie (past m (attribute a s l)) l cs h.1 b)
  attributes-lie m n (reading k o l ∷ cs) h b = attributes-lie (past m (reading k o l)) n cs (lower size m cs h) b.1
  attributes-lie m n (opening c s ∷ cs) h b = tt
  attributes-lie m n (declaration a i l ∷ cs) h b = tt
  attributes-lie m n (Command.text l ∷ cs) h b = tt
  attributes-lie m n (Command.other ∷ cs) h b = tt
  attributes-lie m n (closing ∷ cs) h b = tt
  attributes-lie m n (broken c ∷ cs) h b = tt

  declarations-lie : (m : Mark) (n : ℕ) (cs : List Command) → Ending size m.at cs → Bounded n cs →
      Every (λ (d : Declaration). LiesValue size d.value) (declarations_at chars m cs)
  unfolding declarations_at
  declarations-lie m n [] h b = tt
  declarations-lie m n (attribute a s l ∷ cs) h b = declarations-lie (past m (attribute a s l)) l cs h.1 b
  declarations-lie m n (reading k o l ∷ cs) h b = declarations-lie (past m (reading k o l)) n cs (lower size m cs h) b.1
  declarations-lie m n (opening c s ∷ cs) h b = tt
  declarations-lie m n (declaration a i l ∷ cs) h b = (
    value-lies m l cs h.0 b,
    declarations-lie (past m (declaration a i l))
        l cs h.1 b,
  )
  declarations-lie m n (Command.text l ∷ cs) h b = tt
  declarations-lie m n (Command.other ∷ cs) h b = tt
  declarations-lie m n (closing ∷ cs) h b = tt
  declarations-lie m n (broken c ∷ cs) h b = tt

  -- The events of commands whose strings end within the characters, and whose readings lie within their values.
  pub events-lie : (m : Mark) (n : ℕ) (cs : List Command) → Ending size m.at cs → Bounded n cs →
      Events (LiesElement size) (LiesText size) (events_from chars m cs)
  unfolding events_from element_at
  events-lie m n [] h b = tt
  events-lie m n (opening c s ∷ cs) h b =
      let g = lower size m cs h in (
        (attributes-lie (past m (opening c s)) 0 cs g b, declarations-lie (past m (opening c s)) 0 cs g b),
        events-lie (past m (opening c s)) 0 cs g b,
      )
  events-lie m n (attribute a s l ∷ cs) h b = events-lie (past m (attribute a s l)) l cs h.1 b
  events-lie m n (declaration a i l ∷ cs) h b = events-lie (past m (declaration a i l)) l cs h.1 b
  events-lie m n (reading k o l ∷ cs) h b = events-lie (past m (reading k o l)) n cs (lower size m cs h) b.1
  events-lie m n (Command.text l ∷ cs) h b = (h.0, events-lie (past m (Command.text l)) 0 cs h.1 b)
  events-lie m n (Command.other ∷ cs) h b = events-lie (past m Command.other) 0 cs (lower size m cs h) b
  events-lie m n (closing ∷ cs) h b = events-lie (past m closing) 0 cs (lower size m cs h) b
  events-lie m n (broken c ∷ cs) h b = tt

-- Check's walk, from check.
pub check-walk : (script chars : List ℕ) → check script chars ≡ 0 → check_from chars (length chars) starting (commands script) ≡ 0
unfolding check
check-walk script chars h = go (or (ltb most_bytes (length script)) (ltb most_bytes (length chars))) h
  where
    go : (c : Bool) → pick c (λ u. 1) (λ u. check_from chars (length chars) starting (commands script)) ≡ 0 →
        check_from chars (length chars) starting (commands script) ≡ 0
    go true g = absurd (omega arith)
    go false g = g

-- Where check gives 0, every value, reading and text of the drawing lies within the characters; by `Events`, so does every suffix of it.
pub all-inside : (script chars : List ℕ) → check script chars ≡ 0 →
    Events (LiesElement (length chars)) (LiesText (length chars)) (events script chars)
unfolding events starting
all-inside script chars h =
    let w = check-walk script chars h in
    events-lie chars (length chars) (record { number = 0; at = 0; texts = 0 }) 0 (commands script)
    (ending chars (length chars) starting (commands script) w) (bounded chars (length chars) starting (commands script) w)

-- What an element's entries are read from.
pub lies-read : (size : ℕ) (e : Element) → LiesElement size e → ReadFrom (λ v c. (c ≡ 0 → ⊥) × LiesPart size v) e
lies-read size e h = (attributes e.attributes h.0, declarations e.declarations h.1)
  where
    attributes : (xs : List Attribute) → Every (λ (a : Attribute). LiesValue size a.value) xs →
        Every (λ (a : Attribute). (a.value.command ≡ 0 → ⊥) × LiesPart size a.value.part) xs
    attributes [] h = tt
    attributes (x ∷ xs) h = ((λ z. omega (arith, h.0.0), h.0.1), attributes xs h.1)

    readings : (n : ℕ) → 1 ≤ n → (xs : List Reading) → Every (λ (r : Reading). LiesPart size r.part) xs →
        Every (λ (r : Reading). (n ≡ 0 → ⊥) × LiesPart size r.part) xs
    readings n l [] h = tt
    readings n l (x ∷ xs) h = ((λ z. omega arith, h.0), readings n l xs h.1)

    declarations : (xs : List Declaration) → Every (λ (d : Declaration). LiesValue size d.value) xs →
        Every (λ (d : Declaration). ((d.value.command ≡ 0 → ⊥) × LiesPart size d.value.part)
        × Every (λ (r : Reading). (d.value.command ≡ 0 → ⊥) × LiesPart size r.part) d.value.readings) xs
    declarations [] h = tt
    declarations (x ∷ xs) h = (
      (
        (λ z. omega (arith, h.0.0), h.0.1),
        readings x.value.command h.0.0 x.value.readings
            h.0.2,
      ),
      declarations xs h.1,
    )
