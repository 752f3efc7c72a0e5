-- The readings of a value by the number of its command: in a drawing that check takes, those that stand there are those of the document.
-- Assumes nothing.
use mathlib.Core.Path.{◌≡◌, refl, sym, ap, ◌∙◌}
use mathlib.Core.List.{List, [], ◌∷◌, ◌++◌, map}
use mathlib.Core.Bool.{Bool, true, false, not, false≢true}
use Prim.Native.Nat.{ℕ, zero, suc, ◌+◌, ◌<◌, ◌≤◌}
use native.Mathlib.Omega.{arith}
use borrow.Author.Tests.{eq-eqb, ne_eqb, eqb-true}
use lib.Dec.{eqb, ltb}
use lib.ListN.{length}
use Rattle.model.specs.Base.{pick, or}
use Rattle.model.specs.Check as check
use Rattle.model.specs.Check.{Test, ◌if◌, State, Stage, may_attribute, may_declare, first_of, tests_of, stepped, check_from, starting}
use Rattle.model.specs.Check.{most_bytes}
use Rattle.model.specs.Drawing as model
use Rattle.model.specs.Drawing.{Command, opening, attribute, declaration, reading, closing, broken, Mark, past, Value, value_at}
use Rattle.model.specs.Drawing.{attributes_at}
use Rattle.model.specs.Drawing.{declarations_at, element_at, events_from, events, commands, values_in, readings_of}
use Rattle.script.specs.declared.cursor.Cursor.{Cursor}
use Rattle.script.specs.declared.drawing.Drawing.{Drawing}
use Rattle.script.specs.Step.{commands_at, mark_of, is_broken, at_start, place_from, place_of, Checked, document}
use Rattle.script.proofs.Commands.{Stands, nothing-there, broken-there, there, what-stands, unbroken}
use Rattle.places.specs.Seeks.{readings_next, readings_here}

-- CHECK

passed : (n x : ℕ) → pick (eqb n 0) (λ u. x) (λ u. n) ≡ 0 → (n ≡ 0) × (x ≡ 0)
passed n x h = go (eqb n 0) refl h
  where
    go : (t : Bool) → eqb n 0 ≡ t → pick t (λ u. x) (λ u. n) ≡ 0 → (n ≡ 0) × (x ≡ 0)
    go true e k = (eqb-true n 0 e, k)
    go false e k = (
      k,
      absurd (let z : eqb n 0 ≡ true = eq-eqb n 0 k in let y : ◌≡◌ {A = Bool} true false = sym z
          ∙ e in let w : ◌≡◌ {A = ℕ} 0 1 = cc in omega arith),
    )

-- A test that applies is not passed over.
third : (a b c : Bool) (ts : List Test) → c ≡ true → first_of (7 if a ∷ 3 if b ∷ 4 if c ∷ ts) ≡ 0 → ⊥
unfolding first_of
third true b c ts e h = omega arith
third false true c ts e h = omega arith
third false false true ts e h = omega arith
third false false false ts e h = false≢true e

second : (a : Bool) (ts : List Test) → first_of (7 if a ∷ 2 if true ∷ ts) ≡ 0 → ⊥
unfolding first_of
second true ts h = omega arith
second false ts h = omega arith

-- THE VALUES OF ALL COMMANDS

module _ (chars : List ℕ) where
  -- The values of the commands behind a mark, in their order.
  unfoldable pub values_from : Mark → List Command → List Value
  values_from m [] = []
  values_from m (opening a b ∷ cs) = values_from (past m (opening a b)) cs
  values_from m (attribute a b l ∷ cs) = value_at chars m l cs ∷ values_from (past m (attribute a b l)) cs
  values_from m (declaration a b l ∷ cs) = value_at chars m l cs ∷ values_from (past m (declaration a b l)) cs
  values_from m (reading k o l ∷ cs) = values_from (past m (reading k o l)) cs
  values_from m (Command.text l ∷ cs) = values_from (past m (Command.text l)) cs
  values_from m (Command.other ∷ cs) = values_from (past m Command.other) cs
  values_from m (closing ∷ cs) = values_from (past m closing) cs
  values_from m (broken b ∷ cs) = []

  -- The values of the document that are still to come, by what may come inside the innermost open element.
  abbrev to_come : Stage → Mark → List Command → List Value
  to_come check.attributes m cs =
      map (λ (a : model.Attribute). a.value) (attributes_at chars m cs)
      ++ map (λ (d : model.Declaration). d.value) (declarations_at chars m cs) ++ values_in (events_from chars m cs)
  to_come check.declarations m cs =
      map (λ (d : model.Declaration). d.value) (declarations_at chars m cs) ++ values_in (events_from chars m cs)
  to_come check.children m cs = values_in (events_from chars m cs)

  module _ (size : ℕ) where
    -- A command that check went over.
    went : (s : State) (x : Command) (cs : List Command) → check_from chars size s (x ∷ cs) ≡ 0
        → (first_of (tests_of chars size s x) ≡ 0) × (check_from chars size (stepped chars size s x) cs ≡ 0)
    unfolding check_from
    went s x cs h = passed (first_of (tests_of chars size s x)) (check_from chars size (stepped chars size s x) cs) h

    no-attribute : (s : State) (a b l : ℕ) → not (may_attribute s.stage) ≡ true → first_of (tests_of chars size s (attribute a b l)) ≡ 0 → ⊥
    unfolding tests_of
    no-attribute s a b l t h = third _ _ (not (may_attribute s.stage)) _ t h

    no-declaration : (s : State) (a b l : ℕ) → not (may_declare s.stage) ≡ true
        → first_of (tests_of chars size s (declaration a b l)) ≡ 0 → ⊥
    unfolding tests_of
    no-declaration s a b l t h = third _ _ (not (may_declare s.stage)) _ t h

    no-broken : (s : State) (b : ℕ) → first_of (tests_of chars size s (broken b)) ≡ 0 → ⊥
    unfolding tests_of
    no-broken s b h = second _ _ h

    all-values : (cs : List Command) (s : State) (st : Stage) (m : Mark) → s.stage ≡ st → check_from chars size s cs ≡ 0
        → to_come st m cs ≡ values_from m cs
    unfolding values_from attributes_at declarations_at events_from values_in element_at stepped
    all-values [] s check.attributes m e h = refl
    all-values [] s check.declarations m e h = refl
    all-values [] s check.children m e h = refl
    all-values (opening a b ∷ cs) s check.attributes m e h = all-values cs (stepped chars size s (opening a b)) check.attributes
        (past m (opening a b)) refl (went s (opening a b) cs h).1
    all-values (opening a b ∷ cs) s check.declarations m e h = all-values cs (stepped chars size s (opening a b)) check.attributes
        (past m (opening a b)) refl (went s (opening a b) cs h).1
    all-values (opening a b ∷ cs) s check.children m e h = all-values cs (stepped chars size s (opening a b)) check.attributes
        (past m (opening a b)) refl (went s (opening a b) cs h).1
    all-values (attribute a b l ∷ cs) s check.attributes m e h =
        ap (λ vs. value_at chars m l cs ∷ vs)
        (all-values cs (stepped chars size s (attribute a b l)) check.attributes (past m (attribute a b l)) refl
        (went s (attribute a b l) cs h).1)
    all-values (attribute a b l ∷ cs) s check.declarations m e h = absurd
        (no-attribute s a b l (ap (λ t. not (may_attribute t)) e) (went s (attribute a b l) cs h).0)
    all-values (attribute a b l ∷ cs) s check.children m e h = absurd
        (no-attribute s a b l (ap (λ t. not (may_attribute t)) e) (went s (attribute a b l) cs h).0)
    all-values (declaration a b l ∷ cs) s check.attributes m e h =
        ap (λ vs. value_at chars m l cs ∷ vs)
        (all-values cs (stepped chars size s (declaration a b l)) check.declarations (past m (declaration a b l)) refl
        (went s (declaration a b l) cs h).1)
    all-values (declaration a b l ∷ cs) s check.declarations m e h =
        ap (λ vs. value_at chars m l cs ∷ vs)
        (all-values cs (stepped chars size s (declaration a b l)) check.declarations (past m (declaration a b l)) refl
        (went s (declaration a b l) cs h).1)
    all-values (declaration a b l ∷ cs) s check.children m e h = absurd
        (no-declaration s a b l (ap (λ t. not (may_declare t)) e) (went s (declaration a b l) cs h).0)
    all-values (reading k o l ∷ cs) s check.attributes m e h = all-values cs (stepped chars size s (reading k o l)) check.attributes
        (past m (reading k o l)) e (went s (reading k o l) cs h).1
    all-values (reading k o l ∷ cs) s check.declarations m e h = all-values cs (stepped chars size s (reading k o l)) check.declarations
        (past m (reading k o l)) e (went s (reading k o l) cs h).1
    all-values (reading k o l ∷ cs) s check.children m e h = all-values cs (stepped chars size s (reading k o l)) check.children
        (past m (reading k o l)) e (went s (reading k o l) cs h).1
    all-values (Command.text l ∷ cs) s check.attributes m e h = all-values cs (stepped chars size s (Command.text l)) check.children
        (past m (Command.text l)) refl (went s (Command.text l) cs h).1
    all-values (Command.text l ∷ cs) s check.declarations m e h = all-values cs (stepped chars size s (Command.text l)) check.children
        (past m (Command.text l)) refl (went s (Command.text l) cs h).1
    all-values (Command.text l ∷ cs) s check.children m e h = all-values cs (stepped chars size s (Command.text l)) check.children
        (past m (Command.text l)) refl (went s (Command.text l) cs h).1
    all-values (Command.other ∷ cs) s check.attributes m e h = all-values cs (stepped chars size s Command.other) check.children
        (past m Command.other) refl (went s Command.other cs h).1
    all-values (Command.other ∷ cs) s check.declarations m e h = all-values cs (stepped chars size s Command.other) check.children
        (past m Command.other) refl (went s Command.other cs h).1
    all-values (Command.other ∷ cs) s check.children m e h = all-values cs (stepped chars size s Command.other) check.children
        (past m Command.other) refl (went s Command.other cs h).1
    all-values (closing ∷ cs) s check.attributes m e h = all-values cs (stepped chars size s closing) check.children
        (past m closing) refl (went s closing cs h).1
    all-values (closing ∷ cs) s check.declarations m e h = all-values cs (stepped chars size s closing) check.children
        (past m closing) refl (went s closing cs h).1
    all-values (closing ∷ cs) s check.children m e h = all-values cs (stepped chars size s closing) check.children (past m closing) refl
        (went s closing cs h).1
    all-values (broken b ∷ cs) s st m e h = absurd (no-broken s b (went s (broken b) cs h).0)

  -- BY ITS NUMBER

  -- No value behind a mark has a number up to the mark's.
  none-later : (n : ℕ) (m : Mark) (cs : List Command) → n ≤ m.number → readings_of n (values_from m cs) ≡ []
  unfolding values_from readings_of value_at
  none-later n m [] h = refl
  none-later n m (opening a b ∷ cs) h = none-later n (past m (opening a b)) cs (omega arith)
  none-later n m (attribute a b l ∷ cs) h = rw (ne_eqb (m.number + 1) n (λ z. omega (arith, z)))
      (none-later n (past m (attribute a b l)) cs (omega arith))
  none-later n m (declaration a b l ∷ cs) h = rw (ne_eqb (m.number + 1) n (λ z. omega (arith, z)))
      (none-later n (past m (declaration a b l)) cs (omega arith))
  none-later n m (reading k o l ∷ cs) h = none-later n (past m (reading k o l)) cs (omega arith)
  none-later n m (Command.text l ∷ cs) h = none-later n (past m (Command.text l)) cs (omega arith)
  none-later n m (Command.other ∷ cs) h = none-later n (past m Command.other) cs (omega arith)
  none-later n m (closing ∷ cs) h = none-later n (past m closing) cs (omega arith)
  none-later n m (broken b ∷ cs) h = refl

  -- The next command's.
  next-value : (m : Mark) (cs : List Command) → readings_next chars m cs ≡ readings_of (m.number + 1) (values_from m cs)
  unfolding values_from readings_of readings_next value_at
  next-value m [] = refl
  next-value m (opening a b ∷ cs) = sym (none-later (m.number + 1) (past m (opening a b)) cs (omega arith))
  next-value m (attribute a b l ∷ cs) = sym (rw (eq-eqb (m.number + 1) (m.number + 1) refl))
  next-value m (declaration a b l ∷ cs) = sym (rw (eq-eqb (m.number + 1) (m.number + 1) refl))
  next-value m (reading k o l ∷ cs) = sym (none-later (m.number + 1) (past m (reading k o l)) cs (omega arith))
  next-value m (Command.text l ∷ cs) = sym (none-later (m.number + 1) (past m (Command.text l)) cs (omega arith))
  next-value m (Command.other ∷ cs) = sym (none-later (m.number + 1) (past m Command.other) cs (omega arith))
  next-value m (closing ∷ cs) = sym (none-later (m.number + 1) (past m closing) cs (omega arith))
  next-value m (broken b ∷ cs) = refl

  -- A later command's, behind the next one.
  over-value : (n : ℕ) (m : Mark) (x : Command) (cs : List Command) → m.number + 1 < n
      → readings_of n (values_from m (x ∷ cs)) ≡ readings_of n (pick (is_broken x) (λ u. []) (λ u. values_from (past m x) cs))
  unfolding values_from readings_of value_at
  over-value n m (opening a b) cs h = refl
  over-value n m (attribute a b l) cs h = rw (ne_eqb (m.number + 1) n (λ z. omega (arith, z)))
  over-value n m (declaration a b l) cs h = rw (ne_eqb (m.number + 1) n (λ z. omega (arith, z)))
  over-value n m (reading k o l) cs h = refl
  over-value n m (Command.text l) cs h = refl
  over-value n m (Command.other) cs h = refl
  over-value n m closing cs h = refl
  over-value n m (broken b) cs h = refl

module _ (drawing : Drawing) where
  -- Where no whole command stands there is no value.
  no-command : (d : Cursor) (n : ℕ) → commands_at drawing d ≡ []
      → readings_here drawing d ≡ readings_of n (values_from drawing.characters.now (mark_of d) (commands_at drawing d))
  unfolding values_from readings_of readings_next
  no-command d n z = ap (readings_next drawing.characters.now (mark_of d)) z ∙ sym (ap (λ cs. readings_of n (values_from drawing.characters.now (mark_of d) cs)) z)

  no_whole : (d : Cursor) (n b : ℕ) → commands_at drawing d ≡ broken b ∷ []
      → readings_here drawing d ≡ readings_of n (values_from drawing.characters.now (mark_of d) (commands_at drawing d))
  unfolding values_from readings_of readings_next
  no_whole d n b z = ap (readings_next drawing.characters.now (mark_of d)) z ∙ sym (ap (λ cs. readings_of n (values_from drawing.characters.now (mark_of d) cs)) z)

  at_place : (k : ℕ) (d : Cursor)
      → readings_here drawing (place_from k d (commands_at drawing d))
      ≡ readings_of (d.number + k + 1) (values_from drawing.characters.now (mark_of d) (commands_at drawing d))
  unfolding place_from
  at_place zero d = next-value drawing.characters.now (mark_of d) (commands_at drawing d)
      ∙ ap (λ n. readings_of n (values_from drawing.characters.now (mark_of d) (commands_at drawing d))) (let z : d.number + 1 ≡ d.number + 0 + 1 = omega arith in z)
  at_place (suc k) d = go (what-stands drawing d) (at_place k)
    where
      go : Stands drawing d → ((m : Cursor)
          → readings_here drawing (place_from k m (commands_at drawing m))
          ≡ readings_of (m.number + k + 1) (values_from drawing.characters.now (mark_of m) (commands_at drawing m)))
          → readings_here drawing (place_from (suc k) d (commands_at drawing d))
          ≡ readings_of (d.number + suc k + 1) (values_from drawing.characters.now (mark_of d) (commands_at drawing d))
      go (nothing-there z) ih = ap (λ cs. readings_here drawing (place_from (suc k) d cs)) z ∙ no-command d (d.number + suc k + 1) z
      go (broken-there b z) ih = ap (λ cs. readings_here drawing (place_from (suc k) d cs)) z ∙ no_whole d (d.number + suc k + 1) b z
      go (there x m w) ih =
          let p : d.number + suc k + 1 ≡ m.number + k + 1 = omega (arith, ap (λ (v : Cursor). v.number) w.next) in
          rw (w.more, unbroken x w, ← w.next)
          (ih m ∙ ap (λ n. readings_of n (values_from drawing.characters.now (mark_of m) (commands_at drawing m))) (sym p)
          ∙ ap (λ (c : Cursor). readings_of (d.number + suc k + 1) (values_from drawing.characters.now (mark_of c) (commands_at drawing m))) w.next
          ∙ sym (over-value drawing.characters.now (d.number + suc k + 1) (mark_of d) x (commands_at drawing m) (omega arith) ∙ rw (unbroken x w)))

-- What stands behind k commands of a drawing that check takes is what the document has of the command numbered k + 1.
pub checked-readings : (drawing : Drawing) → Checked drawing → (k : ℕ)
    → readings_here drawing (place_of drawing k) ≡ readings_of (k + 1) (values_in (document drawing))
unfolding check.check events place_of commands_at starting
checked-readings drawing h k =
    at_place drawing k at_start
    ∙ ap (λ n. readings_of n (values_from drawing.characters.now start (commands drawing.script.now))) (let z : 0 + k + 1 ≡ k + 1 = omega arith in z)
    ∙ ap (readings_of (k + 1)) (sym
    (all-values drawing.characters.now (length drawing.characters.now) (commands drawing.script.now) starting check.children start refl
    (go (or (ltb most_bytes (length drawing.script.now)) (ltb most_bytes (length drawing.characters.now))) h)))
  where
    start : Mark
    start = record { number = 0; at = 0; texts = 0 }

    go : (t : Bool) → pick t (λ u. 1) (λ u. check_from drawing.characters.now (length drawing.characters.now) starting (commands drawing.script.now)) ≡ 0
        → check_from drawing.characters.now (length drawing.characters.now) starting (commands drawing.script.now) ≡ 0
    go true e = absurd (omega arith)
    go false e = e
