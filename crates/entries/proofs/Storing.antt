-- What storing an entry leaves of the element's entries. Assumes nothing.
use Prim.Native.Nat.{ℕ, suc, ◌+◌, ◌-◌, ◌*◌, ◌≤◌, ◌<◌}
use mathlib.Core.Path.{◌≡◌, refl, sym, ap, ◌∙◌}
use mathlib.Core.Bool.{Bool, true, false}
use mathlib.Core.List.{List, [], ◌∷◌, ◌++◌}
use mathlib.Core.Option.{some}
use Rattle.std.proofs.Common.{Result, Ok, Err}
use Rattle.refusal.specs.declared.Refusal.{Refusal}
use Rattle.refusal.specs.declared.Refusal.TheVariants.{AttributesFull}
use native.Mathlib.Omega.{arith}
use borrow.Author.Tests.{le-leb, lt-leb, eq-eqb, ne_eqb, leb-true, leb-false}
use lib.Dec.{eqb, leb}
use lib.ListN.{length, get_or, length-append}
use lib.Seq.{sets, length-sets}
use Rattle.model.specs.Base.{pick}
use Rattle.model.specs.Tables.{Entry, entry_words, entry_at, find_entry}
use Rattle.model.specs.Element.{has_entry, on_first, standing, insert_entry}
use Rattle.model.specs.Theorems.Runs.{table_of, entries_from, with_run}
use Rattle.model.proofs.Theorems.Runs.{own-words, run-own, run_length, entries-count, put-more, first-none}
use Rattle.model.proofs.Theorems.Runs.{first_some, put_first, from-run, run-over}
use Rattle.entries.specs.declared.Place.{Place}
use Rattle.entries.specs.Space.{Space, Leaves, so_far}

pub first_count : (f : Entry → Entry) (a : ℕ) (es : List Entry) → length (on_first f a es) ≡ length es
unfolding on_first
first_count f a [] = refl
first_count f a (e ∷ es) = go (eqb e.name a) (first_count f a es)
  where
    go : (b : Bool) → length (on_first f a es) ≡ length es → length (pick b (λ u. f e ∷ es) (λ u. e ∷ on_first f a es)) ≡ suc (length es)
    go true r = refl
    go false r = ap suc r

module _ (ats : List ℕ) (place : Place) (next : ℕ) (s : Space ats place next) where
  count : length (so_far ats place next) ≡ next - place.first
  count = entries-count ats place.first (next - place.first)

  more-count : (e : Entry) → place.first + length (so_far ats place next ++ (e ∷ [])) ≡ next + 1
  more-count e = rw length-append (omega (arith, count, s.low))

  pub add-full : (e : Entry) → place.room ≤ next → Leaves ats place (so_far ats place next ++ (e ∷ [])) (Err AttributesFull) ats
  add-full e h =
      let n = more-count e in
      record {
        answer = rw (lt-leb (place.first + length (so_far ats place next ++ (e ∷ []))) place.room (omega (arith, n))) refl;
        table = λ l. absurd (omega (arith, n));
        long = refl;
      }

  pub add-room : (e : Entry) → next < place.room → (m : List ℕ) → m ≡ sets ats (5 * next) (entry_words e) →
      Leaves ats place (so_far ats place next ++ (e ∷ [])) (Ok (next + 1)) m
  add-room e h m p =
      let n = more-count e in
      let q = le-leb (place.first + length (so_far ats place next ++ (e ∷ []))) place.room (omega (arith, n)) in
      let z : place.first + (next - place.first) ≡ next = omega (arith, s.low) in
      record {
        answer = rw q (ap Ok (sym n));
        table = λ l. p ∙ ap (λ k. sets ats (5 * k) (entry_words e)) (sym z) ∙ put-more ats place.first (next - place.first) e;
        long = ap length p ∙ length-sets ats (5 * next) (entry_words e);
      }

  -- As many entries as before.
  pub same_count : (new : List Entry) → length new ≡ length (so_far ats place next) → (m : List ℕ) → m ≡ with_run ats place.first new →
      Leaves ats place new (Ok next) m
  same_count new e m p =
      let n : place.first + length new ≡ next = omega (arith, e, count, s.low) in
      let q = le-leb (place.first + length new) place.room (omega (arith, n, s.high)) in
      record { answer = rw q (ap Ok (sym n)); table = λ l. p; long = ap length p ∙ run_length ats place.first new }

  -- Nothing is stored.
  pub same_entries : Leaves ats place (so_far ats place next) (Ok next) ats
  same_entries = same_count (so_far ats place next) refl ats (sym (run-own ats place.first (next - place.first)))

  -- What the search for the name a among the entries so far finds.
  module _ (a : ℕ) where
    abbrev k : ℕ
    k = next - place.first

    abbrev found : ℕ
    found = find_entry (table_of ats) a place.first k

    pub is_none : 0 ≡ found → has_entry a (so_far ats place next) ≡ false
    is_none z = first-none ats a place.first k (sym z)

    pub insert-new : 0 ≡ found → (e : Entry) (o : Result ℕ Refusal) (m : List ℕ) →
        Leaves ats place (so_far ats place next ++ (e ∷ [])) o m →
        Leaves ats place (insert_entry a (so_far ats place next) (some e)) o m
    unfolding insert_entry
    insert-new z e o m h = rw (is_none z) h

    module _ (j : ℕ) (at : j + 1 ≡ found) where
      there : found ≡ 0 → ⊥
      there q = omega arith

      pub is_some : has_entry a (so_far ats place next) ≡ true
      is_some = first_some ats a place.first k there

      -- The first of that name is made anew.
      pub first-anew : (f : Entry → Entry) → (m : List ℕ) →
          m ≡ sets ats (5 * j) (entry_words (f (entry_at (table_of ats) j))) →
          Leaves ats place (on_first f a (so_far ats place next)) (Ok next) m
      first-anew f m h =
          let w : j ≡ found - 1 = omega arith in
          same_count (on_first f a (so_far ats place next)) (first_count f a (so_far ats place next)) m
          (h ∙ ap (λ w. sets ats (5 * w) (entry_words (f (entry_at (table_of ats) w)))) w ∙ put_first ats a f place.first k there)

      module _ (e : Entry) where
        abbrev after : List Entry
        after = insert_entry a (so_far ats place next) (some e)

        over : (m : List ℕ) → m ≡ sets ats (5 * j) (entry_words (standing e (entry_at (table_of ats) j))) →
            Leaves ats place after (Ok next) m
        unfolding insert_entry
        over m h = rw is_some (first-anew (standing e) m h)

        -- The first of that name is not important: it is replaced.
        pub insert-over : get_or ats (5 * j + 1) 0 ≡ 0 → (m : List ℕ) → m ≡ sets ats (5 * j) (entry_words e) →
            Leaves ats place after (Ok next) m
        unfolding entry_at
        insert-over i m h = over m (h ∙ ap (λ (x : Entry). sets ats (5 * j) (entry_words x)) (sym stays))
          where
            stays : standing e (entry_at (table_of ats) j) ≡ e
            stays = rw (eq-eqb (get_or ats (5 * j + 1) 0) 0 i) refl

        -- It is important: it stands.
        pub insert-stands : (get_or ats (5 * j + 1) 0 ≡ 0 → ⊥) → Leaves ats place after (Ok next) ats
        unfolding entry_at
        insert-stands i = over ats (sym (own-words ats j) ∙ ap (λ (x : Entry). sets ats (5 * j) (entry_words x)) (sym stays))
          where
            stays : standing e (entry_at (table_of ats) j) ≡ entry_at (table_of ats) j
            stays = rw (ne_eqb (get_or ats (5 * j + 1) 0) 0 i) refl

-- ONE STEP AFTER ANOTHER

-- What holds behind a step that had room.
pub record On (ats : List ℕ) (place : Place) (new : List Entry) (n : ℕ) (m : List ℕ) : Type 0 where
  pub space : Space m place n
  pub table : m ≡ with_run ats place.first new
  pub entries : so_far m place n ≡ new

module _ (ats : List ℕ) (place : Place) (room : 5 * place.room ≤ length ats) (new : List Entry) where
  pub went_on : (n : ℕ) (m : List ℕ) → Leaves ats place new (Ok n) m → On ats place new n m
  went_on n m h = go (leb (place.first + length new) place.room) refl h.answer
    where
      go : (b : Bool) → leb (place.first + length new) place.room ≡ b →
          Ok n ≡ pick b (λ u. Ok (place.first + length new)) (λ u. Err AttributesFull) →
          On ats place new n m
      go true e q =
          let fits = leb-true (place.first + length new) place.room e in
          let at : n ≡ place.first + length new = cc in
          let t = h.table fits in
          let k : n - place.first ≡ length new = omega arith in
          record {
            space = record { low = omega arith; high = omega arith; room = rw h.long room };
            table = t;
            entries = ap (λ (l : List ℕ). entries_from l place.first (n - place.first)) t
                ∙ ap (λ j. entries_from (with_run ats place.first new) place.first j) k
                ∙ from-run ats place.first new (omega arith);
          }
      go false e q = absurd (cc)

  -- The entries of the next step are no fewer.
  pub then-leaves : (n : ℕ) (m : List ℕ) → On ats place new n m → (more : List Entry) → length new ≤ length more →
      (r : Result ℕ Refusal) (l : List ℕ) →
      Leaves m place more r l → Leaves ats place more r l
  then-leaves n m o more f r l h = record {
    answer = h.answer;
    table = λ fits. h.table fits ∙ ap (λ (x : List ℕ). with_run x place.first more) o.table
        ∙ run-over ats place.first new more f (omega arith);
    long = h.long ∙ ap length o.table ∙ run_length ats place.first new;
  }

  -- A step that had no room.
  pub full-leaves : (x : Refusal) (m : List ℕ) → Leaves ats place new (Err x) m → (more : List Entry) → length new ≤ length more →
      Leaves ats place more (Err x) m
  full-leaves x m h more f = go (leb (place.first + length new) place.room) refl h.answer
    where
      go : (b : Bool) → leb (place.first + length new) place.room ≡ b →
          Err x ≡ pick b (λ u. Ok (place.first + length new)) (λ u. Err AttributesFull) →
          Leaves ats place more (Err x) m
      go true e q = absurd (cc)
      go false e q =
          let over = leb-false (place.first + length new) place.room e in
          record {
            answer = rw (lt-leb (place.first + length more) place.room (omega arith)) q;
            table = λ fits. absurd (omega arith);
            long = h.long;
          }
