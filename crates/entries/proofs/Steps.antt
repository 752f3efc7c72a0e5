-- One step after another, towards the entries that all of them make. Assumes nothing.
use Prim.Native.Nat.{ℕ, suc, ◌+◌, ◌-◌, ◌*◌, ◌≤◌, ◌<◌}
use mathlib.Core.Path.{◌≡◌, refl, sym, ap, ◌∙◌}
use mathlib.Core.List.{List, [], ◌∷◌}
use native.Mathlib.Omega.{arith}
use Rattle.std.proofs.Common.{Result, Ok, Err}
use Rattle.refusal.specs.declared.Refusal.{Refusal}
use lib.ListN.{length, get_or, drop}
use lib.Seq.{drop-cons}
use Rattle.model.specs.Base.{folded}
use Rattle.model.specs.AId
use Rattle.model.specs.Tables.{Entry}
use Rattle.model.specs.Element.{insert_entry}
use Rattle.model.proofs.Theorems.Runs.{run-own, run_length}
use Rattle.entries.specs.declared.Place.{Place}
use Rattle.entries.specs.declared.Value.{Value}
use Rattle.entries.specs.Space.{Space, Leaves, so_far, Above, inserted}
use Rattle.entries.proofs.Storing.{On, then-leaves, same_entries}
use Rattle.entries.proofs.Inserting.{inserts-more, becomes-same, on-told, full-told}

-- Steps of which none takes an entry away.
pub folded_more : {A : Type 0} (g : List Entry → A → List Entry) → ((es : List Entry) (x : A) → length es ≤ length (g es x)) →
    (xs : List A) (es : List Entry) → length es ≤ length (folded g es xs)
folded_more g h [] es = omega arith
folded_more g h (x ∷ xs) es = omega (arith, h es x, folded_more g h xs (g es x))

-- The steps f, each over the table as it finds it: none takes an entry away, and what one makes does not hang on what the element has.
pub record Steady {A : Type 0} (f : List ℕ → List Entry → A → List Entry) (ats : List ℕ) (place : Place) : Type 0 where
  pub grows : (m : List ℕ) (es : List Entry) (x : A) → length es ≤ length (f m es x)
  pub same : (new : List Entry) (n : ℕ) (m : List ℕ) → On ats place new n m → (es : List Entry) (x : A) → f m es x ≡ f ats es x

-- Behind some of the steps: what is left of them makes `goal` of the element's entries.
pub record Towards {A : Type 0} (f : List ℕ → List Entry → A → List Entry) (ats : List ℕ) (place : Place) (goal : List Entry)
    (left : List A) (n : ℕ) (m : List ℕ) : Type 0 where
  pub on : On ats place (so_far m place n) n m
  pub goes : folded (f ats) (so_far m place n) left ≡ goal

-- The room is within the table at the beginning, too.
room-first : (ats : List ℕ) (place : Place) (new : List Entry) (n : ℕ) (m : List ℕ) → On ats place new n m → 5 * place.room ≤ length ats
room-first ats place new n m o = rw (← run_length ats place.first new, ← o.table) o.space.room

module _ {A : Type 0} (f : List ℕ → List Entry → A → List Entry) (ats : List ℕ) (place : Place) where
  pub at_first : (n : ℕ) → Space ats place n → (xs : List A) →
      Towards f ats place (folded (f ats) (so_far ats place n) xs) xs n ats
  at_first n s xs = record {
    on = record { space = s; table = sym (run-own ats place.first (n - place.first)); entries = refl };
    goes = refl;
  }

  pub folded_grows : Steady f ats place → (xs : List A) (es : List Entry) → length es ≤ length (folded (f ats) es xs)
  folded_grows h xs es = folded_more (f ats) (h.grows ats) xs es

  pub folded-same : Steady f ats place → (new : List Entry) (n : ℕ) (m : List ℕ) → On ats place new n m → (xs : List A) (es : List Entry) →
      folded (f m) es xs ≡ folded (f ats) es xs
  folded-same h new n m o [] es = refl
  folded-same h new n m o (x ∷ xs) es =
      folded-same h new n m o xs (f m es x) ∙ ap (λ (l : List Entry). folded (f ats) l xs) (h.same new n m o es x)

  module _ (h : Steady f ats place) (goal : List Entry) (n : ℕ) (m : List ℕ) where
    -- A step, seen from the table at the beginning.
    stepped : (x : A) (xs : List A) → Towards f ats place goal (x ∷ xs) n m → (r : Result ℕ Refusal) (l : List ℕ) →
        Leaves m place (f m (so_far m place n) x) r l → Leaves ats place (f ats (so_far m place n) x) r l
    stepped x xs t r l step =
        then-leaves ats place (room-first ats place (so_far m place n) n m t.on) (so_far m place n) n m t.on (f ats (so_far m place n)
        x) (h.grows ats (so_far m place n) x) r l
        (rw (← h.same (so_far m place n) n m t.on (so_far m place n) x) step)

    pub step-on : (x : A) (xs : List A) → Towards f ats place goal (x ∷ xs) n m → (r : Result ℕ Refusal) (l : List ℕ) →
        Leaves m place (f m (so_far m place n) x) r l → (k : ℕ) → r ≡ Ok k → Towards f ats place goal xs k l
    step-on x xs t r l step k e =
        let o = on-told ats place (room-first ats place (so_far m place n) n m t.on) (f ats (so_far m place n) x) r l (stepped x xs t r
        l step) k e in
        record {
          on = rw o.entries o;
          goes = rw o.entries t.goes;
        }

    pub step-full : (x : A) (xs : List A) → Towards f ats place goal (x ∷ xs) n m → (r : Result ℕ Refusal) (l : List ℕ) →
        Leaves m place (f m (so_far m place n) x) r l → (p q : Refusal) (o : Result ℕ Refusal) → r ≡ Err p → o ≡ Err q → q ≡ p →
        Leaves ats place goal o l
    step-full x xs t r l step p q o e d i =
        full-told ats place (room-first ats place (so_far m place n) n m t.on) (f ats (so_far m place n) x) r l (stepped x xs t r l
        step) p q o e d i goal
        (rw (← t.goes) (folded_grows h xs (f ats (so_far m place n) x)))

    pub at-end : Towards f ats place goal [] n m → Leaves ats place goal (Ok n) m
    at-end t =
        rw (← t.goes)
        (then-leaves ats place (room-first ats place (so_far m place n) n m t.on) (so_far m place n) n m t.on (so_far m place n)
        (omega arith) (Ok n) m
        (same_entries m place n t.on.space))

  -- A run of steps behind what another left.
  module _ (h : Steady f ats place) (new : List Entry) (xs : List A) where
    pub run_on : (n : ℕ) (m : List ℕ) → On ats place new n m → (r : Result ℕ Refusal) (l : List ℕ) →
        Leaves m place (folded (f m) (so_far m place n) xs) r l → Leaves ats place (folded (f ats) new xs) r l
    run_on n m o r l step =
        then-leaves ats place (room-first ats place new n m o) new n m o (folded (f ats) new xs) (folded_grows h xs new) r l
        (rw (← folded-same h new n m o xs new, ← o.entries) step)

    pub run-full : (room : 5 * place.room ≤ length ats) (r : Result ℕ Refusal) (m : List ℕ) → Leaves ats place new r m →
        (p q : Refusal) (o : Result ℕ Refusal) → r ≡ Err p → o ≡ Err q → q ≡ p → Leaves ats place (folded (f ats) new xs) o m
    run-full room r m step p q o e d i = full-told ats place room new r m step p q o e d i (folded (f ats) new xs) (folded_grows h xs new)

-- A value under one name after another.
pub inserts-steady : (ns ats chars : List ℕ) (place : Place) → Above ns place → (important : ℕ) (v : Value) →
    Steady (λ m. inserted ns m chars place important v) ats place
inserts-steady ns ats chars place above important v = record {
  grows = λ m es a. inserts-more a es _;
  same = λ new n m o es a. ap (insert_entry a es) (becomes-same ns ats chars place above new n m o a important v);
}

-- The three names of `marker`, and those from one on.
abbrev pub markers : List ℕ
markers = AId.MarkerStart ∷ AId.MarkerMid ∷ AId.MarkerEnd ∷ []

pub markers-from : (k : ℕ) → k < length markers → drop k markers ≡ get_or markers k 0 ∷ drop (k + 1) markers
markers-from k h = let e : k + 1 ≡ suc k = omega arith in rw e (drop-cons markers k 0 h)
