-- One value after another: what was inserted before does not change what a value becomes. Assumes nothing.
use Prim.Native.Nat.{ℕ, ◌*◌, ◌≤◌, ◌<◌}
use mathlib.Core.Path.{◌≡◌, ap, ◌∙◌}
use mathlib.Core.Bool.{Bool, true, false}
use mathlib.Core.List.{List, [], ◌∷◌, ◌++◌}
use mathlib.Core.Option.{Option, none, some}
use Rattle.std.proofs.Common as std
use Rattle.std.proofs.Common.{Some, None, Result, Ok, Err}
use native.Mathlib.Omega.{arith}
use lib.ListN.{length, get_or, length-append}
use Rattle.model.specs.Base.{pick}
use Rattle.model.specs.Drawing.{part_at}
use Rattle.model.specs.Tables.{Entry}
use Rattle.model.specs.Element.{append_attribute, has_entry, on_first, standing, insert_entry}
use Rattle.model.proofs.Theorems.Runs.{run-outside, append-same}
use Rattle.tree.specs.Lent.{read_of}
use Rattle.tree.specs.declared.Entry as T
use Rattle.entries.specs.declared.Place.{Place}
use Rattle.entries.specs.declared.Value.{Value}
use Rattle.refusal.specs.declared.Refusal.{Refusal}
use Rattle.entries.specs.Space.{Space, Leaves, so_far, resolved_of, Above, becomes, inserted}
use Rattle.entries.proofs.Storing.{first_count, same_entries, On, went_on, then-leaves, full-leaves}

-- No step takes an entry away.
pub inserts-more : (a : ℕ) (es : List Entry) (o : Option Entry) → length es ≤ length (insert_entry a es o)
unfolding insert_entry
inserts-more a es none = omega arith
inserts-more a es (some e) = go (has_entry a es)
  where
    go : (b : Bool) → length es ≤ length (pick b (λ u. on_first (standing e) a es) (λ u. es ++ (e ∷ [])))
    go true = omega (arith, first_count (standing e) a es)
    go false = rw length-append (omega arith)

module _ (ns ats chars : List ℕ) (place : Place) (above : Above ns place) where
  -- The entries before the element's are as they were.
  pub agree_on : (new : List Entry) (n : ℕ) (m : List ℕ) → On ats place new n m → (q : ℕ) → q < 5 * place.first →
      get_or m q 0 ≡ get_or ats q 0
  agree_on new n m o q l =
      ap (λ (x : List ℕ). get_or x q 0) o.table ∙ run-outside ats place.first new q (λ x y. omega arith)

  -- What a value becomes behind a step that left new entries.
  pub append-on : (new : List Entry) (n : ℕ) (m : List ℕ) → On ats place new n m →
      append_attribute (read_of ns m) place.parent ≡ append_attribute (read_of ns ats) place.parent
  append-on new n m o =
      append-same (read_of ns ats) m [] 0 0 0 place.parent place.first (agree_on new n m o) above.falls above.range

  pub becomes-same : (new : List Entry) (n : ℕ) (m : List ℕ) → On ats place new n m → (a i : ℕ) (v : Value) →
      becomes ns m chars place a i v ≡ becomes ns ats chars place a i v
  becomes-same new n m o a i v =
      ap (λ f. f place.tag a i (part_at chars v.start v.size) v.command) (append-on new n m o)

  -- The next value is inserted into the entries that the step before left.
  pub then-inserted : (room : 5 * place.room ≤ length ats) (new : List Entry) (n : ℕ) (m : List ℕ) → On ats place new n m →
      (a i : ℕ) (v : Value) (r : Result ℕ Refusal) (l : List ℕ) →
      Leaves m place (inserted ns m chars place i v (so_far m place n) a) r l → Leaves ats place (inserted ns ats chars place i v new a) r l
  then-inserted room new n m o a i v r l h =
      then-leaves ats place room new n m o (inserted ns ats chars place i v new a) (inserts-more a new (becomes ns ats chars place a i v))
      r l
      (rw (← o.entries, ← becomes-same new n m o a i v) h)

module _ (ats : List ℕ) (place : Place) (next : ℕ) (s : Space ats place next) (a : ℕ) (r : std.Option T.Entry) (o : Option Entry)
    (told : resolved_of r ≡ o) where
  pub insert-none : r ≡ None → Leaves ats place (insert_entry a (so_far ats place next) o) (Ok next) ats
  unfolding insert_entry
  insert-none h = rw (← told, h) (same_entries ats place next s)

-- A step that was told to have gone on, or to have had no room.
module _ (ats : List ℕ) (place : Place) (room : 5 * place.room ≤ length ats) (new : List Entry) (r : Result ℕ Refusal) (m : List ℕ)
    (h : Leaves ats place new r m) where
  pub on-told : (n : ℕ) → r ≡ Ok n → On ats place new n m
  on-told n e = went_on ats place room new n m (rw e at h)

  -- A refusal that is passed on.
  pub full-told : (x y : Refusal) (o : Result ℕ Refusal) → r ≡ Err x → o ≡ Err y → y ≡ x → (more : List Entry) → length new ≤ length more →
      Leaves ats place more o m
  full-told x y o e p q more f = rw (p, q) (full-leaves ats place room new x m (rw e at h) more f)
