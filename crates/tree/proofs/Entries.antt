-- Searching the entries, and the bytes of a value. Assumes nothing.
use mathlib.Core.Path.{◌≡◌, refl, sym, ap, ◌∙◌}
use mathlib.Core.Bool.{false, not}
use Rattle.std.specs.Option.{is_some}
use Rattle.std.proofs.Common.{Option, Some, None}
use Rattle.tree.specs.Lent.{plus_one}
use mathlib.Core.List.{List, [], ◌∷◌}
use Prim.Native.Nat.{ℕ, zero, suc, ◌+◌, ◌-◌, ◌<◌}
use native.Mathlib.Omega.{arith}
use lib.ListN.{take, drop}
use lib.Seq.{slice, take-nil}
use lib.Dec.{eqb}
use borrow.Author.Tests.{ne_eqb}
use Rattle.model.specs.Base.{pick}
use Rattle.model.specs.Tables.{Tree, entry_word, find_entry}

pub find-step : (t : Tree) (a j to : ℕ) → j < to
    → find_entry t a j (to - j) ≡ pick (eqb (entry_word t j 0) a) (λ u. j + 1) (λ u. find_entry t a (j + 1) (to - (j + 1)))
unfolding find_entry
find-step t a j to h = let e : to - j ≡ suc (to - (j + 1)) = omega arith in ap (find_entry t a j) e

-- The part of a list that the code takes is the slice of the definitions.
pub part_slice : (f n : ℕ) (l : List ℕ) → take n (drop f l) ≡ slice f (f + n) l
part_slice zero n l = let e : 0 + n ≡ n = omega arith in ap (λ (k : ℕ). take k l) (sym e)
part_slice (suc f) n [] = take-nil n ∙ sym (ap (drop (suc f)) (take-nil (suc f + n)))
part_slice (suc f) n (x ∷ l) =
    let e : suc f + n ≡ suc (f + n) = omega arith in
    part_slice f n l ∙ sym (ap (λ (k : ℕ). drop (suc f) (take k (x ∷ l))) e)

-- An index is there if its number plus 1 is not 0.
pub there : (o : Option ℕ) → is_some o ≡ not (eqb (plus_one o) 0)
there None = refl
there (Some i) = let e : eqb (i + 1) 0 ≡ false = ne_eqb (i + 1) 0 (λ z. omega arith) in rw e

pub taken : (i : ℕ) {v : ℕ} → i + 1 ≡ v → eqb v 0 ≡ false
taken i {v} e = ne_eqb v 0 (λ z. omega arith)

pub one-less : (i : ℕ) {v : ℕ} → i + 1 ≡ v → v - 1 ≡ i
one-less i e = omega arith

pub part_of : (s n : ℕ) (l : List ℕ) → take (s + n - s) (drop s l) ≡ slice s (s + n) l
part_of s n l = let e : s + n - s ≡ n = omega arith in ap (λ (k : ℕ). take k (drop s l)) e ∙ part_slice s n l

-- A turn of the search for an entry.
pub ruleset find_steps = (find-step)
