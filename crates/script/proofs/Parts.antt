-- Small laws on tests and on a part of a list. Assumes nothing.
use mathlib.Core.Path.{◌≡◌, refl, sym, ap, ◌∙◌}
use mathlib.Core.List.{List, [], ◌∷◌}
use mathlib.Core.Bool.{Bool, true, false, not, false≢true}
use Prim.Native.Nat.{ℕ, zero, suc, ◌+◌, ◌-◌, ◌<◌, ◌≤◌}
use native.Mathlib.Nat.{suc-add, zero-add}
use native.Mathlib.Omega.{arith}
use mathlib.Core.Logic.{◌⊎◌, inl, inr}
use borrow.Author.Tests.{lt-leb, le-leb}
use lib.Dec.{leb}
use lib.ListN.{take, drop}
use lib.Seq.{slice, take-nil}
use Rattle.model.specs.Base.{and}
use Rattle.model.specs.Utf8.{is_utf8}
use Rattle.model.specs.Check.{Test, ◌if◌, first_of}

pub and_none : (a : Bool) → and a false ≡ false
and_none true = refl
and_none false = refl

-- If both hold, each does.
pub and_left : (a b : Bool) → and a b ≡ true → a ≡ true
and_left true b h = refl
and_left false b h = h

pub and_right : (a b : Bool) → and a b ≡ true → b ≡ true
and_right true b h = h
and_right false b h = absurd (false≢true h)

-- A part that is lent, as the model has it.
pub part-is : {A : Type 0} (a n : ℕ) (l : List A) → take n (drop a l) ≡ slice a (a + n) l
part-is zero n l = ap (λ m. take m l) (sym (zero-add n))
part-is (suc a) n [] = take-nil n ∙ sym (ap (drop (suc a)) (take-nil (suc a + n)))
part-is (suc a) n (x ∷ l) = part-is a n l ∙ ap (λ m. drop (suc a) (take m (x ∷ l))) (sym (suc-add a n))

pub utf8-part : (chars : List ℕ) (a n e : ℕ) (r t : Bool) → r ≡ is_utf8 (take (e - a) (drop a chars)) → e ≡ a + n → r ≡ t
    → not (is_utf8 (slice a (a + n) chars)) ≡ not t
utf8-part chars a n e r t h g f =
    ap not (ap is_utf8 (sym (part-is a n chars) ∙ ap (λ m. take m (drop a chars)) (let z : n ≡ e - a = omega arith in z)) ∙ sym h ∙ f)

-- A code or a number outside its list, and both inside.
pub code-outside : (r m : Bool) (n k : ℕ) → r ≡ m → ((r ≡ false) ⊎ ((r ≡ true) × (k < n))) → not (and m (leb n k)) ≡ true
code-outside r m n k e (inl f) = rw (← e, f)
code-outside r m n k e (inr (t, l)) = rw (← e, t, lt-leb n k l)

pub code-inside : (r m : Bool) (n k : ℕ) → r ≡ m → r ≡ true → n ≤ k → not (and m (leb n k)) ≡ false
code-inside r m n k e t l = rw (← e, t, le-leb n k l)

-- The first of some tests that applies.
pub hit : (n : ℕ) {b : Bool} (ts : List Test) → b ≡ true → n ≡ first_of (n if b ∷ ts)
unfolding first_of
hit n ts e = rw e

pub over : (v n : ℕ) {b : Bool} (ts : List Test) → b ≡ false → v ≡ first_of ts → v ≡ first_of (n if b ∷ ts)
unfolding first_of
over v n ts e h = rw e h

pub passed : 0 ≡ first_of []
unfolding first_of
passed = refl
