-- Blank texts, character by character. Assumes nothing.
use Prim.Native.Nat.{ℕ, zero, suc, ◌-◌, ◌≤◌, ◌<◌, max}
use mathlib.Core.Path.{◌≡◌, refl, sym, ap, ap₂, ◌∙◌}
use mathlib.Core.Bool.{Bool, true, false}
use mathlib.Core.List.{List, [], ◌∷◌}
use native.Mathlib.Omega.{arith}
use lib.ListN.{length, take, drop}
use lib.Seq.{get_or-take, length-take-le}
use Rattle.std.proofs.Common.{Option, Some, None, SomeIff}
use Rattle.std.proofs.lemmas.Bool.Decides.{nat_tests}
use Rattle.std.specs.Option.{unwrap_or}
use Rattle.model.specs.Base.{pick}
use Rattle.model.specs.Utf8.{Range, is_within, begins, sequence_of, well_formed, code_point, white_spaces, is_within_any, is_blank_from}
use Rattle.model.specs.Utf8.{is_blank}

begins-length : (rs : List Range) (bs : List ℕ) → begins rs bs ≡ true → length rs ≤ length bs
unfolding begins
begins-length [] bs e = omega arith
begins-length (r ∷ rs) [] e = absurd (let z : ◌≡◌ {A = ℕ} 0 1 = cc in omega arith)
begins-length (r ∷ rs) (b ∷ bs) e = go (is_within b r) e (begins-length rs bs)
  where
    go : (t : Bool) → pick t (λ u. begins rs bs) (λ u. false) ≡ true → (begins rs bs ≡ true → length rs ≤ length bs) →
        suc (length rs) ≤ suc (length bs)
    go true e h = omega (arith, h e)
    go false e h = absurd (let z : ◌≡◌ {A = ℕ} 0 1 = cc in omega arith)

-- A sequence is no longer than the bytes that it is found in.
sequence-most : (rs : List (List Range)) (bs : List ℕ) → sequence_of rs bs ≤ length bs
unfolding sequence_of
sequence-most [] bs = omega arith
sequence-most (r ∷ rs) bs = go (begins r bs) refl (sequence-most rs bs)
  where
    go : (t : Bool) → begins r bs ≡ t → sequence_of rs bs ≤ length bs → pick t (λ u. length r) (λ u. sequence_of rs bs) ≤ length bs
    go true e h = begins-length r bs e
    go false e h = h

-- How many bytes a character takes: those of its sequence, or else one.
abbrev pub taken : List ℕ → ℕ
taken s = max (sequence_of well_formed s) 1

pub taken-is : (s : List ℕ) (r : Option ℕ) → SomeIff r (0 < sequence_of well_formed s) (sequence_of well_formed s) → unwrap_or r 1 ≡ taken s
taken-is s (Some n) e = omega (arith, e.0, e.1)
taken-is s None e = omega (arith, e)

pub taken-fits : (s : List ℕ) → 0 < length s → taken s ≤ length s
taken-fits s h = omega (arith, sequence-most well_formed s)

-- The bytes of a character tell its number, and a byte alone is read as one that begins no sequence.
code_taken : (n : ℕ) (s : List ℕ) → 1 ≤ n → code_point n (take n s) ≡ code_point n s
unfolding code_point
code_taken n s h = grind (arith, nat_tests, get_or-take {A = ℕ})

code-one : (n : ℕ) (s : List ℕ) → code_point (max n 1) s ≡ code_point n s
unfolding code_point
code-one zero s = refl
code-one (suc n) s = ap (λ m. code_point m s) (let z : max (suc n) 1 ≡ suc n = omega arith in z)

blank-drop : (n : ℕ) (s : List ℕ) → is_blank_from n s ≡ is_blank_from 0 (drop n s)
unfolding is_blank_from
blank-drop zero [] = refl
blank-drop (suc n) [] = refl
blank-drop zero (b ∷ bs) = refl
blank-drop (suc n) (b ∷ bs) = blank-drop n bs

pub blank_none : (s : List ℕ) → length s ≡ 0 → true ≡ is_blank s
unfolding is_blank is_blank_from
blank_none [] e = refl
blank_none (b ∷ bs) e = absurd (omega arith)

-- The first character, and what stands behind it.
pub blank-step : (s : List ℕ) (n : ℕ) → 0 < length s → n ≡ taken s
    → is_blank s ≡ pick (is_within_any (code_point (length (take n s)) (take n s)) white_spaces) (λ u. is_blank (drop n s)) (λ u. false)
unfolding is_blank is_blank_from
blank-step [] n h e = absurd (omega arith)
blank-step (b ∷ bs) n h e =
    let s : List ℕ = b ∷ bs in
    let code : code_point (sequence_of well_formed s) s ≡ code_point (length (take n s)) (take n s) =
    sym (ap (λ m. code_point m (take n s)) (length-take-le n s (omega (arith, e, taken-fits s h)))
    ∙ code_taken n s (omega (arith, e)) ∙ ap (λ m. code_point m s) e ∙ code-one (sequence_of well_formed s) s) in
    let behind : is_blank_from (sequence_of well_formed s - 1) bs ≡ is_blank_from 0 (drop n s) =
    blank-drop (sequence_of well_formed s - 1) bs
    ∙ ap (λ m. is_blank_from 0 (drop m s)) (let z : suc (sequence_of well_formed s - 1) ≡ n = omega (arith, e) in z) in
    ap₂ (λ c r. pick (is_within_any c white_spaces) (λ u. r) (λ u. false)) code behind

-- The same of what the code reads.
pub blank-turn : (s : List ℕ) (n : ℕ) (front behind : List ℕ) (c : ℕ) (w : Bool) → 0 < length s → n ≡ taken s → front ≡ take n s
    → behind ≡ drop n s → c ≡ code_point (length front) front → w ≡ is_within_any c white_spaces
    → is_blank s ≡ pick w (λ u. is_blank behind) (λ u. false)
blank-turn s n front behind c w h e f g i j = blank-step s n h e ∙ rw (j, i, f, g) refl

-- One character after another.
pub ruleset characters = (taken-is, taken-fits, blank-turn, blank_none)
