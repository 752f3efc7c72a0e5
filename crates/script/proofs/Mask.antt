-- The kinds of a value's readings as bits. Assumes nothing.
use mathlib.Core.Path.{◌≡◌, refl, sym, ap, ◌∙◌, subst}
use mathlib.Core.List.{List, [], ◌∷◌}
use mathlib.Core.Bool.{Bool, true, false, not}
use Prim.Native.Nat.{ℕ, zero, suc, ◌*◌, ◌/◌, ◌%◌, ◌^◌, ◌<◌, ◌≤◌}
use native.Mathlib.Nat.{mod-lt}
use native.Mathlib.Omega.{arith}
use borrow.Author.Tests.{eqb-true, ltb-true, not-true}
use lib.Dec.{eqb, leb, ltb, lit<, lit≤}
use Rattle.std.specs.Prelude.{Option, Some, None}
use lib.Bits.{bit_or, or_shr, or_mod, or_zero_r, or_lt}
use Rattle.model.specs.Base.{pick, and, or, among}
use Rattle.model.specs.Check.{value, is_half_font}
use Rattle.script.specs.declared.check.LastValue.{LastValue}
use Rattle.script.specs.Known.{bit, Kinds, last_of, Held}
use Rattle.utf8.proofs.Sequence.{all_below, below}

pub none : Kinds 0 []
unfolding among
none = record { small = omega arith; same = λ k h. no k (lt-eleven k h) }
  where
    lt-eleven : (k : ℕ) → k ≤ 10 → k < 11
    lt-eleven k h = omega arith

    no : (k : ℕ) → k < 11 → bit 0 k ≡ false
    no k h = not-true (bit 0 k) (below 11 (λ k. not (bit 0 k)) refl k h)

-- ONE KIND MORE

digit : ℕ → ℕ → ℕ
digit m k = m / 2 ^ k % 2

digit_or : (a b j : ℕ) → digit (bit_or a b) j ≡ bit_or (digit a j) (digit b j)
unfolding digit
digit_or a b j = ap (λ n. n % 2) (or_shr a b j) ∙ or_mod (a / 2 ^ j) (b / 2 ^ j) 1

-- The powers that a shift gives, each with one digit.
small : ℕ → Bool
small k = ltb (2 ^ k) (2 ^ 11)

shifts : ℕ → Bool
shifts k = eqb (1 * 2 ^ k % 2 ^ 32) (2 ^ k)

single : ℕ → ℕ → Bool
single k j = eqb (digit (2 ^ k) j) (pick (eqb j k) (λ u. 1) (λ u. 0))

singles : ℕ → Bool
singles k = all_below 11 (single k)

all_small : all_below 11 small ≡ true
unfolding small
all_small = refl

all-shifts : all_below 11 shifts ≡ true
unfolding shifts
all-shifts = refl

all-singles : all_below 11 singles ≡ true
unfolding singles single digit
all-singles = refl

one-digit : (k j : ℕ) → k < 11 → j < 11 → digit (2 ^ k) j ≡ pick (eqb j k) (λ u. 1) (λ u. 0)
unfolding singles single
one-digit k j h l =
    eqb-true (digit (2 ^ k) j) (pick (eqb j k) (λ u. 1) (λ u. 0)) (below 11 (single k) (below 11 singles all-singles k h) j l)

shifted : (k : ℕ) → k < 11 → 1 * 2 ^ k % 2 ^ 32 ≡ 2 ^ k
unfolding shifts
shifted k h = eqb-true (1 * 2 ^ k % 2 ^ 32) (2 ^ k) (below 11 shifts all-shifts k h)

low : (k : ℕ) → k < 11 → 2 ^ k < 2 ^ 11
unfolding small
low k h = ltb-true (2 ^ k) (2 ^ 11) (below 11 small all_small k h)

pub one_more : (m k : ℕ) (ks : List ℕ) → k ≤ 10 → Kinds m ks → Kinds (bit_or m (1 * 2 ^ k % 2 ^ 32)) (k ∷ ks)
unfolding among digit
one_more m k ks h s = subst (λ p. Kinds (bit_or m p) (k ∷ ks)) (sym (shifted k (omega arith))) (record {
  small = or_lt 11 m (2 ^ k) s.small (low k (omega arith));
  same = λ j l. ap (λ n. eqb n 1) (digit_or m (2 ^ k) j ∙ ap (bit_or (digit m j)) (one-digit k j (omega arith) (omega arith)))
      ∙ joined (eqb j k) (digit m j) (mod-lt (m / 2 ^ j) (lit< tt)) ∙ ap (λ t. pick (eqb j k) (λ u. true) (λ u. t)) (s.same j l);
})
  where
    joined : (t : Bool) (d : ℕ) → d < 2 → eqb (bit_or d (pick t (λ u. 1) (λ u. 0))) 1 ≡ pick t (λ u. true) (λ u. eqb d 1)
    joined true zero h = refl
    joined true (suc zero) h = refl
    joined true (suc (suc d)) h = absurd (omega arith)
    joined false d h = ap (λ n. eqb n 1) (or_zero_r d)

-- THE PARTS OF A FONT

abbrev parts : ℕ → Bool
parts m = or (bit m 5) (or (bit m 6) (or (bit m 7) (or (bit m 8) (or (bit m 9) (bit m 10)))))

alike : Bool → Bool → Bool
alike true b = b
alike false b = not b

alike_is : (a b : Bool) → alike a b ≡ true → a ≡ b
unfolding alike
alike_is true true e = refl
alike_is true false e = sym e
alike_is false true e = e
alike_is false false e = refl

halves : ℕ → Bool
halves m = alike (and (parts m) (not (and (bit m 9) (bit m 10)))) (and (leb 32 m) (ltb m 1536))

all-halves : all_below 2048 halves ≡ true
unfolding halves alike
all-halves = refl

pub half_is : (a n m : ℕ) (ks : List ℕ) → Kinds m ks → is_half_font (value a n ks) ≡ and (leb 32 m) (ltb m 1536)
unfolding is_half_font halves
half_is a n m ks s =
    rw (
      ← s.same 5 (lit≤ tt),
      ← s.same 6 (lit≤ tt),
      ← s.same 7 (lit≤ tt),
      ← s.same 8 (lit≤ tt),
      ← s.same 9 (lit≤ tt),
      ← s.same 10
          (lit≤ tt),
    )
    (alike_is _ _ (below 2048 halves all-halves m s.small))

pub half_at : (last : Option LastValue) (v : LastValue) → last ≡ Some v → (ks : List ℕ) → Held last ks
    → is_half_font (last_of last ks) ≡ and (leb 32 v.kinds) (ltb v.kinds 1536)
half_at last v e ks h =
    ap (λ l. is_half_font (last_of l ks)) e ∙ half_is v.start v.size v.kinds ks (subst (λ l. Held l ks) e h)

pub half-nothing : (last : Option LastValue) → last ≡ None → (ks : List ℕ) → false ≡ is_half_font (last_of last ks)
unfolding is_half_font
half-nothing last e ks = sym (ap (λ l. is_half_font (last_of l ks)) e)
