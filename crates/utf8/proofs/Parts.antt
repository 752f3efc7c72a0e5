-- Small laws on tests. Assumes nothing.
use mathlib.Core.Path.{◌≡◌, refl, sym, ap, ap₂, ◌∙◌}
use mathlib.Core.Bool.{Bool, true, false, ◌||◌, false≢true}
use Prim.Native.Nat.{ℕ, zero, suc, ◌+◌, ◌<◌}
use native.Mathlib.Omega.{arith}
use native.Mathlib.Numerals.{add-one}
use borrow.Author.Count.{below_more}
use Rattle.model.specs.Base.{and}
use Rattle.utf8.specs.Lead.{any_below}

-- If both hold, each does.
pub and_left : (a b : Bool) → and a b ≡ true → a ≡ true
and_left true b h = refl
and_left false b h = h

pub and_right : (a b : Bool) → and a b ≡ true → b ≡ true
and_right true b h = h
and_right false b h = absurd (false≢true h)

or_left : (a b : Bool) → (a || b) ≡ false → a ≡ false
or_left true b e = e
or_left false b e = refl

or_right : (a b : Bool) → (a || b) ≡ false → b ≡ false
or_right true true e = e
or_right true false e = refl
or_right false b e = e

-- A test of one of the numbers below one more.
pub any-more : (p : ℕ → Bool) (t u : Bool) (j : ℕ) → t ≡ any_below j p → u ≡ p j → (t || u) ≡ any_below (j + 1) p
unfolding any_below
any-more p t u j e f = ap₂ (λ a b. a || b) e f ∙ ap (λ n. any_below n p) (sym (add-one j))

pub any_none : (n : ℕ) (p : ℕ → Bool) → any_below n p ≡ false → (k : ℕ) → k < n → p k ≡ false
unfolding any_below
any_none zero p e k h = absurd (omega arith)
any_none (suc n) p e k h = below_more (λ j. p j ≡ false) n (any_none n p (or_left (any_below n p) (p n) e))
    (or_right (any_below n p) (p n) e) k (omega arith)

-- Two tests that agree below n.
pub any-same : (n : ℕ) (p q : ℕ → Bool) → ((k : ℕ) → k < n → p k ≡ q k) → any_below n p ≡ any_below n q
unfolding any_below
any-same zero p q h = refl
any-same (suc n) p q h = ap₂ (λ a b. a || b) (any-same n p q (λ k l. h k (omega arith))) (h n (omega arith))
