-- A test of all numbers below a bound, as a loop makes it, from the last number down. Assumes nothing.
use mathlib.Core.Path.{◌≡◌, sym, ap, ◌∙◌}
use mathlib.Core.Bool.{Bool, true, false}
use Prim.Native.Nat.{ℕ, suc, ◌-◌, ◌<◌}
use native.Mathlib.Omega.{arith}
use Rattle.model.specs.Base.{pick}
use Rattle.model.specs.Questions.{all_below}

-- The last of the first n passes, and those before it are left.
pub below-passed : (f : ℕ → Bool) (n : ℕ) → 0 < n → f (n - 1) ≡ true → all_below f (n - 1) ≡ all_below f n
unfolding all_below
below-passed f n h p =
    let e : n ≡ suc (n - 1) = omega arith in
    sym (ap (all_below f) e ∙ ap (λ (b : Bool). pick b (λ u. all_below f (n - 1)) (λ u. false)) p)
