-- What a range that is walked with a test tells of each number in it. Assumes nothing.
use mathlib.Core.Path.{◌≡◌, refl, sym, ap, ◌∙◌}
use mathlib.Core.Bool.{Bool, true, false, true≢false}
use Prim.Native.Nat.{ℕ, ◌+◌, ◌<◌}
use native.Mathlib.Omega.{arith}
use lib.ListN.{get_or, length}
use Rattle.std.specs.List.{range_with_len, list_all, list_any}
use Rattle.std.proofs.lemmas.List.FromFn.{get_or-range_with_len, length-range_with_len}
use Rattle.std.proofs.lemmas.List.Folds.{list_all_at, list_any_at}

module _ (f : ℕ → Bool) (n : ℕ) (i : ℕ) (l : i < n) where
  inside : i < length (range_with_len 0 n)
  inside = let e = length-range_with_len 0 n in omega (arith, e, l)

  tested : f (get_or (range_with_len 0 n) i 0) ≡ f i
  tested = let e : 0 + i ≡ i = omega arith in ap f (get_or-range_with_len 0 n i 0 l ∙ e)

  pub all-each : list_all f (range_with_len 0 n) ≡ true → f i ≡ true
  all-each h = go (f i) refl
    where
      go : (b : Bool) → f i ≡ b → b ≡ true
      go true e = refl
      go false e = absurd (true≢false (sym h ∙ list_all_at f (range_with_len 0 n) i 0 inside (tested ∙ e)))

  pub none-each : list_any f (range_with_len 0 n) ≡ false → f i ≡ false
  none-each h = go (f i) refl
    where
      go : (b : Bool) → f i ≡ b → b ≡ false
      go false e = refl
      go true e = absurd (true≢false (sym (list_any_at f (range_with_len 0 n) i 0 inside (tested ∙ e)) ∙ h))
