-- Buckets of strings, byte after byte. Assumes nothing.
use mathlib.Core.Path.{◌≡◌, sym, ap, ◌∙◌}
use mathlib.Core.List.{List}
use Prim.Native.Nat.{ℕ, suc, ◌+◌, ◌*◌, ◌%◌, ◌<◌, ◌≤◌}
use native.Mathlib.Omega.{arith}
use native.Mathlib.Numerals.{add-one}
use lib.ListN.{length, get_or, drop, drop_of_length-le}
use lib.Seq.{drop-cons}
use Rattle.ids.specs.Chains.{bucket_from, bucket_of}

-- BUCKETS

-- In the middle of a string: what is left gives, from h on, what all of it gives.
pub record Summing (s : List ℕ) (h i : ℕ) : Type 0 where
  pub small : h < 2048
  pub same : bucket_from h (drop i s) ≡ bucket_of s

pub summing-more : (s : List ℕ) (h i : ℕ) → Summing s h i → i < length s → (b : ℕ) → b ≡ get_or s i 0
    → Summing s ((h * 7735 + b) % 2048) (i + 1)
unfolding bucket_from
summing-more s h i w l b e = record {
  small = omega arith;
  same =
      let on : bucket_from h (drop i s) ≡ bucket_from ((h * 7735 + get_or s i 0) % 2048) (drop (suc i) s) =
      ap (bucket_from h) (drop-cons s i 0 l) in
      rw (e, add-one i) (sym on ∙ w.same);
}

pub summing-done : (s : List ℕ) (h i : ℕ) → Summing s h i → length s ≤ i → h ≡ bucket_of s
unfolding bucket_from
summing-done s h i w l = sym (ap (bucket_from h) (drop_of_length-le s l)) ∙ w.same
