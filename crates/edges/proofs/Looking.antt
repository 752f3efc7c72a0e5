-- The edges of a text, and what is left of it when a byte is given up. Assumes nothing.
use Prim.Native.Nat.{ℕ, ◌+◌, ◌-◌, ◌≤◌, ◌<◌, min, max}
use mathlib.Core.Path.{◌≡◌, refl, sym}
use mathlib.Core.Bool.{true}
use mathlib.Core.List.{List, [], ◌∷◌}
use native.Mathlib.Omega.{arith}
use borrow.Author.Tests.{eq-eqb, ne_eqb}
use lib.Dec.{eqb}
use lib.ListN.{length}
use lib.Seq.{slice, length-slice}
use Rattle.model.specs.Tables.{Tree, word, from_of, to_of, text_of, set_text}
use Rattle.model.specs.Text.{begins_with_space, ends_with_space, is_empty, cut_text}
use Rattle.tree.specs.Lent.{texts_of}
use Rattle.edges.specs.Pairs.{Ranged, Filled, size_of}

-- LOOKING

-- A text with a space at an edge has a byte.
begins-some : (f t : ℕ) (l : List ℕ) → t ≤ length l → begins_with_space (slice f t l) ≡ true → f < t
begins-some f t l h e = go (slice f t l) (length-slice f t l h) e
  where
    go : (s : List ℕ) → length s ≡ t - f → begins_with_space s ≡ true → f < t
    go [] n e = absurd (let z : ◌≡◌ {A = ℕ} 0 1 = cc in omega arith)
    go (x ∷ s) n e = omega arith

ends_some : (f t : ℕ) (l : List ℕ) → t ≤ length l → ends_with_space (slice f t l) ≡ true → f < t
ends_some f t l h e = go (slice f t l) (length-slice f t l h) e
  where
    go : (s : List ℕ) → length s ≡ t - f → ends_with_space s ≡ true → f < t
    go [] n e = absurd (let z : ◌≡◌ {A = ℕ} 0 1 = cc in omega arith)
    go (x ∷ s) n e = omega arith

-- The size of a text tells whether it is empty.
empty-size : (f t : ℕ) (l : List ℕ) → t ≤ length l → eqb (t - f) 0 ≡ is_empty (slice f t l)
empty-size f t l h = go (slice f t l) (length-slice f t l h)
  where
    go : (s : List ℕ) → length s ≡ t - f → eqb (t - f) 0 ≡ is_empty s
    go [] e = eq-eqb (t - f) 0 (sym e)
    go (x ∷ s) e = ne_eqb (t - f) 0 (λ z. omega arith)

-- What looking tells of the bounds.
module _ (t : Tree) (i : ℕ) (r : Ranged t i) where
  pub begins-filled : begins_with_space (text_of t i) ≡ true → Filled t i
  unfolding text_of
  begins-filled e = record { ranged = r; some = begins-some (from_of t i) (to_of t i) t.text r.within e }

  pub ends-filled : ends_with_space (text_of t i) ≡ true → Filled t i
  unfolding text_of
  ends-filled e = record { ranged = r; some = ends_some (from_of t i) (to_of t i) t.text r.within e }

  pub empty-is : eqb (size_of t.nodes i) 0 ≡ is_empty (text_of t i)
  unfolding text_of
  empty-is = empty-size (from_of t i) (to_of t i) t.text r.within

  pub size_is : size_of t.nodes i ≡ length (text_of t i)
  unfolding text_of
  size_is = sym (length-slice (from_of t i) (to_of t i) t.text r.within)

-- GIVING UP BYTES

pub cut-is : (ns bs ms cs : List ℕ) (i f g x y : ℕ) → f ≡ word ns i 6 → g ≡ word ns i 7 → f ≤ g → x + y ≤ g - f →
    ms ≡ (set_text i (f + x) (g - y) (texts_of ns bs)).nodes → cs ≡ (set_text i (f + x) (g - y) (texts_of ns bs)).text →
    texts_of ms cs ≡ cut_text i x y (texts_of ns bs)
unfolding cut_text set_text
cut-is ns bs ms cs i f g x y e h l m p q =
    let a : min (word ns i 6 + x) (word ns i 7) ≡ f + x = omega arith in
    let b : max (f + x) (word ns i 7 - y) ≡ g - y = omega arith in
    rw (a, b, p, q) refl

-- What cutting leaves.
pub ruleset cuts = (cut-is)
