-- Depths below a text element, by the parents. Assumes nothing.
use Prim.Native.Nat.{ℕ, zero, suc, ◌+◌, ◌-◌, ◌≤◌, ◌<◌}
use mathlib.Core.Path.{◌≡◌, refl, sym, ap, ◌∙◌}
use mathlib.Core.Bool.{Bool, true, false}
use mathlib.Core.List.{List}
use native.Mathlib.Omega.{arith}
use native.Mathlib.Decide.{dec_lt}
use borrow.Author.Tests.{ne_eqb, eqb-false, lt-ltb, le-ltb}
use lib.Dec.{eqb, ltb}
use Rattle.model.specs.Base.{pick}
use Rattle.model.specs.Tables.{Tree, word, parent_of}
use Rattle.model.specs.Text.{depth_below}
use Rattle.tree.specs.Lent.{nodes_read}
use Rattle.trimming.specs.Nodes.{Below}

-- Where the parents are the same, so are the depths.
pub depth_same : (s t : Tree) → ((j : ℕ) → parent_of s j ≡ parent_of t j) → (e n i : ℕ) → depth_below s e n i ≡ depth_below t e n i
unfolding depth_below
depth_same s t h e zero i = refl
depth_same s t h e (suc n) i =
    rw (h i) (go (eqb (parent_of t i) (e + 1)) (depth_same s t h e n (parent_of t i - 1)))
  where
    go : (b : Bool) {x y : ℕ} → x ≡ y → pick b (λ u. 0) (λ u. suc x) ≡ pick b (λ u. 0) (λ u. suc y)
    go true q = refl
    go false q = ap suc q

-- The depth of a node with the parent x, an index plus 1.
abbrev under : List ℕ → ℕ → ℕ → ℕ
under ns e x = pick (eqb x (e + 1)) (λ u. 0) (λ u. suc (depth_below (nodes_read ns) e (x - 1) (x - 1)))

-- The two ways up, u and v steps from x₀ and y₀.
pub record Level (ns : List ℕ) (e n x₀ y₀ x y u v : ℕ) : Type 0 where
  pub low1 : e + 1 ≤ x
  pub low2 : e + 1 ≤ y
  pub high1 : u + x ≤ x₀
  pub high2 : v + y ≤ y₀
  pub most1 : x₀ ≤ n
  pub most2 : y₀ ≤ n
  pub up1 : under ns e x₀ ≡ under ns e x + u
  pub up2 : under ns e y₀ ≡ under ns e y + v

module _ (ns : List ℕ) (e n : ℕ) (b : Below ns e n) where
  abbrev t : Tree
  t = nodes_read ns

  -- More steps than nodes above change nothing.
  enough : (k m i : ℕ) → e < i → i < n → i ≤ k → i ≤ m → depth_below t e k i ≡ depth_below t e m i
  unfolding depth_below
  enough zero m i l h x y = absurd (omega arith)
  enough (suc k) zero i l h x y = absurd (omega arith)
  enough (suc k) (suc m) i l h x y = go (eqb (word ns i 1) (e + 1)) refl (λ p q r s. enough k m (word ns i 1 - 1) p q r s)
    where
      go : (c : Bool) → eqb (word ns i 1) (e + 1) ≡ c →
          (e < word ns i 1 - 1 → word ns i 1 - 1 < n → word ns i 1 - 1 ≤ k → word ns i 1 - 1 ≤ m →
          depth_below t e k (word ns i 1 - 1) ≡ depth_below t e m (word ns i 1 - 1)) →
          pick c (λ u. 0) (λ u. suc (depth_below t e k (word ns i 1 - 1)))
          ≡ pick c (λ u. 0) (λ u. suc (depth_below t e m (word ns i 1 - 1)))
      go true q f = refl
      go false q f =
          let d : (word ns i 1 ≡ e + 1 → ⊥) = eqb-false (word ns i 1) (e + 1) q in
          let u = b.under i l h in
          ap suc (f (omega (arith, u.0, d)) (omega (arith, u.1)) (omega (arith, u.1)) (omega (arith, u.1)))

  pub depth-under : (i : ℕ) → e < i → i < n → depth_below t e i i ≡ under ns e (word ns i 1)
  unfolding depth_below
  depth-under i l h =
      let z : i ≡ suc (i - 1) = omega arith in
      ap (λ k. depth_below t e k i) z ∙ go (eqb (word ns i 1) (e + 1)) refl
    where
      go : (c : Bool) → eqb (word ns i 1) (e + 1) ≡ c →
          pick c (λ u. 0) (λ u. suc (depth_below t e (i - 1) (word ns i 1 - 1))) ≡
          pick c (λ u. 0) (λ u. suc (depth_below t e (word ns i 1 - 1) (word ns i 1 - 1)))
      go true q = refl
      go false q =
          let d : (word ns i 1 ≡ e + 1 → ⊥) = eqb-false (word ns i 1) (e + 1) q in
          let u = b.under i l h in
          ap suc (enough (i - 1) (word ns i 1 - 1) (word ns i 1 - 1) (omega (arith, u.0, d)) (omega (arith, u.1)) (omega (arith, u.1))
          (omega arith))

  -- One step up.
  under-step : (x : ℕ) → e + 1 < x → x ≤ n → under ns e x ≡ suc (under ns e (word ns (x - 1) 1))
  under-step x l h = rw (ne_eqb x (e + 1) (λ z. omega arith)) (ap suc (depth-under (x - 1) (omega arith) (omega arith)))

  module _ (x₀ y₀ x y u v : ℕ) (z : Level ns e n x₀ y₀ x y u v) where
    pub parent-inside : (w : ℕ) → e + 1 < w → w ≤ n → (e + 1 ≤ word ns (w - 1) 1) × (word ns (w - 1) 1 ≤ w - 1)
    parent-inside w l h = b.under (w - 1) (omega arith) (omega arith)

    pub level-first : y < x → (r : ℕ) → r ≡ word ns (x - 1) 1 → Level ns e n x₀ y₀ r y (u + 1) v
    level-first l r p =
        let s = parent-inside x (omega (arith, z.low2)) (omega (arith, z.high1, z.most1)) in
        record {
          low1 = omega (arith, s.0);
          low2 = z.low2;
          high1 = omega (arith, s.1, z.high1, z.low2);
          high2 = z.high2;
          most1 = z.most1;
          most2 = z.most2;
          up1 = omega (arith, z.up1, under-step x (omega (arith, z.low2)) (omega (arith, z.high1, z.most1)), ap (under ns e) p);
          up2 = z.up2;
        }

    pub level-second : x < y → (r : ℕ) → r ≡ word ns (y - 1) 1 → Level ns e n x₀ y₀ x r u (v + 1)
    level-second l r p =
        let s = parent-inside y (omega (arith, z.low1)) (omega (arith, z.high2, z.most2)) in
        record {
          low1 = z.low1;
          low2 = omega (arith, s.0);
          high1 = z.high1;
          high2 = omega (arith, s.1, z.high2, z.low1);
          most1 = z.most1;
          most2 = z.most2;
          up1 = z.up1;
          up2 = omega (arith, z.up2, under-step y (omega (arith, z.low1)) (omega (arith, z.high2, z.most2)), ap (under ns e) p);
        }

    -- Where they meet.
    pub level-met : x ≡ y → ltb u v ≡ ltb (under ns e x₀) (under ns e y₀)
    level-met q = go (dec_lt u v)
      where
        go : Dec (u < v) → ltb u v ≡ ltb (under ns e x₀) (under ns e y₀)
        go (yes h) = lt-ltb u v h ∙ sym (lt-ltb (under ns e x₀) (under ns e y₀) (omega (arith, z.up1, z.up2, ap (under ns e) q)))
        go (no h) = le-ltb u v (omega arith) ∙ sym (le-ltb (under ns e x₀) (under ns e y₀)
            (omega (arith, z.up1, z.up2, ap (under ns e) q)))

pub deeper-met : (ns : List ℕ) (e n : ℕ) (b : Below ns e n) (i j : ℕ) → e < i → i < n → e < j → j < n → (x₀ y₀ x y u v : ℕ) →
    x₀ ≡ word ns i 1 → y₀ ≡ word ns j 1 → Level ns e n x₀ y₀ x y u v → x ≡ y →
    ltb u v ≡ ltb (depth_below (nodes_read ns) e i i) (depth_below (nodes_read ns) e j j)
deeper-met ns e n b i j l h m k x₀ y₀ x y u v p q z r =
    level-met ns e n b x₀ y₀ x y u v z r
    ∙ rw (p, q, ← depth-under ns e n b i l h, ← depth-under ns e n b j m k) refl
