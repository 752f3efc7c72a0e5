-- Going up by the parents until a test holds: one law for every such search. Assumes nothing.
use mathlib.Core.Path.{◌≡◌, refl, sym, ap, ◌∙◌}
use mathlib.Core.Bool.{Bool, true, false, not}
use Prim.Native.Nat.{ℕ, zero, suc, ◌+◌, ◌-◌, ◌<◌, ◌≤◌}
use native.Mathlib.Omega.{arith}
use lib.Dec.{eqb}
use borrow.Author.Tests.{eqb-false, ne_eqb}
use Rattle.std.specs.Option.{is_some}
use Rattle.std.proofs.Common.{Option}
use Rattle.model.specs.Base.{pick}
use Rattle.model.specs.Tables.{Tree, parent_of, attribute_id, has_attribute, holder_from}
use Rattle.tree.specs.Lent.{plus_one}
use Rattle.tree.proofs.Entries.{there}

-- The nearest node that passes, from the one whose index plus 1 is w up, in n steps.
unfoldable pub climb : (ℕ → Bool) → (ℕ → ℕ) → ℕ → ℕ → ℕ
climb f p zero w = 0
climb f p (suc n) w = pick (eqb w 0) (λ u. 0) (λ u. pick (f (w - 1)) (λ v. w) (λ v. climb f p n (p (w - 1))))

-- A turn, by the test and by what is found further up.
pub turn : (b c d : Bool) (w x y : ℕ) → c ≡ d → (b ≡ false → x ≡ y)
    → pick b (λ u. 0) (λ u. pick c (λ v. w) (λ v. x)) ≡ pick b (λ u. 0) (λ u. pick d (λ v. w) (λ v. y))
turn true c d w x y s e = refl
turn false c d w x y s e = go c d s
  where
    go : (c d : Bool) → c ≡ d → pick c (λ v. w) (λ v. x) ≡ pick d (λ v. w) (λ v. y)
    go c d s = rw s (last d)
      where
        last : (d : Bool) → pick d (λ v. w) (λ v. x) ≡ pick d (λ v. w) (λ v. y)
        last true = refl
        last false = e refl

pub holder-climbs : (t : Tree) (a n w : ℕ) → holder_from t a n w ≡ climb (λ i. has_attribute t i a) (parent_of t) n w
unfolding holder_from climb
holder-climbs t a zero w = refl
holder-climbs t a (suc n) w =
    turn (eqb w 0) (has_attribute t (w - 1) a) (has_attribute t (w - 1) a) w _ _ refl (λ e. holder-climbs t a n (parent_of t (w - 1)))

-- Another test with the same answers.
pub climb-same : (f g : ℕ → Bool) (p : ℕ → ℕ) → ((k : ℕ) → f k ≡ g k) → (n w : ℕ) → climb f p n w ≡ climb g p n w
unfolding climb
climb-same f g p s zero w = refl
climb-same f g p s (suc n) w = turn (eqb w 0) (f (w - 1)) (g (w - 1)) w _ _ (s (w - 1)) (λ e. climb-same f g p s n (p (w - 1)))

module _ (f : ℕ → Bool) (p : ℕ → ℕ) where
  none_left : (n w : ℕ) → w ≤ 0 → climb f p n w ≡ 0
  unfolding climb
  none_left zero w h = refl
  none_left (suc n) w h = let e : w ≡ 0 = omega arith in rw e

  -- Where parents fall, w steps are enough.
  pub enough : (n m w : ℕ) → w ≤ n → w ≤ m → ((k : ℕ) → k < w → p k ≤ k) → climb f p n w ≡ climb f p m w
  unfolding climb
  enough zero m w h k q = sym (none_left m w h)
  enough (suc n) zero w h k q = none_left (suc n) w k
  enough (suc n) (suc m) w h k q =
      turn (eqb w 0) (f (w - 1)) (f (w - 1)) w _ _ refl
      (λ e. let d : (w ≡ 0 → ⊥) = eqb-false w 0 e in let s : p (w - 1) ≤ w - 1 = q (w - 1) (omega arith) in
      enough n m (p (w - 1)) (omega arith) (omega arith) (λ k l. q k (omega arith)))

  -- A turn of the loop, at node k.
  pub climb-step : (k : ℕ) → ((j : ℕ) → j ≤ k → p j ≤ j)
      → climb f p (k + 1) (k + 1) ≡ pick (f k) (λ v. k + 1) (λ v. climb f p (p k) (p k))
  unfolding climb
  climb-step k q =
      let e : k + 1 ≡ suc k = omega arith in
      let z : eqb (suc k) 0 ≡ false = ne_eqb (suc k) 0 (λ x. omega arith) in
      let m : suc k - 1 ≡ k = omega arith in
      let s : p k ≤ k = q k (omega arith) in
      rw (e, z, m) (settled (f k) _ (enough k (p k) (p k) s (omega arith) (λ j l. q j (omega arith))))
    where
      settled : (b : Bool) (w : ℕ) {x y : ℕ} → x ≡ y → pick b (λ v. w) (λ v. x) ≡ pick b (λ v. w) (λ v. y)
      settled true w e = refl
      settled false w e = e

  -- The same with the answer of the test, from where the loop stands.
  pub climb-turn : (k w v : ℕ) (b : Bool) → ((j : ℕ) → j ≤ k → p j ≤ j) → b ≡ f k → w ≡ k + 1 → climb f p w w ≡ v
      → pick b (λ u. k + 1) (λ u. climb f p (p k) (p k)) ≡ v
  climb-turn k w v b q e z h = rw e (sym (climb-step k q) ∙ ap (λ (n : ℕ). climb f p n n) (sym z) ∙ h)

  pub climb-end : 0 ≡ climb f p 0 0
  unfolding climb
  climb-end = refl

-- Whether a node has the attribute, by what `attribute_id` finds there.
pub has_attribute-by : (t : Tree) (i a : ℕ) (o : Option ℕ) → plus_one o ≡ attribute_id t i a → is_some o ≡ has_attribute t i a
has_attribute-by t i a o e = there o ∙ ap (λ (n : ℕ). not (eqb n 0)) e

-- A way up, at its beginning and at its end.
pub ruleset climbs = (holder-climbs, climb-end)
