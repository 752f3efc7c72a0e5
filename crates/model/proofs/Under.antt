-- Laws of which node stands under which.
use Rattle.std.specs.Prelude.{ℕ, ◌+◌, ◌-◌, ◌*◌, ◌≤◌, ◌<◌, ◌≡◌, refl, List, length}
use Rattle.std.proofs.Common.{◌∙◌, arith}
use Rattle.model.specs.Tables.{word, appended}
use Rattle.model.proofs.Theorems.Laws.{appended-old, appended-new}
use Rattle.model.specs.Under.{Under, here, up}

-- Tables with the same parents.
pub under-keep : (xs ys : List ℕ) (e c : ℕ) → ((j : ℕ) → j < c → word ys j 1 ≡ word xs j 1) → (i : ℕ) → i < c → Under xs e i → Under ys e i
under-keep xs ys e c h i l here = here
under-keep xs ys e c h i l (up j p w b u) = up j p (h j l ∙ w) b (under-keep xs ys e c h p (omega arith) u)

-- Below e, the parent stands under e too.
pub under_parent : (ns : List ℕ) (e i : ℕ) → (i ≡ e → ⊥) → Under ns e i → (word ns i 1 - 1 < i) × Under ns e (word ns i 1 - 1)
under_parent ns e i h here = absurd (h refl)
under_parent ns e i h (up j p w b u) = let q : word ns i 1 - 1 ≡ p = omega arith in rw q (b, u)

pub under-appended : (kind code from to : ℕ) (ns : List ℕ) (p i e j : ℕ) → j < i → Under ns e j →
    Under (appended kind code from to ns p i) e j
under-appended kind code from to ns p i e j l u =
    under-keep ns (appended kind code from to ns p i) e i
    (λ m b. appended-old kind code from to ns p i m 1 b (omega arith) (λ x y. omega arith)) j l u

-- The new node stands under whatever its parent stands under.
pub under-new : (kind code from to : ℕ) (ns : List ℕ) (p i e : ℕ) → 8 * i + 8 ≤ length ns → p < i → Under ns e p →
    Under (appended kind code from to ns p i) e i
under-new kind code from to ns p i e r l u =
    up i p (appended-new kind code from to ns p i 1 r (omega arith) (λ x y. omega arith)) l (under-appended kind code from to ns p i e p l
    u)
