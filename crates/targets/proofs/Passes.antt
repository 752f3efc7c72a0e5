-- The attributes of the passes. Assumes nothing.
use mathlib.Core.Path.{◌≡◌, refl, sym, ap, ◌∙◌}
use Prim.Native.Nat.{ℕ, zero, suc, ◌≤◌}
use native.Mathlib.Omega.{arith}
use lib.Dec.{eqb}
use Rattle.model.specs.Base.{pick}
use Rattle.model.specs.AId
use Rattle.model.specs.Repair.{link_kind, cut_name}
use Rattle.targets.specs.declared.name.Pass.{Pass}
use Rattle.targets.specs.declared.name.Pass.TheVariants.{PatternFill, PatternStroke, ClipPath, Mask, Filter, FeImage}
use Rattle.targets.specs.Pass.{pass_number}

-- The passes count from 1.
pub pass-first : (p : Pass) → 1 ≤ pass_number p
pass-first PatternFill = omega arith
pass-first PatternStroke = omega arith
pass-first ClipPath = omega arith
pass-first Mask = omega arith
pass-first Filter = omega arith
pass-first FeImage = omega arith

-- No pass leads by an href.
pub by-func : (k : ℕ) → 1 ≤ k → k ≤ 5 → link_kind (cut_name k) ≡ 2
unfolding cut_name
by-func zero f l = absurd (omega arith)
by-func (suc zero) f l = refl
by-func (suc (suc zero)) f l = refl
by-func (suc (suc (suc zero))) f l = refl
by-func (suc (suc (suc (suc zero)))) f l = refl
by-func (suc (suc (suc (suc (suc zero))))) f l = refl
by-func (suc (suc (suc (suc (suc (suc k)))))) f l = absurd (omega arith)

-- No pass cuts an id.
pub no-id : (k : ℕ) → cut_name k ≡ AId.Id → ⊥
unfolding cut_name
no-id zero e = omega arith
no-id (suc zero) e = omega arith
no-id (suc (suc zero)) e = omega arith
no-id (suc (suc (suc zero))) e = omega arith
no-id (suc (suc (suc (suc zero)))) e = omega arith
no-id (suc (suc (suc (suc (suc zero))))) e = omega arith
no-id (suc (suc (suc (suc (suc (suc zero)))))) e = omega arith
no-id (suc (suc (suc (suc (suc (suc (suc k))))))) e = omega arith

-- The pass of an attribute.
pass_of : ℕ → ℕ
pass_of a =
    pick (eqb a AId.Fill) (λ u. 1)
    (λ u. pick (eqb a AId.Stroke) (λ v. 2) (λ v. pick (eqb a AId.ClipPath) (λ x. 3) (λ x. pick (eqb a AId.Mask) (λ y. 4) (λ y. 5))))

-- It is the pass that cuts it.
pass-back : (k : ℕ) → 1 ≤ k → k ≤ 5 → pass_of (cut_name k) ≡ k
unfolding cut_name pass_of
pass-back zero f l = absurd (omega arith)
pass-back (suc zero) f l = refl
pass-back (suc (suc zero)) f l = refl
pass-back (suc (suc (suc zero))) f l = refl
pass-back (suc (suc (suc (suc zero)))) f l = refl
pass-back (suc (suc (suc (suc (suc zero))))) f l = refl
pass-back (suc (suc (suc (suc (suc (suc k)))))) f l = absurd (omega arith)

-- The passes 1 to 5 have an attribute each.
pub one-pass : (j k : ℕ) → 1 ≤ j → j ≤ 5 → 1 ≤ k → k ≤ 5 → cut_name j ≡ cut_name k → j ≡ k
one-pass j k a b c d e = sym (pass-back j a b) ∙ ap pass_of e ∙ pass-back k c d
