-- What is remembered of the open levels, in tables that grow. Assumes nothing.
use Prim.Native.Nat.{ℕ, zero, suc, ◌+◌, ◌-◌, ◌≤◌, ◌<◌}
use mathlib.Core.Path.{◌≡◌, sym, ap, ◌∙◌, subst, fun_ext}
use mathlib.Core.List.{List}
use native.Mathlib.Omega.{arith}
use Rattle.model.specs.Tables.{Tree, parent_of}
use Rattle.model.specs.Text.{XmlSpace, get_xmlspace, space_of}
use Rattle.pieces.specs.declared.Levels.{Levels}
use Rattle.pieces.specs.Levels.{Told, Pushed}
use Rattle.pieces.specs.Levels.{node_above, space_above, Recalled}
use Rattle.label.proofs.Handing.{old-space}

module _ (chars : List ℕ) (t u : Tree) (n : ℕ)
    (says : (i : ℕ) → i < n → (w : XmlSpace) → get_xmlspace chars u i w ≡ get_xmlspace chars t i w)
    (parents : (i : ℕ) → i < n → parent_of u i ≡ parent_of t i) (falls : (i : ℕ) → i < n → parent_of t i ≤ i) where
  same_above : (j p : ℕ) → p < n → (node_above u p j ≡ node_above t p j) × (node_above t p j < n)
  same_above zero p l = (ap (λ k. k - 1) (parents p l), omega (arith, falls p l))
  same_above (suc j) p l =
      let h = same_above j (parent_of t p - 1) (omega (arith, falls p l)) in
      (ap (λ k. node_above u (k - 1) j) (parents p l) ∙ h.0, h.1)

  -- What is remembered above a node that was there is right still.
  pub recalled-on : (p : ℕ) → p < n → (v : Levels) → Recalled chars t p v → Recalled chars u p v
  recalled-on p l v h = subst (Told v) (fun_ext (λ j. sym (same j))) h
    where
      same : (j : ℕ) → space_above chars u p j ≡ space_above chars t p j
      same j =
          let a = same_above j p l in
          ap (space_of chars u) a.0 ∙ old-space chars t u n says parents falls (node_above t p j) a.1

-- And so is, above a new node below p, that with the space of p.
pub recalled-in : (chars : List ℕ) (u : Tree) (p i : ℕ) (v r : Levels) (s : XmlSpace) → parent_of u i ≡ p + 1 →
    s ≡ space_of chars u p → Recalled chars u p v → Pushed v s r → Recalled chars u i r
recalled-in chars u p i v r s new is h push =
    let q : p ≡ parent_of u i - 1 = omega (arith, new) in
    push (space_above chars u i) (is ∙ ap (space_of chars u) q) (subst (λ k. Told v (space_above chars u k)) q h)
