-- The parent element by the way up, and the search for the node that has an attribute, seen through some of the tables. Assumes nothing.
use mathlib.Core.Path.{◌≡◌, refl, sym, ap, ◌∙◌}
use mathlib.Core.Bool.{Bool, true, false, not}
use Prim.Native.Nat.{ℕ, zero, suc, ◌+◌, ◌-◌, ◌≤◌}
use native.Mathlib.Omega.{arith}
use lib.Dec.{eqb}
use Rattle.model.specs.Base.{pick}
use Rattle.model.specs.Names.{is_inheritable}
use Rattle.model.specs.Tables.{Tree, ELEMENT, kind_of, parent_of, has_attribute, holder_of}
use Rattle.model.specs.Questions.{element_from, self_or_parent, find_attribute_impl}
use Rattle.tree.specs.Lent.{read_of, nodes_read}
use Rattle.tree.proofs.Climbs.{climb, turn, enough}
use Rattle.tree.proofs.Alike.{else_same, id_same, holder-same}

element-climbs : (t : Tree) (n w : ℕ) → element_from t n w ≡ climb (λ i. eqb (kind_of t i) ELEMENT) (parent_of t) n w
unfolding element_from climb
element-climbs t zero w = refl
element-climbs t (suc n) w =
    turn (eqb w 0) (eqb (kind_of t (w - 1)) ELEMENT) (eqb (kind_of t (w - 1)) ELEMENT) w _ _ refl
    (λ e. element-climbs t n (parent_of t (w - 1)))

-- The way up from the parent of node i.
pub element-start : (t : Tree) (i : ℕ) → ((k : ℕ) → k ≤ i → parent_of t k ≤ k)
    → climb (λ k. eqb (kind_of t k) ELEMENT) (parent_of t) (parent_of t i) (parent_of t i) ≡ element_from t i (parent_of t i)
element-start t i q =
    let h : parent_of t i ≤ i = q i (omega arith) in
    enough (λ k. eqb (kind_of t k) ELEMENT) (parent_of t) (parent_of t i) i (parent_of t i) (omega arith) h (λ k l. q k (omega arith))
    ∙ sym (element-climbs t i (parent_of t i))

pub element-same : (t : Tree) (n w : ℕ) → element_from (nodes_read t.nodes) n w ≡ element_from t n w
element-same t n w = element-climbs (nodes_read t.nodes) n w ∙ sym (element-climbs t n w)

module _ (t : Tree) where
  -- t as a function sees it that is lent nodes and attributes.
  abbrev seen : Tree
  seen = read_of t.nodes t.attributes

  self-same : (i a : ℕ) → self_or_parent seen i a ≡ self_or_parent t i a
  self-same i a =
      rw (id_same t i a)
      (else_same (has_attribute t i a) (i + 1) (element (sym (element-same seen i (parent_of t i)) ∙ element-same t i (parent_of t i))))
    where
      owner : (u : Tree) → ℕ → ℕ
      owner u w = pick (eqb w 0) (λ v. 0) (λ v. pick (has_attribute u (w - 1) a) (λ x. w) (λ x. 0))

      element : {v w : ℕ} → v ≡ w → owner seen v ≡ owner t w
      element {v} {w} e =
          rw e (ap (λ (j : ℕ). pick (eqb w 0) (λ v. 0) (λ v. pick (not (eqb j 0)) (λ x. w) (λ x. 0))) (id_same t (w - 1) a))

  pub impl-same : (i a : ℕ) → find_attribute_impl seen i a ≡ find_attribute_impl t i a
  unfolding find_attribute_impl
  impl-same i a = go (is_inheritable a)
    where
      go : (b : Bool) → pick b (λ u. holder_of seen a i) (λ u. self_or_parent seen i a) ≡
          pick b (λ u. holder_of t a i) (λ u. self_or_parent t i a)
      go true = holder-same t a (i + 1) (i + 1)
      go false = self-same i a
