-- The cuts of a pass, found going on after each cut. That they are those that are found from the start again is in
-- proofs/Theorems/GoingOn.antt.
use Prim.Native.Nat.{ℕ, ◌+◌, ◌-◌}
use Rattle.std.proofs.Math.Path.{◌≡◌}
use Rattle.std.proofs.Math.Bool.{Bool, false}
use mathlib.Core.List.{List, [], ◌∷◌, ◌++◌}
use Rattle.std.proofs.Math.Dec.{eqb, leb}
use Rattle.std.proofs.Math.ListN.{get_or}
use Rattle.model.specs.Base.{pick, given, Pair}
use Rattle.model.specs.EId
use Rattle.model.specs.Drawing.{Value}
use Rattle.model.specs.Tables.{Tree, element_by_id}
use Rattle.model.specs.Repair.{up_from, all_named, descendants, element_id}
use Rattle.model.specs.Repair.{link_of, paints_with, node_attribute}
use Rattle.model.specs.Repair.{Cut, cut_name, cut_at, apply_cut, applied}

-- SEARCHES IN RISING LISTS

-- The numbers that pass.
unfoldable pub passing : (ℕ → Bool) → List ℕ → List ℕ
passing f [] = []
passing f (x ∷ xs) = pick (f x) (λ u. x ∷ passing f xs) (λ u. passing f xs)

-- g is f but for m, which no longer passes.
pub record Without (f g : ℕ → Bool) (m : ℕ) : Type 0 where
  pub others : (x : ℕ) → (x ≡ m → ⊥) → g x ≡ f x
  pub gone : g m ≡ false

-- THE PAIRS OF A PASS

-- An element i with each of the nodes below it.
unfoldable pub with_each : ℕ → List ℕ → List Pair → List Pair
with_each i [] more = more
with_each i (j ∷ js) more = record { key = i; value = j } ∷ with_each i js more

-- Each of the elements with the nodes below it, in order.
unfoldable pub pairs_of : Tree → List ℕ → List Pair
pairs_of t [] = []
pairs_of t (i ∷ is) = with_each i (descendants t i) (pairs_of t is)

-- ONE PASS

-- The elements that pass k looks at.
abbrev pub element_of : ℕ → ℕ
element_of k = pick (leb k 2) (λ u. EId.Pattern) (λ u. get_or (EId.ClipPath ∷ EId.Mask ∷ EId.Filter ∷ []) (k - 3) 0)

module _ (chars : List ℕ) (values : List Value) (k : ℕ) where
  -- Does the value of node m lead to the element i? A pattern's id is compared, any other element is led to.
  unfoldable pub leads_to : Tree → ℕ → ℕ → Bool
  leads_to t i m =
      pick (leb k 2) (λ u. paints_with chars values t (cut_name k) (element_id chars t i) m)
      (λ u. eqb (node_attribute chars values t (cut_name k) m) (i + 1))

  -- The node that it leads to, as its index plus 1; 0 for none.
  unfoldable pub target_of : Tree → ℕ → ℕ
  target_of t m =
      pick (leb k 2) (λ u. given (link_of chars values 3 t (cut_name k) m) (λ v. element_by_id chars t v.bytes) (λ x. 0))
      (λ u. node_attribute chars values t (cut_name k) m)

  -- The nodes that are cut for the pair.
  unfoldable pub nodes_at : Tree → ℕ → ℕ → List ℕ
  nodes_at t i j =
      pick (leads_to t i j) (λ u. j ∷ [])
      (λ u. pick (eqb (target_of t j) 0) (λ v. []) (λ v. passing (leads_to t i) (descendants t (target_of t j - 1))))

  -- The cuts of nodes, one after another.
  unfoldable pub cuts_along : Tree → List ℕ → List Cut
  cuts_along t [] = []
  cuts_along t (m ∷ ms) = let c : Cut = cut_at t k m in c ∷ cuts_along (apply_cut t c) ms

  -- The cuts of pairs, each on the tree as the ones before left it: no pair is looked at again.
  unfoldable pub going_on : Tree → List Pair → List Cut
  going_on t [] = []
  going_on t (p ∷ ps) = let cs : List Cut = cuts_along t (nodes_at t p.key p.value) in cs ++ going_on (applied t cs) ps

  -- All pairs of the pass.
  abbrev pub pass_pairs : Tree → List Pair
  pass_pairs t = pairs_of t (all_named t (element_of k) (up_from 0 t.node_count))
