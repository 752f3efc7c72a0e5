-- The cuts of the passes without a list, each made as it is found. That they are those of `repairs` is in
-- proofs/Theorems/Images.antt.
use Prim.Native.Nat.{ℕ, ◌-◌}
use Rattle.std.specs.Prelude.{eqb, leb}
use mathlib.Core.List.{List, [], ◌∷◌, ◌++◌}
use Rattle.model.specs.Base.{pick}
use Rattle.model.specs.EId
use Rattle.model.specs.Drawing.{Value}
use Rattle.model.specs.Tables.{Tree}
use Rattle.model.specs.Repair.{up_from, all_named, recursive_fe_image}
use Rattle.model.specs.Repair.{Cut, cut_at, apply_cut, applied}
use Rattle.model.specs.Theorems.GoingOn.{going_on, pass_pairs}

module _ (chars : List ℕ) (values : List Value) where
  -- The cuts of feImage elements, each made as it is found.
  unfoldable pub images_on : Tree → List ℕ → List Cut
  images_on t [] = []
  images_on t (i ∷ is) =
      let w : ℕ = recursive_fe_image chars values t i in
      pick (eqb w 0) (λ u. images_on t is) (λ u. let c : Cut = cut_at t 6 (w - 1) in c ∷ images_on (apply_cut t c) is)

  -- The cuts of a pass, going on after each.
  unfoldable pub pass_on : ℕ → Tree → List Cut
  pass_on k t =
      pick (leb k 5) (λ u. going_on chars values k t (pass_pairs chars values k t))
      (λ u. images_on t (all_named t EId.FeImage (up_from 0 t.node_count)))

  -- The cuts of passes, each on the tree as the ones before left it.
  unfoldable pub passes_on : List ℕ → Tree → List Cut
  passes_on [] t = []
  passes_on (k ∷ ks) t = let cs : List Cut = pass_on k t in cs ++ passes_on ks (applied t cs)
