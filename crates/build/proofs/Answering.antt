-- Tables that are cleared, and the first element's test. Assumes nothing.
use mathlib.Core.Path.{◌≡◌, refl, sym, ap, ◌∙◌}
use mathlib.Core.List.{List, []}
use mathlib.Core.Bool.{Bool, true, false}
use Prim.Native.Nat.{ℕ, ◌+◌}
use Rattle.std.specs.Prelude.{Option, Some, None, Err}
use lib.ListN.{length, replicate}
use Rattle.model.specs.EId
use Rattle.model.specs.Tables.{Tree, refused, word, is_named, cleared}
use Rattle.model.specs.Build.{Result, answered, first_is_svg}
use Rattle.tree.specs.Lent.{tree_of, nodes_read, plus_one}
use Rattle.tree.proofs.Entries.{taken, one-less}
use Rattle.refusal.specs.declared.Refusal.{Refusal}
use Rattle.refusal.specs.Number.{number_of}
use Rattle.build.specs.declared.Built.{Built}
use Rattle.build.specs.Results.{built_of, result_of, nothing, cleared_as, left_by}

pub all-cleared : (ns es bs ns' es' bs' : List ℕ) → ns' ≡ replicate (length ns) 0 → es' ≡ replicate (length es) 0 →
    bs' ≡ replicate (length bs) 0 → tree_of ns' es' bs' nothing ≡ cleared_as ns es bs
unfolding cleared
all-cleared ns es bs ns' es' bs' p q r = λ i. tree_of (p i) (q i) (r i) nothing

-- A refusal with cleared tables.
pub refused-answer : (ns es bs : List ℕ) (empty : Tree) (k : Refusal) → tree_of ns es bs nothing ≡ empty → (chars : List ℕ) →
    result_of chars ns es bs (built_of (Err k)) ≡ answered chars empty (refused (number_of k))
refused-answer ns es bs empty k f chars = ap (λ (t : Tree). answered chars t (refused (number_of k))) f

-- The first element, whose index plus 1 stands in the table.
module _ (ns : List ℕ) (o : Option ℕ) (e : plus_one o ≡ word ns 0 3) where
  pub first-none : o ≡ None → false ≡ first_is_svg (nodes_read ns)
  unfolding first_is_svg
  first-none z = rw (← e, z) refl

  pub first_some : (i : ℕ) → o ≡ Some i → is_named (nodes_read ns) EId.Svg i ≡ first_is_svg (nodes_read ns)
  unfolding first_is_svg
  first_some i z =
      let h : i + 1 ≡ word ns 0 3 = sym (ap plus_one z) ∙ e in
      rw (taken i h) (ap (is_named (nodes_read ns) EId.Svg) (sym (one-less i h)))

-- A refusal that clears the tables, and one that leaves them.
module _ (ns es bs : List ℕ) (clears : Bool) (k : Refusal) where
  pub refused-clear : clears ≡ true → (ns' es' bs' : List ℕ) → tree_of ns' es' bs' nothing ≡ cleared_as ns es bs → (chars : List ℕ) →
      result_of chars ns' es' bs' (built_of (Err k)) ≡ answered chars (left_by clears ns es bs) (refused (number_of k))
  refused-clear b ns' es' bs' f = refused-answer ns' es' bs' _ k (f ∙ ap (λ x. left_by x ns es bs) (sym b))

  pub refused-as-is : clears ≡ false → (chars : List ℕ) →
      result_of chars ns es bs (built_of (Err k)) ≡ answered chars (left_by clears ns es bs) (refused (number_of k))
  refused-as-is b = refused-answer ns es bs _ k (ap (λ x. left_by x ns es bs) (sym b))

-- What a refusal by its number leaves where it clears is what the refusal of a build leaves.
pub refused-through : (ns es bs ns' es' bs' : List ℕ) (k : Refusal) (r : Built) →
    ((chars : List ℕ) → result_of chars ns' es' bs' r ≡ answered chars (left_by true ns es bs) (refused (number_of k))) → (chars : List ℕ) →
    result_of chars ns' es' bs' (built_of (Err k)) ≡ answered chars (cleared_as ns es bs) (refused (number_of k))
unfolding cleared
refused-through ns es bs ns' es' bs' k r f =
    refused-answer ns' es' bs' (cleared_as ns es bs) k
    (all-cleared ns es bs ns' es' bs' (ap (λ (x : Result). x.tree.nodes) (f [])) (ap (λ (x : Result). x.tree.attributes) (f []))
    (ap (λ (x : Result). x.tree.text) (f [])))
