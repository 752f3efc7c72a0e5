use mathlib.Core.Path.{◌∙◌, ap}
use Prim.Native.Nat.{ℕ, ◌≤◌}
use native.Mathlib.Omega.{arith}
use lib.Dec.{eqb}
use Rattle.model.specs.Tables.{kind_of, parent_of}
use Rattle.tree.specs.Lent.{plus_one, nodes_read}
use Rattle.tree.proofs.Climbs.{climb, climb-turn}
use Rattle.questions.proofs.Above.{element-start}
use Rattle.questions.proofs.find.parent_element.Goals as goal

pub loop-above-init : goal.loop-above-init
loop-above-init c =
    let read = nodes_read c.args.nodes.now in (
      omega (arith, c.node_link-above.ensures, (c.requires c.args.i (omega arith)).falls),
      ap (λ (n : ℕ). climb (λ k. eqb (kind_of read k) 2) (parent_of read) n n) c.node_link-above.ensures
          ∙ element-start _ _ (λ k l. (c.requires k l).falls),
    )

pub returns-then-is_named-clause-found : goal.returns-then-is_named-clause-found
returns-then-is_named-clause-found c =
    let w = ap plus_one c.in-Some.is in
    let falls = λ (j : ℕ) (l : j ≤ c.in-Some.k). (c.requires j (omega (arith, w))).falls in
    let t = climb-turn _ _ _ _ _ _ falls c.has_kind-is_named.ensures w c.loop-above.invariant.1 in
    rw c.if-is_named.true at t

pub loop-above-preserved : goal.loop-above-preserved
loop-above-preserved c =
    let read = nodes_read c.args.nodes.now in
    let w = ap plus_one c.in-Some.is in
    let falls = λ (j : ℕ) (l : j ≤ c.in-Some.k). (c.requires j (omega (arith, w))).falls in
    let t = climb-turn _ _ _ _ _ _ falls c.has_kind-is_named.ensures w c.loop-above.invariant.1 in
    let u = rw c.if-is_named.false at t in (
      omega (arith, w, c.node_link-above-in-Some.ensures, falls c.in-Some.k (omega arith)),
      ap (λ (n : ℕ). climb (λ k. eqb (kind_of read k) 2) (parent_of read) n n) c.node_link-above-in-Some.ensures ∙ u,
    )
