use mathlib.Core.Path.{sym, ◌∙◌, ap}
use Prim.Native.Nat.{ℕ, ◌≤◌}
use native.Mathlib.Omega.{arith}
use Rattle.model.specs.Tables.{parent_of, has_attribute}
use Rattle.tree.specs.Lent.{plus_one, read_of}
use Rattle.tree.proofs.Climbs.{climb, climb-turn, has_attribute-by}
use Rattle.tree.proofs.read.holder_of.Goals as goal

pub returns-then-is_holder-clause-found : goal.returns-then-is_holder-clause-found
returns-then-is_holder-clause-found c =
    let w = ap plus_one c.in-Some.is in
    let falls = λ (j : ℕ) (l : j ≤ c.in-Some.k). (c.requires.placed j (omega (arith, w))).falls in
    let t = climb-turn _ _ _ _ _ _ falls (has_attribute-by _ _ _ _ c.attribute_id.ensures.found) w c.loop-above.invariant.1 in
    rw (sym c.if-is_holder.ensures) at t

pub loop-above-preserved : goal.loop-above-preserved
loop-above-preserved c =
    let args = c.args in
    let read = read_of args.nodes.now args.attributes.now in
    let w = ap plus_one c.in-Some.is in
    let falls = λ (j : ℕ) (l : j ≤ c.in-Some.k). (c.requires.placed j (omega (arith, w))).falls in
    let t = climb-turn _ _ _ _ _ _ falls (has_attribute-by _ _ _ _ c.attribute_id.ensures.found) w c.loop-above.invariant.1 in
    let u = rw (sym c.if-is_holder.ensures) at t in (
      omega (arith, w, c.node_link-above.ensures, (c.requires.placed c.in-Some.k (omega (arith, w))).falls),
      ap (λ (n : ℕ). climb (λ k. has_attribute read k args.a) (parent_of read) n n) c.node_link-above.ensures ∙ u,
    )
