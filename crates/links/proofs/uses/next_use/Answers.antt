use native.Mathlib.Omega.{arith}
use mathlib.Core.Path.{sym, ◌∙◌}
use Rattle.walk.proofs.Walks.{item-told}
use Rattle.walk.proofs.Along.{along-none, at_item, over, over-others, others-further}
use Rattle.links.proofs.Using.{uses-hit, uses-miss, uses-text, uses-other, uses-close, uses-out, uses-end}
use Rattle.links.proofs.uses.next_use.Goals as goal

pub loop-e-preserved-in-Other : goal.loop-e-preserved-in-Other
loop-e-preserved-in-Other c =
    over-others _ _ _ _ _ _ c.loop-e.invariant _ _ c.in-Other.is
    (c.next_item.ensures.same, c.next_item.ensures.fit) _ c.past_others-c.ensures (λ xs. uses-other _ xs)
