use Rattle.walk.proofs.Along.{over-others, leave-other}
use Rattle.walk.proofs.node.past_element.Goals as goal

pub loop-e-preserved-in-Other : goal.loop-e-preserved-in-Other
loop-e-preserved-in-Other c =
    over-others _ _ _ _ _ _ c.loop-e.invariant _ _ c.in-Other.is
    (c.next_item.ensures.same, c.next_item.ensures.fit) _ c.past_others-c.ensures (λ xs. leave-other _ xs)
