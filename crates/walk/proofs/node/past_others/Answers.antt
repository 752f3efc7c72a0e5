use native.Mathlib.Omega.{arith}
use Rattle.walk.proofs.Walks.{reach-none, item-at}
use Rattle.walk.proofs.Along.{others-none, others-more}
use Rattle.walk.proofs.node.past_others.Goals as goal

pub loop-n-init : goal.loop-n-init
loop-n-init c = others-none _ _ c.requires

pub next_inlined-requires : goal.next_inlined-requires
next_inlined-requires c = c.loop-n.invariant.fit

pub loop-n-smaller : goal.loop-n-smaller
loop-n-smaller c =
    let here = item-at c.args.drawing.now _ _ _ _ c.in-Other.is (c.next_inlined.ensures.step, c.next_inlined.ensures.going)
    (reach-none _ _ _ c.loop-n.invariant.fit) in
    omega (arith, here.1.further, here.1.fit.at)

pub loop-n-preserved : goal.loop-n-preserved
loop-n-preserved c =
    let here = item-at _ _ _ _ _ c.in-Other.is (c.next_inlined.ensures.step, c.next_inlined.ensures.going)
    (reach-none _ _ _ c.loop-n.invariant.fit) in
    others-more _ _ _ _ c.loop-n.invariant here
