use native.Mathlib.Omega.{arith}
use Rattle.trimming.proofs.Depths.{level-first, level-second, deeper-met}
use Rattle.trimming.proofs.depth.is_deeper.Goals as goal

pub loop-x-preserved-then-x-y : goal.loop-x-preserved-then-x-y
loop-x-preserved-then-x-y c =
    level-first _ _ _ c.requires.below _ _ _ _ _ _
    c.loop-x.invariant c.if-x-y.true _ c.node_word-x-then-x-y.ensures

pub loop-x-preserved : goal.loop-x-preserved
loop-x-preserved c =
    level-second _ _ _ c.requires.below _ _ _ _ _ _
    c.loop-x.invariant (omega (arith, c.if-x-y.false, c.loop-x-test.true)) _
    c.node_word-y-else-x-y.ensures

pub returns : goal.returns
returns c =
    deeper-met _ _ _ c.requires.below _ _
    c.requires.element_lt_a.0 c.requires.element_lt_a.1
    c.requires.element_lt_b.0 c.requires.element_lt_b.1 _ _ _ _ _
    _ c.node_word-x.ensures c.node_word-y.ensures c.loop-x.invariant
    c.loop-x-test.false
