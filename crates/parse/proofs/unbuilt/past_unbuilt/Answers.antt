use native.Mathlib.Omega.{arith}
use mathlib.Core.Path.{sym, ◌∙◌}
use Rattle.walk.proofs.Walks.{item-told}
use Rattle.walk.proofs.Along.{along-none, at_item, over, over-others, others-further}
use Rattle.parse.proofs.Skipping.{built-here, unbuilt-begin, unbuilt-text, unbuilt-other, unbuilt-close, unbuilt-out, unbuilt-end}
use Rattle.parse.proofs.unbuilt.past_unbuilt.Goals as goal

pub loop-e-init : goal.loop-e-init
loop-e-init c = along-none _ _ _ _ c.requires (omega arith)

pub next_item-requires : goal.next_item-requires
next_item-requires c =
    let inv = c.loop-e.invariant in
    inv.fit

pub returns-then-is_built : goal.returns-then-is_built
returns-then-is_built c =
    let opened = item-told _ _ _ _ c.in-Begin.is
    (c.next_item.ensures.same, c.next_item.ensures.fit) in
    let inv = c.loop-e.invariant in record {
      same = sym opened.0 ∙ sym (built-here _ _ _ (sym c.is_built.ensures ∙ c.if-is_built.true))
          ∙ at_item _ _ _ _ _ _ inv _ _ c.in-Begin.is
          (c.next_item.ensures.same, c.next_item.ensures.fit);
      fit = inv.fit;
      further = inv.later;
    }

pub overflow_add-level : goal.overflow_add-level
overflow_add-level c =
    let inv = c.loop-e.invariant in
    omega (arith, inv.low, inv.fit.at, inv.fit.size)

pub loop-e-smaller-in-Begin : goal.loop-e-smaller-in-Begin
loop-e-smaller-in-Begin c =
    let opened = item-told _ _ _ _ c.in-Begin.is
    (c.next_item.ensures.same, c.next_item.ensures.fit) in
    omega (arith, opened.1.1.further, opened.1.1.fit.at)

pub loop-e-preserved-in-Begin : goal.loop-e-preserved-in-Begin
loop-e-preserved-in-Begin c =
    let opened = item-told _ _ _ _ c.in-Begin.is
    (c.next_item.ensures.same, c.next_item.ensures.fit) in
    let inv = c.loop-e.invariant in
    over _ _ _ _ _ _ inv _ _ c.in-Begin.is
    (c.next_item.ensures.same, c.next_item.ensures.fit) _ _ opened.1.1 (omega arith)
    (unbuilt-begin _ _ _ (sym c.is_built.ensures ∙ c.if-is_built.false))

pub loop-e-smaller-in-Text : goal.loop-e-smaller-in-Text
loop-e-smaller-in-Text c =
    let text = item-told _ _ _ _ c.in-Text.is (c.next_item.ensures.same, c.next_item.ensures.fit) in
    omega (arith, text.1.1.further, text.1.1.fit.at)

pub loop-e-preserved-in-Text : goal.loop-e-preserved-in-Text
loop-e-preserved-in-Text c =
    let text = item-told _ _ _ _ c.in-Text.is (c.next_item.ensures.same, c.next_item.ensures.fit) in
    let inv = c.loop-e.invariant in
    over _ _ _ _ _ _ inv _ _ c.in-Text.is (c.next_item.ensures.same, c.next_item.ensures.fit) _ _ text.1.1
    (omega arith) (unbuilt-text _ _ _)

pub past_others-c-requires : goal.past_others-c-requires
past_others-c-requires c = (item-told _ _ _ _ c.in-Other.is (c.next_item.ensures.same, c.next_item.ensures.fit)).1.fit

pub loop-e-smaller-in-Other : goal.loop-e-smaller-in-Other
loop-e-smaller-in-Other c =
    let w = others-further _ _ _ _ _ _ c.loop-e.invariant _ _ c.in-Other.is
    (c.next_item.ensures.same, c.next_item.ensures.fit) _ c.past_others-c.ensures in
    omega (arith, w.0, w.1)

pub loop-e-preserved-in-Other : goal.loop-e-preserved-in-Other
loop-e-preserved-in-Other c =
    over-others _ _ _ _ _ _ c.loop-e.invariant _ _ c.in-Other.is
    (c.next_item.ensures.same, c.next_item.ensures.fit) _ c.past_others-c.ensures (λ xs. unbuilt-other _ xs)

pub returns-then-level-eq0 : goal.returns-then-level-eq0
returns-then-level-eq0 c =
    let closed = item-told _ _ _ _ c.in-Close.is (c.next_item.ensures.same, c.next_item.ensures.fit) in
    let inv = c.loop-e.invariant in record {
      same = sym closed.0 ∙ sym (unbuilt-out _ _ c.if-level-eq0.true)
          ∙ at_item _ _ _ _ _ _ inv _ _ c.in-Close.is (c.next_item.ensures.same, c.next_item.ensures.fit);
      fit = inv.fit;
      further = inv.later;
    }

pub loop-e-smaller : goal.loop-e-smaller
loop-e-smaller c =
    let closed = item-told _ _ _ _ c.in-Close.is (c.next_item.ensures.same, c.next_item.ensures.fit) in
    omega (arith, closed.1.further, closed.1.fit.at)

pub loop-e-preserved : goal.loop-e-preserved
loop-e-preserved c =
    let closed = item-told _ _ _ _ c.in-Close.is (c.next_item.ensures.same, c.next_item.ensures.fit) in
    let inv = c.loop-e.invariant in
    over _ _ _ _ _ _ inv _ _ c.in-Close.is (c.next_item.ensures.same, c.next_item.ensures.fit) _ _
    closed.1 (omega arith) (unbuilt-close _ _ c.if-level-eq0.false)

pub returns-in-End : goal.returns-in-End
returns-in-End c =
    let end = item-told _ _ _ _ c.in-End.is (c.next_item.ensures.same, c.next_item.ensures.fit) in
    let inv = c.loop-e.invariant in record {
      same = sym end.0 ∙ sym (unbuilt-end _)
          ∙ at_item _ _ _ _ _ _ inv _ _ c.in-End.is (c.next_item.ensures.same, c.next_item.ensures.fit);
      fit = inv.fit;
      further = inv.later;
    }
