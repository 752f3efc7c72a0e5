use mathlib.Core.Path.{sym, ap, subst, ◌∙◌}
use mathlib.Core.Bool.{Bool}
use mathlib.Core.Option.{Option}
use native.Mathlib.Omega.{arith}
use Rattle.model.specs.Drawing.{Source}
use Rattle.walk.proofs.Walks.{item-told}
use Rattle.walk.proofs.Along.{along-start, at_item, over}
use Rattle.places.proofs.Search.{Rising, rising, sought-begin, sought-miss, sought-hit, sought-other, sought-close}
use Rattle.places.proofs.Search.{sought-none, style-low}
use Rattle.places.proofs.seek.find_text.Goals as goal

pub loop-e-init : goal.loop-e-init
loop-e-init c = along-start _ _ _ c.requires c.start-c.ensures

pub loop-e-preserved-in-Begin : goal.loop-e-preserved-in-Begin
loop-e-preserved-in-Begin c =
    let opened = item-told _ _ _ _ c.in-Begin.is
    (c.next_item.ensures.same, c.next_item.ensures.fit) in
    over _ _ _ _ _ _ c.loop-e.invariant _ _ c.in-Begin.is
    (c.next_item.ensures.same, c.next_item.ensures.fit) _ _ opened.1.1
    (omega (
      arith,
      c.style_level-level.ensures,
      style-low c.loop-e.level c.in-Begin.e.name,
    ))
    (sought-begin _ _ _ _ _ c.style_level-level.ensures)

pub returns-then-own-number : goal.returns-then-own-number
returns-then-own-number c =
    let source = item-told _ _ _ _ c.in-Text.is
    (c.next_item.ensures.same, c.next_item.ensures.fit) in
    let hit = sym (sought-hit _ _ 0 _ _ c.if-own-number.true (subst (Rising 0) (sym source.0) (rising _ 0 _ _ (omega arith))))
    ∙ at_item _ _ _ _ _ _ c.loop-e.invariant _ _
    c.in-Text.is (c.next_item.ensures.same, c.next_item.ensures.fit) in record {
      text = ap (λ (p : Option Source × Bool). p.0) hit;
      style = ap (λ (p : Option Source × Bool). p.1) hit;
      fit = source.1.0;
    }

pub loop-e-preserved-in-Text : goal.loop-e-preserved-in-Text
loop-e-preserved-in-Text c =
    let source = item-told _ _ _ _ c.in-Text.is
    (c.next_item.ensures.same, c.next_item.ensures.fit) in
    over _ _ _ _ _ _ c.loop-e.invariant _ _
    c.in-Text.is (c.next_item.ensures.same, c.next_item.ensures.fit) _ _ source.1.1
    (omega arith) (sought-miss _ _ _ _ c.if-own-number.false)

pub loop-e-preserved-in-Other : goal.loop-e-preserved-in-Other
loop-e-preserved-in-Other c =
    let other = item-told _ _ _ _ c.in-Other.is (c.next_item.ensures.same, c.next_item.ensures.fit) in
    over _ _ _ _ _ _ c.loop-e.invariant _ _ c.in-Other.is
    (c.next_item.ensures.same, c.next_item.ensures.fit) _ _ other.1 (omega arith) (sought-other _ _ _)

pub loop-e-preserved : goal.loop-e-preserved
loop-e-preserved c =
    let closed = item-told _ _ _ _ c.in-Close.is (c.next_item.ensures.same, c.next_item.ensures.fit) in
    over _ _ _ _ _ _ c.loop-e.invariant _ _ c.in-Close.is
    (c.next_item.ensures.same, c.next_item.ensures.fit) _ _ closed.1 (omega (arith, c.saturating_sub-level.ensures))
    (sought-close _ _ _ _ c.saturating_sub-level.ensures)

pub returns-in-End : goal.returns-in-End
returns-in-End c =
    let end = sym (sought-none _ _) ∙ at_item _ _ _ _ _ _ c.loop-e.invariant _ _ c.in-End.is
    (c.next_item.ensures.same, c.next_item.ensures.fit) in record {
      text = ap (λ (p : Option Source × Bool). p.0) end;
      style = ap (λ (p : Option Source × Bool). p.1) end;
      fit = tt;
    }
