use native.Mathlib.Omega.{arith}
use Rattle.walk.proofs.Walks.{item-told}
use Rattle.elements.proofs.Turning.{opening, further-on, above-there, behind-text, behind-other, behind-close}
use Rattle.elements.proofs.advance.Goals as goal

pub begin-requires-clause-opening : goal.begin-requires-clause-opening
begin-requires-clause-opening c =
    let going = c.requires.going in
    let opens = item-told _ _ _ _ c.in-Begin.is (c.next_item.ensures.same, c.next_item.ensures.fit) in
    opening _ _ _ opens.0 opens.1.1 going.lies

pub above-parent-requires : goal.above-parent-requires
above-parent-requires c =
    let going = c.requires.going in let whole = above-there _ _ _ _ _ going in
    record { parent_in_bounds = whole.0; parent_bound = whole.1 }

pub returns-in-Text : goal.returns-in-Text
returns-in-Text c =
    let going = c.requires.going in
    let spoken = item-told _ _ _ _ c.in-Text.is (c.next_item.ensures.same, c.next_item.ensures.fit) in
    further-on _ _ _ _ _ going _ _ spoken.1.1
    (behind-text _ c.args.s _
    going.lies _ spoken.0) (omega arith)

pub returns-in-Other : goal.returns-in-Other
returns-in-Other c =
    let going = c.requires.going in
    let passed = item-told _ _ _ _ c.in-Other.is (c.next_item.ensures.same, c.next_item.ensures.fit) in
    further-on _ _ _ _ _ going _ _ passed.1
    (behind-other _ c.args.s _
    going.lies passed.0) (omega arith)

pub returns-in-Close : goal.returns-in-Close
returns-in-Close c =
    let going = c.requires.going in
    let closed = item-told _ _ _ _ c.in-Close.is
    (c.next_item.ensures.same, c.next_item.ensures.fit) in
    further-on _ _ _ _ _ going _ _ closed.1
    (behind-close _
    c.args.s _
    going.lies closed.0) c.above-parent.ensures
