use native.Mathlib.Omega.{arith}
use Rattle.walk.proofs.Walks.{reach-none, item-at, item-end}
use Rattle.walk.proofs.node.next_item.Goals as goal

pub loop-name-init : goal.loop-name-init
loop-name-init c = reach-none _ _ _ c.requires

pub next-requires : goal.next-requires
next-requires c = c.loop-name.invariant.fit

pub returns-in-Open : goal.returns-in-Open
returns-in-Open c =
    let whole = item-at _ _ _ _ _ c.in-Open.is (c.next.ensures.step, c.next.ensures.going)
    c.loop-name.invariant in
    record { same = whole.0; fit = whole.1 }

pub returns-in-Text : goal.returns-in-Text
returns-in-Text c =
    let whole = item-at _ _ _ _ _ c.in-Text.is (c.next.ensures.step, c.next.ensures.going)
    c.loop-name.invariant in
    record { same = whole.0; fit = whole.1 }

pub returns-in-Other : goal.returns-in-Other
returns-in-Other c =
    let whole = item-at _ _ _ _ _ c.in-Other.is (c.next.ensures.step, c.next.ensures.going)
    c.loop-name.invariant in
    record { same = whole.0; fit = whole.1 }

pub returns-in-Close : goal.returns-in-Close
returns-in-Close c =
    let whole = item-at _ _ _ _ _ c.in-Close.is (c.next.ensures.step, c.next.ensures.going)
    c.loop-name.invariant in
    record { same = whole.0; fit = whole.1 }

pub loop-name-smaller-in-Attribute : goal.loop-name-smaller-in-Attribute
loop-name-smaller-in-Attribute c =
    let on = item-at _ _ _ _ _ c.in-Attribute.is (c.next.ensures.step, c.next.ensures.going)
    c.loop-name.invariant in
    omega (arith, on.less, on.reach.fit.at)

pub loop-name-preserved-in-Attribute : goal.loop-name-preserved-in-Attribute
loop-name-preserved-in-Attribute c =
    let on = item-at _ _ _ _ _ c.in-Attribute.is (c.next.ensures.step, c.next.ensures.going)
    c.loop-name.invariant in
    on.reach

pub loop-name-smaller-in-Declaration : goal.loop-name-smaller-in-Declaration
loop-name-smaller-in-Declaration c =
    let on2 = item-at _ _ _ _ _ c.in-Declaration.is (c.next.ensures.step, c.next.ensures.going)
    c.loop-name.invariant in
    omega (arith, on2.less, on2.reach.fit.at)

pub loop-name-preserved-in-Declaration : goal.loop-name-preserved-in-Declaration
loop-name-preserved-in-Declaration c =
    let on2 = item-at _ _ _ _ _ c.in-Declaration.is (c.next.ensures.step, c.next.ensures.going)
    c.loop-name.invariant in
    on2.reach

pub loop-name-smaller : goal.loop-name-smaller
loop-name-smaller c =
    let on3 = item-at _ _ _ _ _ c.in-Reading.is (c.next.ensures.step, c.next.ensures.going)
    c.loop-name.invariant in
    omega (arith, on3.less, on3.reach.fit.at)

pub loop-name-preserved : goal.loop-name-preserved
loop-name-preserved c =
    let on3 = item-at _ _ _ _ _ c.in-Reading.is (c.next.ensures.step, c.next.ensures.going)
    c.loop-name.invariant in
    on3.reach

pub returns-in-Broken : goal.returns-in-Broken
returns-in-Broken c =
    let whole = item-end _ _ _ _ c.in-Broken.is (c.next.ensures.step, c.next.ensures.going) c.loop-name.invariant in
    record { same = whole.0; fit = whole.1 }
