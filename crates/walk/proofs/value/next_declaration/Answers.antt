use native.Mathlib.Omega.{arith}
use Rattle.walk.proofs.Walks.{reach-none, declaration-at, no-declaration-at}
use Rattle.walk.proofs.value.next_declaration.Goals as goal

pub loop-name-init : goal.loop-name-init
loop-name-init c = reach-none _ _ _ c.requires

pub next-requires : goal.next-requires
next-requires c = c.loop-name.invariant.fit

pub loop-name-smaller-in-Attribute : goal.loop-name-smaller-in-Attribute
loop-name-smaller-in-Attribute c =
    let on = declaration-at _ _ _ _ _ c.in-Attribute.is (c.next.ensures.step, c.next.ensures.going)
    c.loop-name.invariant in
    omega (arith, on.less, on.reach.fit.at)

pub loop-name-preserved-in-Attribute : goal.loop-name-preserved-in-Attribute
loop-name-preserved-in-Attribute c =
    let on = declaration-at _ _ _ _ _ c.in-Attribute.is (c.next.ensures.step, c.next.ensures.going)
    c.loop-name.invariant in
    on.reach

pub loop-name-smaller : goal.loop-name-smaller
loop-name-smaller c =
    let on2 = declaration-at _ _ _ _ _ c.in-Reading.is (c.next.ensures.step, c.next.ensures.going)
    c.loop-name.invariant in
    omega (arith, on2.less, on2.reach.fit.at)

pub loop-name-preserved : goal.loop-name-preserved
loop-name-preserved c =
    let on2 = declaration-at _ _ _ _ _ c.in-Reading.is (c.next.ensures.step, c.next.ensures.going)
    c.loop-name.invariant in
    on2.reach

pub returns-in-Declaration : goal.returns-in-Declaration
returns-in-Declaration c =
    let whole = declaration-at _ _ _ _ _ c.in-Declaration.is (c.next.ensures.step, c.next.ensures.going)
    c.loop-name.invariant in
    record { same = whole.0; fit = whole.1 }

pub returns-in_default : goal.returns-in_default
returns-in_default c =
    let whole = no-declaration-at _ _ _ _ c.in_default.not-Declaration c.in_default.not-Attribute c.in_default.not-Reading
    (c.next.ensures.step, c.next.ensures.going) c.loop-name.invariant in
    record { same = whole.0; fit = whole.1 }
