use native.Mathlib.Omega.{arith}
use Rattle.walk.proofs.Walks.{reach-none, attribute-at, no-attribute-at, declared-at}
use Rattle.walk.proofs.value.next_attribute.Goals as goal

pub loop-name-init : goal.loop-name-init
loop-name-init c = reach-none _ _ _ c.requires

pub next-requires : goal.next-requires
next-requires c = c.loop-name.invariant.fit

pub returns-in-Attribute : goal.returns-in-Attribute
returns-in-Attribute c =
    let whole = attribute-at _ _ _ _ _ c.in-Attribute.is (c.next.ensures.step, c.next.ensures.going)
    c.loop-name.invariant in
    record { same = whole.0; fit = whole.1 }

pub loop-name-smaller : goal.loop-name-smaller
loop-name-smaller c =
    omega (
      arith,
      (attribute-at _ _ _ _ _ c.in-Reading.is (c.next.ensures.step, c.next.ensures.going)
          c.loop-name.invariant).less,
      (attribute-at _ _ _ _ _ c.in-Reading.is (c.next.ensures.step, c.next.ensures.going)
          c.loop-name.invariant).reach.fit.at,
    )

pub loop-name-preserved : goal.loop-name-preserved
loop-name-preserved c =
    (attribute-at _ _ _ _ _ c.in-Reading.is (c.next.ensures.step, c.next.ensures.going)
    c.loop-name.invariant).reach

pub returns-in-Declaration : goal.returns-in-Declaration
returns-in-Declaration c =
    let whole = declared-at _ _ _ _ _ _ _ _ c.in-Declaration.is (c.next.ensures.step, c.next.ensures.going) c.loop-name.invariant in
    record { same = whole.0; fit = whole.1 }

pub returns-in_default : goal.returns-in_default
returns-in_default c =
    let whole = no-attribute-at _ _ _ _ c.in_default.not-Attribute c.in_default.not-Reading
    (c.next.ensures.step, c.next.ensures.going) c.loop-name.invariant in
    record { same = whole.0; fit = whole.1 }
