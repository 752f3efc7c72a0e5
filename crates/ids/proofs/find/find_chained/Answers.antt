use Rattle.model.specs.Tables.{entry_at}
use Rattle.ids.proofs.Hunting.{minus-one, hunt-first, hunting-at, hunt-hit, hunt-on}
use Rattle.ids.proofs.find.find_chained.Goals as goal

pub loop-last-init : goal.loop-last-init
loop-last-init c =
    hunt-first _ _ _ _ c.requires.chained _ _ c.bucket.ensures.same c.bucket.ensures.small _ (minus-one _ _ c.checked_sub-last.ensures)

pub returns-then-has_value-clause-found : goal.returns-then-has_value-clause-found
unfolding entry_at
returns-then-has_value-clause-found c =
    let at = hunting-at _ _ _ _ c.requires.chained _ _ _ c.in-Some.is c.loop-last.invariant in
    let found = rw c.unwrap-j.ensures at c.attribute_id.ensures.found in
    hunt-hit _ _ _ _ c.requires.chained _ _ at _ found _ c.has_value.ensures c.if-has_value.true

pub loop-last-smaller : goal.loop-last-smaller
unfolding entry_at
loop-last-smaller c =
    let at = hunting-at _ _ _ _ c.requires.chained _ _ _ c.in-Some.is c.loop-last.invariant in
    let found = rw c.unwrap-j.ensures at c.attribute_id.ensures.found in
    rw c.in-Some.is (hunt-on _ _ _ _ c.requires.chained _ _ at _ found _ c.has_value.ensures c.if-has_value.false _ c.entry_word.ensures _
    (minus-one _ _ c.checked_sub-last-in-Some.ensures)).1

pub loop-last-preserved : goal.loop-last-preserved
unfolding entry_at
loop-last-preserved c =
    let at = hunting-at _ _ _ _ c.requires.chained _ _ _ c.in-Some.is c.loop-last.invariant in
    let found = rw c.unwrap-j.ensures at c.attribute_id.ensures.found in
    (hunt-on _ _ _ _ c.requires.chained _ _ at _ found _ c.has_value.ensures c.if-has_value.false _ c.entry_word.ensures _
    (minus-one _ _ c.checked_sub-last-in-Some.ensures)).0
