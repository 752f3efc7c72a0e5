use lib.ListN.{drop_of_length-le}
use Rattle.std.proofs.lemmas.Result.{err_from_is_err_and}
use Rattle.entries.specs.Space.{inserted}
use Rattle.entries.proofs.Steps.{at_first, step-on, step-full, at-end, inserts-steady, markers, markers-from}
use Rattle.entries.proofs.insert.insert_marker.Goals as goal

pub loop-name-init : goal.loop-name-init
loop-name-init c =
    let args = c.args in
    at_first (λ m. inserted args.nodes.now m args.characters.now args.place args.important args.value) _ _ _ c.requires.space _

pub returns-in_err-n : goal.returns-in_err-n
returns-in_err-n c =
    let steady = inserts-steady _ _ c.args.characters.now _ c.requires.above c.args.important c.args.value in
    let left = rw (markers-from c.loop-name.name-index c.loop-name-test.true) at c.loop-name.invariant in
    let p = err_from_is_err_and c.from_residual.result c.from_residual.ensures.1 in
    step-full _ _ _ steady _ _ _ _ _ left _ _ c.insert_attribute.ensures _ _ _ c.in_err-n.was p.1 p.2

pub loop-name-preserved : goal.loop-name-preserved
loop-name-preserved c =
    let steady = inserts-steady _ _ c.args.characters.now _ c.requires.above c.args.important c.args.value in
    let left = rw (markers-from c.loop-name.name-index c.loop-name-test.true) at c.loop-name.invariant in
    step-on _ _ _ steady _ _ _ _ _ left _ _ c.insert_attribute.ensures _ c.in_ok-n.was

pub returns : goal.returns
returns c =
    let steady = inserts-steady _ _ c.args.characters.now _ c.requires.above c.args.important c.args.value in
    at-end _ _ _ steady _ _ _
    (rw (drop_of_length-le markers {i = c.loop-name.name-index} c.loop-name-test.false) at c.loop-name.invariant)
