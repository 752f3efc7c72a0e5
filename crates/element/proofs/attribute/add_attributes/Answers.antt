use mathlib.Core.Path.{ap}
use Rattle.std.proofs.lemmas.Result.{err_from_is_err_and}
use Rattle.walk.proofs.Finding.{rest-on}
use Rattle.element.specs.Runs.{added_in, stored_of}
use Rattle.element.proofs.Fonts.{held_place, held_whole}
use Rattle.element.proofs.Running.{all_attributes, rest-none, run-first, run_lies, run_step, run-stop, run_end}
use Rattle.element.proofs.Running.{adds-steady, held-attributed, added-whole}
use Rattle.element.proofs.attribute.add_attributes.Goals as goal

pub loop-x-init : goal.loop-x-init
loop-x-init c =
    let inside = c.requires.in_attributes in
    run-first (all_attributes _) _ (added_in _ c.args.place _) _ _ _ _
    (rest-none _ _ inside.fit) inside.lie c.requires.space

pub value_of-requires : goal.value_of-requires
value_of-requires c =
    let here = c.in-Ok.ensures in
    let lies = run_lies _ _ _ _ _ _ _ _ _ _ c.loop-x.invariant _ _ here.same in
    held_place _ _ (held-attributed _ c.requires.in_attributes.small _ _ here.fit lies)

pub add_attribute-requires-clause-size_in_bounds :
    goal.add_attribute-requires-clause-size_in_bounds
add_attribute-requires-clause-size_in_bounds c =
    let here = c.in-Ok.ensures in
    let lies = run_lies _ _ _ _ _ _ _ _ _ _ c.loop-x.invariant _ _ here.same in
    rw c.value_of.ensures (held_whole _ _ (held-attributed _ c.requires.in_attributes.small _ _ here.fit lies))

pub returns-in_err-n-in-Ok-clause-stored : goal.returns-in_err-n-in-Ok-clause-stored
returns-in_err-n-in-Ok-clause-stored c =
    let steady = adds-steady _ _ _ c.requires.above c.args.ignored in
    let added = added-whole c.args.drawing.now _ _ _ _ _ _ _ c.in-Ok.x.value _ c.value_of.ensures _ _ c.add_attribute.ensures in
    let p = err_from_is_err_and c.from_residual.result c.from_residual.ensures.1 in
    run-stop _ _ _ _ _ _ _ _ _ _ c.loop-x.invariant _ _ c.in-Ok.ensures.same steady _ _ added _ _ _
    c.in_err-n-in-Ok.was (ap stored_of p.1) p.2

pub loop-x-preserved : goal.loop-x-preserved
loop-x-preserved c =
    let here = c.in-Ok.ensures in
    let steady = adds-steady _ _ _ c.requires.above c.args.ignored in
    let added = added-whole c.args.drawing.now _ _ _ _ _ _ _ c.in-Ok.x.value _ c.value_of.ensures _ _ c.add_attribute.ensures in
    run_step _ _ _ _ _ _ _ _ _ _ c.loop-x.invariant _ _ here.same steady _ _ added
    (rest-on _ _ _ _ c.loop-x.invariant.same here.fit.rest) _ c.in_ok-n-in-Ok.was

pub returns-in-Err-clause-stored : goal.returns-in-Err-clause-stored
returns-in-Err-clause-stored c =
    run_end _ _ _ _ _ _ _ _ _ _ c.loop-x.invariant (adds-steady _ _ _ c.requires.above c.args.ignored) c.in-Err.ensures.same
