use mathlib.Core.Path.{ap}
use Rattle.std.proofs.lemmas.Result.{err_from_is_err_and}
use Rattle.walk.proofs.Finding.{nodes-on}
use Rattle.element.specs.Font.{declared_in}
use Rattle.element.specs.Runs.{stored_of}
use Rattle.element.proofs.Running.{all_declarations, nodes-none, run-first, run_step, run-stop, run_end}
use Rattle.element.proofs.Running.{writes-steady}
use Rattle.element.proofs.declaration.write_declarations.Goals as goal

pub loop-x-init : goal.loop-x-init
loop-x-init c =
    let inside = c.requires.in_declarations in
    run-first (all_declarations _) _ (declared_in _ c.args.place) _ _ _ _
    (nodes-none _ _ inside.fit) inside.lie c.requires.space

pub returns-in_err-n-in-Ok-clause-stored : goal.returns-in_err-n-in-Ok-clause-stored
returns-in_err-n-in-Ok-clause-stored c =
    let steady = writes-steady _ _ _ c.requires.above in
    let p = err_from_is_err_and c.from_residual.result c.from_residual.ensures.1 in
    run-stop _ _ _ _ _ _ _ _ _ _ c.loop-x.invariant _ _ c.in-Ok.ensures.same steady _ _ c.write_declaration.ensures _ _ _
    c.in_err-n-in-Ok.was (ap stored_of p.1) p.2

pub loop-x-preserved : goal.loop-x-preserved
loop-x-preserved c =
    let here = c.in-Ok.ensures in
    run_step _ _ _ _ _ _ _ _ _ _ c.loop-x.invariant _ _ here.same (writes-steady _ _ _ c.requires.above) _ _ c.write_declaration.ensures
    (nodes-on _ _ _ _ c.loop-x.invariant.same here.fit.nodes) _ c.in_ok-n-in-Ok.was

pub returns-in-Err-clause-stored : goal.returns-in-Err-clause-stored
returns-in-Err-clause-stored c =
    run_end _ _ _ _ _ _ _ _ _ _ c.loop-x.invariant (writes-steady _ _ _ c.requires.above) c.in-Err.ensures.same
