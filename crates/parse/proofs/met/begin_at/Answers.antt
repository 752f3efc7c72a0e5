use mathlib.Core.Path.{ap, ◌∙◌}
use Rattle.std.specs.Prelude.{Ok}
use Rattle.std.proofs.lemmas.Result.{err_from_is_err_and}
use Rattle.parse.specs.declared.Begun.{Begun}
use Rattle.parse.proofs.Meeting.{met-refused, met-passed, met-children, use-fit, met-use}
use Rattle.parse.proofs.met.begin_at.Goals as goal

pub returns-in_err-begun : goal.returns-in_err-begun
returns-in_err-begun c =
    let out = err_from_is_err_and c.from_residual.result c.from_residual.ensures.1 in
    rw (out.1, out.2) (met-refused _ _ _ _ _ _ _ c.args.state.now _ c.is_copied-ignored.ensures _ _ _ _ c.begin_node.ensures _
    c.in_err-begun.was c.args.state.now)

pub begin_copy-requires-clause-fit : goal.begin_copy-requires-clause-fit
begin_copy-requires-clause-fit c =
    use-fit _ _ _ _ _ _ _ c.args.state.now _ c.is_copied-ignored.ensures _ _ _ _ c.begin_node.ensures _ _
    (c.in_ok-begun.was ∙ ap (λ (b : Begun). Ok b) c.in-Use.is)

pub returns-in-Passed : goal.returns-in-Passed
returns-in-Passed c =
    met-passed _ _ _ _ _ _ _ c.args.state.now _ c.is_copied-ignored.ensures _ _ _ _ c.begin_node.ensures _ _
    (c.in_ok-begun.was ∙ ap (λ (b : Begun). Ok b) c.in-Passed.is)

pub returns-in-Children : goal.returns-in-Children
returns-in-Children c =
    met-children _ _ _ _ _ _ _ c.args.state.now _ c.is_copied-ignored.ensures _ _ _ _ c.begin_node.ensures _ _
    (c.in_ok-begun.was ∙ ap (λ (b : Begun). Ok b) c.in-Children.is)

pub returns-in-Use : goal.returns-in-Use
returns-in-Use c =
    met-use _ _ _ _ _ _ _ c.args.state.now _ c.is_copied-ignored.ensures _ _ _ _ c.begin_node.ensures _ _
    (c.in_ok-begun.was ∙ ap (λ (b : Begun). Ok b) c.in-Use.is) _ _ c.begin_copy.ensures
