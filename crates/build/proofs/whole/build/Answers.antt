use Rattle.build.proofs.Building.{check-refused}
use mathlib.Core.Path.{◌∙◌}
use Rattle.build.proofs.whole.build.Goals as goal

pub returns-then-is_refused : goal.returns-then-is_refused
returns-then-is_refused c =
    c.refuse_build.ensures _ ∙ check-refused c.args.drawing.now _ _ _ _ _ c.check-checked.ensures c.unwrap_err.ensures
