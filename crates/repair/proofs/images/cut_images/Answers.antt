use mathlib.Core.Path.{ap, ◌∙◌}
use Rattle.model.specs.Repair.{applied}
use Rattle.repair.proofs.Passing.{images-each, images-all, pass-turn, pass-done}
use Rattle.repair.proofs.images.cut_images.Goals as goal

pub loop-i-preserved : goal.loop-i-preserved
loop-i-preserved c =
    pass-turn _ _ _ _ _ _ (images-each _ _) _ _ _ _ c.loop-i.invariant c.loop-i-test.true _ _ c.cut_image-c.ensures.tables
    c.cut_image-c.ensures.fit

pub returns-clause-tables : goal.returns-clause-tables
returns-clause-tables c =
    pass-done _ _ _ _ _ _ (images-each _ _) _ _ _ _ c.loop-i.invariant c.loop-i-test.false ∙ ap (applied _) (images-all _ _ _)
