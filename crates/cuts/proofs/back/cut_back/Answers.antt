use mathlib.Core.Path.{◌∙◌}
use borrow.Author.Tests.{eq-eqb}
use Rattle.cuts.proofs.Turning.{back-told, back_cut}
use Rattle.cuts.proofs.back.cut_back.Goals as goal

pub returns-then-mark-aim : goal.returns-then-mark-aim
returns-then-mark-aim c =
    let pre = c.requires.aimed in
    let told = back-told c.args.drawing.now _ _ _ _ pre _ _ c.mark_of-mark.ensures in
    back_cut c.args.drawing.now _ _ _ _ pre _ (told ∙ eq-eqb _ _ c.if-mark-aim.true) _
    c.cut.ensures
