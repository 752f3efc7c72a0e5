use mathlib.Core.Path.{◌∙◌}
use borrow.Author.Tests.{eq-eqb}
use Rattle.cuts.proofs.Turning.{back-told, back_cut}
use Rattle.cuts.proofs.Pairing.{pair-back, quiet-on}
use Rattle.cuts.proofs.pair.cut_pair.Goals as goal

pub returns-then-mark-aim-clause-tables : goal.returns-then-mark-aim-clause-tables
returns-then-mark-aim-clause-tables c =
    let a = c.requires.aimed in
    let back = back-told c.args.drawing.now _ _ _ _ a _ _ c.mark_of-mark.ensures ∙ eq-eqb _ _ c.if-mark-aim.true in
    back_cut c.args.drawing.now _ _ _ _ a _ back _ c.cut.ensures ∙ pair-back c.args.drawing.now _ _ _ _ a _ back

pub returns-then-mark-aim-clause-quiet : goal.returns-then-mark-aim-clause-quiet
returns-then-mark-aim-clause-quiet c =
    let a = c.requires.aimed in
    let back = back-told c.args.drawing.now _ _ _ _ a _ _ c.mark_of-mark.ensures ∙ eq-eqb _ _ c.if-mark-aim.true in
    quiet-on _ _ _ _ _ _ c.args.aim c.requires.cuttable _ c.requires.quiet_2 _ _
    (back_cut c.args.drawing.now _ _ _ _ a _ back _ c.cut.ensures ∙ pair-back c.args.drawing.now _ _ _ _ a _ back)
