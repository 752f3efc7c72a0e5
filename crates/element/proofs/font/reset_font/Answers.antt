use Rattle.std.proofs.lemmas.Result.{err_from_is_err_and}
use Rattle.model.specs.Names.{font_resets}
use Rattle.element.specs.Font.{reset_as}
use Rattle.element.proofs.Fonts.{resets-from, rows_end, resets-steady}
use Rattle.entries.proofs.Steps.{at_first, step-on, step-full, at-end}
use Rattle.element.proofs.font.reset_font.Goals as goal

pub loop-name-init : goal.loop-name-init
loop-name-init c = at_first (λ m. reset_as c.args.important) _ _ _ c.requires _

pub returns-in_err-n : goal.returns-in_err-n
unfolding font_resets
returns-in_err-n c =
    let p = err_from_is_err_and c.from_residual.result c.from_residual.ensures.1 in
    let left = rw (resets-from c.loop-name.name-index c.loop-name-test.true) at c.loop-name.invariant in
    step-full _ _ _ (resets-steady _ _ _) _ _ _ _ _ left _ _ c.insert_entry.ensures _ _ _ c.in_err-n.was p.1 p.2

pub loop-name-preserved : goal.loop-name-preserved
unfolding font_resets
loop-name-preserved c =
    let left = rw (resets-from c.loop-name.name-index c.loop-name-test.true) at c.loop-name.invariant in
    step-on _ _ _ (resets-steady _ _ _) _ _ _ _ _ left _ _ c.insert_entry.ensures _ c.in_ok-n.was

pub returns : goal.returns
unfolding font_resets
returns c =
    at-end _ _ _ (resets-steady _ _ _) _ _ _
    (rw (rows_end font_resets c.loop-name.name-index c.loop-name-test.false) at c.loop-name.invariant)
