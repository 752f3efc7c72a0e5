use Rattle.std.proofs.lemmas.Result.{err_from_is_err_and}
use Rattle.model.specs.Element.{font_parts}
use Rattle.element.specs.Font.{parts_of}
use Rattle.element.proofs.Fonts.{parts-from, rows_end, parts-steady}
use Rattle.entries.proofs.Steps.{at_first, step-on, step-full, at-end}
use Rattle.element.proofs.font.insert_parts.Goals as goal

pub loop-kind-init : goal.loop-kind-init
loop-kind-init c = at_first (parts_of _ _ c.args.place c.args.important c.args.v) _ c.args.place _ c.requires.space _

pub returns-in_err-n : goal.returns-in_err-n
unfolding font_parts
returns-in_err-n c =
    let p = err_from_is_err_and c.from_residual.result c.from_residual.ensures.1 in
    let left = rw (parts-from c.loop-kind.kind-index c.loop-kind-test.true) at c.loop-kind.invariant in
    let steady = parts-steady _ _ _ _ c.requires.above _ c.args.v in
    step-full _ _ _ steady _ _ _ _ _ left _ _ c.insert_part.ensures _ _ _ c.in_err-n.was p.1 p.2

pub loop-kind-preserved : goal.loop-kind-preserved
unfolding font_parts
loop-kind-preserved c =
    let left = rw (parts-from c.loop-kind.kind-index c.loop-kind-test.true) at c.loop-kind.invariant in
    let steady = parts-steady _ _ _ _ c.requires.above _ c.args.v in
    step-on _ _ _ steady _ _ _ _ _ left _ _ c.insert_part.ensures _ c.in_ok-n.was

pub returns : goal.returns
unfolding font_parts
returns c =
    at-end _ _ _ (parts-steady _ _ _ _ c.requires.above _ c.args.v) _ _ _
    (rw (rows_end font_parts c.loop-kind.kind-index c.loop-kind-test.false) at c.loop-kind.invariant)
