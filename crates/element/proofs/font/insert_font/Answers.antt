use mathlib.Core.Path.{sym, ◌∙◌}
use Rattle.std.proofs.lemmas.Result.{err_from_is_err_and}
use Rattle.model.specs.Element.{font_parts}
use Rattle.entries.proofs.Inserting.{on-told}
use Rattle.element.proofs.Fonts.{parts-steady}
use Rattle.entries.proofs.Steps.{run_on, run-full}
use Rattle.element.proofs.Declaring.{no_size, no-family, font-written}
use Rattle.element.proofs.font.insert_font.Goals.{then-not-is_read-via-then-not-is_read}
use Rattle.element.proofs.font.insert_font.Goals.{then-not-is_read-via-else-not-is_read+then-not-is_read-2}
use Rattle.element.proofs.font.insert_font.Goals as goal

pub returns-then-not-is_read : goal.returns-then-not-is_read
returns-then-not-is_read c =
    let v = c.args.v in
    elim c.then-not-is_read.branch [
      | then-not-is_read-via-then-not-is_read w ↦
          no_size _ _ _ _ _ _ v c.requires.space (sym c.is_read.ensures ∙ w.if-not-is_read.true)
      | then-not-is_read-via-else-not-is_read+then-not-is_read-2 w ↦
          no-family _ _ _ _ _ _ v c.requires.space (sym c.is_read.ensures ∙ w.if-not-is_read.false)
          (sym w.is_read-else-not-is_read.ensures ∙ w.if-not-is_read-2.true)
    ]

pub returns-in_err-n : goal.returns-in_err-n
returns-in_err-n c =
    let steady = parts-steady c.args.drawing.now _ _ _ c.requires.above c.args.important c.args.v in
    let p = err_from_is_err_and c.from_residual.result c.from_residual.ensures.1 in
    font-written _ _ _ _ _ _ c.args.v (sym c.if-not-is_read.ensures) (sym c.if-not-is_read-2.ensures) _ _
    (run-full _ _ _ steady _ font_parts c.requires.space.room _ _ c.reset_font.ensures _ _ _ c.in_err-n.was p.1 p.2)

pub returns : goal.returns
returns c =
    let steady = parts-steady c.args.drawing.now _ _ _ c.requires.above c.args.important c.args.v in
    let on = on-told _ _ c.requires.space.room _ _ _ c.reset_font.ensures _ c.in_ok-n.was in
    font-written _ _ _ _ _ _ c.args.v (sym c.if-not-is_read.ensures) (sym c.if-not-is_read-2.ensures) _ _
    (run_on _ _ _ steady _ font_parts _ _ on _ _ c.insert_parts.ensures)
