use mathlib.Core.Path.{sym, ap, ◌∙◌}
use Rattle.std.proofs.lemmas.Result.{err_from_is_err_and}
use Rattle.refusal.specs.Number.{answer_of}
use Rattle.build.proofs.Building.{both_small}
use Rattle.exchange.proofs.Faults.{check-fault, no_text, text-fault, granted}
use Rattle.exchange.proofs.fault.target_of.Goals as goal

pub returns-in_err-check : goal.returns-in_err-check
returns-in_err-check c =
    let out = err_from_is_err_and c.from_residual.result c.from_residual.ensures.1 in
    rw (out.1, out.2) (check-fault _ _ _ _ _ c.check.ensures _ c.in_err-check.was)

pub find_text-requires : goal.find_text-requires
find_text-requires c = (both_small c.args.drawing.now (sym c.check.ensures ∙ ap answer_of c.in_ok-check.was)).0

pub returns-in_default : goal.returns-in_default
returns-in_default c =
    no_text _ _ _ _ (sym c.check.ensures ∙ ap answer_of c.in_ok-check.was) _ c.find_text.ensures.text c.find_text.ensures.style
    c.in_default.is

pub returns-in_err-text_fault : goal.returns-in_err-text_fault
returns-in_err-text_fault c =
    let out = err_from_is_err_and c.from_residual-in_err-text_fault.result c.from_residual-in_err-text_fault.ensures.1 in
    rw (out.1, out.2) (text-fault _ _ _ _ (sym c.check.ensures ∙ ap answer_of c.in_ok-check.was) _ c.find_text.ensures.text
    c.find_text.ensures.style _ c.in-Some.is _ c.text_fault.ensures _ c.in_err-text_fault.was)

pub returns : goal.returns
returns c =
    granted _ _ _ _ (sym c.check.ensures ∙ ap answer_of c.in_ok-check.was) _ c.find_text.ensures.text c.find_text.ensures.style _
    c.in-Some.is _ c.text_fault.ensures c.in_ok-text_fault.was
