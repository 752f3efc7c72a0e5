use mathlib.Core.List.{[]}
use Rattle.std.proofs.lemmas.Result.{err_from_is_err_and}
use Rattle.model.specs.Drawing.{other, closing}
use Rattle.script.specs.declared.cursor.Step.TheVariants.{End}
use Rattle.script.proofs.Commands.{told, goes}
use Rattle.script.proofs.Judging.{turning, stops, ends}
use Rattle.script.proofs.check.advance.Goals as goal

pub returns-in-Open : goal.returns-in-Open
returns-in-Open c =
    λ ks h. turning _ _ _ ks _ _ c.judge_open.result _
    (told _ _ _ _ c.in-Open.is c.next_inlined.ensures.step)
    (goes _ _ _ c.in-Open.is c.next_inlined.ensures.going)
    (c.judge_open.ensures _ _ ks h) c.onward.ensures

pub returns-in-Attribute : goal.returns-in-Attribute
returns-in-Attribute c =
    λ ks h. turning _ _ _ ks _ _ c.judge_attribute.result _
    (told _ _ _ _ c.in-Attribute.is c.next_inlined.ensures.step)
    (goes _ _ _ c.in-Attribute.is c.next_inlined.ensures.going)
    (c.judge_attribute.ensures ks h) c.onward-in-Attribute.ensures

pub returns-in-Declaration : goal.returns-in-Declaration
returns-in-Declaration c =
    λ ks h. turning _ _ _ ks _ _ c.judge_declaration.result _
    (told _ _ _ _ c.in-Declaration.is c.next_inlined.ensures.step)
    (goes _ _ _ c.in-Declaration.is c.next_inlined.ensures.going)
    (c.judge_declaration.ensures ks h) c.onward-in-Declaration.ensures

pub returns-in-Reading : goal.returns-in-Reading
returns-in-Reading c =
    λ ks h. turning _ _ _ ks _ _ c.judge_reading.result _
    (told _ _ _ _ c.in-Reading.is c.next_inlined.ensures.step)
    (goes _ _ _ c.in-Reading.is c.next_inlined.ensures.going)
    (c.judge_reading.ensures _ ks h) c.onward-in-Reading.ensures

pub returns-in-Text : goal.returns-in-Text
returns-in-Text c =
    λ ks h. turning _ _ _ ks _ _ c.judge_text.result _
    (told _ _ _ _ c.in-Text.is c.next_inlined.ensures.step)
    (goes _ _ _ c.in-Text.is c.next_inlined.ensures.going)
    (c.judge_text.ensures ks h) c.onward-in-Text.ensures

pub returns-in-Other : goal.returns-in-Other
returns-in-Other c =
    λ ks h. turning _ _ _ ks other _ c.judge_other.result _
    (told _ _ _ _ c.in-Other.is c.next_inlined.ensures.step)
    (goes _ _ _ c.in-Other.is c.next_inlined.ensures.going)
    (c.judge_other.ensures _ _ ks h) c.onward-in-Other.ensures

pub returns-in-Close : goal.returns-in-Close
returns-in-Close c =
    λ ks h. turning _ _ _ ks closing _ c.judge_close.result _
    (told _ _ _ _ c.in-Close.is c.next_inlined.ensures.step)
    (goes _ _ _ c.in-Close.is c.next_inlined.ensures.going)
    (c.judge_close.ensures _ _ ks h) c.onward-in-Close.ensures

pub returns-in-Broken : goal.returns-in-Broken
returns-in-Broken c =
    let args = c.args in
    λ ks h. stops _ args.s _ ks _ [] _
    (told _ _ _ _ c.in-Broken.is c.next_inlined.ensures.step)
    (c.judge_broken.ensures args.drawing.now.characters.now args.c.chars ks h)

pub returns-in_err-judge_end-in-End : goal.returns-in_err-judge_end-in-End
returns-in_err-judge_end-in-End c =
    λ ks h. let out = err_from_is_err_and c.from_residual.result c.from_residual.ensures.1 in
    rw (out.1, out.2) (ends _ c.args.s _ ks _
    (told _ _ _ End c.in-End.is c.next_inlined.ensures.step) (c.in_err-judge_end-in-End.ensures ks h))

pub returns-in_ok-judge_end-in-End : goal.returns-in_ok-judge_end-in-End
returns-in_ok-judge_end-in-End c =
    λ ks h. ends _ c.args.s _ ks _ (told _ _ _ End c.in-End.is c.next_inlined.ensures.step) (c.in_ok-judge_end-in-End.ensures ks h)
