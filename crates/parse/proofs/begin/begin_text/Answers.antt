use Rattle.std.proofs.lemmas.Result.{err_from_is_err_and}
use Rattle.parse.proofs.Begins.{text-refused, text-done}
use Rattle.parse.proofs.begin.begin_text.Goals as goal

pub returns-in_err-parsed : goal.returns-in_err-parsed
returns-in_err-parsed c =
    let out = err_from_is_err_and c.from_residual.result c.from_residual.ensures.1 in
    rw (out.1, out.2) (text-refused _ _ _ _ _ _ _ _ _ c.requires.beginning c.requires.text _ _ _ _
    c.parse_svg_text_element.ensures.outcome c.parse_svg_text_element.ensures.behind _ c.in_err-parsed.was)

pub returns : goal.returns
returns c =
    text-done _ _ _ _ _ _ _ _ _ c.requires.beginning c.requires.text _ _ _ _ c.parse_svg_text_element.ensures.outcome
    c.parse_svg_text_element.ensures.behind _ c.in_ok-parsed.was
