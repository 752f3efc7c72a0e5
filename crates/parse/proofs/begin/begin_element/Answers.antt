use mathlib.Core.Path.{◌∙◌, ap, sym}
use borrow.Author.Tests.{eq-eqb, ne_eqb}
use Rattle.std.proofs.lemmas.Result.{err_from_is_err_and}
use Rattle.label.proofs.Trimming.{label-ready, label-values}
use Rattle.parse.specs.Cycle.{tag_named}
use Rattle.parse.proofs.Begins.{other-refused, other-use, other-children}
use Rattle.parse.proofs.begin.begin_element.Goals as goal

pub parse_svg_element-requires : goal.parse_svg_element-requires
parse_svg_element-requires c =
    record {
      ready = label-ready _ _ _ _ _ _ _ c.requires.beginning c.args.ignored;
      in_attributes = label-values _ _ _ _ _ _ _ c.requires.beginning c.args.ignored;
    }

pub returns-in_err-parsed : goal.returns-in_err-parsed
returns-in_err-parsed c =
    let named = c.tag_of.ensures ∙ ap tag_named c.code_of-code.ensures in
    let out = err_from_is_err_and c.from_residual.result c.from_residual.ensures.1 in
    rw (out.1, out.2) (other-refused _ _ _ _ _ _ _ _ _ c.requires.beginning c.requires.other _ named _ _ _
    (c.parse_svg_element.ensures.outcome _) c.parse_svg_element.ensures.behind _ c.in_err-parsed.was)

pub returns-then-code-eq-USE : goal.returns-then-code-eq-USE
returns-then-code-eq-USE c =
    let named = c.tag_of.ensures ∙ ap tag_named c.code_of-code.ensures in
    other-use _ _ _ _ _ _ _ _ _ c.requires.beginning c.requires.other _ named _ _ _ (c.parse_svg_element.ensures.outcome _)
    c.parse_svg_element.ensures.behind _ c.in_ok-parsed.was (eq-eqb _ _ (sym c.code_of-code.ensures ∙ c.if-code-eq-USE.true))

pub returns : goal.returns
returns c =
    let named = c.tag_of.ensures ∙ ap tag_named c.code_of-code.ensures in
    other-children _ _ _ _ _ _ _ _ _ c.requires.beginning c.requires.other _ named _ _ _ (c.parse_svg_element.ensures.outcome _)
    c.parse_svg_element.ensures.behind _ c.in_ok-parsed.was
    (ne_eqb _ _ (λ q. c.if-code-eq-USE.false (c.code_of-code.ensures ∙ q)))
