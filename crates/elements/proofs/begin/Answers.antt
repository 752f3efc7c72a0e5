use mathlib.Core.Path.{sym, ap, ◌∙◌}
use Rattle.parse.specs.Cycle.{tag_named}
use Rattle.parse.proofs.Nodes.{tag-element}
use Rattle.model.specs.Names.{is_element}
use Rattle.label.proofs.Telling.{element-done, element-behind}
use Rattle.elements.proofs.Turning.{passed, grown}
use Rattle.elements.proofs.begin.Goals as goal

pub returns-then-not-is_parsed : goal.returns-then-not-is_parsed
returns-then-not-is_parsed c =
    passed _ _ _ _ _ c.requires.going _ c.requires.opening _ c.past_element-behind.ensures.same c.past_element-behind.ensures.fit
    c.past_element-behind.ensures.further

pub returns : goal.returns
returns c =
    let named = sym c.is_parsed.ensures ∙ c.if-not-is_parsed.false in
    let tag = c.tag_of.ensures ∙ ap tag_named c.code_of-code.ensures in
    grown _ _ _ _ _ c.requires.going _ c.requires.opening _ _ (ap is_element tag ∙ tag-element _ _ named) _ _
    (element-behind _ _ _ c.parse_svg_element.ensures.behind _ c.in_ok-parsed.was) _ _
    (element-done _ _ _ _ _ (c.parse_svg_element.ensures.outcome _) _ c.in_ok-parsed.was)
