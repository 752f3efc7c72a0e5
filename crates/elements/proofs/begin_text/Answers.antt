use Rattle.elements.proofs.Turning.{beginning, labelled}
use Rattle.elements.proofs.begin_text.Goals as goal

pub parse_svg_text_element-requires-clause-beginning : goal.parse_svg_text_element-requires-clause-beginning
parse_svg_text_element-requires-clause-beginning c = beginning _ _ _ _ _ c.requires.going _ c.requires.opening

pub returns : goal.returns
returns c =
    labelled _ _ _ _ _ c.requires.going _ c.requires.opening _ _ c.in_ok-parsed.was _ _ _ c.parse_svg_text_element.ensures.behind
