use Rattle.label.proofs.Telling.{element-done, element-behind}
use Rattle.label.proofs.Holders.{climbs, reads}
use Rattle.label.proofs.Trimming.{label-holds, label-within}
use Rattle.label.proofs.Trimming.{label-leaves, inside-done}
use Rattle.label.proofs.whole.parse_svg_text_element.Goals as goal

pub space_of-space-requires : goal.space_of-space-requires
space_of-space-requires c =
    let nodes = element-behind _ _ _ c.parse_svg_element.ensures.behind _ c.in_ok-opened.was in
    let told = element-done _ _ _ _ _ (c.parse_svg_element.ensures.outcome c.args.text.now) _ c.in_ok-opened.was in
    let holds = label-holds _ _ _ _ _ _ _ c.requires.beginning c.args.ignored _ _ _ _ _ nodes told in
    record { climbable = climbs _ _ _ _ _ _ holds; by_index = reads _ _ _ _ _ _ holds }

pub inside-requires-clause-within : goal.inside-requires-clause-within
inside-requires-clause-within c =
    let nodes = element-behind _ _ _ c.parse_svg_element.ensures.behind _ c.in_ok-opened.was in
    let told = element-done _ _ _ _ _ (c.parse_svg_element.ensures.outcome c.args.text.now) _ c.in_ok-opened.was in
    label-within _ _ _ _ _ _ _ c.requires.beginning c.args.ignored _ _ _ _ _ nodes told _ c.space_of-space.ensures

pub returns-clause-behind : goal.returns-clause-behind
returns-clause-behind c =
    let nodes = element-behind _ _ _ c.parse_svg_element.ensures.behind _ c.in_ok-opened.was in
    let told = element-done _ _ _ _ _ (c.parse_svg_element.ensures.outcome c.args.text.now) _ c.in_ok-opened.was in
    let ends = inside-done _ _ _ _ _ _ _ _ _ _ c.inside.ensures _ c.in_ok-all.was in
    label-leaves _ _ _ _ _ _ _ c.requires.beginning c.args.ignored _ _ _ _ _ nodes told _ c.space_of-space.ensures
    _ _ _ _ _ ends _ _ c.trim_text_nodes.ensures
