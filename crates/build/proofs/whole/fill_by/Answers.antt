use borrow.Author.Rules.{rules}
use mathlib.Core.Path.{refl, ◌∙◌}
use Rattle.build.proofs.Building.{begins, begins-behind, all-behind, fill-refused, fill_done, fill-tended}
use Rattle.build.proofs.whole.fill_by.Goals as goal

pub pass_unbuilt-requires : goal.pass_unbuilt-requires
pass_unbuilt-requires c = (begins _ _ _ _ c.requires.rooted _ c.start.ensures).fit

pub parse_xml_node_children-built-requires : goal.parse_xml_node_children-built-requires
parse_xml_node_children-built-requires c = record {
  underway = begins-behind _ _ _ _ c.requires.rooted _ c.start.ensures _ _ c.pass_unbuilt.ensures refl refl refl;
  memo = c.requires.memo;
}

pub returns-in-Err : goal.returns-in-Err
returns-in-Err c =
    let told = c.parse_xml_node_children-built.ensures.outcome
    ∙ all-behind _ _ _ _ c.requires.rooted _ c.start.ensures _ _ c.pass_unbuilt.ensures refl refl refl in
    c.refuse_build.ensures _
    ∙ fill-refused _ _ _ _ c.requires.rooted _ c.start.ensures _ _ _ _ _ told (search rules) (search rules) (search rules) _ c.in-Err.is

pub finish-requires : goal.finish-requires
finish-requires c =
    let told = c.parse_xml_node_children-built.ensures.outcome
    ∙ all-behind _ _ _ _ c.requires.rooted _ c.start.ensures _ _ c.pass_unbuilt.ensures refl refl refl in
    fill-tended _ _ _ _ c.requires.rooted _ c.start.ensures _ _ _ _ _ told _ _ _ _ _ c.parse_xml_node_children-built.ensures.behind c.in-Ok.is

pub returns-in-Ok : goal.returns-in-Ok
returns-in-Ok c =
    let told = c.parse_xml_node_children-built.ensures.outcome
    ∙ all-behind _ _ _ _ c.requires.rooted _ c.start.ensures _ _ c.pass_unbuilt.ensures refl refl refl in
    c.finish.ensures
    ∙ fill_done _ _ _ _ c.requires.rooted _ c.start.ensures _ _ _ _ _ told (search rules) (search rules) (search rules) c.in-Ok.is
