use borrow.Author.Rules.{rules}
use Rattle.std.proofs.lemmas.Result.{err_from_is_err_and}
use Rattle.parse.proofs.Cycling.{met-refused, goes-refused, goes_on, goes-skipped}
use Rattle.parse.proofs.node.+parse_svg_use_element_parse_xml_node_parse_xml_node_children.Goals as goal

pub parse_xml_node_children-returns-in_err-met-clause-outcome : goal.parse_xml_node_children-returns-in_err-met-clause-outcome
parse_xml_node_children-returns-in_err-met-clause-outcome t c =
    let out = err_from_is_err_and c.from_residual.result c.from_residual.ensures.1 in
    rw (out.1, out.2) (met-refused _ _ _ _ _ _ _ _ _ c.loop-met.invariant.0 _ _ _ c.meet.ensures _ c.in_err-met.was)

pub parse_xml_node_children-returns-in_err-parse_xml_node-clause-outcome : goal.parse_xml_node_children-returns-in_err-parse_xml_node-clause-outcome
parse_xml_node_children-returns-in_err-parse_xml_node-clause-outcome t c =
    let out = err_from_is_err_and c.from_residual-in_err-parse_xml_node.result c.from_residual-in_err-parse_xml_node.ensures.1 in
    rw (out.1, out.2) (goes-refused _ _ _ _ _ _ _ _ _ c.loop-met.invariant.0 _ _ _ c.meet.ensures _ c.in_ok-met.was c.in_default.not-End _ _
    c.parse_xml_node.ensures.outcome _ c.in_err-parse_xml_node.was)

pub parse_xml_node_children-loop-met-preserved-in-Passed : goal.parse_xml_node_children-loop-met-preserved-in-Passed
parse_xml_node_children-loop-met-preserved-in-Passed t c =
    let on = goes_on _ _ _ _ _ _ _ _ _ c.loop-met.invariant.0 _ _ _ c.meet.ensures _ c.in_ok-met.was c.in_default.not-End _ _
    c.parse_xml_node.ensures.outcome _ c.parse_xml_node.ensures.behind
    c.in_ok-parse_xml_node.was in
    (goes-skipped _ _ _ _ _ _ _ _ _ _ _ on _ c.pass_unbuilt.ensures, search rules, search rules, search rules)

pub parse_xml_node_children-loop-met-preserved : goal.parse_xml_node_children-loop-met-preserved
parse_xml_node_children-loop-met-preserved t c = (
  goes_on _ _ _ _ _ _ _ _ _ c.loop-met.invariant.0 _ _ _ c.meet.ensures _ c.in_ok-met.was c.in_default.not-End _ _
      c.parse_xml_node.ensures.outcome _ c.parse_xml_node.ensures.behind
      c.in_ok-parse_xml_node.was,
  search rules,
  search rules,
  search rules,
)
