use Rattle.std.proofs.Common.{◌≡◌, length, ◌-◌, ◌+◌, ◌*◌}
use Rattle.tree.specs.Lent.{tree_of}
use Rattle.parse.specs.Met.{level_built}
use Rattle.parse.proofs.Cycling.{Goes}
use Rattle.parse.proofs.node.+parse_svg_use_element_parse_xml_node_parse_xml_node_children.Given as goal

abbrev pub decreases-parse_svg_use_element : goal.decreases-parse_svg_use_element
decreases-parse_svg_use_element l = 3 * l.left

abbrev pub decreases-parse_xml_node : goal.decreases-parse_xml_node
decreases-parse_xml_node l = 3 * l.left + 1

abbrev pub decreases-parse_xml_node_children : goal.decreases-parse_xml_node_children
decreases-parse_xml_node_children l = 3 * l.left + 2

abbrev pub invariant-parse_xml_node_children-loop-met : goal.invariant-parse_xml_node_children-loop-met
invariant-parse_xml_node_children-loop-met l =
    let first = l.initial.state in
    Goes l.drawing l.left first.origin l.parent first.cursor first.counts.nodes
    (level_built l.drawing l.left first.origin l.parent first.cursor
    (tree_of l.initial.nodes l.initial.attributes l.initial.text first.counts))
    l.state (tree_of l.nodes l.attributes l.text l.state.counts) × (length l.nodes ≡ length l.initial.nodes)
    × (length l.attributes ≡ length l.initial.attributes) × (length l.text ≡ length l.initial.text)

abbrev pub decreases-parse_xml_node_children-loop-met : goal.decreases-parse_xml_node_children-loop-met
decreases-parse_xml_node_children-loop-met l = length l.drawing.script.now - l.state.cursor.at
