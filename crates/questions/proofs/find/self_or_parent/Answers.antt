use mathlib.Core.Path.{refl, sym, ◌∙◌, ap}
use Rattle.tree.specs.Lent.{plus_one, read_of}
use Rattle.tree.proofs.Entries.{taken, one-less}
use Rattle.tree.proofs.Climbs.{has_attribute-by}
use Rattle.questions.proofs.Above.{element-same}
use Rattle.questions.proofs.find.self_or_parent.Goals as goal

pub returns-in_err-parent-clause-found : goal.returns-in_err-parent-clause-found
returns-in_err-parent-clause-found c =
    let read = read_of c.args.nodes.now c.args.attributes.now in
    let own = c.if-is_some.ensures ∙ has_attribute-by _ _ _ _ c.attribute_id.ensures.found in
    let above = c.in_err-parent.ensures.found ∙ element-same read _ _ in
    rw (sym own, sym above) (ap plus_one c.from_residual.ensures)

pub returns-then-is_some-2-clause-found : goal.returns-then-is_some-2-clause-found
returns-then-is_some-2-clause-found c =
    let read = read_of c.args.nodes.now c.args.attributes.now in
    let own = c.if-is_some.ensures ∙ has_attribute-by _ _ _ _ c.attribute_id.ensures.found in
    let above = c.in_ok-parent.ensures.found ∙ element-same read _ _ in
    let parents = c.if-is_some-2.ensures ∙ has_attribute-by _ _ _ _ c.attribute_id-2.ensures.found in
    rw (sym own, sym above, taken c.in_ok-parent.parent refl, one-less c.in_ok-parent.parent refl, sym parents)

pub returns-clause-found : goal.returns-clause-found
returns-clause-found c =
    let read = read_of c.args.nodes.now c.args.attributes.now in
    let own = c.if-is_some.ensures ∙ has_attribute-by _ _ _ _ c.attribute_id.ensures.found in
    let above = c.in_ok-parent.ensures.found ∙ element-same read _ _ in
    let parents = c.if-is_some-2.ensures ∙ has_attribute-by _ _ _ _ c.attribute_id-2.ensures.found in
    rw (sym own, sym above, taken c.in_ok-parent.parent refl, one-less c.in_ok-parent.parent refl, sym parents)
