use Rattle.links.proofs.Linking.{part-fit, linked-at}
use Rattle.links.proofs.link.linked.Goals as goal

pub part_at-requires : goal.part_at-requires
part_at-requires c = part-fit _ _ c.in_ok-p.was c.requires.part_fit

pub returns-clause-same : goal.returns-clause-same
returns-clause-same c = linked-at _ _ _ _ c.in_ok-p.was _ c.part_at.ensures _ c.find.ensures.same
