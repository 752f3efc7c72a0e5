use Rattle.model.specs.Drawing.{part_at}
use Rattle.tree.proofs.Facts.{readable-in}
use Rattle.targets.proofs.Finding.{mark-there, mark-nowhere}
use Rattle.targets.proofs.mark.find_mark.Goals as goal

pub link_of-found-requires-clause-readable_in : goal.link_of-found-requires-clause-readable_in
link_of-found-requires-clause-readable_in c = readable-in _ _ c.requires.kept _ c.requires.m_lt_nodes

pub returns-in_default-clause-same : goal.returns-in_default-clause-same
returns-in_default-clause-same c =
    mark-nowhere _ _ _ _ c.args.counts _ _ _ _ c.cut_name-name.ensures (rw c.from.ensures at c.pass_kind-kind.ensures)
    (rw c.in_default.is at c.link_of-found.ensures.same)

pub returns-clause-same : goal.returns-clause-same
unfolding part_at
returns-clause-same c =
    mark-there _ _ _ _ c.args.counts _ _ _ _ c.cut_name-name.ensures (rw c.from.ensures at c.pass_kind-kind.ensures) _
    (rw c.in-Some.is at c.link_of-found.ensures.same) _ c.part_at-id.ensures _ c.mark_for-mark.ensures.same
