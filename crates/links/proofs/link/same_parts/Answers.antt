use Rattle.links.proofs.Linking.{parts_same}
use Rattle.links.proofs.link.same_parts.Goals as goal

pub returns-in-Some-Some : goal.returns-in-Some-Some
returns-in-Some-Some c =
    parts_same _ _ _ _ c.in-Some-Some.is-0 _ c.part_at-first.ensures _ c.in-Some-Some.is-1 _ c.part_at-second.ensures _ c.same.ensures
