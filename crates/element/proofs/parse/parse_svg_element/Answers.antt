use Rattle.element.proofs.Whole.{at-space, at_above, no_entry, too_many, no_record, appended-here, record-there}
use Rattle.element.proofs.parse.parse_svg_element.Goals as goal

pub store_entries-stored-requires : goal.store_entries-stored-requires
store_entries-stored-requires c =
    let ready = c.requires.ready in
    let room = c.attribute_room.ensures in record {
      first_le_room = at-space _ _ _ _ c.args.tag ready _ room;
      above = at_above _ _ _ _ c.args.tag ready _ room;
      in_attributes = c.requires.in_attributes;
    }

pub returns-in_default : goal.returns-in_default
returns-in_default c =
    let ready = c.requires.ready in
    let room = c.attribute_room.ensures in
    let step = c.store_entries-stored.ensures.stored in record {
      outcome = λ bs. no_entry _ _ _ _ c.args.tag ready _ room _ bs _ c.args.e _ _ step c.in_default.not-Ok;
      behind = tt;
    }

pub returns-then-counts-gt-MOST_NODES : goal.returns-then-counts-gt-MOST_NODES
returns-then-counts-gt-MOST_NODES c =
    let ready = c.requires.ready in
    let room = c.attribute_room.ensures in
    let step = c.store_entries-stored.ensures.stored in
    let here = c.in-Ok.is in record {
      outcome = λ bs. too_many _ _ _ _ c.args.tag ready _ room _ bs _
          c.args.e _ _ step _ here c.if-counts-gt-MOST_NODES.true;
      behind = tt;
    }

pub returns-then-node_room-counts : goal.returns-then-node_room-counts
returns-then-node_room-counts c =
    let ready = c.requires.ready in
    let room = c.attribute_room.ensures in
    let step = c.store_entries-stored.ensures.stored in
    let here = c.in-Ok.is in record {
      outcome = λ bs. no_record _ _ _ _ c.args.tag ready _ room _ bs _
          c.args.e _ _ step _ here c.if-counts-gt-MOST_NODES.false
          (rw (← c.node_room.ensures) c.if-node_room-counts.true);
      behind = tt;
    }

pub append-requires : goal.append-requires
append-requires c =
    let ready = c.requires.ready in
    let room = c.attribute_room.ensures in
    record-there _ _ _ _ c.args.tag ready _ room
    (rw (← c.node_room.ensures) c.if-node_room-counts.false)

pub returns : goal.returns
returns c =
    let ready = c.requires.ready in
    let room = c.attribute_room.ensures in
    let step = c.store_entries-stored.ensures.stored in
    let here = c.in-Ok.is in record {
      outcome = λ bs. appended-here _ _ _ _ c.args.tag
          ready _ room _ bs _ c.args.e _ _ step _
          here c.if-counts-gt-MOST_NODES.false
          (rw (← c.node_room.ensures)
          c.if-node_room-counts.false) _ (rw c.from.ensures at c.append.ensures);
      behind = c.in-Ok.ensures.behind;
    }
