use Rattle.text.specs.Spaces.{space_in}
use Rattle.text.specs.Append.{source_of}
use Rattle.text.proofs.Appending.{record-fits}
use Rattle.text.proofs.append.append_text.Goals as goal

pub append-requires : goal.append-requires
append-requires c =
    record-fits c.args.nodes.now
    c.args.text.now c.args.characters.now
    c.args.counts (space_in c.args.space)
    c.args.p (source_of c.args.source)
    c.requires.appendable _
    c.text_room.ensures
    c.if-text_room-counts.false _
    c.node_room.ensures
    c.if-node_room-counts.false
