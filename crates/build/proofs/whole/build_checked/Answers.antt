use mathlib.Core.Path.{◌∙◌}
use Rattle.refusal.specs.declared.Refusal.TheVariants.{NodesFull}
use Rattle.build.proofs.Answering.{refused-answer}
use Rattle.build.proofs.Building.{no-root, root-room, root-alone, with-root}
use Rattle.build.proofs.whole.build_checked.Goals as goal

pub returns-then-node_room-eq0 : goal.returns-then-node_room-eq0
returns-then-node_room-eq0 c =
    refused-answer _ _ _ _ NodesFull c.clear.ensures _
    ∙ no-root c.args.drawing.now c.args.nodes.now
    c.args.attributes.now
    c.args.text.now _ _ _
    c.requires
    c.clear.ensures _
    c.node_room.ensures c.if-node_room-eq0.true

pub put_root-requires : goal.put_root-requires
put_root-requires c =
    root-room c.args.drawing.now c.args.nodes.now
    c.args.attributes.now
    c.args.text.now _ _ _
    c.requires
    c.clear.ensures _
    c.node_room.ensures c.if-node_room-eq0.false

pub fill-requires : goal.fill-requires
fill-requires c =
    root-alone _ c.args.nodes.now
    c.args.attributes.now
    c.args.text.now _ _ _
    c.requires
    c.clear.ensures _ c.node_room.ensures
    c.if-node_room-eq0.false _
    c.put_root.ensures

pub returns : goal.returns
returns c =
    c.fill.ensures
    ∙ with-root c.args.drawing.now c.args.nodes.now
    c.args.attributes.now c.args.text.now _ _ _
    c.requires c.clear.ensures _
    c.node_room.ensures
    c.if-node_room-eq0.false
    _ c.put_root.ensures
