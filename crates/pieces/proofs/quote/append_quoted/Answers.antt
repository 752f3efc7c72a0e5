use native.Mathlib.Omega.{arith}
use Rattle.model.specs.Tables.{text_room}
use Rattle.text.specs.Spaces.{space_in}
use Rattle.pieces.specs.Quotes.{texts_from}
use Rattle.pieces.proofs.Quoting.{quote-none, quote-bytes, quote-fits, quote-record, record-fits, quote-added}
use Rattle.pieces.proofs.quote.append_quoted.Goals as goal

pub returns-then-is_empty : goal.returns-then-is_empty
returns-then-is_empty c =
    quote-none c.args.nodes.now
    c.args.text.now
    c.args.drawing.now.characters.now
    c.args.counts
    (space_in c.args.space)
    c.args.p
    (texts_from c.args.drawing.now
    c.args.from) _ c.quoted_size-total.ensures c.if-is_empty.true

pub overflow_sub-left : goal.overflow_sub-left
unfolding text_room
overflow_sub-left c =
    omega (
      arith,
      c.text_room.ensures,
      c.requires.appendable.room,
    )

pub returns-then-left-total : goal.returns-then-left-total
returns-then-left-total c =
    quote-bytes c.args.nodes.now
    c.args.text.now
    c.args.drawing.now.characters.now
    c.args.counts
    (space_in c.args.space)
    c.args.p
    (texts_from c.args.drawing.now
    c.args.from) _
    c.quoted_size-total.ensures
    c.requires.appendable
    c.if-is_empty.false _ c.text_room.ensures c.if-left-total.true

pub returns-then-node_room-counts : goal.returns-then-node_room-counts
returns-then-node_room-counts c =
    quote-record c.args.nodes.now c.args.text.now c.args.drawing.now.characters.now
    c.args.counts (space_in c.args.space)
    c.args.p
    (texts_from c.args.drawing.now c.args.from) _
    c.quoted_size-total.ensures
    c.requires.appendable
    c.if-is_empty.false _
    c.text_room.ensures c.if-left-total.false _
    c.node_room.ensures c.if-node_room-counts.true

pub put_place-end-requires : goal.put_place-end-requires
put_place-end-requires c =
    record {
      quotable = c.requires.quotable;
      size_value = c.quoted_size-total.ensures;
      size_bound = quote-fits c.args.nodes.now c.args.text.now
          c.args.drawing.now.characters.now c.args.counts (space_in c.args.space)
          c.args.p (texts_from c.args.drawing.now c.args.from) _
          c.quoted_size-total.ensures
          c.requires.appendable c.if-is_empty.false _
          c.text_room.ensures
          c.if-left-total.false;
    }

pub append-requires : goal.append-requires
append-requires c =
    record-fits c.args.nodes.now
    c.args.text.now
    c.args.drawing.now.characters.now
    c.args.counts
    (space_in c.args.space)
    c.args.p
    (texts_from c.args.drawing.now
    c.args.from) _
    c.quoted_size-total.ensures c.requires.appendable
    c.if-is_empty.false _
    c.text_room.ensures
    c.if-left-total.false _
    c.node_room.ensures
    c.if-node_room-counts.false

pub returns : goal.returns
returns c =
    quote-added c.args.nodes.now
    c.args.text.now
    c.args.drawing.now.characters.now
    c.args.counts
    (space_in c.args.space)
    c.args.p
    (texts_from c.args.drawing.now
    c.args.from) _
    c.quoted_size-total.ensures
    c.requires.appendable
    c.if-is_empty.false _ c.text_room.ensures
    c.if-left-total.false
    _ c.node_room.ensures
    c.if-node_room-counts.false _ _ _
    c.put_place-end.ensures.end
    c.put_place-end.ensures.text
    (rw c.from.ensures at c.append.ensures)
