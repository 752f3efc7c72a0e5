use mathlib.Core.Path.{sym}
use Rattle.element.proofs.Fonts.{held_place, held_whole}
use Rattle.element.proofs.Declaring.{marker-written, as-font, as-nothing, as-name}
use Rattle.element.proofs.declaration.write_declaration.Goals as goal

pub value_of-value-requires : goal.value_of-value-requires
value_of-value-requires c = held_place _ _ c.requires.held

pub insert_marker-requires : goal.insert_marker-requires
insert_marker-requires c =
    record {
      space = c.requires.space;
      above = c.requires.above;
      size_in_bounds = rw c.value_of-value.ensures (held_whole _ _ c.requires.held);
    }

pub returns-then-name-eq-MARKER : goal.returns-then-name-eq-MARKER
returns-then-name-eq-MARKER c =
    rw (sym c.from-name.ensures, sym c.from-important.ensures)
    (marker-written _ _ _ _ _ _ c.args.x.value _ c.if-name-eq-MARKER.true _ c.value_of-value.ensures _ _ c.insert_marker.ensures)

pub returns-then-name-eq-FONT : goal.returns-then-name-eq-FONT
returns-then-name-eq-FONT c =
    rw (sym c.from-name.ensures, sym c.from-important.ensures)
    (as-font _ _ _ _ _ _ c.args.x.value _ c.if-name-eq-MARKER.false c.if-name-eq-FONT.true _ _ c.insert_font.ensures)

pub returns-then-not-is_presentation : goal.returns-then-not-is_presentation
returns-then-not-is_presentation c =
    rw (sym c.from-name.ensures, sym c.from-important.ensures)
    (as-nothing _ _ _ _ _ _ c.args.x.value _ c.if-name-eq-MARKER.false c.if-name-eq-FONT.false (sym c.if-not-is_presentation.ensures)
    c.requires.space)

pub insert_attribute-requires : goal.insert_attribute-requires
insert_attribute-requires c =
    record {
      space = c.requires.space;
      above = c.requires.above;
      size_in_bounds = rw c.value_of-value.ensures (held_whole _ _ c.requires.held);
    }

pub returns : goal.returns
returns c =
    rw (sym c.from-name.ensures, sym c.from-important.ensures)
    (as-name _ _ _ _ _ _ c.args.x.value _ c.if-name-eq-MARKER.false c.if-name-eq-FONT.false (sym c.if-not-is_presentation.ensures) _
    c.value_of-value.ensures _ _ c.insert_attribute.ensures)
