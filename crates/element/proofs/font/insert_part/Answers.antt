use native.Mathlib.Omega.{arith}
use Rattle.element.proofs.Fonts.{held_place, held-part, part-inserted, part-passed}
use Rattle.element.proofs.font.insert_part.Goals as goal

pub returns-in_default : goal.returns-in_default
returns-in_default c = part-passed _ c.args.v c.requires.held _ _ _ _ _ _ c.in_default.ensures.same c.requires.space

pub overflow_cast-value : goal.overflow_cast-value
overflow_cast-value c =
    let held = c.requires.held in
    omega (arith, held-part _ _ held _ _ c.in-Some.ensures.same, held.small)

pub value_of-requires : goal.value_of-requires
value_of-requires c = held_place _ _ c.requires.held

pub insert_attribute-requires : goal.insert_attribute-requires
insert_attribute-requires c =
    record {
      space = c.requires.space;
      above = c.requires.above;
      size_in_bounds = held-part _ _ c.requires.held _ _ c.in-Some.ensures.same;
    }

pub returns : goal.returns
returns c =
    part-inserted _ c.args.v c.requires.held _ _ _ _ _ _ _ c.in-Some.ensures.same _ c.value_of.ensures _ _ c.insert_attribute.ensures
