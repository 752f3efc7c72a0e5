use mathlib.Core.Path.{refl, sym}
use Rattle.places.proofs.Seeking.{reads, none-here}
use Rattle.places.proofs.seek.behind_value.Goals as goal

pub returns-in-Attribute-clause-some : goal.returns-in-Attribute-clause-some
returns-in-Attribute-clause-some c = record {
  fit = c.in-Attribute.ensures.going;
  same = sym (reads _ _ _ _ refl c.in-Attribute.ensures.step);
}

pub returns-in-Attribute-2-clause-some : goal.returns-in-Attribute-2-clause-some
returns-in-Attribute-2-clause-some c = record {
  fit = c.in-Attribute.ensures.going;
  same = sym (reads _ _ _ _ refl c.in-Attribute.ensures.step);
}

pub returns-in_default-clause-none : goal.returns-in_default-clause-none
returns-in_default-clause-none c =
    none-here _ _ _ c.next.ensures.step c.in_default.not-Attribute c.in_default.not-Declaration
