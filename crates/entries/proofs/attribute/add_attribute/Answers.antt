use borrow.Author.Tests.{eq-eqb}
use mathlib.Core.Path.{sym}
use native.Mathlib.Omega.{arith}
use Rattle.model.specs.AId
use Rattle.model.specs.Drawing.{part_at}
use Rattle.model.specs.Element.{add_attribute}
use Rattle.entries.proofs.Adding.{href-over, href-skipped}
use Rattle.entries.proofs.Storing.{same_entries, is_some}
use Rattle.entries.proofs.attribute.add_attribute.Goals as goal

pub returns-then-not-is_taken : goal.returns-then-not-is_taken
unfolding add_attribute
returns-then-not-is_taken c =
    rw (sym c.from-code.ensures, sym c.from.ensures, sym c.if-not-is_taken.ensures) (same_entries _ _ _ c.requires.space)

pub returns-then-is_unprefixed : goal.returns-then-is_unprefixed
unfolding add_attribute part_at
returns-then-is_unprefixed c =
    rw (
      sym c.from-code.ensures,
      sym c.from.ensures,
      sym c.if-not-is_taken.ensures,
      eq-eqb _ _ c.if-code-ne-HREF.false,
      is_some _ _ _ c.requires.space AId.Href _ c.in-Some.ensures.found,
    )
    (href-over _ _ _ c.requires.space _ c.in-Some.ensures.found _ c.args.value
    (omega (arith, c.from.ensures, c.if-is_unprefixed.true)) _ c.put_value.ensures)

pub returns-else-is_unprefixed : goal.returns-else-is_unprefixed
unfolding add_attribute part_at
returns-else-is_unprefixed c =
    rw (
      sym c.from-code.ensures,
      sym c.from.ensures,
      sym c.if-not-is_taken.ensures,
      eq-eqb _ _ c.if-code-ne-HREF.false,
      is_some _ _ _ c.requires.space AId.Href _ c.in-Some.ensures.found,
    )
    (href-skipped _ _ _ c.requires.space _ c.in-Some.ensures.found _ c.args.value (λ z. omega (arith, c.from.ensures, c.if-is_unprefixed.false, z)))
