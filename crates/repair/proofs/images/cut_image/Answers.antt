use mathlib.Core.Path.{sym, ap, ◌∙◌}
use Rattle.tree.specs.Lent.{plus_one}
use Rattle.cuts.proofs.Turning.{cut-seen}
use Rattle.repair.proofs.Passing.{image-uncut, image-cut}
use Rattle.repair.proofs.images.cut_image.Goals as goal
use Rattle.repair.proofs.images.cut_image.Goals.{in-Some, in_default}

pub returns-clause-tables : goal.returns-clause-tables
returns-clause-tables c =
    let named = sym c.is_named.ensures ∙ c.if-not-is_named.false in
    elim c.match-image.branch [
      | in-Some w ↦ rw w.attributes-is
          (cut-seen _ _ _ _ _ _ w.cut.ensures
          ∙ image-cut _ _ _ _ named _ (sym (ap plus_one w.in-Some.is) ∙ c.image_of-image.ensures.same))
      | in_default w ↦ rw w.attributes-is
          (image-uncut _ _ _ _ named (sym (ap plus_one w.in_default.is) ∙ c.image_of-image.ensures.same))
    ]
