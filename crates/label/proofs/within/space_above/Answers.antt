use borrow.Author.Rules.{rules}
use Rattle.label.proofs.Handing.{parent-space}
use Rattle.label.proofs.within.space_above.Goals as goal

pub returns-then-is_unset : goal.returns-then-is_unset
returns-then-is_unset c =
    parent-space _ _ _ _ (λ k l. (c.requires.climbable.placed k l).falls) c.requires.p_value _ c.requires.space_value _
    c.attribute_id.ensures.found (search rules)
