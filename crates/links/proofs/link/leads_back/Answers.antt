use mathlib.Core.Path.{◌∙◌}
use Rattle.links.proofs.Linking.{back_none}
use Rattle.links.proofs.link.leads_back.Goals as goal

pub returns-else-is_some : goal.returns-else-is_some
returns-else-is_some c = c.if-is_some.false ∙ back_none _ _ _ _ c.if-is_some.ensures
    (c.next_use.ensures.same, c.next_use.ensures.fit) _ _ _
