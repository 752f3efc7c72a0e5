use mathlib.Core.Path.{sym, ◌∙◌}
use Rattle.model.specs.Tables.{entry_at}
use Rattle.tree.proofs.Alike.{id-some}
use Rattle.leads.proofs.last.has_same_id.Goals as goal

pub returns-in-Some : goal.returns-in-Some
unfolding entry_at
returns-in-Some c = c.same_value.ensures ∙ sym (id-some _ _ _ _ _ c.in-Some.ensures.found)
