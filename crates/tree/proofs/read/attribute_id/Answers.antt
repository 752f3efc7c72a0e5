use mathlib.Core.Path.{sym, ◌∙◌}
use Rattle.model.specs.Tables.{attribute_id}
use Rattle.tree.proofs.Alike.{find-same}
use Rattle.tree.proofs.read.attribute_id.Goals as goal

pub returns-clause-found : goal.returns-clause-found
unfolding attribute_id
returns-clause-found c =
    rw (sym c.node_word-from.ensures, sym c.node_word-to.ensures, sym c.if-not-has_kind.ensures)
    (c.find_entry.ensures.found ∙ find-same _ _ _ _)
