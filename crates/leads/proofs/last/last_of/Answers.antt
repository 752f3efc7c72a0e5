use Rattle.model.specs.Tables.{entry_at}
use Rattle.leads.proofs.Lasting.{last-part, last_entry}
use Rattle.leads.proofs.last.last_of.Goals as goal

pub returns-then-entry_word-eq0-clause-same : goal.returns-then-entry_word-eq0-clause-same
unfolding entry_at
returns-then-entry_word-eq0-clause-same c = last_entry _ _ _ _ _ _ c.in-Some.ensures.found c.last_same.ensures.same

pub returns-clause-same : goal.returns-clause-same
returns-clause-same c =
    last-part _ _ _ _ _ _ c.in-Some.ensures.found _ c.entry_word.ensures c.if-entry_word-eq0.false _
    c.entry_word-start.ensures _ c.entry_word-size.ensures _ c.part_at-id.ensures c.find_id-2.ensures.found
