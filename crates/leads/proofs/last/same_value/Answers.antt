use Rattle.leads.proofs.Lasting.{both-fixed}
use Rattle.leads.proofs.last.same_value.Goals as goal

pub returns : goal.returns
returns c =
    both-fixed _ _ _ _ _ c.requires.known c.requires.known_2 _ c.entry_word-2.ensures c.if-entry_word-ne0-2.false _
    c.entry_word.ensures c.if-entry_word-ne0.false _
    c.entry_word-start.ensures _ c.entry_word-first.ensures
