use Rattle.targets.proofs.Finding.{stored-absent, stored-fixed, stored_there}
use Rattle.targets.proofs.mark.stored_mark.Goals as goal

pub returns-in_default : goal.returns-in_default
returns-in_default c = stored-absent _ _ _ c.in_default.ensures.found

pub returns-then-entry_word-eq0 : goal.returns-then-entry_word-eq0
returns-then-entry_word-eq0 c =
    stored-fixed _ _ _ _ c.in-Some.ensures.found _ c.entry_word.ensures c.if-entry_word-eq0.true

pub returns : goal.returns
returns c =
    stored_there _ _ _ _ c.in-Some.ensures.found _ c.entry_word.ensures c.if-entry_word-eq0.false _ c.entry_word-2.ensures
