use Rattle.targets.proofs.Resolving.{turn-some}
use Rattle.targets.proofs.Recalling.{twin-mark}
use Rattle.targets.proofs.resolve.resolve_one.Goals as goal

pub returns-in-Some-twin_of-clause-stored : goal.returns-in-Some-twin_of-clause-stored
returns-in-Some-twin_of-clause-stored c =
    turn-some _ _ _ _ _ _ c.cut_name-name.ensures _ c.in-Some.ensures.found _
    (twin-mark _ _ _ _ c.args.counts _ _ _ _ _ _ c.cut_name-name.ensures c.in-Some.ensures.found c.in-Some-twin_of.ensures
    c.requires.stored_before c.entry_word.ensures) _ c.set_next.ensures
