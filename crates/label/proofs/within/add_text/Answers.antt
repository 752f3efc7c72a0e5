use Rattle.label.proofs.Holders.{appends, text-node}
use Rattle.label.proofs.within.add_text.Goals as goal

pub append_text-requires-clause-appendable : goal.append_text-requires-clause-appendable
append_text-requires-clause-appendable c = appends _ _ _ _ _ _ c.requires.holding

pub returns : goal.returns
returns c =
    text-node _ _ _ _ _ _ _ _
    c.requires.space_value _ _
    c.append_text.result c.append_text.ensures
