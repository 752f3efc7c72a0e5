use Rattle.entries.proofs.Adding.{more-none}
use Rattle.entries.proofs.attribute.append_more.Goals as goal

pub returns-in-None : goal.returns-in-None
returns-in-None c = more-none _ _ _ c.requires.space _ _ c.append_attribute.ensures c.in-None.is
