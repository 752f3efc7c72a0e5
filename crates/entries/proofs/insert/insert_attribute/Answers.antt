use Rattle.entries.proofs.Inserting.{insert-none}
use Rattle.entries.proofs.insert.insert_attribute.Goals as goal

pub returns-in-None : goal.returns-in-None
returns-in-None c = insert-none _ _ _ c.requires.space _ _ _ c.append_attribute.ensures c.in-None.is
