use Rattle.build.proofs.Answering.{refused-through}
use Rattle.build.proofs.tables.refuse_build.Goals as goal

pub returns : goal.returns
returns c = refused-through _ _ _ _ _ _ _ _ (rw c.from.ensures at c.refuse.ensures)
