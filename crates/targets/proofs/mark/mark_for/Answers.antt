use mathlib.Core.Path.{◌∙◌}
use Rattle.tree.proofs.Facts.{readable-in}
use Rattle.targets.proofs.Finding.{found_some, found_none}
use Rattle.targets.proofs.mark.mark_for.Goals as goal

pub find_id-requires-clause-by_index : goal.find_id-requires-clause-by_index
find_id-requires-clause-by_index c = λ k l. readable-in _ _ c.requires.kept k l

pub returns-in-Some-clause-same : goal.returns-in-Some-clause-same
returns-in-Some-clause-same c = found_some _ _ _ c.args.counts _ _ c.in-Some.ensures.found

pub returns-in-None-clause-same : goal.returns-in-None-clause-same
returns-in-None-clause-same c = c.from.ensures ∙ found_none _ _ _ c.args.counts _ c.in-None.ensures.found
