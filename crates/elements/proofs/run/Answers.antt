use Rattle.elements.proofs.run.Goals as goal

pub fill-requires-clause-script_len_bound : goal.fill-requires-clause-script_len_bound
fill-requires-clause-script_len_bound c = c.requires.fit.size
