use Rattle.build.proofs.Building.{both_small}
use Rattle.build.proofs.whole.fill_with.Goals as goal

pub fill-requires-clause-script_len_bound : goal.fill-requires-clause-script_len_bound
fill-requires-clause-script_len_bound c = λ c1. (both_small c1.args.drawing.now c1.requires.rooted.checked).0
