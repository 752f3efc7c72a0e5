use native.Mathlib.Omega.{arith}
use Rattle.model.specs.Drawing.{word_at}
use Rattle.script.proofs.cursor.word.Goals as goal

pub returns : goal.returns
unfolding word_at
returns c = omega arith
