use native.Mathlib.Omega.{arith}
use Rattle.pieces.proofs.Words.{pop-word}
use Rattle.pieces.proofs.Levels.pop.Goals as goal

pub returns-then-word-ge2-clause-above : goal.returns-then-word-ge2-clause-above
returns-then-word-ge2-clause-above c =
    pop-word _ c.if-top-ge2.false _ (omega arith) c.if-word-ge2.true _ _ c.split-space-then-word-ge2.ensures
