use mathlib.Core.Path.{refl}
use Rattle.label.proofs.Walking.{goes_none, ends_on, turn-flow}
use Rattle.label.proofs.within.inside.Goals as goal

pub loop-turn-init : goal.loop-turn-init
loop-turn-init c = (
  goes_none _ _ _ _ _ _ c.requires.within,
  c.nothing-levels.ensures _,
  refl,
  refl,
  refl,
)

pub returns-in-Break : goal.returns-in-Break
returns-in-Break c =
    ends_on _ _ _ _ _ _ _ _ _ _ c.loop-turn.invariant.0 _ _ _ _ _
    (turn-flow _ _ _ _ _ _ _ _ _ _ _ c.advance.ensures _ _ c.in_ok-turn.was c.in-Break.is)
