use Rattle.script.specs.Step.{Fit}
use Rattle.timing.proofs.timing_seek.Given as goal

abbrev pub invariant-loop-i : goal.invariant-loop-i
invariant-loop-i l = Fit l.drawing l.c
