use Prim.Native.Nat.{◌-◌, ◌≤◌}
use lib.ListN.{length}
use Rattle.script.specs.Step.{Fit}
use Rattle.timing.proofs.timing_every_use.Given as goal

abbrev pub invariant-loop-u : goal.invariant-loop-u
invariant-loop-u l = Fit l.drawing l.c × (l.level ≤ l.c.at)

abbrev pub decreases-loop-u : goal.decreases-loop-u
decreases-loop-u l = length l.drawing.script.now - l.c.at
