use Prim.Native.Nat.{◌-◌, ◌≤◌}
use lib.ListN.{length}
use Rattle.script.specs.Step.{Fit}
use Rattle.memo.specs.Words.{unit, Apart}
use Rattle.memo.proofs.fill.want_links.Given as goal

abbrev pub invariant-loop-e : goal.invariant-loop-e
invariant-loop-e l = Fit l.drawing l.c × (Apart l.initial.slots 0 (unit l.initial.slots) l.slots × ((l.count ≤ l.c.at) × (l.last ≤ l.count)))

abbrev pub decreases-loop-e : goal.decreases-loop-e
decreases-loop-e l = length l.drawing.script.now - l.c.at
