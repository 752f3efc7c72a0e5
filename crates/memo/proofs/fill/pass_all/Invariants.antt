use Prim.Native.Nat.{◌-◌}
use lib.ListN.{length}
use mathlib.Core.Path.{◌≡◌}
use Rattle.script.specs.Step.{Fit}
use Rattle.walk.specs.Values.{events_at}
use Rattle.memo.specs.Table.{Filling}
use Rattle.memo.proofs.fill.pass_all.Given as goal

abbrev pub invariant-loop-e : goal.invariant-loop-e
invariant-loop-e l = Fit l.drawing l.c × (Filling l.drawing l.slots l.next l.left (events_at l.drawing l.c) ×
    (length l.slots ≡ length l.initial.slots))

abbrev pub decreases-loop-e : goal.decreases-loop-e
decreases-loop-e l = length l.drawing.script.now - l.c.at
