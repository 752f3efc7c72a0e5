use Prim.Native.Nat.{◌-◌}
use lib.ListN.{length}
use Rattle.model.specs.Drawing.{events, first_with_id}
use Rattle.walk.proofs.Along.{Along}
use Rattle.memo.proofs.Ids.{first_id}
use Rattle.memo.proofs.plain.first_with_id.Given as goal

abbrev pub invariant-loop-e : goal.invariant-loop-e
invariant-loop-e l = Along (first_id l.id) (first_with_id l.id (events l.drawing.script.now l.drawing.characters.now)) l.drawing l.initial.c l.c 0

abbrev pub decreases-loop-e : goal.decreases-loop-e
decreases-loop-e l = length l.drawing.script.now - l.c.at
