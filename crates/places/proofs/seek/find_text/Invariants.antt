use Prim.Native.Nat.{◌-◌}
use lib.ListN.{length}
use Rattle.model.specs.Drawing.{events}
use Rattle.walk.proofs.Along.{Along}
use Rattle.places.proofs.Search.{sought}
use Rattle.places.proofs.seek.find_text.Given as goal

abbrev pub invariant-loop-e : goal.invariant-loop-e
invariant-loop-e l = Along (sought l.number) (sought l.number 0 (events l.drawing.script.now l.drawing.characters.now)) l.drawing l.initial.c l.c
    l.level

abbrev pub decreases-loop-e : goal.decreases-loop-e
decreases-loop-e l = length l.drawing.script.now - l.c.at
