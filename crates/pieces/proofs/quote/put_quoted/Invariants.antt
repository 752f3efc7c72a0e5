use Prim.Native.Nat.{◌-◌}
use lib.ListN.{length}
use Rattle.text.specs.Spaces.{space_in}
use Rattle.pieces.proofs.Putting.{Putting}
use Rattle.pieces.proofs.quote.put_quoted.Given as goal

abbrev pub invariant-loop-t : goal.invariant-loop-t
invariant-loop-t l = Putting (space_in l.space) l.drawing l.initial.place l.initial.c l.place l.c l.level l.done

abbrev pub decreases-loop-t : goal.decreases-loop-t
decreases-loop-t l = length l.drawing.script.now - l.c.at
