use Prim.Native.Nat.{◌-◌}
use lib.ListN.{length}
use Rattle.pieces.proofs.Summing.{Summed}
use Rattle.pieces.proofs.quote.quoted_size.Given as goal

abbrev pub invariant-loop-t : goal.invariant-loop-t
invariant-loop-t l = Summed l.drawing l.initial.c l.c l.level l.sum

abbrev pub decreases-loop-t : goal.decreases-loop-t
decreases-loop-t l = length l.drawing.script.now - l.c.at
