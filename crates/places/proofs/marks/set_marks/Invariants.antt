use Rattle.places.proofs.Marking.{Marking}
use Rattle.places.proofs.marks.set_marks.Given as goal

abbrev pub invariant-loop-place : goal.invariant-loop-place
invariant-loop-place l = Marking l.drawing (record { stride = l.stride; places = l.place-items }) l.c l.number l.place-index
