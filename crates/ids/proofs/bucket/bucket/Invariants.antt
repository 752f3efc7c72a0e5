use Rattle.ids.proofs.Marking.{Summing}
use Rattle.ids.proofs.bucket.bucket.Given as goal

abbrev pub invariant-loop-b : goal.invariant-loop-b
invariant-loop-b l = Summing l.bytes l.h l.b-index
