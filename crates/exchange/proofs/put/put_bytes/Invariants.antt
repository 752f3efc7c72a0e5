use Rattle.exchange.proofs.Bytes.{Putting}
use Rattle.exchange.proofs.put.put_bytes.Given as goal

abbrev pub invariant-loop-k : goal.invariant-loop-k
invariant-loop-k l = Putting l.initial.table l.bytes l.table l.at l.k
