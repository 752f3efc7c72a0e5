use Rattle.text.proofs.Collapse.{Trims}
use Rattle.text.proofs.trim.trim_text.Given as goal

abbrev pub invariant-loop-b : goal.invariant-loop-b
invariant-loop-b l = Trims l.default l.source l.initial.place l.initial.n l.initial.prev l.place l.n l.prev l.b-index
