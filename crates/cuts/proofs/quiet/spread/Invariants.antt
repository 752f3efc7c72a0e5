use Rattle.cuts.specs.Seen.{Spread}
use Rattle.cuts.proofs.quiet.spread.Given as goal

abbrev pub invariant-loop-b : goal.invariant-loop-b
invariant-loop-b l = Spread l.initial.quiet l.a l.end l.quiet
