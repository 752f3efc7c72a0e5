use Rattle.cuts.proofs.Descending.{Passed}
use Rattle.cuts.proofs.below.behind_below.Given as goal

abbrev pub invariant-loop-j : goal.invariant-loop-j
invariant-loop-j l = Passed l.nodes l.count l.i l.j
