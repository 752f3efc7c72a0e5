use Rattle.cuts.proofs.Pairing.{Pairs}
use Rattle.cuts.proofs.pair.cut_pairs.Given as goal

abbrev pub invariant-loop-j : goal.invariant-loop-j
invariant-loop-j l = Pairs l.drawing l.marks l.heads l.nodes l.counts l.aim l.first l.end l.initial.attributes l.attributes
    l.quiet l.j
