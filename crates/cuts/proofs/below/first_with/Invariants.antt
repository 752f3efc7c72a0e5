use Rattle.tree.specs.Lent.{read_of}
use Rattle.cuts.proofs.Descending.{Without}
use Rattle.cuts.proofs.below.first_with.Given as goal

abbrev pub invariant-loop-m : goal.invariant-loop-m
invariant-loop-m l = Without (read_of l.nodes l.attributes) l.name l.i l.end l.m
