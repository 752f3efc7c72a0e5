use Rattle.targets.specs.Pass.{pass_number}
use Rattle.targets.proofs.Resolving.{Resolving}
use Rattle.targets.proofs.resolve.resolve.Given as goal

abbrev pub invariant-loop-m : goal.invariant-loop-m
invariant-loop-m l = Resolving l.drawing l.heads l.nodes l.fn.counts
    (pass_number l.pass) l.initial.attributes l.attributes l.m l.hint
