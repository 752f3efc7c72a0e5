use Prim.Native.Nat.{◌+◌}
use Rattle.repair.proofs.Preparing.{Resolving}
use Rattle.repair.proofs.prepare.resolve_all.Given as goal

abbrev pub invariant-loop-pass : goal.invariant-loop-pass
invariant-loop-pass l =
    Resolving l.drawing l.heads l.nodes l.initial.attributes l.counts l.attributes (l.pass-index + 1)
