use Prim.Native.Nat.{◌≤◌}
use Rattle.ids.specs.Chains.{Unmarked}
use Rattle.ids.proofs.plain.unchain.Given as goal

abbrev pub invariant-loop-j : goal.invariant-loop-j
invariant-loop-j l = Unmarked l.initial.attributes l.attributes l.j × (l.j ≤ l.count)
