use Prim.Native.Nat.{◌-◌}
use mathlib.Core.Path.{◌≡◌}
use Rattle.trimming.specs.Nodes.{next_text}
use Rattle.trimming.proofs.nodes.next_text.Given as goal

abbrev pub invariant-loop-i : goal.invariant-loop-i
invariant-loop-i l = next_text l.nodes l.i (l.to - l.i) ≡ next_text l.nodes l.from (l.to - l.from)
