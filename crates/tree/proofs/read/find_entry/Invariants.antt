use mathlib.Core.Path.{◌≡◌}
use Prim.Native.Nat.{◌-◌}
use Rattle.model.specs.Tables.{find_entry}
use Rattle.tree.specs.Lent.{entries_of}
use Rattle.tree.proofs.read.find_entry.Given as goal

abbrev pub invariant-loop-j : goal.invariant-loop-j
invariant-loop-j l = find_entry (entries_of l.attributes) l.a l.j (l.to - l.j) ≡ find_entry (entries_of l.attributes) l.a l.from (l.to -
    l.from)
