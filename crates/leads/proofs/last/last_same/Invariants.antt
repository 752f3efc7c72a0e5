use mathlib.Core.Path.{◌≡◌}
use mathlib.Core.List.{List}
use Prim.Native.Nat.{ℕ}
use Rattle.model.specs.Tables.{Tree, entry_at, value_of, last_with_id}
use Rattle.tree.specs.Lent.{read_of, entries_of}
use Rattle.leads.proofs.last.last_same.Given as goal

abbrev pub invariant-loop-n : goal.invariant-loop-n
invariant-loop-n l =
    let t : Tree = read_of l.nodes l.attributes in
    let id : List ℕ = value_of l.characters (entry_at (entries_of l.attributes) l.j) in
    last_with_id l.characters t id l.n ≡ last_with_id l.characters t id l.count
