use mathlib.Core.Path.{◌≡◌}
use Rattle.model.specs.Tables.{last_with_id}
use Rattle.tree.specs.Lent.{read_of}
use Rattle.tree.proofs.read.last_with_id.Given as goal

abbrev pub invariant-loop-n : goal.invariant-loop-n
invariant-loop-n l =
    last_with_id l.characters (read_of l.nodes l.attributes) l.id l.n ≡ last_with_id l.characters (read_of l.nodes l.attributes) l.id
    l.count
