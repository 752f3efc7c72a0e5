use Rattle.tree.specs.Lent.{plus_one, read_of}
use Rattle.ids.proofs.Hunting.{Hunting}
use Rattle.ids.proofs.find.find_chained.Given as goal

abbrev pub invariant-loop-last : goal.invariant-loop-last
invariant-loop-last l = Hunting l.characters (read_of l.nodes l.attributes) l.id l.count (plus_one l.last)

abbrev pub decreases-loop-last : goal.decreases-loop-last
decreases-loop-last l = plus_one l.last
