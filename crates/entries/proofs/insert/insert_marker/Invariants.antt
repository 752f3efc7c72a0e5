use lib.ListN.{drop}
use Rattle.model.specs.Base.{folded}
use Rattle.entries.specs.Space.{so_far, inserted}
use Rattle.entries.proofs.Steps.{Towards}
use Rattle.entries.proofs.insert.insert_marker.Given as goal

abbrev pub invariant-loop-name : goal.invariant-loop-name
invariant-loop-name l = Towards (λ m. inserted l.nodes m l.characters l.place l.important l.value) l.initial.attributes l.place
    (folded (inserted l.nodes l.initial.attributes l.characters l.place l.important l.value)
    (so_far l.initial.attributes l.place l.next) l.name-items)
    (drop l.name-index l.name-items) l.n l.attributes
