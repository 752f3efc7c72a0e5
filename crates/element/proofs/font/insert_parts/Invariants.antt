use lib.ListN.{drop}
use Rattle.model.specs.Base.{folded}
use Rattle.model.specs.Element.{font_parts}
use Rattle.entries.specs.Space.{so_far}
use Rattle.element.specs.Font.{parts_of}
use Rattle.entries.proofs.Steps.{Towards}
use Rattle.element.proofs.font.insert_parts.Given as goal

abbrev pub invariant-loop-kind : goal.invariant-loop-kind
invariant-loop-kind l = Towards (parts_of l.drawing l.nodes l.place l.important l.v) l.initial.attributes l.place
    (folded (parts_of l.drawing l.nodes l.place l.important l.v l.initial.attributes) (so_far l.initial.attributes l.place
    l.next) font_parts)
    (drop l.kind-index font_parts) l.n l.attributes
