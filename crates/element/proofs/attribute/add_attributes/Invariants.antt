use Prim.Native.Nat.{◌-◌}
use lib.ListN.{length}
use Rattle.model.specs.Base.{folded}
use Rattle.walk.specs.Values.{attributes_in}
use Rattle.entries.specs.Space.{so_far}
use Rattle.element.specs.Runs.{added_in}
use Rattle.element.proofs.Running.{Running, all_attributes}
use Rattle.element.proofs.attribute.add_attributes.Given as goal

abbrev pub invariant-loop-x : goal.invariant-loop-x
invariant-loop-x l = Running (all_attributes l.drawing) (length l.drawing.characters.now) (added_in l.nodes l.place l.ignored)
    l.initial.attributes l.place
    (folded (added_in l.nodes l.place l.ignored l.initial.attributes) (so_far l.initial.attributes l.place l.next) (attributes_in
    l.drawing l.initial.c)) l.initial.c l.c l.n
    l.attributes

abbrev pub decreases-loop-x : goal.decreases-loop-x
decreases-loop-x l = length l.drawing.script.now - l.c.at
