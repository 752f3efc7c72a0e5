use Prim.Native.Nat.{◌-◌}
use lib.ListN.{length}
use Rattle.model.specs.Base.{folded}
use Rattle.walk.specs.Values.{declarations_in}
use Rattle.entries.specs.Space.{so_far}
use Rattle.element.specs.Font.{declared_in}
use Rattle.element.proofs.Running.{Running, all_declarations}
use Rattle.element.proofs.declaration.write_declarations.Given as goal

abbrev pub invariant-loop-x : goal.invariant-loop-x
invariant-loop-x l = Running (all_declarations l.drawing) (length l.drawing.characters.now) (declared_in l.nodes l.place)
    l.initial.attributes l.place
    (folded (declared_in l.nodes l.place l.initial.attributes) (so_far l.initial.attributes l.place l.next) (declarations_in l.drawing l.initial.c)) l.initial.c l.c l.n
    l.attributes

abbrev pub decreases-loop-x : goal.decreases-loop-x
decreases-loop-x l = length l.drawing.script.now - l.c.at
