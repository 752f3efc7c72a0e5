use mathlib.Core.Path.{◌≡◌}
use Prim.Native.Nat.{◌-◌}
use lib.ListN.{length}
use Rattle.elements.specs.Turns.{Going}
use Rattle.elements.proofs.run_by.Given as goal

abbrev pub invariant-loop-n : goal.invariant-loop-n
invariant-loop-n l = Going l.drawing l.nodes l.attributes l.text l.s × (length l.nodes ≡ length l.initial.nodes) × (length
    l.attributes ≡ length l.initial.attributes)
    × (length l.text ≡ length l.initial.text)

abbrev pub decreases-loop-n : goal.decreases-loop-n
decreases-loop-n l = length l.drawing.script.now - l.s.c.at
