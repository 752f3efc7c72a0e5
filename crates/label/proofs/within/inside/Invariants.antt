use mathlib.Core.Path.{◌≡◌}
use Prim.Native.Nat.{◌-◌}
use lib.ListN.{length}
use Rattle.tree.specs.Lent.{tree_of}
use Rattle.pieces.specs.Levels.{Recalled}
use Rattle.label.specs.Walk.{Goes}
use Rattle.label.proofs.within.inside.Given as goal

abbrev pub invariant-loop-turn : goal.invariant-loop-turn
invariant-loop-turn l = Goes l.drawing l.e l.initial.nodes l.initial.attributes l.initial.text l.initial.s l.nodes l.attributes
    l.text l.s
    × Recalled l.drawing.characters.now (tree_of l.nodes l.attributes l.text l.s.counts) l.s.p l.levels × (length l.nodes ≡ length
    l.initial.nodes)
    × (length l.attributes ≡ length l.initial.attributes) × (length l.text ≡ length l.initial.text)

abbrev pub decreases-loop-turn : goal.decreases-loop-turn
decreases-loop-turn l = length l.drawing.script.now - l.s.c.at
