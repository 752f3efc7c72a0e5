use mathlib.Core.Path.{◌≡◌}
use mathlib.Core.Bool.{false}
use Rattle.ids.proofs.Chaining.{Linking}
use Rattle.ids.proofs.chain.chain.Given as goal

abbrev pub invariant-loop-i : goal.invariant-loop-i
invariant-loop-i l = Linking l.characters l.nodes l.initial.attributes l.fn.counts l.attributes l.heads.last l.i
    × (l.heads.is_whole ≡ false)
