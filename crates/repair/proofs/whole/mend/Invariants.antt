use mathlib.Core.Bool.{true}
use mathlib.Core.Path.{◌≡◌}
use Prim.Native.Nat.{◌+◌, ◌-◌}
use Rattle.model.specs.Repair.{up_from}
use Rattle.script.specs.Step.{at_start}
use Rattle.leads.specs.Links.{values_of}
use Rattle.targets.specs.Targets.{seen_of}
use Rattle.repair.specs.Passes.{Resolved}
use Rattle.repair.proofs.Mending.{Before}
use Rattle.repair.proofs.whole.mend.Given as goal

abbrev pub invariant-loop-pass : goal.invariant-loop-pass
invariant-loop-pass l =
    Before l.drawing l.marks l.heads l.nodes l.counts (up_from (l.pass-index + 1) (6 - l.pass-index)) l.initial.attributes
    l.attributes at_start
    × ((l.heads.is_whole ≡ true) → Resolved l.drawing.characters.now (values_of l.drawing) (seen_of l.nodes l.attributes l.counts) 6)
