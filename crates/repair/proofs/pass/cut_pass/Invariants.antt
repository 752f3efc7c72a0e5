use mathlib.Core.Bool.{true}
use mathlib.Core.Path.{◌≡◌}
use Rattle.script.specs.Step.{at_start}
use Rattle.leads.specs.Links.{values_of}
use Rattle.targets.specs.Pass.{pass_number}
use Rattle.targets.specs.Targets.{seen_of}
use Rattle.cuts.specs.Seen.{Known}
use Rattle.repair.specs.Passes.{link_cuts, Sought}
use Rattle.repair.proofs.Passing.{Pass}
use Rattle.repair.proofs.pass.cut_pass.Given as goal

abbrev pub invariant-loop-i : goal.invariant-loop-i
invariant-loop-i l = Pass l.drawing l.marks l.heads l.nodes l.counts (link_cuts l.drawing.characters.now (values_of l.drawing) (pass_number l.pass) l.code) l.initial.attributes l.attributes l.i
    at_start × ((l.heads.is_whole ≡ true) → Sought l.drawing.characters.now (values_of l.drawing) (seen_of l.nodes l.attributes
    l.counts) (pass_number l.pass))
    × Known l.drawing.characters.now (values_of l.drawing) (pass_number l.pass) (seen_of l.nodes l.attributes l.counts) l.known l.quiet
