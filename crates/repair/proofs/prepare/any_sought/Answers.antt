use mathlib.Core.Path.{refl, sym, ◌∙◌}
use native.Mathlib.Omega.{arith}
use Rattle.std.proofs.Common.{rules, tests}
use Rattle.std.proofs.lemmas.Iterator.{YieldsList-from_range}
use Rattle.std.proofs.lemmas.Iterator.Search.{any_from_yields_List}
use Rattle.targets.specs.Targets.{seen_of}
use Rattle.ids.proofs.Below.{none-each}
use Rattle.repair.specs.Passes.{is_sought}
use Rattle.repair.proofs.prepare.any_sought.Goals as goal

pub returns : goal.returns
returns c =
    let args = c.args in
    λ e i l. none-each (is_sought (seen_of args.nodes.now args.attributes.now args.counts) args.code args.name) args.counts.nodes i l
    (sym (any_from_yields_List (is_sought (seen_of args.nodes.now args.attributes.now args.counts) args.code args.name) _ _ _ c.any.ensures.ran
    (YieldsList-from_range 0 args.counts.nodes args.counts.nodes refl (omega arith)) (λ x b q k. search (rules, tests))) ∙ e)
