use mathlib.Core.Path.{refl, sym, ◌∙◌}
use native.Mathlib.Omega.{arith}
use Rattle.std.proofs.Common.{rules, tests}
use Rattle.std.proofs.lemmas.Iterator.{YieldsList-from_range}
use Rattle.std.proofs.lemmas.Iterator.Search.{any_from_yields_List}
use Rattle.tree.specs.Lent.{nodes_read}
use Rattle.ids.proofs.Below.{none-each}
use Rattle.repair.specs.Passes.{is_linked}
use Rattle.repair.proofs.linked.any_linked.Goals as goal

pub returns : goal.returns
returns c =
    let args = c.args in
    λ e i l. none-each (is_linked (nodes_read args.nodes.now)) args.count i l
    (sym (any_from_yields_List (is_linked (nodes_read args.nodes.now)) _ _ _ c.any.ensures.ran
    (YieldsList-from_range 0 args.count args.count refl (omega arith)) (λ x b q k. search (rules, tests))) ∙ e)
