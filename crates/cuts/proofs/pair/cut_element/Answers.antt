use native.Mathlib.Omega.{arith}
use mathlib.Core.Path.{refl, sym}
use Rattle.targets.proofs.Passes.{pass-first}
use Rattle.cuts.proofs.Pairing.{element-bare, element-unled, element-pairs}
use Rattle.cuts.proofs.pair.cut_element.Goals as goal

pub returns-in_default-clause-tables : goal.returns-in_default-clause-tables
returns-in_default-clause-tables c =
    let below = c.behind_below-end.ensures in
    element-bare c.args.drawing.now _ _ c.args.counts _ _ _ _ _ below c.cut_name-name.ensures
    (omega (arith, below.low)) (omega arith) c.in_default.ensures.none refl

pub returns-in_default-key_of-clause-tables : goal.returns-in_default-key_of-clause-tables
returns-in_default-key_of-clause-tables c =
    let below = c.behind_below-end.ensures in
    element-unled c.args.drawing.now _ _ c.args.counts _ _ _ _ _ below c.cut_name-name.ensures
    c.in-Some.ensures.within.0 (omega (arith, c.in-Some.ensures.within.1)) c.in-Some.ensures.none
    (pass-first c.args.pass) c.requires.pass_bound (sym (rw c.from.ensures at c.in_default-key_of.ensures.same))

pub returns-clause-tables : goal.returns-clause-tables
returns-clause-tables c =
    let below = c.behind_below-end.ensures in
    element-pairs c.args.drawing.now _ _ c.args.counts _ _ _ _ _ below c.cut_name-name.ensures
    c.in-Some.ensures.within.0 (omega (arith, c.in-Some.ensures.within.1)) c.in-Some.ensures.none _
    c.cut_pairs.ensures.tables
