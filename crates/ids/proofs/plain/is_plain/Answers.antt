use mathlib.Core.Path.{refl, sym, ◌∙◌}
use Prim.Native.Nat.{◌+◌, ◌*◌}
use native.Mathlib.Omega.{arith}
use borrow.Author.Tests.{leb-true}
use lib.Dec.{leb}
use lib.ListN.{get_or}
use Rattle.std.proofs.Common.{rules, tests}
use Rattle.std.proofs.lemmas.Iterator.{YieldsList-from_range}
use Rattle.std.proofs.lemmas.Iterator.Search.{all_from_yields_List}
use Rattle.ids.proofs.Below.{all-each}
use Rattle.ids.proofs.plain.is_plain.Goals as goal

pub returns : goal.returns
returns c =
    let args = c.args in
    λ e j l. leb-true _ _ (all-each (λ k. leb (get_or args.attributes.now (5 * k + 1) 0) 1) args.count j l
    (sym (all_from_yields_List (λ k. leb (get_or args.attributes.now (5 * k + 1) 0) 1) _ _ _ c.all.ensures.ran
    (YieldsList-from_range 0 args.count args.count refl (omega arith)) (λ x b q k. search (rules, tests))) ∙ e))
