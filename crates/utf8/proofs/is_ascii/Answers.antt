use Rattle.std.proofs.Common.{◌≡◌, ◌+◌, arith, rules, tests, ap, ◌∙◌, false, not, get_or, ◌||◌, leb}
use Rattle.std.proofs.lemmas.Iterator.{YieldsList-from_slice}
use Rattle.std.proofs.lemmas.Iterator.Consumers.{fold_from_yields_List}
use Rattle.std.proofs.lemmas.List.{get_or_default}
use Rattle.utf8.proofs.Folds.{fold-any}
use Rattle.utf8.proofs.is_ascii.Goals as goal

pub returns : goal.returns
returns c =
    ap not (fold_from_yields_List _ (λ b x. b || leb 0x80 x) false _ c.fold.ensures.ran (YieldsList-from_slice c.args.s.now (cc))
    (λ a x b q k. search (rules, tests))
    ∙ fold-any (leb 0x80) _ c.args.s.now
    (λ k d l. ap (leb 0x80) (get_or_default c.args.s.now k d 0 l ∙ ap (λ m. get_or c.args.s.now m 0)
    (let z : k ≡ 0 + k = omega arith in z))))
