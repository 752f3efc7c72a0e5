use Rattle.cuts.proofs.Descending.{links-found}
use mathlib.Core.Path.{◌∙◌}
use Rattle.cuts.proofs.below.has_links.Goals as goal

pub returns : goal.returns
returns c =
    c.is_some.ensures ∙ links-found _ _ c.args.counts _ _ _ _ c.behind_below-end.ensures
    c.first_with.ensures.within c.first_with.ensures.none
    c.first_with.ensures.some
