use Rattle.build.proofs.Answering.{all-cleared}
use Rattle.build.proofs.tables.clear.Goals as goal

pub returns : goal.returns
returns c =
    all-cleared _ _ _ _ _ _ (c.fill.ensures.after (λ y e. e)) (c.fill-2.ensures.after (λ y e. e)) (c.fill-3.ensures.after (λ y e. e))
