use Rattle.cuts.proofs.Looking.{cutting-turn}
use Rattle.cuts.proofs.back.cut_below.Goals as goal

pub loop-m-preserved : goal.loop-m-preserved
loop-m-preserved c =
    cutting-turn _ _ _ _ _ _ _ _ _ _ _ _ c.loop-m.invariant _
    c.cut_next-m.ensures.tables _ c.cut_next-m.ensures.onward
