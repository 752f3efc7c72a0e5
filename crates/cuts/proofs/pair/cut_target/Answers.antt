use Rattle.cuts.proofs.Pairing.{quiet-on}
use Rattle.cuts.proofs.Quieting.{quiet-more}
use Rattle.cuts.proofs.pair.cut_target.Goals as goal

pub returns-clause-quiet : goal.returns-clause-quiet
returns-clause-quiet c =
    quiet-more _ _ _ _ _ _
    (quiet-on _ _ _ _ _ _ c.args.aim c.requires.cuttable _ c.requires.quiet_2 _ _ c.cut_below-end.ensures.tables) _ _
    c.cut_below-end.ensures.range c.cut_below-end.ensures.silent _ c.hush.ensures
