use mathlib.Core.Path.{refl}
use Rattle.cuts.proofs.Pairing.{pairs_start, pairs-turn, settled-quiet}
use Rattle.cuts.proofs.pair.cut_pairs.Goals as goal

pub loop-j-init : goal.loop-j-init
loop-j-init c =
    pairs_start _ _ _ _ _ _ _ _ _ _ c.requires.cuttable c.requires.aimed c.requires.end_le_nodes
    (settled-quiet _ _ _ _ c.args.known c.args.aim _ _ c.requires.aimed refl c.requires.known_2
    c.settle.ensures)

pub loop-j-preserved : goal.loop-j-preserved
loop-j-preserved c =
    let inv = c.loop-j.invariant in
    pairs-turn _ _ _ _ _ _ _ _ _ _ _ _ inv c.loop-j-test.true _ _
    c.cut_pair.ensures.tables c.cut_pair.ensures.quiet
