use mathlib.Core.Path.{refl}
use Rattle.memo.proofs.Filling.{passed-bare, bare-nodes, at_less}
use Rattle.memo.proofs.fill.pass.Goals as goal

pub returns-in-Err : goal.returns-in-Err
returns-in-Err c =
    record {
      long = refl;
      nodes = bare-nodes _ c.args.e _ (c.first_id.ensures.same, c.first_id.ensures.fit) _ c.in-Err.is;
      filling = at_less _ _ _ _ _ _ c.saturating_sub.ensures
          (passed-bare _ _ _ _ c.args.e
          c.requires.filling _
          (c.first_id.ensures.same, c.first_id.ensures.fit) _ c.in-Err.is);
    }
