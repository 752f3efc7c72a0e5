use Rattle.ids.proofs.Likeness.{like-tidy}
use Rattle.repair.proofs.prepare.resolve_all.Goals as goal

pub resolve_named-requires-clause-markable : goal.resolve_named-requires-clause-markable
resolve_named-requires-clause-markable c =
    let inv = c.loop-pass.invariant in record {
      checked = c.requires.markable.checked;
      marked = c.requires.markable.marked;
      tidy = like-tidy _ _ _ _ _ _ inv.like c.requires.markable.tidy;
      indexed = inv.indexed;
      few = c.requires.markable.few;
    }
