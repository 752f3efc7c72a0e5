use Rattle.ids.proofs.Likeness.{like-tidy}
use Rattle.repair.proofs.prepare.prepare.Goals as goal

pub resolve_all-requires : goal.resolve_all-requires
resolve_all-requires c = record {
  markable = record {
    checked = c.requires.characters_value;
    marked = c.requires.marked;
    tidy = like-tidy _ _ _ _ _ _ c.chain.ensures.like c.requires.tidy;
    indexed = c.chain.ensures.indexed;
    few = c.requires.nodes_bound;
  };
}
