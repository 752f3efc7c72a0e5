use Rattle.targets.proofs.Finding.{start-fit, stored-mark}
use Rattle.targets.proofs.mark.mark_of.Goals as goal

pub find_mark-found-requires : goal.find_mark-found-requires
find_mark-found-requires c =
    record {
      drawn = record {
        checked = c.requires.characters_value;
        marked = c.requires.marked;
        fit = start-fit _ c.requires.characters_value
            _ c.start.ensures;
      };
      kept = c.requires.kept;
      indexed = c.requires.indexed;
      m_lt_nodes = c.requires.m_lt_nodes;
    }

pub returns : goal.returns
returns c =
    stored-mark _ _ _ _ c.args.counts _ _ _ c.cut_name-name.ensures c.requires.m_lt_nodes (c.requires.targeted c.if-not-heads.false) _
    c.stored_mark.ensures
