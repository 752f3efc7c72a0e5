use Rattle.ids.proofs.Chaining.{turned-some}
use Rattle.ids.proofs.chain.chain_one.Goals as goal

pub returns : goal.returns
returns c =
    turned-some _ _ _ _ _ _ c.in-Some.ensures.found _ c.entry_word.ensures c.if-entry_word-eq0.false _
    c.entry_word-start.ensures _ c.entry_word-size.ensures _ c.part_at.ensures _ c.bucket-b.ensures.same _ c.set_next.ensures
