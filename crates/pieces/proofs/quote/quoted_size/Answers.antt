use borrow.Author.Rules.{rules}
use Rattle.pieces.proofs.Summing.{summed-more, summed-all, text-told}
use Rattle.pieces.proofs.quote.quoted_size.Goals as goal

pub loop-t-preserved : goal.loop-t-preserved
loop-t-preserved c =
    let told = text-told _ _ _ _ _ c.in-Some.is (c.next_text.ensures.same, c.next_text.ensures.fit) in
    summed-more _ _ _ _ _ c.loop-t.invariant _ (search rules) told

pub returns : goal.returns
returns c =
    let ended = text-told _ _ _ _ _ c.in_default.is (c.next_text.ensures.same, c.next_text.ensures.fit) in
    summed-all _ _ _ _ _ c.loop-t.invariant ended
