use Rattle.pieces.proofs.Summing.{text-told}
use Rattle.pieces.proofs.Putting.{text-inside, putting-more, putting-all}
use Rattle.pieces.proofs.quote.put_quoted.Goals as goal

pub put_more-done-requires : goal.put_more-done-requires
put_more-done-requires c =
    let told = text-told _ _ _ _ _ c.in-Some.is (c.next_text.ensures.same, c.next_text.ensures.fit) in let whole = text-inside _ _ _ _
    _ _ _ _ c.loop-t.invariant _ told in
    record { size_in_bounds = whole.0; size_in_bounds_2 = whole.1 }

pub loop-t-preserved : goal.loop-t-preserved
loop-t-preserved c =
    let told = text-told _ _ _ _ _ c.in-Some.is
    (c.next_text.ensures.same, c.next_text.ensures.fit) in
    putting-more _ _ _ _ _ _ _ _ c.loop-t.invariant _ told _
    c.put_more-done.ensures.answer _ c.put_more-done.ensures.place

pub returns : goal.returns
returns c =
    let ended = text-told _ _ _ _ _ c.in_default.is (c.next_text.ensures.same, c.next_text.ensures.fit) in let whole = putting-all _ _ _
    _ _ _ _ _ c.loop-t.invariant ended in
    record { size = whole.0; place = whole.1 }
