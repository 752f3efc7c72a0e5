use Rattle.walk.proofs.Walks.{item-told}
use Rattle.memo.proofs.Ids.{tested}
use Rattle.memo.proofs.Within.{seek_hit, seek-miss}
use Rattle.memo.proofs.table.within.Goals as goal

pub returns-in-Ok : goal.returns-in-Ok
returns-in-Ok c =
    let told = item-told _ _ _ _ c.in-Begin.is
    (c.next_item.ensures.same, c.next_item.ensures.fit) in record {
      same = seek_hit _ _ _ _ _ c.loop-left.invariant _ _
          c.in-Begin.is (c.next_item.ensures.same, c.next_item.ensures.fit)
          c.loop-left-test.true
          (tested _ _ _ _ _ c.in-Ok.is c.has_id.ensures);
      fit = told.1.0;
    }

pub loop-left-preserved-in-Begin-1 : goal.loop-left-preserved-in-Begin-1
loop-left-preserved-in-Begin-1 c =
    let without = tested _ _ _ _ _ c.in-Err.is c.has_id.ensures in
    seek-miss _ _ _ _ _ c.loop-left.invariant _ _
    c.in-Begin.is
    (c.next_item.ensures.same, c.next_item.ensures.fit)
    c.loop-left-test.true _ without
