use Rattle.walk.proofs.Walks.{item-told}
use Rattle.walk.proofs.Along.{along-start}
use Rattle.memo.proofs.Ids.{first_id, tested, found-id, over-without}
use Rattle.memo.proofs.plain.first_with_id.Goals as goal

pub loop-e-init : goal.loop-e-init
loop-e-init c =
    along-start (first_id c.args.id.now) _ _ c.requires
    c.start-c.ensures

pub returns-in-Ok : goal.returns-in-Ok
returns-in-Ok c =
    let opened = item-told _ _ _ _ c.in-Begin.is
    (c.next_item.ensures.same, c.next_item.ensures.fit) in record {
      same = found-id _ _ _ _ _ c.loop-e.invariant _ _
          c.in-Begin.is (c.next_item.ensures.same, c.next_item.ensures.fit)
          (tested _ _ _ _ _ c.in-Ok.is c.has_id.ensures);
      fit = opened.1.0;
    }

pub loop-e-preserved-in-Begin-1 : goal.loop-e-preserved-in-Begin-1
loop-e-preserved-in-Begin-1 c =
    over-without _ _ _ _ _ c.loop-e.invariant _ _
    c.in-Begin.is
    (c.next_item.ensures.same, c.next_item.ensures.fit) _
    (tested _ _ _ _ _ c.in-Err.is c.has_id.ensures)
