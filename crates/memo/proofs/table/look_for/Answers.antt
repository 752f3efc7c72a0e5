use Rattle.memo.proofs.Probing.{at-look}
use Rattle.memo.proofs.Knowing.{look-told}
use Rattle.memo.proofs.table.look_for.Goals as goal

pub returns-in-This : goal.returns-in-This
returns-in-This c =
    let told = look-told _ _ _ _ c.in-This.is (c.look_at.ensures.same, c.look_at.ensures.fit) in record {
      same = at-look _ _ _ _ _ c.loop.invariant.0 c.loop-test.true _ told.0;
      fit = told.1;
    }

pub returns-in-Empty-clause-same : goal.returns-in-Empty-clause-same
returns-in-Empty-clause-same c =
    at-look _ _ _ _ _ c.loop.invariant.0 c.loop-test.true _
    (look-told _ _ _ _ c.in-Empty.is (c.look_at.ensures.same, c.look_at.ensures.fit)).0
