use native.Mathlib.Omega.{arith}
use Rattle.exchange.proofs.Bytes.{put-none, put-more, put_all}
use Rattle.exchange.proofs.put.put_bytes.Goals as goal

pub loop-k-init : goal.loop-k-init
loop-k-init c = put-none _ _ _

pub bounds-table-at : goal.bounds-table-at
bounds-table-at c = omega (arith, c.loop-k.invariant.size, c.requires)

pub loop-k-preserved : goal.loop-k-preserved
loop-k-preserved c = put-more _ _ _ _ _ c.loop-k.invariant c.loop-k-test.true

pub returns : goal.returns
returns c = put_all _ _ _ _ _ c.loop-k.invariant c.loop-k-test.false
