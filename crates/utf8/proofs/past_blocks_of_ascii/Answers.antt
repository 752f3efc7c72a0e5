use native.Mathlib.Omega.{arith}
use Prim.Native.Nat.{◌+◌, ◌-◌}
use Rattle.utf8.proofs.Ascii.{reach-block, reach-join}
use Rattle.utf8.proofs.Folds.{ascii-part}
use Rattle.utf8.proofs.past_blocks_of_ascii.Goals as goal

pub loop-i-preserved : goal.loop-i-preserved
loop-i-preserved g c = (
  omega arith,
  reach-join _ _ _ _ c.loop-i.invariant.1
      (reach-block _ _ g.row.N (omega arith) (ascii-part c.args.s.now c.loop-i.i (c.loop-i.i + g.row.N - c.loop-i.i) _ _ c.is_ascii.ensures
      c.if-is_ascii.true (omega arith) (omega arith))),
)
