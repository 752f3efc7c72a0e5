use native.Mathlib.Omega.{arith}
use mathlib.Core.Path.{◌∙◌}
use Prim.Native.Nat.{◌-◌}
use lib.ListN.{length}
use Rattle.utf8.proofs.Ascii.{Reach, rest_all}
use Rattle.utf8.proofs.Folds.{ascii-part}
use Rattle.utf8.proofs.past_ascii.Goals as goal

pub returns-then-is_ascii : goal.returns-then-is_ascii
returns-then-is_ascii c =
    let s = c.args.s.now in
    let k = c.past_blocks_of_ascii-k.ensures in
    let r : Reach s c.args.from (length s) = rest_all _ 16 c.args.from _
    (record {
      begun = omega arith;
      near = omega arith;
      reach = record {
        within = k.1;
        same = k.2 ∙ c.past_blocks_of_ascii-j.ensures.2 ∙ c.past_blocks_of_ascii-i.ensures.2;
      };
    }) (omega arith) (ascii-part s (length s - 16) (length s - (length s - 16)) 16 _ c.is_ascii.ensures c.if-is_ascii.true (omega arith)
    (omega arith)) in
    (omega arith, r.within, r.same)
