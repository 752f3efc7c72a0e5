use native.Mathlib.Omega.{arith}
use mathlib.Core.Path.{◌≡◌, ap}
use Prim.Native.Nat.{◌+◌}
use Rattle.std.specs.Option.{unwrap_or}
use Rattle.trimming.proofs.Collected.{next-in, next-or, next-some, next-none}
use Rattle.trimming.proofs.Pairing.{paired-turn}
use Rattle.trimming.proofs.nodes.trim_pairs.Goals as goal

pub loop-behind-smaller : goal.loop-behind-smaller
loop-behind-smaller c =
    let inv = rw c.in-Some.is at c.loop-behind.invariant in
    let next = next-or c.loop-behind.nodes (c.in-Some.b + 1) c.args.count _ (omega (arith, inv.1)) c.next_text-behind.ensures in
    let low = (next-in c.loop-behind.nodes (c.in-Some.b + 1) c.args.count _ (omega (arith, inv.1)) next).low in
    let here : unwrap_or c.loop-behind.behind c.args.count ≡ c.in-Some.b = ap (λ o. unwrap_or o c.args.count) c.in-Some.is in
    omega (arith, inv.1)

pub loop-behind-preserved : goal.loop-behind-preserved
loop-behind-preserved c =
    let inv = rw c.in-Some.is at c.loop-behind.invariant in
    let next = next-or c.loop-behind.nodes (c.in-Some.b + 1) c.args.count _ (omega (arith, inv.1)) c.next_text-behind.ensures in
    let some = next-some _ c.args.count c.next_text-behind.result c.next_text-behind.ensures in (
      paired-turn _ _ _ _ _ _ _ _ _ _ _ _ _ _ inv.0 inv.1 _ next _ (next-none _ _ _ c.is_none.ensures some)
          _ _ c.trim_turn-kept.ensures.tables _ c.trim_turn-kept.ensures.kept,
      some,
    )
