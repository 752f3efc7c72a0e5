use mathlib.Core.Path.{ap}
use Rattle.tree.proofs.Facts.{readable-in}
use Rattle.ids.specs.declared.heads.Heads.{Heads}
use Rattle.ids.proofs.Likeness.{like-itself, like-tidy}
use Rattle.ids.proofs.Chaining.{linking-first, linking-next}
use Rattle.ids.proofs.chain.chain.Goals as goal

pub loop-i-init : goal.loop-i-init
loop-i-init c = (
  linking-first _ _ _ _ _ (like-itself _ _) (ap (λ (h : Heads). h.last) c.requires.heads_none),
  ap (λ (h : Heads). h.is_whole) c.requires.heads_none,
)

pub chain_one-requires-clause-readable_in : goal.chain_one-requires-clause-readable_in
chain_one-requires-clause-readable_in c = readable-in _ _ (like-tidy _ _ _ _ _ _ c.loop-i.invariant.0.like c.requires.tidy).kept _ c.loop-i-test.true

pub loop-i-preserved : goal.loop-i-preserved
loop-i-preserved c = (
  linking-next _ _ _ _ _
      c.requires.tidy _ _ _
      c.loop-i.invariant.0
      c.loop-i-test.true _ _ _ c.chain_one.ensures
      c.if-not-chain_one.false,
  c.loop-i.invariant.1,
)
