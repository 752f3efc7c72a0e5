use Rattle.targets.proofs.Finding.{start-fit}
use Rattle.targets.proofs.Passes.{pass-first}
use Rattle.targets.proofs.Resolving.{resolving-first, resolving-tidy, resolving-next}
use Rattle.targets.proofs.resolve.resolve.Goals as goal

pub loop-m-init : goal.loop-m-init
loop-m-init c = resolving-first _ _ _ _ _ _ _ c.requires.markable.indexed (start-fit _ c.requires.markable.checked _ c.start-hint.ensures)

pub resolve_one-hint-requires : goal.resolve_one-hint-requires
resolve_one-hint-requires c =
    let inv = c.loop-m.invariant in record {
      drawn = record { checked = c.requires.markable.checked; marked = c.requires.markable.marked; fit = inv.fit };
      tidy = resolving-tidy _ _ _ _ _
          (pass-first c.args.pass) c.requires.pass_bound c.requires.markable.checked _ c.requires.markable.tidy _ _ _ inv;
      indexed = inv.indexed;
      nodes_bound = c.requires.markable.few;
      m_lt_nodes = c.loop-m-test.true;
      stored_before = record { marks = inv.marks };
    }

pub loop-m-preserved : goal.loop-m-preserved
loop-m-preserved c =
    let inv = c.loop-m.invariant in
    resolving-next _ _ _ _ _ (pass-first c.args.pass) c.requires.pass_bound c.requires.markable.checked _ c.requires.markable.tidy _ _ _ inv
    c.loop-m-test.true _ _ c.resolve_one-hint.ensures.stored
    c.resolve_one-hint.ensures.fit
