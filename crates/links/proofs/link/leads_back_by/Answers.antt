use native.Mathlib.Omega.{arith}
use mathlib.Core.Path.{◌∙◌}
use Rattle.walk.specs.Values.{part_of}
use Rattle.walk.proofs.Along.{along-none}
use Rattle.links.proofs.Linking.{use-told, leading_by, back-first, back-second, back-neither, back_end, led-back}
use Rattle.links.proofs.link.leads_back_by.Goals as goal
use Rattle.links.proofs.link.leads_back_by.Goals.{
  then-same_parts-via-then-same_parts,
  then-same_parts-via-else-same_parts+then-same_parts-2,
}

pub leading_id-id-requires : goal.leading_id-id-requires
leading_id-id-requires c =
    record {
      standing = c.requires.standing;
      memo = c.requires.memo;
    }

pub loop-u-init : goal.loop-u-init
loop-u-init c =
    along-none (leading_by (part_of c.args.drawing.now.characters.now c.leading_id-id.result)
    (part_of c.args.drawing.now.characters.now c.args.link)) _ _ _
    c.requires.standing_2.fit (omega arith)

pub next_use-requires : goal.next_use-requires
next_use-requires c =
    record {
      fit_2 = c.loop-u.invariant.fit;
      open_elements_le_at = c.loop-u.invariant.low;
    }

pub use_href-href-requires : goal.use_href-href-requires
use_href-href-requires c =
    let use' = use-told _ _ _ _ _ c.in-Some.is (c.next_use.ensures.same, c.next_use.ensures.fit) in
    use'.1.stands

pub same_parts-requires : goal.same_parts-requires
same_parts-requires c =
    record {
      part_fit = c.use_href-href.ensures.fit;
      part_fit_2 = c.leading_id-id.ensures.fit;
    }

pub returns-then-same_parts : goal.returns-then-same_parts
returns-then-same_parts c =
    elim c.then-same_parts.branch [
      | then-same_parts-via-then-same_parts w ↦
          back-first _ _ _ _ _ _ _ c.loop-u.invariant _ _ c.in-Some.is (c.next_use.ensures.same, c.next_use.ensures.fit) _
          c.use_href-href.ensures.same _ c.same_parts.ensures w.if-same_parts.true
      | then-same_parts-via-else-same_parts+then-same_parts-2 w ↦
          back-second _ _ _ _ _ _ _ c.loop-u.invariant _ _ c.in-Some.is (c.next_use.ensures.same, c.next_use.ensures.fit) _
          c.use_href-href.ensures.same _ c.same_parts.ensures _ w.same_parts-else-same_parts.ensures w.if-same_parts.false
          w.if-same_parts-2.true
    ]
    ∙ led-back c.args.drawing.now c.args.e c.args.l c.args.link c.leading_id-id.result (record {
      use-stands = c.requires.standing;
      leads = c.requires.l_value;
      by = c.leading_id-id.ensures.same;
    }) _

pub same_parts-requires-else-same_parts : goal.same_parts-requires-else-same_parts
same_parts-requires-else-same_parts c =
    record {
      part_fit = c.use_href-href.ensures.fit;
      part_fit_2 = c.requires.part_fit;
    }

pub loop-u-smaller : goal.loop-u-smaller
loop-u-smaller c =
    let use' = use-told _ _ _ _ _ c.in-Some.is
    (c.next_use.ensures.same, c.next_use.ensures.fit) in
    omega (arith, use'.1.behind.further, use'.1.behind.fit.at)

pub loop-u-preserved : goal.loop-u-preserved
loop-u-preserved c =
    back-neither _ _ _ _ _ _ _ c.loop-u.invariant _
    _ c.in-Some.is
    (c.next_use.ensures.same, c.next_use.ensures.fit) _
    c.use_href-href.ensures.same _ c.same_parts.ensures _
    c.same_parts-else-same_parts.ensures c.if-same_parts.false c.if-same_parts-2.false

pub returns : goal.returns
returns c =
    back_end _ _ _ _ _ _ _ c.loop-u.invariant _ c.in_default.is (c.next_use.ensures.same, c.next_use.ensures.fit)
    ∙ led-back c.args.drawing.now c.args.e c.args.l c.args.link c.leading_id-id.result (record {
      use-stands = c.requires.standing;
      leads = c.requires.l_value;
      by = c.leading_id-id.ensures.same;
    }) _
