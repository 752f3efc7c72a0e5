use lib.ListN.{length}
use mathlib.Core.Path.{sym, ap, ◌∙◌}
use Rattle.refusal.specs.Number.{answer_of}
use Rattle.elements.proofs.Turning.{starting}
use Rattle.elements.proofs.build_elements.Goals as goal

pub run-requires : goal.run-requires
run-requires c =
    starting _ (length c.args.nodes.now) (length c.args.attributes.now) (length c.args.text.now)
    (sym c.check.ensures ∙ ap answer_of c.in_ok-check.was) _ _ _ c.clear.ensures c.if-nodes-lt8.false _ c.start.ensures _ c.put_root.ensures
