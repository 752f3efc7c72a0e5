use Rattle.trimming.proofs.Turning.{stands-text, text-ranged, turn-ranged}
use Rattle.trimming.proofs.nodes.trim_turn.Goals as goal

pub kept_behind-requires : goal.kept_behind-requires
kept_behind-requires c =
    turn-ranged c.args.nodes.now c.args.text.now _ _ _ c.trim_pair.ensures
    (rw c.stands_for-c.ensures (text-ranged _ _ _ _ _ _ c.requires.fair _
    (stands-text c.args.nodes.now c.args.nodes.now c.args.element c.args.count c.args.turn.a c.args.turn.kept c.requires.text_of
    c.requires.text_of_3)))
    (text-ranged _ _ _ _ _ _ c.requires.fair _ c.requires.text_of_2)
