use Rattle.places.proofs.Marking.{marked-none}
use Rattle.ids.proofs.Likeness.{like-tidy}
use Rattle.targets.proofs.Finding.{small}
use Rattle.repair.proofs.Mending.{mended, unlinked}
use Rattle.repair.proofs.Twins.{unchained}
use Rattle.repair.proofs.whole.repair.Goals as goal

pub returns-then-not-any_linked : goal.returns-then-not-any_linked
returns-then-not-any_linked c =
    mended c.args.drawing.now _ _ _ c.args.counts c.requires.characters_value c.requires.tidy
    (unlinked _ _ _ (c.any_linked.ensures c.if-not-any_linked.true))

pub set_marks-requires : goal.set_marks-requires
set_marks-requires c = rw c.new-marks.ensures (marked-none _ (small c.args.drawing.now c.requires.characters_value))

pub returns-then-not-has_room : goal.returns-then-not-has_room
returns-then-not-has_room c = mended c.args.drawing.now _ _ _ c.args.counts c.requires.characters_value c.requires.tidy c.mend.ensures

pub mend-requires-2-clause-tidy : goal.mend-requires-2-clause-tidy
mend-requires-2-clause-tidy c = like-tidy _ _ _ _ _ _ c.prepare.ensures.like c.requires.tidy

pub returns : goal.returns
returns c =
    mended c.args.drawing.now _ _ _ c.args.counts c.requires.characters_value c.requires.tidy
    (unchained _ _ _ _ c.args.counts _ _ _ _ c.requires.tidy (c.has_room.ensures c.if-not-has_room.false).1
    c.prepare.ensures.like c.mend-2.ensures c.unchain.ensures)
