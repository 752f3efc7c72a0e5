use mathlib.Core.Path.{refl, sym, ◌∙◌}
use Rattle.model.proofs.Theorems.Sound.{sound-kept}
use Rattle.model.specs.Check.{first_of}
use Rattle.model.specs.Tables.{element_by_id}
use Rattle.model.specs.Questions.{element_by_id_question}
use Rattle.tree.specs.Lent.{tree_of}
use Rattle.tree.proofs.Facts.{readable-in}
use Rattle.tree.proofs.Alike.{last-same}
use Rattle.questions.proofs.Asked.{unless-ok}
use Rattle.questions.proofs.question.element_by_id.Goals as goal

pub last_with_id-requires : goal.last_with_id-requires
last_with_id-requires c = λ k l. readable-in _ _ (sound-kept _ _ (sym c.if-not-is_sound.ensures)) k l

pub returns : goal.returns
unfolding element_by_id_question first_of element_by_id
returns c =
    let args = c.args in
    rw (sym c.if-not-is_sound.ensures)
    (unless-ok _ {k = 0} refl (c.last_with_id.ensures.found ∙ last-same (tree_of _ _ args.text.now args.counts) _ _ _))
