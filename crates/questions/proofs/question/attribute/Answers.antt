use mathlib.Core.Path.{sym, ◌∙◌}
use Rattle.model.specs.Questions.{attribute_question}
use Rattle.tree.specs.Lent.{tree_of}
use Rattle.tree.proofs.Facts.{readable-in}
use Rattle.tree.proofs.Alike.{attribute-same}
use Rattle.questions.proofs.Asked.{unless-ok}
use Rattle.questions.proofs.Facts.{no-fault}
use Rattle.questions.proofs.question.attribute.Goals as goal

pub attribute_of-requires : goal.attribute_of-requires
attribute_of-requires c =
    let sound = no-fault _ _ _ _ (sym c.in_ok-question_fault.ensures) in
    readable-in _ _ sound.0 _ sound.1

pub returns : goal.returns
unfolding attribute_question
returns c =
    let args = c.args in
    unless-ok _ c.in_ok-question_fault.ensures
    (c.attribute_of.ensures.found ∙ attribute-same (tree_of _ _ args.text.now args.counts) _ _ _)
