use mathlib.Core.Path.{refl, sym, ◌∙◌, ap}
use native.Mathlib.Omega.{arith}
use Rattle.model.specs.Questions.{find_attribute_question}
use Rattle.tree.specs.Lent.{plus_one, tree_of}
use Rattle.tree.proofs.Facts.{readable-in, climbable}
use Rattle.tree.proofs.Entries.{taken, one-less}
use Rattle.tree.proofs.Alike.{attribute-same}
use Rattle.questions.proofs.Above.{impl-same}
use Rattle.questions.proofs.Asked.{unless-ok}
use Rattle.questions.proofs.Facts.{no-fault}
use Rattle.questions.proofs.question.find_attribute.Goals as goal

pub find_attribute_impl-requires : goal.find_attribute_impl-requires
find_attribute_impl-requires c =
    let sound = no-fault _ _ _ _ (sym c.in_ok-question_fault.ensures) in
    climbable _ _ sound.0 _ sound.1 (omega arith)

pub returns-in_default : goal.returns-in_default
unfolding find_attribute_question
returns-in_default c =
    let args = c.args in
    let found = c.find_attribute_impl.ensures.found ∙ impl-same (tree_of _ _ args.text.now args.counts) _ _ in
    let e = sym (ap plus_one c.in_default.is) ∙ found in
    rw (sym c.in_ok-question_fault.ensures, sym e)

pub attribute_of-requires : goal.attribute_of-requires
attribute_of-requires c =
    let sound = no-fault _ _ _ _ (sym c.in_ok-question_fault.ensures) in
    readable-in _ _ sound.0 _ (omega (arith, c.in-Some.ensures.within, sound.1))

pub returns : goal.returns
unfolding find_attribute_question
returns c =
    let args = c.args in
    let holder = c.in-Some.holder in
    let e = c.in-Some.ensures.found ∙ impl-same (tree_of _ _ args.text.now args.counts) _ _ in
    rw (sym e, taken holder refl, one-less holder refl)
    (unless-ok _ c.in_ok-question_fault.ensures
    (c.attribute_of.ensures.found ∙ attribute-same (tree_of _ _ args.text.now args.counts) _ _ _))
