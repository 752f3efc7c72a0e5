use mathlib.Core.Path.{sym}
use native.Mathlib.Omega.{arith}
use Rattle.model.proofs.Theorems.Sound.{sound-kept}
use Rattle.questions.proofs.Facts.{text-readable}
use Rattle.questions.proofs.question.text_part.Goals as goal

pub text_at-requires : goal.text_at-requires
text_at-requires c =
    let kept = sound-kept c.args.characters.now _ (sym c.if-not-is_sound.ensures) in (
      text-readable _ _ kept _ c.if-counts-node.false,
      λ z. let later = (kept.nodes _ c.if-counts-node.false).first z in text-readable _ _ kept _ (omega (arith, later.0, later.1)),
    )
