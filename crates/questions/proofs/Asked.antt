-- What a question comes to, by what stands against it and by what is found. Assumes nothing.
use mathlib.Core.Path.{◌≡◌, refl, sym}
use Prim.Native.Nat.{ℕ}
use Rattle.std.proofs.Common.{Option, Some, None, Ok}
use Rattle.model.specs.Questions.{unless}
use Rattle.tree.specs.Lent.{plus_one}
use Rattle.tree.proofs.Entries.{taken, one-less}
use Rattle.questions.specs.Answers.{answer_of}

pub unless-ok : (o : Option ℕ) {k n : ℕ} → 0 ≡ k → plus_one o ≡ n → answer_of (Ok o) ≡ unless k (λ u. n)
unless-ok None e h = rw (sym e, sym h)
unless-ok (Some i) e h = rw (sym e, sym h, taken i refl, one-less i refl)
