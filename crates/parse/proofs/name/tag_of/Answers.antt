use mathlib.Core.Path.{refl}
use borrow.Author.Tests.{eq-eqb, ne_eqb}
use Rattle.parse.proofs.name.tag_of.Goals as goal

pub returns-then-name-eq-A : goal.returns-then-name-eq-A
returns-then-name-eq-A c = rw (eq-eqb _ _ c.if-name-eq-A.true) refl

pub returns : goal.returns
returns c = rw (ne_eqb _ _ c.if-name-eq-A.false) refl
