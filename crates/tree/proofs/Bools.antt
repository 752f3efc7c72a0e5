-- Laws of tests. Assumes nothing.
use mathlib.Core.Path.{◌≡◌, refl, sym, ◌∙◌}
use mathlib.Core.Bool.{Bool, true, false, not}
use borrow.Author.Tests.{not-true, not-false}
use Rattle.model.specs.Base.{and}

pub and-false : (b : Bool) → false ≡ and b false
and-false true = refl
and-false false = refl

-- A test that is a call: what the answer says of the definition.
pub fails : {r b : Bool} → r ≡ b → not r ≡ true → b ≡ false
fails {r} e h = sym e ∙ not-true r h

pub passes : {r b : Bool} → r ≡ b → not r ≡ false → b ≡ true
passes {r} e h = sym e ∙ not-false r h
