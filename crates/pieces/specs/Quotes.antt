-- The texts that a tref quotes, as the code has them, and their text node.
use Rattle.std.specs.Prelude.{ℕ, List, eqb, length}
use Rattle.model.specs.Base.{pick}
use Rattle.model.specs.Drawing.{Source, texts_in}
use Rattle.model.specs.Tables.{Tree, Out, done}
use Rattle.model.specs.Text.{XmlSpace, total_size}
use Rattle.model.specs.Theorems.Sim.{Every}
use Rattle.model.specs.Theorems.Inside.{LiesText}
use Rattle.script.specs.declared.drawing.Drawing.{Drawing}
use Rattle.script.specs.declared.cursor.Cursor.{Cursor}
use Rattle.script.specs.Step.{Fit}
use Rattle.walk.specs.Values.{events_at}
use Rattle.text.specs.Append.{append_in}

-- The texts inside the element in which the cursor stands.
abbrev pub texts_from : Drawing → Cursor → List Source
texts_from drawing c = texts_in 0 (events_at drawing c)

-- A cursor inside an element whose texts lie within the characters.
pub record Quotable (drawing : Drawing) (c : Cursor) : Type 0 where
  pub fit : Fit drawing c
  pub lie : Every (LiesText (length drawing.characters.now)) (texts_from drawing c)

-- `quote` where the space is given that is handed down to the parent.
unfoldable pub quote_in : XmlSpace → List ℕ → List Source → ℕ → Tree → Out Tree
quote_in w chars from p t = pick (eqb (total_size from) 0) (λ u. done t) (λ u. append_in w chars from p t)
