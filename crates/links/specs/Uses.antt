-- What the walk from `use` to `use` answers, as the model has it.
use Rattle.std.specs.Prelude.{ℕ, ◌≤◌, List, [], ◌∷◌, Option, Some, None}
use Rattle.model.specs.Drawing.{Element, uses_in}
use Rattle.script.specs.declared.drawing.Drawing.{Drawing}
use Rattle.script.specs.declared.cursor.Cursor.{Cursor}
use Rattle.walk.specs.declared.node.Opened.{Opened}
use Rattle.walk.specs.Values.{events_at}
use Rattle.walk.specs.Nodes.{element_of, Standing, Further}
use Rattle.links.specs.declared.uses.InnerUse.{InnerUse}

-- The `use`s inside an element from one on.
abbrev pub uses_of : Drawing → Option InnerUse → List Element
uses_of drawing (Some u) = element_of drawing u.element ∷ uses_in u.open_elements (events_at drawing u.element.inside)
uses_of drawing None = []

-- A `use`, with k elements open inside it.
pub record UseAt (drawing : Drawing) (from : Cursor) (e : Opened) (k : ℕ) : Type 0 where
  pub stands : Standing drawing e
  pub behind : Further drawing from e.inside
  pub low : k ≤ e.inside.at

abbrev pub UseFit : Drawing → Cursor → Option InnerUse → Type 0
UseFit drawing from (Some u) = UseAt drawing from u.element u.open_elements
UseFit drawing from None = Unit {0}
