-- What the plain search for an id answers, as the model has it.
use Rattle.std.specs.Prelude.{◌≡◌, ℕ, true, false, List, [], Option, Some, None, Result, Ok, Err}
use Rattle.model.specs.Drawing.{Event, has_id}
use Rattle.script.specs.declared.drawing.Drawing.{Drawing}
use Rattle.script.specs.declared.cursor.Cursor.{Cursor}
use Rattle.walk.specs.declared.node.Opened.{Opened}
use Rattle.walk.specs.Values.{SameNodes}
use Rattle.walk.specs.Nodes.{element_of, node_at, Standing}

-- An element that was looked for, as a node.
abbrev pub node_of : Drawing → Option Opened → List Event
node_of drawing (Some e) = node_at drawing e
node_of drawing None = []

abbrev pub NodeFit : Drawing → Option Opened → Type 0
NodeFit drawing (Some e) = Standing drawing e
NodeFit drawing None = Unit {0}

-- An element without that id, and a cursor inside it with all its children behind.
pub record Without (drawing : Drawing) (id : List ℕ) (e : Opened) (n : Cursor) : Type 0 where
  pub has-not : has_id id (element_of drawing e) ≡ false
  pub nodes : SameNodes drawing e.inside n

-- An element, rightly asked for its id.
abbrev pub Tested : Drawing → List ℕ → Opened → Result (Unit {0}) Cursor → Type 0
Tested drawing id e (Ok u) = has_id id (element_of drawing e) ≡ true
Tested drawing id e (Err n) = Without drawing id e n
