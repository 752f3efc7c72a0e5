-- What the walks from node to node answer, as the model has it.
use Rattle.std.specs.Prelude.{ℕ, zero, suc, ◌+◌, ◌<◌, ◌≤◌, List, [], ◌∷◌, ◌≡◌, Option, Some, None}
use Rattle.model.specs.Drawing as model
use Rattle.model.specs.Drawing.{opening, Event, begin, close, source_at, Source, Element, texts_in}
use Rattle.script.specs.declared.drawing.Drawing.{Drawing}
use Rattle.script.specs.declared.cursor.Cursor.{Cursor}
use Rattle.script.specs.Step.{Fit, Here, mark_of}
use Rattle.walk.specs.declared.node.Opened.{Opened}
use Rattle.walk.specs.declared.node.Item.{Item}
use Rattle.walk.specs.declared.node.Item.TheVariants.{Begin, Text, Other, Close}
use Rattle.walk.specs.declared.node.Item.TheVariants as item
use Rattle.walk.specs.declared.node.TextAt as declared
use Rattle.walk.specs.Values.{attributes_in, declarations_in, events_at}

-- AN ELEMENT

-- The element of the document that was opened.
abbrev pub element_of : Drawing → Opened → Element
element_of drawing e = record {
  number = e.own.number + 1;
  code = e.name;
  namespace = e.space;
  attributes = attributes_in drawing e.inside;
  declarations = declarations_in drawing e.inside;
}

-- The element as a node: the nodes of the document from it on.
abbrev pub node_at : Drawing → Opened → List Event
node_at drawing e = begin (element_of drawing e) ∷ events_at drawing e.inside

-- It stands at its own place in the script.
pub record Standing (drawing : Drawing) (e : Opened) : Type 0 where
  pub own : Fit drawing e.own
  pub fit : Fit drawing e.inside
  pub here : Here drawing e.own (opening e.name e.space) e.inside

-- A NODE

-- The nodes behind the close of the element whose inside begins here; k counts the elements open inside it.
unfoldable pub leave : ℕ → List Event → List Event
leave k [] = []
leave k (begin e ∷ xs) = leave (suc k) xs
leave k (model.Event.text a ∷ xs) = leave k xs
leave k (model.Event.other ∷ xs) = leave k xs
leave zero (close ∷ xs) = xs
leave (suc k) (close ∷ xs) = leave k xs

-- The nodes from an item on.
abbrev pub events_of : Drawing → Item → List Event
events_of drawing (Begin e) = node_at drawing e
events_of drawing (Text c l n) = model.Event.text (source_at drawing.characters.now (mark_of c) l) ∷ events_at drawing n
events_of drawing (Other n) = model.Event.other ∷ events_at drawing n
events_of drawing (Close n) = close ∷ events_at drawing n
events_of drawing item.End = []

-- A cursor further on, in range.
pub record Further (drawing : Drawing) (from c : Cursor) : Type 0 where
  pub fit : Fit drawing c
  pub further : from.at < c.at

abbrev pub ItemFit : Drawing → Cursor → Item → Type 0
ItemFit drawing from (Begin e) = Standing drawing e × Further drawing from e.inside
ItemFit drawing from (Text c l n) = Fit drawing c × Further drawing from n
ItemFit drawing from (Other n) = Further drawing from n
ItemFit drawing from (Close n) = Further drawing from n
ItemFit drawing from item.End = Unit {0}

-- So many nodes that are no element and no text, and xs behind them.
abbrev pub others_then : ℕ → List Event → List Event
others_then zero xs = xs
others_then (suc n) xs = model.Event.other ∷ others_then n xs

-- Between two cursors stand such nodes alone.
pub record Others (drawing : Drawing) (from c : Cursor) : Type 0 where
  pub fit : Fit drawing c
  pub later : from.at ≤ c.at
  pub count : ℕ
  pub between : others_then count (events_at drawing c) ≡ events_at drawing from

-- TEXTS

-- The texts inside an element from one on.
abbrev pub sources_of : Drawing → Option declared.TextAt → List Source
sources_of drawing (Some t) = source_at drawing.characters.now (mark_of t.own) t.len ∷ texts_in t.open_elements (events_at drawing t.behind)
sources_of drawing None = []

-- The own place c of a text, n behind it, and k elements open there.
pub record TextAt (drawing : Drawing) (from c n : Cursor) (k : ℕ) : Type 0 where
  pub own : Fit drawing c
  pub behind : Further drawing from n
  pub low : k ≤ n.at

abbrev pub TextFit : Drawing → Cursor → Option declared.TextAt → Type 0
TextFit drawing from (Some t) = TextAt drawing from t.own t.behind t.open_elements
TextFit drawing from None = Unit {0}
