-- A text element whole: what it asks, and what it leaves.
use Rattle.std.specs.Prelude.{ℕ, ◌≤◌, ◌<◌, ◌≡◌, List, length, Result, Ok, Err}
use Rattle.model.specs.Check.{most_bytes}
use Rattle.model.specs.Tables.{Tree, most}
use Rattle.model.specs.Theorems.Inside.{LiesElement}
use Rattle.model.specs.Theorems.Kept.{Tidy}
use Rattle.script.specs.declared.drawing.Drawing.{Drawing}
use Rattle.script.specs.declared.cursor.Cursor.{Cursor}
use Rattle.script.specs.Step.{Fit, document}
use Rattle.walk.specs.declared.node.Opened.{Opened}
use Rattle.walk.specs.Nodes.{element_of, leave}
use Rattle.walk.specs.Values.{events_at}
use Rattle.tree.specs.Lent.{tree_of}
use Rattle.element.specs.declared.Parsed.{Parsed}
use Rattle.refusal.specs.declared.Refusal.{Refusal}
use Rattle.label.specs.Walk.{Lies}

-- The counts are words.
abbrev pub Counted : Tree → Type 0
Counted t = (t.node_count ≤ most) × (t.attribute_count ≤ most) × (t.text_count ≤ most)

-- The nodes from the cursor on can be built below p.
pub record Underway (drawing : Drawing) (t : Tree) (p : ℕ) (from : Cursor) : Type 0 where
  pub fit : Fit drawing from
  pub all : Lies drawing.characters.now (document drawing)
  pub lies : Lies drawing.characters.now (events_at drawing from)
  pub small : length drawing.characters.now ≤ most_bytes
  pub tidy : Tidy (length drawing.characters.now) t
  pub few : Counted t
  pub below : p < t.node_count

-- The element x can be built below p.
pub record Beginning (drawing : Drawing) (t : Tree) (p : ℕ) (x : Opened) : Type 0 where
  pub inside : Underway drawing t p x.inside
  pub element : LiesElement (length drawing.characters.now) (element_of drawing x)

-- The cursor c stands behind the element inside which `from` stands, and the tables are as a build has them, with no fewer than n nodes.
pub record Closed (drawing : Drawing) (from : Cursor) (n : ℕ) (t : Tree) (c : Cursor) : Type 0 where
  pub fit : Fit drawing c
  pub later : from.at ≤ c.at
  pub behind : events_at drawing c ≡ leave 0 (events_at drawing from)
  pub tidy : Tidy (length drawing.characters.now) t
  pub few : Counted t
  pub more : n ≤ t.node_count

abbrev pub ClosedFit : Drawing → Cursor → ℕ → List ℕ → List ℕ → List ℕ → Result Parsed Refusal → Type 0
ClosedFit drawing from n ns ats bs (Ok x) = Closed drawing from n (tree_of ns ats bs x.counts) x.behind
ClosedFit drawing from n ns ats bs (Err r) = Unit {0}
