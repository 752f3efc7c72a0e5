-- What the loop over the elements keeps true.
use Rattle.script.specs.declared.drawing.Drawing.{Drawing}
use Rattle.std.specs.Prelude.{ℕ, ◌<◌, List, length, Option, Some, None, Result, Ok, Err}
use Rattle.model.specs.Theorems.Inside.{LiesElement}
use Rattle.walk.specs.declared.node.Opened.{Opened}
use Rattle.walk.specs.Nodes.{element_of, Further}
use Rattle.walk.specs.Values.{events_at}
use Rattle.tree.specs.Lent.{tree_of}
use Rattle.label.specs.Walk.{Lies}
use Rattle.label.specs.Whole.{Underway}
use Rattle.elements.specs.declared.State.{State}
use Rattle.refusal.specs.declared.Refusal.{Refusal}

-- The nodes from the place of the state on can be built below its node.
abbrev pub Going : Drawing → List ℕ → List ℕ → List ℕ → State → Type 0
Going drawing ns ats bs s = Underway drawing (tree_of ns ats bs s.counts) s.parent s.c

-- An element that opens behind the place of the state.
pub record Opening (drawing : Drawing) (s : State) (e : Opened) : Type 0 where
  pub further : Further drawing s.c e.inside
  pub element : LiesElement (length drawing.characters.now) (element_of drawing e)
  pub lies : Lies drawing.characters.now (events_at drawing e.inside)

-- The place behind a turn.
abbrev pub TurnFit : Drawing → List ℕ → List ℕ → List ℕ → State → Result (Option State) Refusal → Type 0
TurnFit drawing ns ats bs s (Ok (Some n)) = Going drawing ns ats bs n × (s.c.at < n.c.at)
TurnFit drawing ns ats bs s (Ok None) = Unit {0}
TurnFit drawing ns ats bs s (Err r) = Unit {0}
