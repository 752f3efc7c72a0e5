-- Nodes of which nothing is built: texts, comments, and elements that become no nodes.
use Rattle.std.specs.Prelude.{ℕ, zero, suc, ◌≤◌, ◌≡◌, Bool, false, List, [], ◌∷◌}
use Rattle.model.specs.Base.{pick}
use Rattle.model.specs.Drawing as model
use Rattle.model.specs.Drawing.{Event, begin, close}
use Rattle.model.specs.Tables.{Tree}
use Rattle.script.specs.declared.drawing.Drawing.{Drawing}
use Rattle.script.specs.Step.{Fit}
use Rattle.walk.specs.Nodes.{leave}
use Rattle.walk.specs.Values.{events_at}
use Rattle.label.specs.Walk.{Lies}
use Rattle.parse.specs.Cycle.{is_parsed}
use Rattle.parse.specs.declared.State.{State}
use Rattle.parse.specs.Met.{level_built}

-- Is something built of an element with that name, with k elements open around it that become no nodes?
abbrev pub is_built : ℕ → ℕ → ℕ → Bool
is_built zero name space = is_parsed name space
is_built (suc k) name space = false

-- The nodes behind those of them that come first; k counts the elements that are open inside one of these.
unfoldable pub past_unbuilt : ℕ → List Event → List Event
past_unbuilt k [] = []
past_unbuilt zero (begin x ∷ xs) = pick (is_parsed x.code x.namespace) (λ u. begin x ∷ xs) (λ u. past_unbuilt 1 xs)
past_unbuilt (suc k) (begin x ∷ xs) = past_unbuilt (suc (suc k)) xs
past_unbuilt k (model.Event.text a ∷ xs) = past_unbuilt k xs
past_unbuilt k (model.Event.other ∷ xs) = past_unbuilt k xs
past_unbuilt zero (close ∷ xs) = close ∷ xs
past_unbuilt (suc k) (close ∷ xs) = past_unbuilt k xs

-- The cursor is moved over some of them, with that many levels left: what comes of the others is what comes of all.
pub record Skipped (drawing : Drawing) (left : ℕ) (s s' : State) : Type 0 where
  pub stood : s' ≡ record s { cursor = s'.cursor }
  pub fit : Fit drawing s'.cursor
  pub later : s.cursor.at ≤ s'.cursor.at
  pub behind : leave 0 (events_at drawing s'.cursor) ≡ leave 0 (events_at drawing s.cursor)
  pub lies : Lies drawing.characters.now (events_at drawing s.cursor) → Lies drawing.characters.now (events_at drawing s'.cursor)
  pub same : (origin p : ℕ) (t : Tree) →
      level_built drawing left origin p s'.cursor t ≡ level_built drawing left origin p s.cursor t
