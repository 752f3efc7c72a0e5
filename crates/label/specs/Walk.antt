-- The walk inside a text element: its state, and what each turn keeps true.
use Rattle.std.specs.Prelude.{ℕ, zero, suc, ◌+◌, ◌-◌, ◌≤◌, ◌<◌, ◌≡◌, List, ◌∷◌, eqb, length, Result, Ok, Err}
use Rattle.std.specs.declared.ops.ControlFlow.{ControlFlow}
use Rattle.std.specs.declared.ops.ControlFlow.TheVariants.{Continue, Break}
use Rattle.model.specs.Base.{pick}
use Rattle.model.specs.Check.{most_bytes}
use Rattle.model.specs.Drawing.{Event, Source, begin, events}
use Rattle.model.specs.Tables.{Tree, Out, refused, done, most, word}
use Rattle.model.specs.Text.{total_size, append_text, space_of}
use Rattle.model.specs.Parse.{inside, plain}
use Rattle.model.specs.Theorems.Sim.{Events}
use Rattle.model.specs.Theorems.Inside.{LiesElement, LiesText}
use Rattle.model.specs.Theorems.Kept.{Kept, Tidy}
use Rattle.script.specs.declared.drawing.Drawing.{Drawing}
use Rattle.script.specs.declared.cursor.Cursor.{Cursor}
use Rattle.script.specs.Step.{Fit, document}
use Rattle.walk.specs.declared.node.Opened.{Opened}
use Rattle.walk.specs.Nodes.{element_of, leave, Standing, Further}
use Rattle.walk.specs.Values.{events_at}
use Rattle.tree.specs.declared.Counts.{Counts}
use Rattle.tree.specs.Lent.{tree_of}
use Rattle.text.specs.Spaces.{space_in}
use Rattle.element.specs.declared.Parsed.{Parsed}
use Rattle.refusal.specs.declared.Refusal.{Refusal}
use Rattle.refusal.specs.Number.{number_of}
use Rattle.pieces.specs.declared.Levels.{Levels}
use Rattle.pieces.specs.Levels.{Recalled}
use Rattle.label.specs.declared.State.{State}

-- A TEXT NODE

-- A text node can be appended below p.
pub record Holding (size : ℕ) (t : Tree) (p : ℕ) : Type 0 where
  pub kept : Kept size t
  pub few : (t.node_count ≤ most) × (t.text_count ≤ most)
  pub below : p < t.node_count

-- The text node of a tref below p; there is none for nothing (`quote` of the model over the tables).
abbrev pub quote_of : List ℕ → List Source → ℕ → Tree → Out Tree
quote_of chars from p t = pick (eqb (total_size from) 0) (λ u. done t) (λ u. append_text chars from p t)

-- THE STATE

-- All that the drawing has from here on lies within the characters.
abbrev pub Lies : List ℕ → List Event → Type 0
Lies chars xs = Events (LiesElement (length chars)) (LiesText (length chars)) xs

-- Tables in which the nodes behind e stand under it.
pub record Sound (size e : ℕ) (t : Tree) : Type 0 where
  pub tidy : Tidy size t
  pub few : (t.node_count ≤ most) × (t.attribute_count ≤ most) × (t.text_count ≤ most)
  pub under : (i : ℕ) → e < i → i < t.node_count → e + 1 ≤ word t.nodes i 1

-- Inside the text element e.
pub record Within (drawing : Drawing) (ns ats bs : List ℕ) (e : ℕ) (s : State) : Type 0 where
  pub fit : Fit drawing s.c
  pub all : Lies drawing.characters.now (document drawing)
  pub lies : Lies drawing.characters.now (events_at drawing s.c)
  pub small : length drawing.characters.now ≤ most_bytes
  pub sound : Sound (length drawing.characters.now) e (tree_of ns ats bs s.counts)
  pub up : e ≤ s.p
  pub below : s.p < s.counts.nodes
  pub space : space_in s.space ≡ space_of drawing.characters.now (tree_of ns ats bs s.counts) s.p

-- The way up from p to e has d steps.
abbrev pub Up : List ℕ → ℕ → ℕ → ℕ → Type 0
Up ns e zero p = p ≡ e
Up ns e (suc d) p = (e < p) × Up ns e d (word ns p 1 - 1)

-- Of the nodes xs from inside p on, those behind e are `rest`.
pub record Way (ns : List ℕ) (e p : ℕ) (xs rest : List Event) : Type 0 where
  pub deep : ℕ
  pub up : Up ns e deep p
  pub left : leave deep xs ≡ rest

-- What the model makes of the nodes xs inside e, where p is open.
abbrev pub inside_of : Drawing → ℕ → List Event → ℕ → Tree → Out Tree
inside_of drawing e xs p t = inside (plain drawing.characters.now) (document drawing) e xs 0 p t

-- A TURN

-- An element x that opens at the place of the state.
pub record Opening (drawing : Drawing) (s : State) (x : Opened) : Type 0 where
  pub standing : Standing drawing x
  pub further : Further drawing s.c x.inside
  pub events : begin (element_of drawing x) ∷ events_at drawing x.inside ≡ events_at drawing s.c
  pub element : LiesElement (length drawing.characters.now) (element_of drawing x)
  pub lies : Lies drawing.characters.now (events_at drawing x.inside)

module _ (drawing : Drawing) (e : ℕ) (ns ats bs : List ℕ) (s : State) (ns' ats' bs' : List ℕ) where
  -- The model's answer from the state on.
  abbrev pub whole : Out Tree
  whole = inside_of drawing e (events_at drawing s.c) s.p (tree_of ns ats bs s.counts)

  -- The walk goes on from n.
  pub record Goes (n : State) : Type 0 where
    pub within : Within drawing ns' ats' bs' e n
    pub later : s.c.at ≤ n.c.at
    pub same : inside_of drawing e (events_at drawing n.c) n.p (tree_of ns' ats' bs' n.counts) ≡ whole
    pub way : (rest : List Event) → Way ns e s.p (events_at drawing s.c) rest →
        Way ns' e n.p (events_at drawing n.c) rest

  -- The walk ends with these counts, and c stands behind the text element.
  pub record Ends (k : Counts) (c : Cursor) : Type 0 where
    pub fit : Fit drawing c
    pub sound : Sound (length drawing.characters.now) e (tree_of ns' ats' bs' k)
    pub below : e < k.nodes
    pub later : s.c.at ≤ c.at
    pub same : done (tree_of ns' ats' bs' k) ≡ whole
    pub behind : (rest : List Event) → Way ns e s.p (events_at drawing s.c) rest → events_at drawing c ≡ rest

  -- Where a turn goes on, v is what is remembered.
  abbrev pub FlowFit : Levels → ControlFlow Parsed State → Type 0
  FlowFit v (Continue x) = Goes x × (s.c.at < x.c.at) × Recalled drawing.characters.now (tree_of ns' ats' bs' x.counts) x.p v
  FlowFit v (Break x) = Ends x.counts x.behind

  -- A turn.
  abbrev pub TurnFit : Levels → Result (ControlFlow Parsed State) Refusal → Type 0
  TurnFit v (Ok flow) = FlowFit v flow
  TurnFit v (Err r) = refused (number_of r) ≡ whole

  -- What the whole walk comes to.
  abbrev pub InsideFit : Result Parsed Refusal → Type 0
  InsideFit (Ok x) = Ends x.counts x.behind
  InsideFit (Err r) = refused (number_of r) ≡ whole
