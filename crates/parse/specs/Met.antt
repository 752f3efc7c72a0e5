-- One node met by the recursion, and what is left of it, by where the recursion stands.
use Rattle.std.specs.Prelude.{ℕ, ◌+◌, ◌-◌, ◌≤◌, ◌≡◌, Bool, not, List, [], ◌∷◌, eqb, length, Result, Ok, Err}
use Rattle.model.specs.Drawing as model
use Rattle.model.specs.Drawing.{Event, begin, close, use_target}
use Rattle.model.specs.Tables.{Tree, Out, refused, done}
use Rattle.model.specs.Parse.{node, plain}
use Rattle.model.specs.Theorems.Kept.{Tidy}
use Rattle.refusal.specs.declared.Refusal.{Refusal}
use Rattle.refusal.specs.Number.{number_of}
use Rattle.script.specs.declared.drawing.Drawing.{Drawing}
use Rattle.script.specs.declared.cursor.Cursor.{Cursor}
use Rattle.script.specs.Step.{Fit, document}
use Rattle.walk.specs.declared.node.Opened.{Opened}
use Rattle.walk.specs.Nodes.{element_of, node_at, leave, Standing}
use Rattle.walk.specs.Values.{events_at}
use Rattle.label.specs.Whole.{Counted, Underway}
use Rattle.parse.specs.declared.State.{State}
use Rattle.parse.specs.declared.met.Met.{Met}
use Rattle.parse.specs.declared.met.Met.TheVariants.{Passed, Children, Copy, End}
use Rattle.parse.specs.Cycle.{children_built}

-- Are nodes copied that have this origin? Then their ids are ignored.
abbrev pub is_copied : ℕ → Bool
is_copied origin = not (eqb origin 0)

-- THE NODES FROM A PLACE ON

-- The nodes behind the first.
abbrev pub next_of : List Event → List Event
next_of [] = []
next_of (begin e ∷ xs) = leave 0 xs
next_of (model.Event.text a ∷ xs) = xs
next_of (model.Event.other ∷ xs) = xs
next_of (close ∷ xs) = xs

-- A node comes first, and not the close of the element around it.
abbrev pub Opens : List Event → Type 0
Opens [] = ⊥
Opens (begin e ∷ xs) = Unit {0}
Opens (model.Event.text a ∷ xs) = Unit {0}
Opens (model.Event.other ∷ xs) = Unit {0}
Opens (close ∷ xs) = ⊥

-- The first of these nodes, built below p with that many levels left.
abbrev pub first_of : Drawing → ℕ → ℕ → ℕ → List Event → Tree → Out Tree
first_of drawing left origin p xs t = node (plain drawing.characters.now) (document drawing) left xs origin (is_copied origin) p t

-- All nodes from the cursor to the close of the element that it stands in.
abbrev pub level_built : Drawing → ℕ → ℕ → ℕ → Cursor → Tree → Out Tree
level_built drawing left origin p from t = children_built drawing left origin (is_copied origin) p from t

-- THE OUTCOME

-- What a function of the recursion answers: the tables are built, or refused.
abbrev pub outcome_of : Tree → Result (Unit {0}) Refusal → Out Tree
outcome_of t (Ok _) = done t
outcome_of t (Err r) = refused (number_of r)

-- The tables as they are behind a step: no fewer than n nodes, and the cursor before the nodes xs, at or behind `low`.
pub record Reached (drawing : Drawing) (origin : ℕ) (xs : List Event) (low n : ℕ) (s : State) (t : Tree) : Type 0 where
  pub by : s.origin ≡ origin
  pub fit : Fit drawing s.cursor
  pub later : low ≤ s.cursor.at
  pub behind : events_at drawing s.cursor ≡ xs
  pub tidy : Tidy (length drawing.characters.now) t
  pub few : Counted t
  pub more : n ≤ t.node_count

-- WHAT IS LEFT OF A NODE

-- By what was met: the node is done; its children come next; or what it copies. An end is none.
module _ (drawing : Drawing) (left i : ℕ) (s : State) (t : Tree) where
  abbrev pub rest_built : Met → Out Tree
  rest_built Passed = done t
  rest_built Children = level_built drawing (left - 1) s.origin i s.cursor t
  rest_built Copy = first_of drawing (left - 2) s.copier i (events_at drawing s.cursor) t
  rest_built End = done t

  -- The node is done.
  pub record Idle : Type 0 where
    pub fit : Fit drawing s.cursor
    pub tidy : Tidy (length drawing.characters.now) t
    pub few : Counted t

  -- Its children can be built.
  pub record Inside : Type 0 where
    pub above : 1 ≤ left
    pub under : Underway drawing t i s.cursor

  -- What it copies can be built, and where its own children begin is known.
  pub record Copying : Type 0 where
    pub above : 1 ≤ left
    pub under : Underway drawing t i s.cursor
    pub opens : Opens (events_at drawing s.cursor)
    pub aside : Underway drawing t i s.children

  abbrev pub RestFit : Met → Type 0
  RestFit Passed = Idle
  RestFit Children = Inside
  RestFit Copy = Copying
  RestFit End = ⊥

-- The nodes behind it, and the place before them or before what is passed over on the way there.
abbrev pub rest_nodes : Drawing → State → Met → List Event
rest_nodes drawing s Passed = events_at drawing s.cursor
rest_nodes drawing s Children = leave 0 (events_at drawing s.cursor)
rest_nodes drawing s Copy = leave 0 (events_at drawing s.children)
rest_nodes drawing s End = []

abbrev pub rest_at : State → Met → ℕ
rest_at s Passed = s.cursor.at
rest_at s Children = s.cursor.at
rest_at s Copy = s.children.at
rest_at s End = s.cursor.at

-- A NODE MET

-- The first of the nodes xs, met below p in the tables t: what is left of it, in the tables u, makes it whole.
pub record MetNode (drawing : Drawing) (left origin p : ℕ) (xs : List Event) (low : ℕ) (t : Tree) (s : State) (u : Tree) (met : Met)
    : Type 0 where
  pub built : rest_built drawing left t.node_count s u met ≡ first_of drawing left origin p xs t
  pub rest : RestFit drawing left t.node_count s u met
  pub by : s.origin ≡ origin
  pub behind : rest_nodes drawing s met ≡ next_of xs
  pub later : low ≤ rest_at s met
  pub more : t.node_count ≤ u.node_count

-- Met, or refused.
abbrev pub MetOr : Drawing → ℕ → ℕ → ℕ → List Event → ℕ → Tree → State → Tree → Result Met Refusal → Type 0
MetOr drawing left origin p xs low t s u (Ok met) = MetNode drawing left origin p xs low t s u met
MetOr drawing left origin p xs low t s u (Err r) = refused (number_of r) ≡ first_of drawing left origin p xs t

-- There was none: the cursor stood before the close of the element around it, and stands behind it.
pub record MetEnd (drawing : Drawing) (left origin p : ℕ) (from : Cursor) (t : Tree) (s : State) (u : Tree) : Type 0 where
  pub none : Opens (events_at drawing from) → ⊥
  pub built : done u ≡ level_built drawing left origin p from t
  pub reached : Reached drawing origin (leave 0 (events_at drawing from)) from.at t.node_count s u

-- What stood at the cursor `from`.
module _ (drawing : Drawing) (left origin p : ℕ) (from : Cursor) (t : Tree) (s : State) (u : Tree) where
  pub record MetFirst (met : Result Met Refusal) : Type 0 where
    pub opens : Opens (events_at drawing from)
    pub node : MetOr drawing left origin p (events_at drawing from) (from.at + 1) t s u met

  abbrev pub MetFit : Result Met Refusal → Type 0
  MetFit (Ok Passed) = MetFirst (Ok Passed)
  MetFit (Ok Children) = MetFirst (Ok Children)
  MetFit (Ok Copy) = MetFirst (Ok Copy)
  MetFit (Ok End) = MetEnd drawing left origin p from t s u
  MetFit (Err r) = MetFirst (Err r)

-- WHAT A USE COPIES

-- The use e, whose children begin at `children`, copies an element, and the cursor stands at it.
pub record CopyAt (drawing : Drawing) (e : Opened) (children : Cursor) (s s' : State) : Type 0 where
  pub target : Opened
  pub stands : Standing drawing target
  pub same : node_at drawing target ≡ use_target (document drawing) (element_of drawing e) s.origin
  pub stood : s' ≡ record s { cursor = target.own; children = children; copier = e.own.number + 1 }

-- It copies nothing, and the cursor stands behind it.
pub record CopyNone (drawing : Drawing) (e : Opened) (children : Cursor) (s s' : State) : Type 0 where
  pub none : [] ≡ use_target (document drawing) (element_of drawing e) s.origin
  pub past : Cursor
  pub fit : Fit drawing past
  pub later : children.at ≤ past.at
  pub behind : events_at drawing past ≡ leave 0 (events_at drawing children)
  pub stood : s' ≡ record s { cursor = past }

abbrev pub CopyFit : Drawing → Opened → Cursor → State → State → Met → Type 0
CopyFit drawing e children s s' Passed = CopyNone drawing e children s s'
CopyFit drawing e children s s' Children = ⊥
CopyFit drawing e children s s' Copy = CopyAt drawing e children s s'
CopyFit drawing e children s s' End = ⊥

-- A NODE HANDED OVER

-- Behind a text, or a node that is no element: refused with 20 where no level is left, else only the cursor is moved.
abbrev pub HandedFit : ℕ → Cursor → State → State → Result Met Refusal → Type 0
HandedFit left n s s' (Ok Passed) = (1 ≤ left) × (s' ≡ record s { cursor = n })
HandedFit left n s s' (Ok Children) = ⊥
HandedFit left n s s' (Ok Copy) = ⊥
HandedFit left n s s' (Ok End) = ⊥
HandedFit left n s s' (Err r) = (left ≡ 0) × (number_of r ≡ 20)

-- PASSED OVER

-- The cursor stands behind the element whose children begin at c, and nothing else is changed.
pub record PastFit (drawing : Drawing) (c : Cursor) (s s' : State) : Type 0 where
  pub stood : s' ≡ record s { cursor = s'.cursor }
  pub fit : Fit drawing s'.cursor
  pub later : c.at ≤ s'.cursor.at
  pub behind : events_at drawing s'.cursor ≡ leave 0 (events_at drawing c)
