-- The table of ids: the search in it, and what it is known to say.
use Rattle.std.specs.Prelude.{◌≡◌, ℕ, zero, suc, ◌+◌, ◌-◌, ◌*◌, ◌<◌, ◌≤◌, Bool}
use Rattle.std.specs.Prelude.{true, false, List, [], ◌∷◌, Option, Some, None, eqb, length, get_or}
use Rattle.model.specs.Base.{pick, or, same_bytes}
use Rattle.model.specs.EId
use Rattle.model.specs.Drawing as model
use Rattle.model.specs.Drawing.{Event, begin, close, has_id, first_with_id}
use Rattle.script.specs.declared.drawing.Drawing.{Drawing}
use Rattle.script.specs.declared.cursor.Cursor.{Cursor}
use Rattle.script.specs.Step.{Fit, document}
use Rattle.walk.specs.declared.node.Opened.{Opened}
use Rattle.walk.specs.Values.{events_at, SameNodes}
use Rattle.walk.specs.Nodes.{element_of, node_at, Standing}
use Rattle.memo.specs.declared.table.Look.{Look}
use Rattle.memo.specs.declared.table.Look.TheVariants as look
use Rattle.memo.specs.declared.table.Probe.{Probe}
use Rattle.memo.specs.declared.table.Probe.TheVariants as probe
use Rattle.memo.specs.declared.fill.Progress.{Progress}
use Rattle.memo.specs.Words.{unit, spacing, mark_in, slot_in, mark_of, print_in, print_of, probes, start_of, step_of, next_slot}
use Rattle.memo.specs.Words.{is_open, key_of, SlotPut}

-- THE SEARCH

-- The first element with that id among the next k elements; nothing where it is none of them.
unfoldable pub within : ℕ → List ℕ → List Event → List Event
within zero id xs = []
within (suc k) id [] = []
within (suc k) id (begin e ∷ xs) = pick (has_id id e) (λ u. begin e ∷ xs) (λ u. within k id xs)
within (suc k) id (model.Event.text a ∷ xs) = within (suc k) id xs
within (suc k) id (model.Event.other ∷ xs) = within (suc k) id xs
within (suc k) id (close ∷ xs) = within (suc k) id xs

-- What is seen in a slot: the element that is looked for, another, or none.
pub data Seen : Type 0 where
  this : List Event → Seen
  another : Seen
  empty : Seen

abbrev pub seen_nodes : List Event → Seen
seen_nodes [] = another
seen_nodes (x ∷ xs) = this (x ∷ xs)

-- In a slot with the word v, by an id with that key.
abbrev pub seen_by : Drawing → List ℕ → List ℕ → ℕ → ℕ → Seen
seen_by drawing slots id key v =
    pick (eqb v 0) (λ u. empty)
    (λ u. pick (eqb (print_in v) (print_of key))
    (λ u. seen_nodes (within (spacing slots) id (events_at drawing (mark_in slots (mark_of v))))) (λ u. another))

-- Where a search ends: at nodes, at a free slot, or nowhere.
pub data Outcome : Type 0 where
  found : List Event → Outcome
  free : Outcome
  over : Outcome

abbrev pub onward : Seen → (Unit {0} → Outcome) → Outcome
onward (this xs) r = found xs
onward another r = r tt
onward empty r = free

-- The search from the slot i on, over at most k slots; f is what is seen in each, g the slot behind each.
unfoldable pub probing : (ℕ → Seen) → (ℕ → ℕ) → ℕ → ℕ → Outcome
probing f g i zero = over
probing f g i (suc k) = onward (f i) (λ u. probing f g (g i) k)

-- What is seen in each slot.
abbrev pub sees : Drawing → List ℕ → List ℕ → ℕ → Seen
sees drawing slots id i = seen_by drawing slots id (key_of id) (slot_in slots i)

-- The search for a key, with u words in a part.
abbrev pub probed_from : (ℕ → Seen) → ℕ → ℕ → Outcome
probed_from f u key = probing f (next_slot u (step_of u key)) (start_of u key) probes

-- The search for an id.
abbrev pub probed : Drawing → List ℕ → List ℕ → Outcome
probed drawing slots id =
    pick (is_open slots (key_of id))
    (λ u. probed_from (sees drawing slots id) (unit slots) (key_of id)) (λ u. over)

-- The first free slot from i on among the next k.
unfoldable pub first_free : (ℕ → ℕ) → (ℕ → ℕ) → ℕ → ℕ → Option ℕ
first_free f g i zero = None
first_free f g i (suc k) = pick (eqb (f i) 0) (λ u. Some i) (λ u. first_free f g (g i) k)

-- The first free slot for an id with that key.
abbrev pub free_for : List ℕ → ℕ → Option ℕ
free_for slots key = first_free (slot_in slots) (next_slot (unit slots) (step_of (unit slots) key)) (start_of (unit slots) key) probes

-- Do elements with that name have links that are followed by ids?
abbrev pub is_link : ℕ → Bool
is_link name = pick (eqb name EId.Use) (λ u. true) (λ u. eqb name EId.Tref)

-- Can a command that opens such an element begin with these two bytes?
abbrev pub opens_link : ℕ → ℕ → Bool
opens_link a b = pick (eqb a 1) (λ u. is_link b) (λ u. false)

-- Can one begin at one of the first n bytes?
unfoldable pub any_opens : List ℕ → ℕ → Bool
any_opens script zero = false
any_opens script (suc n) = or (any_opens script n) (opens_link (get_or script n 0) (get_or script (n + 1) 0))

-- Can a drawing have such links? It has none where no two bytes of its script are the first two of such a command.
abbrev pub may_link : List ℕ → Bool
may_link script = any_opens script (length script - 1)

-- THE ANSWERS OF THE CODE

abbrev pub seen_as : Drawing → Look → Seen
seen_as drawing (look.This e) = this (node_at drawing e)
seen_as drawing look.Another = another
seen_as drawing look.Empty = empty

abbrev pub LookFit : Drawing → Look → Type 0
LookFit drawing (look.This e) = Standing drawing e
LookFit drawing look.Another = Unit {0}
LookFit drawing look.Empty = Unit {0}

abbrev pub outcome_as : Drawing → Probe → Outcome
outcome_as drawing (probe.Found e) = found (node_at drawing e)
outcome_as drawing probe.Free = free
outcome_as drawing probe.Over = over

abbrev pub ProbeFit : Drawing → Probe → Type 0
ProbeFit drawing (probe.Found e) = Standing drawing e
ProbeFit drawing probe.Free = Unit {0}
ProbeFit drawing probe.Over = Unit {0}

-- WHAT THE TABLE SAYS

-- Mark m has its words, and is a cursor of the script.
pub record Placed (drawing : Drawing) (slots : List ℕ) (m : ℕ) : Type 0 where
  pub low : 5 * m + 6 ≤ 3 * unit slots
  pub fit : Fit drawing (mark_in slots m)

-- The marks in slots can be read.
abbrev pub Held : Drawing → List ℕ → Type 0
Held drawing slots = (i : ℕ) → (slot_in slots i ≡ 0 → ⊥) → Placed drawing slots (mark_of (slot_in slots i))

-- The first element with that id is among the nodes xs that are still to come, and behind every mark.
pub record Ahead (drawing : Drawing) (slots : List ℕ) (next : ℕ) (xs : List Event) (id : List ℕ) : Type 0 where
  pub rest : first_with_id id xs ≡ first_with_id id (document drawing)
  pub marks : (m : ℕ) → m < next → first_with_id id (events_at drawing (mark_in slots m)) ≡ first_with_id id (document drawing)

-- What the search for an id says.
abbrev pub Told : Drawing → List ℕ → ℕ → List Event → List ℕ → Outcome → Type 0
Told drawing slots next xs id (found ys) = ys ≡ first_with_id id (document drawing)
Told drawing slots next xs id free = Ahead drawing slots next xs id
Told drawing slots next xs id over = Unit {0}

-- Marks are set up to `next`, slots have some of them, and the searches say what they say where the nodes xs are still to come.
pub record Known (drawing : Drawing) (slots : List ℕ) (next : ℕ) (xs : List Event) : Type 0 where
  pub marks : (m : ℕ) → m < next → Placed drawing slots m
  pub used : (i : ℕ) → (slot_in slots i ≡ 0 → ⊥) → mark_of (slot_in slots i) < next
  pub told : (id : List ℕ) → Told drawing slots next xs id (probed drawing slots id)

-- The table of a drawing: nothing is still to come.
pub record Memo (drawing : Drawing) (slots : List ℕ) : Type 0 where
  pub next : ℕ
  pub known : Known drawing slots next []

-- AN ELEMENT ENTERED

-- The bytes of an element's first unprefixed id are these.
abbrev pub Named : Drawing → Opened → List ℕ → Type 0
Named drawing e id = (x : List ℕ) → has_id x (element_of drawing e) ≡ same_bytes id x

-- From mark m on a search meets the element e.
abbrev pub Seeing : Drawing → List ℕ → ℕ → Opened → Type 0
Seeing drawing slots m e = (id : List ℕ) → has_id id (element_of drawing e) ≡ true
    → within (spacing slots) id (events_at drawing (mark_in slots m)) ≡ [] → ⊥

-- Mark m is one of those that are set, and a search from it meets e, if the table tells anything.
pub record Ready (drawing : Drawing) (slots : List ℕ) (next m : ℕ) (e : Opened) : Type 0 where
  pub stands : Standing drawing e
  pub known : Known drawing slots next (node_at drawing e)
  pub set : 0 < spacing slots → m < next
  pub seeing : 0 < spacing slots → Seeing drawing slots m e

-- Marks and their spacing stay.
pub record Kept (slots slots' : List ℕ) : Type 0 where
  pub long : length slots' ≡ length slots
  pub spaced : spacing slots' ≡ spacing slots
  pub marks : (m : ℕ) → 5 * m + 6 ≤ 3 * unit slots → mark_in slots' m ≡ mark_in slots m

-- The element e is entered, with the cursor n inside it before its children.
pub record Entered (drawing : Drawing) (slots : List ℕ) (next : ℕ) (e : Opened) (slots' : List ℕ) (n : Cursor) : Type 0 where
  pub nodes : SameNodes drawing e.inside n
  pub kept : Kept slots slots'
  pub known : Known drawing slots' next (events_at drawing n)

-- An element with that id, met from mark m on, gets the first free slot of the id's search, if the table tells of its key.
pub record IdEntered (slots : List ℕ) (m : ℕ) (id slots' : List ℕ) : Type 0 where
  pub shut : is_open slots (key_of id) ≡ false → slots' ≡ slots
  pub full : is_open slots (key_of id) ≡ true → free_for slots (key_of id) ≡ None → slots' ≡ slots
  pub put : (i : ℕ) → is_open slots (key_of id) ≡ true → free_for slots (key_of id) ≡ Some i
      → SlotPut slots i (m + 2048 * print_of (key_of id) + 1) slots'

-- From the last mark on, a search that meets nothing meets nothing among the next `left` elements.
abbrev pub Follows : Drawing → List ℕ → ℕ → ℕ → List Event → Type 0
Follows drawing slots last left xs =
    (id : List ℕ) → within (spacing slots) id (events_at drawing (mark_in slots last)) ≡ [] → within left id xs ≡ []

-- How far the filling is, where the nodes xs are still to come.
pub record Filling (drawing : Drawing) (slots : List ℕ) (next left : ℕ) (xs : List Event) : Type 0 where
  pub long : 16 ≤ length slots
  pub few : next ≤ 2047
  pub some : 0 < left → 0 < next
  pub known : Known drawing slots next xs
  pub follows : 0 < left → Follows drawing slots (next - 1) left xs

-- The element e is passed.
pub record Passed (drawing : Drawing) (slots : List ℕ) (e : Opened) (slots' : List ℕ) (p : Progress) : Type 0 where
  pub long : length slots' ≡ length slots
  pub nodes : SameNodes drawing e.inside p.place
  pub filling : Filling drawing slots' p.next p.left (events_at drawing p.place)

-- No slot is taken.
pub record Blank (slots : List ℕ) : Type 0 where
  pub long : 16 ≤ length slots
  pub none : (i : ℕ) → slot_in slots i ≡ 0
