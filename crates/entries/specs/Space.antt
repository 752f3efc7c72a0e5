-- The entries of one element, behind those that are taken: what the steps require and what they leave.
use Rattle.std.specs.Prelude as std
use Rattle.std.specs.Prelude.{ℕ, ◌+◌, ◌-◌, ◌*◌, ◌≤◌, ◌<◌, ◌≡◌, List, [], leb, length, Some, None, Result, Ok, Err}
use Rattle.std.proofs.Math.Option.{Option, none, some}
use Rattle.model.specs.Base.{pick}
use Rattle.model.specs.Drawing as model
use Rattle.model.specs.Drawing.{Attribute, part_at}
use Rattle.model.specs.Tables.{Entry, ELEMENT, word}
use Rattle.model.specs.Element.{append_attribute, insert_entry}
use Rattle.refusal.specs.declared.Refusal.{Refusal}
use Rattle.refusal.specs.declared.Refusal.TheVariants.{AttributesFull}
use Rattle.tree.specs.declared.Entry as T
use Rattle.tree.specs.Lent.{read_of, entry_of}
use Rattle.model.specs.Theorems.Runs.{entries_from, with_run}
use Rattle.entries.specs.declared.Place.{Place}
use Rattle.entries.specs.declared.Value.{Value}

-- The element's entries so far end at `next`, within the room, and the room within the table.
pub record Space (ats : List ℕ) (place : Place) (next : ℕ) : Type 0 where
  pub low : place.first ≤ next
  pub high : next ≤ place.room
  pub room : 5 * place.room ≤ length ats

-- What a step answers that makes these the element's entries: where the next goes, or that there is no room for them.
abbrev pub reached : Place → List Entry → Result ℕ Refusal
reached place es = pick (leb (place.first + length es) place.room) (λ u. Ok (place.first + length es)) (λ u. Err AttributesFull)

-- What a step answers and leaves in the table that makes `new` the element's entries. Where there is no room for them it has the table
-- as long as it was; the build is refused then, and all tables are cleared.
pub record Leaves (ats : List ℕ) (place : Place) (new : List Entry) (r : Result ℕ Refusal) (m : List ℕ) : Type 0 where
  pub answer : r ≡ reached place new
  pub table : place.first + length new ≤ place.room → m ≡ with_run ats place.first new
  pub long : length m ≡ length ats

-- The element's entries so far.
abbrev pub so_far : List ℕ → Place → ℕ → List Entry
so_far ats place next = entries_from ats place.first (next - place.first)

-- What becomes of a value, as the model has it.
abbrev pub resolved_of : std.Option T.Entry → Option Entry
resolved_of (Some e) = some (entry_of e)
resolved_of None = none

-- The entry with a value itself.
abbrev pub own_entry : ℕ → ℕ → Value → Entry
own_entry name important v =
    record { name = name; important = important; start = v.start; size = v.size; command = v.command }

-- A value, an attribute with it. What is read in the value does not matter to an attribute.
abbrev pub value_in : List ℕ → Value → model.Value
value_in chars v = record { command = v.command; part = part_at chars v.start v.size; readings = [] }

abbrev pub attribute_of : List ℕ → ℕ → ℕ → Value → Attribute
attribute_of chars name space v = record { name = name; namespace = space; value = value_in chars v }

-- The element's parent and all above it stand in the table, the way up falls, and their entries lie before the element's first.
pub record Above (ns : List ℕ) (place : Place) : Type 0 where
  pub small : place.parent < 4294967295
  pub inside : 8 * place.parent + 7 < length ns
  pub falls : (i : ℕ) → i ≤ place.parent → word ns i 1 ≤ i
  pub range : (i : ℕ) → i ≤ place.parent → word ns i 0 ≡ ELEMENT → (word ns i 6 ≤ word ns i 7) × (word ns i 7 ≤ place.first)

-- What becomes of a value under a name, where nodes and attributes are lent.
abbrev pub becomes : List ℕ → List ℕ → List ℕ → Place → ℕ → ℕ → Value → Option Entry
becomes ns ats chars place name important v =
    append_attribute (read_of ns ats) place.parent place.tag name important (part_at chars v.start v.size) v.command

-- The entries with a value under that name inserted.
abbrev pub inserted : List ℕ → List ℕ → List ℕ → Place → ℕ → Value → List Entry → ℕ → List Entry
inserted ns ats chars place important v es name = insert_entry name es (becomes ns ats chars place name important v)
