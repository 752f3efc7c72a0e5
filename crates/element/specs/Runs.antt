-- The attributes and declarations of an element in the script, one after another.
use Rattle.std.specs.Prelude.{ℕ, ◌*◌, ◌≤◌, ◌<◌, ◌≡◌, List, [], length, Bool, Result, Ok, Err}
use Rattle.model.specs.Base.{folded}
use Rattle.model.specs.Check.{most_bytes}
use Rattle.model.specs.Drawing.{Attribute, Declaration}
use Rattle.model.specs.Tables.{Tree, Entry, Out, refused, done, ELEMENT, word, most}
use Rattle.model.specs.Element.{add_attribute}
use Rattle.model.specs.Theorems.Sim.{Every}
use Rattle.model.specs.Theorems.Inside.{LiesValue}
use Rattle.script.specs.declared.drawing.Drawing.{Drawing}
use Rattle.script.specs.declared.cursor.Cursor.{Cursor}
use Rattle.script.specs.Step.{Fit}
use Rattle.walk.specs.Values.{attributes_in, declarations_in, SameNodes, SameRest}
use Rattle.refusal.specs.declared.Refusal.{Refusal}
use Rattle.tree.specs.declared.Counts.{Counts}
use Rattle.refusal.specs.Number.{number_of}
use Rattle.tree.specs.Lent.{tree_of, read_of}
use Rattle.entries.specs.declared.Place.{Place}
use Rattle.element.specs.Font.{declared_in}
use Rattle.element.specs.declared.Run.{Run}
use Rattle.element.specs.declared.Parsed.{Parsed}

-- A cursor inside an element whose attributes lie, with their readings, within the characters, which are at most 1,048,576.
pub record InAttributes (drawing : Drawing) (c : Cursor) : Type 0 where
  pub fit : Fit drawing c
  pub lie : Every (λ (a : Attribute). LiesValue (length drawing.characters.now) a.value) (attributes_in drawing c)
  pub small : length drawing.characters.now ≤ most_bytes

-- The same for its declarations.
pub record InDeclarations (drawing : Drawing) (c : Cursor) : Type 0 where
  pub fit : Fit drawing c
  pub lie : Every (λ (d : Declaration). LiesValue (length drawing.characters.now) d.value) (declarations_in drawing c)
  pub small : length drawing.characters.now ≤ most_bytes

-- What an attribute makes of the element's entries.
abbrev pub added_in : List ℕ → Place → Bool → List ℕ → List Entry → Attribute → List Entry
added_in ns place ignored ats = add_attribute (read_of ns ats) place.parent place.tag ignored

-- The entries of the element in which the cursor stands: those of its attributes, then those of its declarations.
abbrev pub entries_in : Drawing → List ℕ → Place → Bool → List ℕ → Cursor → List Entry
entries_in drawing ns place ignored ats c =
    folded (declared_in ns place ats) (folded (added_in ns place ignored ats) [] (attributes_in drawing c)) (declarations_in drawing c)

-- Where a run left the entries.
abbrev pub stored_of : Result Run Refusal → Result ℕ Refusal
stored_of (Ok x) = Ok x.next
stored_of (Err r) = Err r

-- The cursor behind the attributes: the same declarations and nodes.
abbrev pub RunRest : Drawing → Cursor → Result Run Refusal → Type 0
RunRest drawing from (Ok x) = SameRest drawing from x.behind
RunRest drawing from (Err r) = Unit {0}

-- The cursor behind the declarations: the same nodes.
abbrev pub RunNodes : Drawing → Cursor → Result Run Refusal → Type 0
RunNodes drawing from (Ok x) = SameNodes drawing from x.behind
RunNodes drawing from (Err r) = Unit {0}

-- THE ELEMENT

-- The tables as a build has them where an element is appended below p: the counts fit, the way up from p falls, the ranges on it are in
-- order and lie below the count, and p's last child is no later than the count.
pub record Ready (ns ats : List ℕ) (c : Counts) (p : ℕ) : Type 0 where
  pub below : p < c.nodes
  pub few : (c.nodes ≤ most) × (c.attributes ≤ most)
  pub nodes : 8 * c.nodes ≤ length ns
  pub entries : 5 * c.attributes ≤ length ats
  pub falls : (i : ℕ) → i ≤ p → word ns i 1 ≤ i
  pub range : (i : ℕ) → i ≤ p → word ns i 0 ≡ ELEMENT → (word ns i 6 ≤ word ns i 7) × (word ns i 7 ≤ c.attributes)
  pub last : word ns p 4 ≤ c.nodes

-- What an element comes to, with the tables as they are left.
abbrev pub parsed_of : List ℕ → List ℕ → List ℕ → Result Parsed Refusal → Out Tree
parsed_of ns ats bs (Err r) = refused (number_of r)
parsed_of ns ats bs (Ok p) = done (tree_of ns ats bs p.counts)

-- The cursor behind it: where its children begin.
abbrev pub ParsedFit : Drawing → Cursor → Result Parsed Refusal → Type 0
ParsedFit drawing from (Ok p) = SameNodes drawing from p.behind
ParsedFit drawing from (Err r) = Unit {0}
