-- What a build keeps true of its tables: the 40 test as facts (`Kept`), and all of it (`Tidy`). That each way of writing keeps it is
-- in proofs/Theorems/Kept.antt.
use Prim.Native.Nat.{ℕ, ◌+◌, ◌-◌, ◌*◌, ◌≤◌, ◌<◌}
use Rattle.std.proofs.Math.Path.{◌≡◌}
use Rattle.std.specs.Prelude.{◌⊎◌, true}
use mathlib.Core.List.{List}
use Rattle.std.proofs.Math.ListN.{length}
use Rattle.model.specs.Names.{is_element, is_attribute}
use Rattle.model.specs.Tables.{Tree, ROOT, ELEMENT, TEXT, kind_of, parent_of, next_sibling_of, first_child_of, last_child_of}
use Rattle.model.specs.Tables.{code_of, from_of, to_of, Entry, entry_at}
use Rattle.model.specs.Theorems.Unused.{Unused}

-- THE FACTS

-- The counts fit the tables, and there is at least one node.
pub record Fitting (t : Tree) : Type 0 where
  pub one : 1 ≤ t.node_count
  pub nodes : 8 * t.node_count ≤ length t.nodes
  pub entries : 5 * t.attribute_count ≤ length t.attributes
  pub bytes : t.text_count ≤ length t.text

-- A sibling or child of node i, as its index plus 1: none, or a later node within the count.
abbrev pub Later : ℕ → ℕ → ℕ → Type 0
Later count i w = (w ≡ 0 → ⊥) → (i + 2 ≤ w) × (w ≤ count)

-- A range lies in order below n.
abbrev pub InOrder : ℕ → ℕ → ℕ → Type 0
InOrder from to n = (from ≤ to) × (to ≤ n)

-- Node i: its kind and parent, its links, its code and its range.
pub record KeptNode (t : Tree) (i : ℕ) : Type 0 where
  pub root : i ≡ 0 → (kind_of t i ≡ ROOT) × (parent_of t i ≡ 0)
  pub kind : (i ≡ 0 → ⊥) → (kind_of t i ≡ ELEMENT) ⊎ (kind_of t i ≡ TEXT)
  pub below : (i ≡ 0 → ⊥) → 1 ≤ parent_of t i
  pub falls : parent_of t i ≤ i
  pub next : Later t.node_count i (next_sibling_of t i)
  pub first : Later t.node_count i (first_child_of t i)
  pub last : Later t.node_count i (last_child_of t i)
  pub none : first_child_of t i ≡ 0 → last_child_of t i ≡ 0
  pub some : last_child_of t i ≡ 0 → first_child_of t i ≡ 0
  pub code : kind_of t i ≡ ELEMENT → is_element (code_of t i) ≡ true
  pub range : kind_of t i ≡ ELEMENT → InOrder (from_of t i) (to_of t i) t.attribute_count
  pub bytes : kind_of t i ≡ TEXT → InOrder (from_of t i) (to_of t i) t.text_count

-- An entry: its name is in the list, and its value one of the fixed ones or inside that many characters.
pub record KeptEntry (size : ℕ) (e : Entry) : Type 0 where
  pub name : is_attribute e.name ≡ true
  pub fixed : e.command ≡ 0 → (1 ≤ e.start) × (e.start ≤ 18) × (e.size ≡ 0)
  pub inside : (e.command ≡ 0 → ⊥) → e.start + e.size ≤ size

-- All nodes, and all entries, beside that many characters.
pub record Kept (size : ℕ) (t : Tree) : Type 0 where
  pub fits : Fitting t
  pub nodes : (i : ℕ) → i < t.node_count → KeptNode t i
  pub entries : (j : ℕ) → j < t.attribute_count → KeptEntry size (entry_at t j)

-- The first child of a node has it as its parent.
abbrev pub Coherent : Tree → Type 0
Coherent t = (i : ℕ) → i < t.node_count → (first_child_of t i ≡ 0 → ⊥) → parent_of t (first_child_of t i - 1) ≡ i + 1

-- The tree with another attribute table.
abbrev pub with_attributes : List ℕ → Tree → Tree
with_attributes ats t = record {
  nodes = t.nodes;
  attributes = ats;
  text = t.text;
  node_count = t.node_count;
  attribute_count = t.attribute_count;
  text_count = t.text_count;
}

-- ALL THAT A BUILD KEEPS TRUE OF ITS TABLES

-- The ranges of elements follow one another.
abbrev pub Ordered : Tree → Type 0
Ordered t = (i j : ℕ) → i < j → j < t.node_count → kind_of t i ≡ ELEMENT → kind_of t j ≡ ELEMENT → to_of t i ≤ from_of t j

-- All of it: the facts, the first children, the ranges, and the zeros past the counts.
pub record Tidy (size : ℕ) (t : Tree) : Type 0 where
  pub kept : Kept size t
  pub coherent : Coherent t
  pub ordered : Ordered t
  pub unused : Unused t
