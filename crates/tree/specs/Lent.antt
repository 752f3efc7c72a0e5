-- The lent tables as the model's Tree, and what reading them asks.
use Rattle.std.specs.Prelude.{ℕ, ◌+◌, ◌*◌, ◌<◌, ◌≤◌, ◌≡◌, List, [], length, Option, Some, None, Result, Ok, Err}
use Rattle.model.specs.Tables.{Tree, Out, refused, done, ROOT, ELEMENT, TEXT, word, kind_of, to_of, entry_at}
use Rattle.model.specs.Tables as M
use Rattle.tree.specs.declared.Counts.{Counts}
use Rattle.tree.specs.declared.Entry.{Entry}
use Rattle.tree.specs.declared.Kind.{Kind}
use Rattle.tree.specs.declared.Kind.TheVariants.{Root, Element, Text}
use Rattle.refusal.specs.declared.Refusal.{Refusal}
use Rattle.refusal.specs.Number.{number_of}

-- An index as the model has it, where there may be none: plus 1, and 0 for none.
abbrev pub plus_one : Option ℕ → ℕ
plus_one None = 0
plus_one (Some i) = i + 1

-- The number of a kind of node.
abbrev pub number_of_kind : Kind → ℕ
number_of_kind Root = ROOT
number_of_kind Element = ELEMENT
number_of_kind Text = TEXT

-- The three tables at their full length, with the counts.
abbrev pub tree_of : List ℕ → List ℕ → List ℕ → Counts → Tree
tree_of ns es bs c = record {
  nodes = ns;
  attributes = es;
  text = bs;
  node_count = c.nodes;
  attribute_count = c.attributes;
  text_count = c.text;
}

-- What a function sees that is lent the nodes and the counts alone.
abbrev pub nodes_of : List ℕ → Counts → Tree
nodes_of ns c = tree_of ns [] [] c

-- What a function sees that is lent nodes and attributes alone.
abbrev pub read_of : List ℕ → List ℕ → Tree
read_of ns es = tree_of ns es [] (record { nodes = 0; attributes = 0; text = 0 })

-- What a function sees that is lent the nodes alone.
abbrev pub nodes_read : List ℕ → Tree
nodes_read ns = read_of ns []

-- What a function sees that is lent the attributes alone.
abbrev pub entries_of : List ℕ → Tree
entries_of es = read_of [] es

-- What a function sees that is lent nodes and text alone.
abbrev pub texts_of : List ℕ → List ℕ → Tree
texts_of ns bs = tree_of ns [] bs (record { nodes = 0; attributes = 0; text = 0 })

-- What a step of the build comes to, with the tables as it leaves them.
abbrev pub out_of : List ℕ → List ℕ → List ℕ → Result Counts Refusal → Out Tree
out_of ns es bs (Err r) = refused (number_of r)
out_of ns es bs (Ok c) = done (tree_of ns es bs c)

-- An attribute's record as the model has it.
abbrev pub entry_of : Entry → M.Entry
entry_of e = record { name = e.name; important = e.important; start = e.start; size = e.size; command = e.command }

-- The value of an entry is fixed, or lies within that many characters.
abbrev pub Valued : ℕ → M.Entry → Type 0
Valued size e = (e.command ≡ 0 → ⊥) → e.start + e.size ≤ size

-- Node i stands in the table, and its parent, an index plus 1, is no larger.
pub record Placed (ns : List ℕ) (i : ℕ) : Type 0 where
  pub inside : 8 * i + 7 < length ns
  pub falls : word ns i 1 ≤ i

-- Node i stands in the table and, if it is an element, its range does in the attributes.
pub record Readable (t : Tree) (i : ℕ) : Type 0 where
  pub inside : 8 * i + 7 < length t.nodes
  pub range : kind_of t i ≡ ELEMENT → 5 * to_of t i ≤ length t.attributes

-- Node i and all before it can be read, and the way up falls.
pub record Climbable (t : Tree) (i : ℕ) : Type 0 where
  pub small : i < 4294967295
  pub placed : (k : ℕ) → k ≤ i → Placed t.nodes k
  pub readable : (k : ℕ) → k ≤ i → Readable t k

-- Node i can be read, and the values of its attributes are fixed or lie within that many characters.
pub record ReadableIn (size : ℕ) (t : Tree) (i : ℕ) : Type 0 where
  pub readable : Readable t i
  pub values : kind_of t i ≡ ELEMENT → (j : ℕ) → j < to_of t i → Valued size (entry_at t j)

-- Entry j is an attribute of node i: the node is an element with the entry in its range.
pub record HeldBy (t : Tree) (i j : ℕ) : Type 0 where
  pub element : kind_of t i ≡ ELEMENT
  pub inside : j < to_of t i
