-- The tables (document 01, section 3): lists of words, read and written through the definitions of this file alone.
use Rattle.std.specs.Prelude.{ℕ, zero, suc, ◌+◌, ◌-◌, ◌*◌, ◌/◌, min, Bool, false, not, List, [], ◌∷◌, ◌++◌, eqb, length, get_or, set}
use Rattle.std.specs.Prelude.{replicate}
use Rattle.std.proofs.lemmas.List.Edits.{sets}
use Rattle.std.proofs.Math.Seq.{slice}
use Rattle.model.specs.Base.{pick, and, same_bytes}
use Rattle.model.specs.Names.{is_possible_none, fixed_bytes}
use Rattle.model.specs.AId

-- The three tables at their full length, and how many records, entries and bytes of them are taken.
pub record Tree : Type 0 where
  pub nodes : List ℕ
  pub attributes : List ℕ
  pub text : List ℕ
  pub node_count : ℕ
  pub attribute_count : ℕ
  pub text_count : ℕ

-- What a step of the build comes to: one number, or what it makes.
pub data Out (S : Type 0) : Type 0 where
  refused : ℕ → Out S
  done : S → Out S

-- The next step, where the one before was done.
abbrev pub then : {S T : Type 0} → Out S → (S → Out T) → Out T
then (refused k) f = refused k
then (done s) f = f s

-- NODES

-- The kinds of node: the root.
abbrev pub ROOT : ℕ
ROOT = 1

-- An element.
abbrev pub ELEMENT : ℕ
ELEMENT = 2

-- A text.
abbrev pub TEXT : ℕ
TEXT = 3

-- Word k of record i: 0 kind, 1 parent, 2 next sibling, 3 first child, 4 last child, 5 element code, 6 from, 7 to.
abbrev pub word : List ℕ → ℕ → ℕ → ℕ
word ns i k = get_or ns (8 * i + k) 0

-- The table with another word there.
abbrev pub set_word : List ℕ → ℕ → ℕ → ℕ → List ℕ
set_word ns i k v = set ns (8 * i + k) v

-- The kind of node i.
abbrev pub kind_of : Tree → ℕ → ℕ
kind_of t i = word t.nodes i 0

-- The parent of node i. Links are an index plus 1; 0 is none.
abbrev pub parent_of : Tree → ℕ → ℕ
parent_of t i = word t.nodes i 1

-- The next sibling, as its index plus 1; 0 for none.
abbrev pub next_sibling_of : Tree → ℕ → ℕ
next_sibling_of t i = word t.nodes i 2

-- The first child, as its index plus 1; 0 for none.
abbrev pub first_child_of : Tree → ℕ → ℕ
first_child_of t i = word t.nodes i 3

-- The last child, as its index plus 1; 0 for none.
abbrev pub last_child_of : Tree → ℕ → ℕ
last_child_of t i = word t.nodes i 4

-- The element code.
abbrev pub code_of : Tree → ℕ → ℕ
code_of t i = word t.nodes i 5

-- The first entry, or the first byte of a text.
abbrev pub from_of : Tree → ℕ → ℕ
from_of t i = word t.nodes i 6

-- Behind the last entry, or behind the last byte of a text.
abbrev pub to_of : Tree → ℕ → ℕ
to_of t i = word t.nodes i 7

-- `tag_name` is Some of that code.
abbrev pub is_named : Tree → ℕ → ℕ → Bool
is_named t c i = and (eqb (kind_of t i) ELEMENT) (eqb (code_of t i) c)

-- The node before the new node i gets it as its next sibling; j is that node's index plus 1, 0 where there is none.
unfoldable pub next_linked : List ℕ → ℕ → ℕ → List ℕ
next_linked ns j i = pick (eqb j 0) (λ u. ns) (λ u. set_word ns (j - 1) 2 (i + 1))

-- A parent with no child yet gets the new node i as its first.
unfoldable pub first_linked : List ℕ → ℕ → ℕ → List ℕ
first_linked ns p i = pick (eqb (word ns p 3) 0) (λ u. set_word ns p 3 (i + 1)) (λ u. ns)

-- `Document::append`: the three links to the new node i below p.
unfoldable pub linked : List ℕ → ℕ → ℕ → List ℕ
linked ns p i = set_word (first_linked (next_linked ns (word ns p 4) i) p i) p 4 (i + 1)

-- The record of the new node i, and the links to it.
unfoldable pub appended : ℕ → ℕ → ℕ → ℕ → List ℕ → ℕ → ℕ → List ℕ
appended kind code from to ns p i = linked (sets ns (8 * i) (kind ∷ (p + 1) ∷ 0 ∷ 0 ∷ 0 ∷ code ∷ from ∷ to ∷ [])) p i

-- ATTRIBUTES

-- An attribute record. A fixed value has command 0, its number as start, and size 0.
pub record Entry : Type 0 where
  pub name : ℕ
  pub important : ℕ
  pub start : ℕ
  pub size : ℕ
  pub command : ℕ

-- The fixed value numbered n under that name and importance.
abbrev pub fixed_entry : ℕ → ℕ → ℕ → Entry
fixed_entry a i n = record { name = a; important = i; start = n; size = 0; command = 0 }

-- The words of a record.
abbrev pub entry_words : Entry → List ℕ
entry_words e = e.name ∷ e.important ∷ e.start ∷ e.size ∷ e.command ∷ []

-- The words of records, one after another.
unfoldable pub entries_words : List Entry → List ℕ
entries_words [] = []
entries_words (e ∷ es) = entry_words e ++ entries_words es

-- Word k of entry j.
abbrev pub entry_word : Tree → ℕ → ℕ → ℕ
entry_word t j k = get_or t.attributes (5 * j + k) 0

-- Entry j.
unfoldable pub entry_at : Tree → ℕ → Entry
entry_at t j = record
    { name = entry_word t j 0; important = entry_word t j 1; start = entry_word t j 2; size = entry_word t j 3; command = entry_word t j 4 }

-- The bytes of a value.
unfoldable pub value_of : List ℕ → Entry → List ℕ
value_of chars e = pick (eqb e.command 0) (λ u. fixed_bytes e.start) (λ u. slice e.start (e.start + e.size) chars)

-- The first of the n entries from j on with that name, as its number plus 1; 0 for none.
unfoldable pub find_entry : Tree → ℕ → ℕ → ℕ → ℕ
find_entry t a j zero = 0
find_entry t a j (suc n) = pick (eqb (entry_word t j 0) a) (λ u. j + 1) (λ u. find_entry t a (j + 1) n)

-- `attribute_id`: the first attribute of that name in the range of node i, which only an element has; its number plus 1, 0 for none.
unfoldable pub attribute_id : Tree → ℕ → ℕ → ℕ
attribute_id t i a = pick (eqb (kind_of t i) ELEMENT) (λ u. find_entry t a (from_of t i) (to_of t i - from_of t i)) (λ u. 0)

-- `has_attribute`
abbrev pub has_attribute : Tree → ℕ → ℕ → Bool
has_attribute t i a = not (eqb (attribute_id t i a) 0)

-- The value of the entry whose number plus 1 is j; to be asked only where j is not 0.
abbrev pub value_at_entry : List ℕ → Tree → ℕ → List ℕ
value_at_entry chars t j = value_of chars (entry_at t (j - 1))

-- `attribute`: the entry that is read, as its number plus 1, 0 for none. For ten names the value none counts as absent.
unfoldable pub attribute_of : List ℕ → Tree → ℕ → ℕ → ℕ
attribute_of chars t i a =
    let j : ℕ = attribute_id t i a in
    pick (eqb j 0) (λ u. 0)
    (λ u. pick (and (is_possible_none a) (same_bytes (value_at_entry chars t j) (fixed_bytes 1))) (λ v. 0) (λ v. j))

-- The nearest node that has the attribute, from the one whose index plus 1 is w up, as its index plus 1; 0 for none, and where w is 0.
-- Parents have smaller indexes, so that w steps are enough.
unfoldable pub holder_from : Tree → ℕ → ℕ → ℕ → ℕ
holder_from t a zero w = 0
holder_from t a (suc n) w =
    pick (eqb w 0) (λ u. 0) (λ u. pick (has_attribute t (w - 1) a) (λ v. w) (λ v. holder_from t a n (parent_of t (w - 1))))

-- `ancestors().find(has_attribute)` from node i: its index plus 1, 0 for none.
abbrev pub holder_of : Tree → ℕ → ℕ → ℕ
holder_of t a i = holder_from t a (i + 1) (i + 1)

-- Is node i an element whose first id is this?
unfoldable pub has_id_bytes : List ℕ → Tree → List ℕ → ℕ → Bool
has_id_bytes chars t id i =
    let j : ℕ = attribute_id t i AId.Id in
    pick (eqb j 0) (λ u. false) (λ u. same_bytes (value_at_entry chars t j) id)

-- The last of the first n nodes with that id, as its index plus 1; 0 for none.
unfoldable pub last_with_id : List ℕ → Tree → List ℕ → ℕ → ℕ
last_with_id chars t id zero = 0
last_with_id chars t id (suc n) = pick (has_id_bytes chars t id n) (λ u. n + 1) (λ u. last_with_id chars t id n)

-- `element_by_id` over all counted nodes: the index plus 1, 0 for none.
unfoldable pub element_by_id : List ℕ → Tree → List ℕ → ℕ
element_by_id chars t id = last_with_id chars t id t.node_count

-- ROOM

-- Entries and bytes past this number are no room, nor are the words left over behind the last whole record.
abbrev pub most : ℕ
most = 4294967295

-- How many node records there is room for.
unfoldable pub node_room : Tree → ℕ
node_room t = min (length t.nodes / 8) most

-- How many attribute entries there is room for.
unfoldable pub attribute_room : Tree → ℕ
attribute_room t = min (length t.attributes / 5) most

-- How many text bytes there is room for.
unfoldable pub text_room : Tree → ℕ
text_room t = min (length t.text) most

-- Tables of these lengths, cleared.
unfoldable pub cleared : ℕ → ℕ → ℕ → Tree
cleared n m b = record {
  nodes = replicate n 0;
  attributes = replicate m 0;
  text = replicate b 0;
  node_count = 0;
  attribute_count = 0;
  text_count = 0;
}

-- The same with the root in them.
unfoldable pub rooted : Tree → Tree
rooted t = record {
  nodes = set_word t.nodes 0 0 ROOT;
  attributes = t.attributes;
  text = t.text;
  node_count = 1;
  attribute_count = 0;
  text_count = 0;
}

-- A new element below p, with these entries.
unfoldable pub add_element : ℕ → List Entry → ℕ → Tree → Tree
add_element code es p t = record {
  nodes = appended ELEMENT code t.attribute_count (t.attribute_count + length es) t.nodes p t.node_count;
  attributes = sets t.attributes (5 * t.attribute_count) (entries_words es);
  text = t.text;
  node_count = t.node_count + 1;
  attribute_count = t.attribute_count + length es;
  text_count = t.text_count;
}

-- A new text node below p, with its bytes at the beginning of a place of that size.
unfoldable pub add_text : List ℕ → ℕ → ℕ → Tree → Tree
add_text bs size p t = record {
  nodes = appended TEXT 0 t.text_count (t.text_count + length bs) t.nodes p t.node_count;
  attributes = t.attributes;
  text = sets t.text t.text_count bs;
  node_count = t.node_count + 1;
  attribute_count = t.attribute_count;
  text_count = t.text_count + size;
}

-- The text of a text node.
unfoldable pub text_of : Tree → ℕ → List ℕ
text_of t i = slice (from_of t i) (to_of t i) t.text

-- Other bounds for the text of node i; the bytes that it gives up in front and at its end become zero.
unfoldable pub set_text : ℕ → ℕ → ℕ → Tree → Tree
set_text i from to t = record {
  nodes = set_word (set_word t.nodes i 6 from) i 7 to;
  attributes = t.attributes;
  text = sets (sets t.text (from_of t i) (replicate (from - from_of t i) 0)) to (replicate (to_of t i - to) 0);
  node_count = t.node_count;
  attribute_count = t.attribute_count;
  text_count = t.text_count;
}

-- The value of entry j becomes fixed value 1; name and importance are kept.
unfoldable pub set_none : ℕ → Tree → Tree
set_none j t = record {
  nodes = t.nodes;
  attributes = sets t.attributes (5 * j + 2) (1 ∷ 0 ∷ 0 ∷ []);
  text = t.text;
  node_count = t.node_count;
  attribute_count = t.attribute_count;
  text_count = t.text_count;
}
