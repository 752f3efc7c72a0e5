-- DEMAND 3: any text outside `style` of a drawing that was built may be exchanged for any valid characters of equal length.
-- The statement is the record `Demand3` at the end; it is proved for every `Exchangeable` as `demand3` in proofs/Theorems/Whole.antt.
use Rattle.std.specs.Prelude.{ℕ, zero, suc, ◌+◌, ◌<◌, ◌≤◌, ◌≡◌, true, false, List, [], ◌∷◌, ◌++◌, map, length, take, drop, eqb}
use Rattle.std.proofs.Math.Option.{some}
use Rattle.model.specs.Base.{pick, among}
use Rattle.model.specs.Utf8.{is_utf8}
use Rattle.model.specs.Drawing.{Source, events, text_numbered, is_in_style}
use Rattle.model.specs.Check.{check}
use Rattle.model.specs.Tables.{Tree, TEXT, word, kind_of, from_of, to_of, entry_at, value_of, text_of}
use Rattle.model.specs.Build.{build, exchanged, exchange}
use Rattle.model.specs.Noted.{Note, size, sources, In, notes}
use Rattle.model.specs.Under.{Under, IsTextElement}

-- WHAT A TEXT NODE IS MADE FROM

-- The places of the notes, the newest first, tile the text table up to c: the oldest begins at 0, each next where the one before ends,
-- and the newest ends at c.
abbrev pub Tiles : List Note → ℕ → Type 0
Tiles [] c = c ≡ 0
Tiles (n ∷ ns) c = (n.start + size n ≡ c) × Tiles ns n.start

-- The text nodes among the first n nodes, the last of them first.
unfoldable pub text_nodes_down : Tree → ℕ → List ℕ
text_nodes_down t zero = []
text_nodes_down t (suc n) = pick (eqb (kind_of t n) TEXT) (λ u. n ∷ text_nodes_down t n) (λ u. text_nodes_down t n)

-- Notes that say of each text node of a tree what it is made from, and nothing more.
pub record Pinned (ns : List Note) (s : Tree) : Type 0 where
  -- Every text node has exactly one note, and every note is of a text node.
  pub each : map (λ n. n.node) ns ≡ text_nodes_down s s.node_count
  -- The node of a note stands under its text element.
  pub under : (x : Note) → In x ns → (x.elem < s.node_count) × IsTextElement s x.elem × Under s.nodes x.elem x.node
  -- The places of the notes, each as long as the texts that it names have together, tile the text table.
  pub tiles : Tiles ns s.text_count
  -- The text of a node lies within its place.
  pub within : (x : Note) → In x ns →
      (x.start ≤ from_of s x.node) × (from_of s x.node ≤ to_of s x.node) × (to_of s x.node ≤ x.start + size x)

-- WHAT A TEXT ELEMENT HOLDS OR QUOTES

-- Text node i is made from text t: from that text alone or, by a tref, from it among others.
abbrev pub MadeFrom : List Note → ℕ → ℕ → Type 0
MadeFrom ns t i = (x : Note) × In x ns × (x.node ≡ i) × (among t (sources x) ≡ true)

-- The text element e of the tree holds or quotes text t: a text node under it is made from t.
abbrev pub HoldsOrQuotes : List Note → Tree → ℕ → ℕ → Type 0
HoldsOrQuotes ns s t e = (j : ℕ) × (j < s.node_count) × (kind_of s j ≡ TEXT) × Under s.nodes e j × MadeFrom ns t j

-- Node i stands under no text element that holds or quotes text t.
abbrev pub Spared : List Note → Tree → ℕ → ℕ → Type 0
Spared ns s t i = (e : ℕ) → e < s.node_count → IsTextElement s e → Under s.nodes e i → HoldsOrQuotes ns s t e → ⊥

-- WHAT TWO BUILDS SHARE

-- The tree s, by the characters one, and the tree r, by the characters two, are alike but for what may change with text t.
pub record Alike (t : ℕ) (ns : List Note) (one two : List ℕ) (s r : Tree) : Type 0 where
  -- Every count is equal.
  pub node_count : s.node_count ≡ r.node_count
  pub attribute_count : s.attribute_count ≡ r.attribute_count
  pub text_count : s.text_count ≡ r.text_count
  -- The tables have equal lengths.
  pub nodes_length : length s.nodes ≡ length r.nodes
  pub text_length : length s.text ≡ length r.text
  -- Every word of every node record is equal, save from and to of text nodes.
  pub words : (i k : ℕ) → k < 8 → (kind_of s i ≡ TEXT → k < 6) → word s.nodes i k ≡ word r.nodes i k
  -- Every attribute word is equal, and so are the bytes of every attribute value.
  pub attributes : s.attributes ≡ r.attributes
  pub values : (j : ℕ) → value_of one (entry_at s j) ≡ value_of two (entry_at r j)
  -- For every text node that stands under no text element which holds or quotes t: from, to and the bytes between are equal.
  pub texts : (i : ℕ) → i < s.node_count → kind_of s i ≡ TEXT → Spared ns s t i →
      (from_of s i ≡ from_of r i) × (to_of s i ≡ to_of r i) × (text_of s i ≡ text_of r i)
  -- What every text node is made from is noted, neither less nor more than it is.
  pub pinned : Pinned ns s

-- THE STATEMENT

-- A drawing that was built, one of its texts outside `style`, and new bytes for it.
pub record Exchangeable (script chars : List ℕ) (n m b t : ℕ) (a : Source) (new : List ℕ) : Type 0 where
  -- build gives 0 with tables of n and m words and b bytes.
  pub built : (build script chars n m b).number ≡ 0
  -- t is the number of a text, and a says where it stands.
  pub text : text_numbered t (events script chars) ≡ some a
  -- It stands outside any element named style.
  pub outside : is_in_style t zero (events script chars) ≡ false
  -- The new bytes are UTF-8 of the text's length.
  pub size : length new ≡ a.size
  pub utf8 : is_utf8 new ≡ true

-- What demand 3 says of it.
pub record Demand3 (script chars : List ℕ) (n m b t : ℕ) (a : Source) (new : List ℕ) : Type 0 where
  -- The exchange is accepted, whatever the tables held: all that it gives and leaves (number, counts, characters, three tables) is,
  -- word for word, what build gives on the changed drawing with tables of the same lengths, and that is 0.
  pub accepted : (ns ats ts : List ℕ) → length ns ≡ n → length ats ≡ m → length ts ≡ b →
      exchange script chars t new ns ats ts ≡ build script (exchanged a new chars) n m b
  pub number : (build script (exchanged a new chars) n m b).number ≡ 0
  -- The characters are the old ones with that text's bytes replaced, and no other byte changed.
  pub characters : (build script (exchanged a new chars) n m b).characters ≡ take a.start chars ++ new ++ drop (a.start + a.size) chars
  -- check takes the changed drawing, and it has the same nodes, attributes and readings as before, at the same places; so text t
  -- still stands at a.
  pub checked : check script (exchanged a new chars) ≡ 0
  pub same_events : events script (exchanged a new chars) ≡ events script chars
  -- Every text node is made from the same texts as before.
  pub same_notes : notes script (exchanged a new chars) n m b ≡ notes script chars n m b
  -- Each text that a note names is a text of the drawing, of the size that it has there: so that the sizes of the places say how many
  -- texts a node is made from.
  pub real : (x : Note) → In x (notes script chars n m b) →
      map (λ (c : Source). text_numbered c.number (events script chars)) x.texts ≡ map some x.texts
  -- The tree equals the earlier build's, but for the texts under text elements that hold or quote t.
  pub alike : Alike t (notes script chars n m b) chars (exchanged a new chars) (build script chars n m b).tree
      (build script (exchanged a new chars) n m b).tree
