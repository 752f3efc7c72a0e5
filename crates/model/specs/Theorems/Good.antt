-- What holds of the tables and the notes of a build at all times. The proofs are in proofs/Theorems/Good.antt.
use Rattle.std.specs.Prelude.{ℕ, ◌+◌, ◌≤◌, ◌<◌, ◌≡◌, List, [], ◌∷◌, map}
use Rattle.model.specs.Tables.{Tree, TEXT, kind_of, from_of, to_of}
use Rattle.model.specs.Noted.{Note, size, In}
use Rattle.model.specs.Demand3.{Tiles, text_nodes_down}
use Rattle.model.specs.Theorems.Kept.{Tidy}
use Rattle.model.specs.Under.{Under, IsTextElement}

-- The node of a note is a text node, and its text lies within its place.
pub record Fits (n : Note) (t : Tree) : Type 0 where
  pub kind : kind_of t n.node ≡ TEXT
  pub low : n.start ≤ from_of t n.node
  pub mid : from_of t n.node ≤ to_of t n.node
  pub high : to_of t n.node ≤ n.start + size n

-- The newest note first: each stands behind those before it.
abbrev pub Apart : List Note → Type 0
Apart [] = Unit {0}
Apart (n ∷ ns) = ((m : Note) → In m ns → (m.node < n.node) × (m.start + size m ≤ n.start)) × Apart ns

-- `size` is the number of the characters.
pub record Good (size' : ℕ) (ns : List Note) (t : Tree) : Type 0 where
  pub tidy : Tidy size' t
  pub tiles : Tiles ns t.text_count
  pub each : map (λ n. n.node) ns ≡ text_nodes_down t t.node_count
  pub fits : (n : Note) → In n ns → Fits n t
  pub below : (n : Note) → In n ns → (n.node < t.node_count) × (n.start + size n ≤ t.text_count)
  pub apart : Apart ns
  pub placed : (n : Note) → In n ns → (n.elem < t.node_count) × IsTextElement t n.elem × Under t.nodes n.elem n.node
  pub noted : (i : ℕ) → i < t.node_count → kind_of t i ≡ TEXT → (n : Note) × In n ns × (n.node ≡ i)
