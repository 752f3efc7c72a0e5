-- What a text node is made from: the build with notes. That it is the plain build when the notes are forgotten is in proofs/Noted.antt.
use Rattle.std.specs.Prelude.{ℕ, ◌≡◌, ◌⊎◌}
use mathlib.Core.List.{List, [], ◌∷◌, map}
use Rattle.model.specs.Drawing.{Source, Event, events}
use Rattle.model.specs.Tables.{Tree, Out, refused, done, then, cleared}
use Rattle.model.specs.Text.{total_size}
use Rattle.model.specs.Parse.{Ops, plain}
use Rattle.model.specs.Build.{with_root, tested, parsed}

-- A text node: the text element that it stands in, where its place in the text table begins, and the texts that it is made from.
pub record Note : Type 0 where
  pub node : ℕ
  pub elem : ℕ
  pub start : ℕ
  pub texts : List Source

-- Its place has as many bytes as these texts have together.
abbrev pub size : Note → ℕ
size n = total_size n.texts

-- The numbers of the texts.
abbrev pub sources : Note → List ℕ
sources n = map (λ a. a.number) n.texts

-- A tree with the notes of its text nodes, the newest first.
pub record Noted : Type 0 where
  pub tree : Tree
  pub notes : List Note

-- The note is one of these.
abbrev pub In : Note → List Note → Type 0
In n [] = ⊥
In n (m ∷ ms) = (n ≡ m) ⊎ In n ms

-- The note of the text node i made from these texts in the text element e, with its place from byte j on.
abbrev pub note_of : ℕ → List Source → ℕ → ℕ → Note
note_of e from i j = record { node = i; elem = e; start = j; texts = from }

-- A step of the plain build, with these notes beside what it makes.
abbrev pub with_notes : List Note → Out Tree → Out Noted
with_notes ns o = then o (λ t. done (record { tree = t; notes = ns }))

-- The same operations, noting each text node.
abbrev pub noting : Ops Tree → Ops Noted
noting o = record {
  element = λ e c i p s. with_notes s.notes (o.element e c i p s.tree);
  text = λ e from p s. with_notes (note_of e from s.tree.node_count s.tree.text_count ∷ s.notes) (o.text e from p s.tree);
  finish = λ e s. record { tree = o.finish e s.tree; notes = s.notes };
  count = λ s. o.count s.tree;
  parent = λ i s. o.parent i s.tree;
}

-- The nodes of the top level, built with notes.
unfoldable pub noted_parsed : Ops Tree → List Event → Tree → Out Noted
noted_parsed o all t = parsed (noting o) all (record { tree = t; notes = [] })

-- THE WHOLE BUILD WITH NOTES

-- The tree before repairs, with its notes. The repairs change no text.
unfoldable pub noted_tree : Ops Tree → List Event → Tree → Out Noted
noted_tree o all t = then (with_root t) (λ r. then (noted_parsed o all r) (λ s. with_notes s.notes (tested s.tree)))

-- The notes of a build, none where it is refused.
unfoldable pub notes_of : Out Noted → List Note
notes_of (refused k) = []
notes_of (done s) = s.notes

-- The notes of a drawing's build with tables of these lengths.
unfoldable pub notes : List ℕ → List ℕ → ℕ → ℕ → ℕ → List Note
notes script chars n m b = notes_of (noted_tree (plain chars) (events script chars) (cleared n m b))

-- Forgetting them.
unfoldable pub stripped : Out Noted → Out Tree
stripped (refused k) = refused k
stripped (done s) = done s.tree
