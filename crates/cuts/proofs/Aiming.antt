-- What a pass aims at. Assumes nothing.
use mathlib.Core.Path.{◌≡◌, refl, ap, ◌∙◌}
use mathlib.Core.Bool.{true, false}
use mathlib.Core.List.{List}
use lib.Dec.{leb}
use Prim.Native.Nat.{ℕ, ◌+◌, ◌<◌}
use native.Mathlib.Omega.{arith}
use Rattle.model.specs.AId
use Rattle.model.specs.Tables.{Tree, entry_at, attribute_id, last_with_id, element_by_id}
use Rattle.model.specs.Repair.{element_id}
use Rattle.model.specs.Theorems.Kept.{Kept}
use Rattle.tree.specs.Lent.{read_of}
use Rattle.tree.proofs.Alike.{id_same, last-same}
use Rattle.tree.proofs.Facts.{readable}
use Rattle.leads.specs.Links.{KnownIn}
use Rattle.tree.proofs.Entries.{taken}
use Rattle.cuts.specs.Seen.{key_of}
use Rattle.cuts.proofs.Writing.{id-seen}

pub known_in : (size : ℕ) (t : Tree) → Kept size t → (i : ℕ) → i < t.node_count → KnownIn size (read_of t.nodes t.attributes) i
unfolding entry_at
known_in size t s i l = record {
  readable = readable size t s i l;
  entries = λ e j m. s.entries j (omega (arith, ((s.nodes i l).range e).1));
}

-- The search for an id, in the tables as they are lent.
pub last-seen : (chars : List ℕ) (t : Tree) (i : ℕ)
    → last_with_id chars (read_of t.nodes t.attributes) (element_id chars (read_of t.nodes t.attributes) i) t.node_count
    ≡ element_by_id chars t (element_id chars t i)
unfolding element_by_id
last-seen chars t i = last-same t chars _ t.node_count ∙ ap (λ (id : List ℕ). last_with_id chars t id t.node_count) (id-seen chars t i)

-- The mark of the links that lead to an element, by what was found.
module _ (chars : List ℕ) (t : Tree) (k i : ℕ) where
  -- The last element with its id, as the tables have it.
  abbrev found : ℕ
  found = last_with_id chars (read_of t.nodes t.attributes) (element_id chars (read_of t.nodes t.attributes) i) t.node_count

  module _ (h : leb k 2 ≡ false) where
    pub key-absent : 0 ≡ attribute_id (read_of t.nodes t.attributes) i AId.Id → 0 ≡ key_of chars k t i
    unfolding key_of
    key-absent e = rw (h, ← id_same t i AId.Id, ← e) refl

    pub key_here : (j : ℕ) → j + 1 ≡ attribute_id (read_of t.nodes t.attributes) i AId.Id → i + 2 ≡ key_of chars k t i
    unfolding key_of
    key_here j e = rw (h, ← id_same t i AId.Id, taken j e) refl

  module _ (h : leb k 2 ≡ true) where
    pub key-empty : 0 ≡ found → 1 ≡ key_of chars k t i
    unfolding key_of
    key-empty e = rw (h, ← last-seen chars t i, ← e) refl

    pub key-some : (w : ℕ) → w + 1 ≡ found → w + 2 ≡ key_of chars k t i
    unfolding key_of
    key-some w e = rw (h, ← last-seen chars t i, taken w e) (omega (arith, e))
