-- The text nodes of a text element, pair by pair, over the lent tables.
use Rattle.std.specs.Prelude.{ℕ, ◌+◌, ◌-◌, ◌*◌, ◌≤◌, ◌<◌, Bool, not, List, eqb, length}
use Rattle.model.specs.Base.{pick, and}
use Rattle.model.specs.Tables.{Tree, word, from_of, to_of, text_of}
use Rattle.model.specs.Text.{begins_with_space, ends_with_space, is_empty, cut_text}
use Rattle.edges.specs.declared.Pair.{Pair}
use Rattle.edges.specs.declared.Edges.{Edges}

-- Node i stands in the table, and its bounds are in order.
pub record Ordered (ns : List ℕ) (i : ℕ) : Type 0 where
  pub inside : 8 * i + 7 < length ns
  pub order : word ns i 6 ≤ word ns i 7

-- The same, and its text lies within the text table.
pub record Ranged (t : Tree) (i : ℕ) : Type 0 where
  pub ordered : Ordered t.nodes i
  pub within : to_of t i ≤ length t.text

-- The same, and there is a byte.
pub record Filled (t : Tree) (i : ℕ) : Type 0 where
  pub ranged : Ranged t i
  pub some : from_of t i < to_of t i

-- How many bytes its text has.
abbrev pub size_of : List ℕ → ℕ → ℕ
size_of ns i = word ns i 7 - word ns i 6

-- A SINGLE TEXT, AND A PAIR: the tree behind each step of the model's program.

-- A cut where a test passed.
abbrev pub cut_if : Bool → ℕ → ℕ → ℕ → Tree → Tree
cut_if passed i f b t = pick passed (λ u. cut_text i f b t) (λ u. t)

-- Behind `single`.
unfoldable pub after_single : ℕ → Tree → Tree
after_single i t =
    pick (eqb (length (text_of t i)) 1) (λ u. cut_if (begins_with_space (text_of t i)) i 0 1 t)
    (λ u. cut_if (ends_with_space (text_of t i)) i 0 1 (cut_if (begins_with_space (text_of t i)) i 1 0 t))

-- Which edges of the texts of a and b have a space.
abbrev pub edges_of : Tree → ℕ → ℕ → Edges
edges_of t a b = record {
  c1 = begins_with_space (text_of t a);
  c2 = ends_with_space (text_of t a);
  c3 = begins_with_space (text_of t b);
  c4 = ends_with_space (text_of t b);
}

-- Behind `between`.
unfoldable pub after_between : Pair → Edges → Tree → Tree
after_between p c t =
    pick p.deeper (λ u. cut_if (and c.c3 p.default2) p.node2 1 0 t)
    (λ u. pick (and (and c.c2 c.c3) p.default2)
    (λ v. pick p.default1 (λ w. cut_text p.node1 0 1 t) (λ w. cut_text p.node2 1 0 t)) (λ v. t))

-- Behind `outer_spaces`.
unfoldable pub after_outer : Pair → Edges → Tree → Tree
after_outer p c t =
    pick (and (and p.first c.c1) (and p.default1 (not (is_empty (text_of t p.node1)))))
    (λ u. cut_text p.node1 1 0 t)
    (λ u. cut_if (and (and p.last c.c4) (and (not (is_empty (text_of t p.node2))) p.default2)) p.node2 0 1 t)

-- Behind `last_edge`.
unfoldable pub after_last : Pair → Edges → Tree → Tree
after_last p c t =
    cut_if (and (and p.last c.c2) (and (is_empty (text_of t p.node2)) (ends_with_space (text_of t p.node1)))) p.node1 0 1 t

-- Behind `pair`.
unfoldable pub after_pair : Pair → Tree → Tree
after_pair p t =
    let c : Edges = edges_of t p.node1 p.node2 in
    after_last p c (after_outer p c (after_between p c t))
