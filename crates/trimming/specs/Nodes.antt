-- The text nodes of a text element in the lent tables.
use Rattle.std.specs.Prelude.{ℕ, zero, suc, ◌+◌, ◌*◌, ◌≤◌, ◌<◌, List, ◌≡◌, eqb, ltb, length, Option, Some, unwrap_or}
use Rattle.model.specs.Base.{pick}
use Rattle.model.specs.Utf8.{is_blank}
use Rattle.model.specs.Tables.{Tree, TEXT, word, text_of, parent_of}
use Rattle.model.specs.Text as M
use Rattle.model.specs.Text.{TextNode, is_default, depth_below}
use Rattle.model.specs.Theorems.Kept.{Kept}
use Rattle.tree.specs.Lent.{read_of, ReadableIn}
use Rattle.edges.specs.declared.Pair.{Pair}
use Rattle.trimming.specs.declared.Turn.{Turn}
use Rattle.text.specs.Spaces.{space_at}
use Rattle.edges.specs.Pairs.{size_of}

-- Of the first n nodes, those behind e stand under it: their parents, indexes plus 1, are e or behind it, and before them.
pub record Below (ns : List ℕ) (e n : ℕ) : Type 0 where
  pub small : n ≤ 4294967295
  pub inside : 8 * n ≤ length ns
  pub under : (i : ℕ) → e < i → i < n → (e + 1 ≤ word ns i 1) × (word ns i 1 ≤ i)

-- The same, the nodes can be read, and the bounds of texts are in order within the text table.
pub record Fair (size : ℕ) (ns es bs : List ℕ) (e n : ℕ) : Type 0 where
  pub below : Below ns e n
  pub readable : (i : ℕ) → i < n → ReadableIn size (read_of ns es) i
  pub texts : (i : ℕ) → i < n → word ns i 0 ≡ TEXT → (word ns i 6 ≤ word ns i 7) × (word ns i 7 ≤ length bs)

-- A text node of e.
abbrev pub IsTextOf : List ℕ → ℕ → ℕ → ℕ → Type 0
IsTextOf ns e n i = (e < i) × ((i < n) × (word ns i 0 ≡ TEXT))

-- Text node i, as `collect_text_nodes` has it.
abbrev pub node_at : List ℕ → Tree → M.XmlSpace → ℕ → ℕ → TextNode
node_at chars t w e i = record { node = i; depth = depth_below t e i i; space = space_at chars t w i }

-- The first text node among the n nodes from i on; i + n where there is none.
unfoldable pub next_text : List ℕ → ℕ → ℕ → ℕ
next_text ns i zero = i
next_text ns i (suc n) = pick (eqb (word ns i 0) TEXT) (λ u. i) (λ u. next_text ns (i + 1) n)

-- The node that stands for a in a pair: an empty text gives way to the one that was kept, if there is one.
abbrev pub stands_by : List ℕ → ℕ → Option ℕ → ℕ
stands_by ns a kept = pick (eqb (size_of ns a) 0) (λ u. unwrap_or kept a) (λ u. a)

-- The pair of a turn.
abbrev pub pair_of : List ℕ → Tree → M.XmlSpace → ℕ → Turn → Pair
pair_of chars t w e k = record {
  node1 = stands_by t.nodes k.a k.kept;
  node2 = k.b;
  deeper = ltb (depth_below t e k.a k.a) (depth_below t e k.b k.b);
  first = k.first;
  last = k.last;
  default1 = is_default (space_at chars t w (stands_by t.nodes k.a k.kept));
  default2 = is_default (space_at chars t w k.b);
}

-- The last text that is not blank, behind a pair whose first text is node c.
abbrev pub kept_behind : Tree → ℕ → Option ℕ → Option ℕ
kept_behind t c kept = pick (is_blank (text_of t c)) (λ u. kept) (λ u. Some c)

-- What trimming a text element asks of the tables: what the 40 test says of them, and that the nodes behind the element stand under it.
pub record Trimmable (chars : List ℕ) (t : Tree) (e : ℕ) : Type 0 where
  pub kept : Kept (length chars) t
  pub small : t.node_count ≤ 4294967295
  pub inside : e < t.node_count
  pub under : (i : ℕ) → e < i → i < t.node_count → e + 1 ≤ parent_of t i
