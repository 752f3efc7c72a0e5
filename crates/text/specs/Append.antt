-- Appending a text node: what it asks of the tables, and the model's append with the space given.
use Rattle.std.specs.Prelude.{ℕ, ◌+◌, ◌≤◌, ◌<◌, List, leb, ltb}
use Rattle.model.specs.Base.{pick}
use Rattle.model.specs.Drawing as model
use Rattle.model.specs.Tables.{Tree, Out, refused, done, word, node_room, text_room, add_text}
use Rattle.model.specs.Text.{XmlSpace, trim_text, total_size, joined}
use Rattle.text.specs.declared.Source.{Source}

-- The parent stands in the tables, its last child too, and no more bytes are taken than there is room for.
pub record Appendable (t : Tree) (p : ℕ) : Type 0 where
  pub room : t.text_count ≤ text_room t
  pub parent : p < t.node_count
  pub last : word t.nodes p 4 ≤ t.node_count

-- A text of the script.
abbrev pub source_of : Source → model.Source
source_of s = record { number = s.number; start = s.start; size = s.size }

-- `append_text` where the space is given that is handed down to the parent.
unfoldable pub append_in : XmlSpace → List ℕ → List model.Source → ℕ → Tree → Out Tree
append_in w chars from p t =
    pick (leb (t.text_count + total_size from) (text_room t))
    (λ u. pick (ltb t.node_count (node_room t))
    (λ v. done (add_text (trim_text w (joined chars from)) (total_size from) p t)) (λ v. refused 22))
    (λ u. refused 24)
