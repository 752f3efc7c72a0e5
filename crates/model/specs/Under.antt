-- Which node stands under which, by the parents in the tables.
use Rattle.std.specs.Prelude.{ℕ, ◌+◌, ◌<◌, ◌≡◌, List}
use Rattle.model.specs.EId
use Rattle.model.specs.Tables.{word, code_of, kind_of, ELEMENT, Tree}

-- Node e is a text element.
abbrev pub IsTextElement : Tree → ℕ → Type 0
IsTextElement t e = (kind_of t e ≡ ELEMENT) × (code_of t e ≡ EId.Text)

-- Node i is node e, or its parent stands under e.
pub data Under (ns : List ℕ) (e : ℕ) : ℕ → Type 0 where
  here : Under ns e e
  up : (i p : ℕ) → word ns i 1 ≡ p + 1 → p < i → Under ns e p → Under ns e i
