-- Which elements are read inside a text element, by the codes of their names: `is_text_content` and `text_tag_of`.
use Rattle.std.specs.Prelude.{ℕ, Bool, [], ◌∷◌, eqb, leb}
use Rattle.model.specs.Base.{pick, and, or, among}
use Rattle.model.specs.EId
use Rattle.model.specs.Names.{is_element}

abbrev pub is_content_name : ℕ → Bool → Bool
is_content_name code direct = or (among code (EId.A ∷ EId.Tspan ∷ EId.Tref ∷ [])) (and direct (eqb code EId.TextPath))

-- The element with that code and namespace.
abbrev pub is_content : ℕ → ℕ → Bool → Bool
is_content code space direct = and (and (leb space 1) (is_element code)) (is_content_name code direct)

-- Its name in the tree.
abbrev pub tag_in : ℕ → ℕ
tag_in code = pick (among code (EId.A ∷ EId.Tref ∷ [])) (λ u. EId.Tspan) (λ u. code)
