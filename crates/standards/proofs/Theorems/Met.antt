-- The hypotheses of `alone-is-standard` are met: two drawings, and the theorem put to use.
use Rattle.std.specs.Prelude.{ℕ, ◌-◌, ◌≡◌, refl, List, [], ◌∷◌}
use Rattle.std.proofs.Common.{ap, inl, inr}
use Rattle.model.specs.EId
use Rattle.model.specs.AId
use Rattle.model.specs.Tables.{Tree, parent_of, text_of}
use Rattle.model.specs.Text.{XmlSpace, default, preserve, space_of, joined}
use Rattle.model.specs.Build.{build}
use Rattle.model.specs.Noted
use Rattle.model.specs.Noted.{Note, note_of, notes}
use Rattle.model.specs.Cases.{Piece, ascii, svg, el, attr_in, say, computed}
use Rattle.standards.proofs.Theorems.EveryText.{standard_text, Alone, alone-is-standard}

-- <text> a </text>, and <text xml:space="preserve"><tspan> a </tspan></text>.
unfoldable pub spaced_text : Piece
spaced_text = svg (el EId.Text (say " a " ∷ []) ∷ [])

-- The second.
unfoldable pub preserved_text : Piece
preserved_text = svg (el EId.Text (attr_in 3 AId.Space "preserve" ∷ el EId.Tspan (say " a " ∷ []) ∷ []) ∷ [])

-- The tree of a drawing.
abbrev pub tree_of : Piece → Tree
tree_of d = (build d.script d.chars 96 60 24).tree

-- The notes of its build.
abbrev pub notes_of_build : Piece → List Note
notes_of_build d = notes d.script d.chars 96 60 24

-- All hypotheses for the node i in the text element e, with its one source and the xml:space w.
pub record IsMet (d : Piece) (e i start size : ℕ) (w : XmlSpace) : Type 0 where
  pub built : (build d.script d.chars 96 60 24).number ≡ 0
  pub alone : notes_of_build d ≡ note_of e (record { number = 1; start = start; size = size } ∷ []) i 0 ∷ []
  pub parent : space_of d.chars (tree_of d) (parent_of (tree_of d) i - 1) ≡ w
  pub element : space_of d.chars (tree_of d) e ≡ w

-- The first has its text in node 3, in the element 2; the second in node 4, with its bytes behind those of `preserve`.
pub met : IsMet spaced_text 2 3 0 3 default × IsMet preserved_text 2 4 8 3 preserve
unfolding computed spaced_text preserved_text Noted.noted_parsed Noted.noted_tree Noted.notes_of Noted.notes
met = (
  record { built = refl; alone = refl; parent = refl; element = refl },
  record { built = refl; alone = refl; parent = refl; element = refl },
)

-- So the theorem gives the text.
put-to-use : (d : Piece) (e i start size : ℕ) (w : XmlSpace) → IsMet d e i start size w →
    text_of (tree_of d) i ≡ standard_text w (joined d.chars (record { number = 1; start = start; size = size } ∷ []))
put-to-use d e i start size w h =
    alone-is-standard d.script d.chars 96 60 24 h.built note (rw h.alone (inl refl)) (rw h.alone only) w h.parent
    h.element
  where
    note : Note
    note = note_of e (record { number = 1; start = start; size = size } ∷ []) i 0

    only : Alone note (note ∷ [])
    only m (inl q) s = ap (λ (n : Note). n.node) q
    only m (inr q) s = absurd q

-- "a", and " a ".
pub met-texts : (text_of (tree_of spaced_text) 3 ≡ ascii "a") × (text_of (tree_of preserved_text) 4 ≡ ascii " a ")
unfolding computed spaced_text preserved_text Rattle.standards.specs.SvgSpace.as_default Rattle.standards.specs.SvgSpace.as_preserve
    Rattle.standards.specs.SvgSpace.convert Rattle.standards.specs.SvgSpace.without
    Rattle.standards.specs.SvgSpace.no_leading
    Rattle.standards.specs.SvgSpace.no_trailing Rattle.standards.specs.SvgSpace.consolidated
met-texts = (put-to-use spaced_text 2 3 0 3 default met.0, put-to-use preserved_text 2 4 8 3 preserve met.1)
