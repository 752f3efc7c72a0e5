-- Several text nodes: the smallest drawings in which the edges are not SVG 1.1's. Each is a whole drawing, built, beside the standard's
-- text.
use Rattle.std.specs.Prelude.{ℕ, ◌≡◌, refl, List, [], ◌∷◌}
use Rattle.model.specs.EId
use Rattle.model.specs.AId
use Rattle.model.specs.Cases.{Piece, ascii, texts, seen, given-room, svg, el, attr_in, say, computed}
use Rattle.standards.specs.SvgSpace.{without, convert, no_leading, no_trailing, consolidated, as_default, as_preserve}

-- The texts of the text nodes of a drawing with one text element of this content.
abbrev pub shown : List Piece → List (List ℕ)
shown ps = seen texts (given-room (svg (el EId.Text ps ∷ [])))

-- xml:space
abbrev pub space : Piece
space = attr_in 3 AId.Space "preserve"

-- A space between two words is lost where the second word's element begins with it: <text>a<tspan> b</tspan></text> gives "a" and "b",
-- so "ab"; the standard's text of the whole is "a b".
pub gap-lost : (shown (say "a" ∷ el EId.Tspan (say " b" ∷ []) ∷ []) ≡ ascii "a" ∷ ascii "b" ∷ []) × (as_default (ascii "a b") ≡ ascii "a b")
unfolding computed without convert no_leading no_trailing consolidated as_default
gap-lost = (refl, refl)

-- A trailing space stays where a leading one went in the same step: <text> <tspan>b </tspan></text> gives "" and "b "; the standard's is
-- "b". So it is with " a" and "b ", which give "a" and "b ".
pub trailing-stays : (shown (say " " ∷ el EId.Tspan (say "b " ∷ []) ∷ []) ≡ ascii "" ∷ ascii "b " ∷ [])
    × (as_default (ascii " b ") ≡ ascii "b")
    × (shown (say " a" ∷ el EId.Tspan (say "b " ∷ []) ∷ []) ≡ ascii "a" ∷ ascii "b " ∷ []) × (as_default (ascii " ab ") ≡ ascii "ab")
unfolding computed without convert no_leading no_trailing consolidated as_default
trailing-stays = (refl, refl, refl, refl)

-- A leading space stays where the first text was nothing but a space: <text><tspan> </tspan> b</text> gives "" and " b"; the standard's
-- is "b".
pub leading-stays : (shown (el EId.Tspan (say " " ∷ []) ∷ say " b" ∷ []) ≡ ascii "" ∷ ascii " b" ∷ [])
    × (as_default (ascii "  b") ≡ ascii "b")
unfolding computed without convert no_leading no_trailing consolidated as_default
leading-stays = (refl, refl)

-- Preserve is not kept where the element that ends has the space default: of <text><tspan xml:space="preserve"> a</tspan></text> the text
-- becomes "a"; under preserve the standard keeps " a".
pub preserve-cut : (shown (el EId.Tspan (space ∷ say " a" ∷ []) ∷ []) ≡ ascii "a" ∷ []) × (as_preserve (ascii " a") ≡ ascii " a")
unfolding computed convert as_preserve
preserve-cut = (refl, refl)

-- The last test asks for no space at all: <text xml:space="preserve">a <tspan xml:space="default"> </tspan></text> gives "a" and "";
-- the standard keeps the space of "a ", which stands under preserve.
pub preserve-end-cut :
    (shown (space ∷ say "a " ∷ el EId.Tspan (attr_in 3 AId.Space "default" ∷ say " " ∷ []) ∷ []) ≡ ascii "a" ∷ ascii "" ∷ [])
    × (as_preserve (ascii "a ") ≡ ascii "a ")
unfolding computed convert as_preserve
preserve-end-cut = (refl, refl)

-- Where it agrees: <text>a <tspan>b</tspan></text> and <text> a <tspan>b</tspan> c </text>, the usual ways to write it.
pub edges-agree : (shown (say "a " ∷ el EId.Tspan (say "b" ∷ []) ∷ []) ≡ ascii "a " ∷ ascii "b" ∷ [])
    × (shown (say " a " ∷ el EId.Tspan (say "b" ∷ []) ∷ say " c " ∷ []) ≡ ascii "a " ∷ ascii "b" ∷ ascii " c" ∷ [])
unfolding computed
edges-agree = (refl, refl)
