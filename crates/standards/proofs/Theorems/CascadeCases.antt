-- CSS Cascade: the smallest drawings in which the tree has another value than the cascade's winner.
use Rattle.std.specs.Prelude.{ℕ, ◌≡◌, refl, true, false, List, [], ◌∷◌}
use Rattle.std.proofs.Math.Option.{some}
use Rattle.model.specs.EId
use Rattle.model.specs.AId
use Rattle.model.specs.Build.{build}
use Rattle.model.specs.Cases.{Piece, ascii, values, seen, given-room, svg, el, attr, decl, read, computed}
use Rattle.standards.specs.CssCascade.{last_of, those, winner}

-- The values of a name in the elements that have it, in the build of a drawing with this content of its `svg`.
abbrev pub valued : ℕ → List Piece → List (List ℕ)
valued a ps = seen (values a) (given-room (svg ps))

-- Two important declarations: fill red !important, then fill blue !important. The tree has red, the cascade's winner is blue.
pub later-important : (valued AId.Fill (decl AId.Fill 1 "red" ∷ decl AId.Fill 1 "blue" ∷ []) ≡ ascii "red" ∷ [])
    × (winner (λ x. true) (ascii "red" ∷ ascii "blue" ∷ []) ≡ some (ascii "blue"))
unfolding computed last_of those winner
later-important = (refl, refl)

-- Importance comes along with `inherit`: under an element whose fill is red !important, fill="inherit" and then fill blue leave red. For
-- the cascade neither of the two is important, and the winner is blue.
pub importance-carried :
    (valued AId.Fill (decl AId.Fill 1 "red" ∷ el EId.G (attr AId.Fill "inherit" ∷ decl AId.Fill 0 "blue" ∷ []) ∷ [])
    ≡ ascii "red" ∷ ascii "red" ∷ [])
    × (winner (λ x. false) (ascii "inherit" ∷ ascii "blue" ∷ []) ≡ some (ascii "blue"))
unfolding computed last_of those winner
importance-carried = (refl, refl)

-- A dropped `inherit` leaves the value before it: color="red", then color inherit with none above. The tree has red; the cascade's winner
-- is `inherit`, which at the top is the initial value.
pub dropped-leaves : (valued AId.Color (attr AId.Color "red" ∷ decl AId.Color 0 "inherit" ∷ []) ≡ ascii "red" ∷ [])
    × (winner (λ x. false) (ascii "red" ∷ ascii "inherit" ∷ []) ≡ some (ascii "inherit"))
unfolding computed last_of those winner
dropped-leaves = (refl, refl)

-- The same with room for twenty attributes: a font declaration sets fourteen.
abbrev pub valued_more : ℕ → List Piece → List (List ℕ)
valued_more a ps = let d : Piece = svg ps in seen (values a) (build d.script d.chars 96 100 24)

-- An important font declaration loses what it says of weight: font bold 9px a !important leaves the reset value normal, and without
-- !important it is bold, as CSS says of both.
pub font-important : (valued_more AId.FontWeight (decl AId.Font 1 "bold 9px a" ∷ read 6 0 4 ∷ read 9 5 3 ∷ read 10 9 1 ∷ [])
    ≡ ascii "normal" ∷ [])
    × (valued_more AId.FontWeight (decl AId.Font 0 "bold 9px a" ∷ read 6 0 4 ∷ read 9 5 3 ∷ read 10 9 1 ∷ []) ≡ ascii "bold" ∷ [])
unfolding computed
font-important = (refl, refl)
