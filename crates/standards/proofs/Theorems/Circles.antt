-- Links that lead to themselves: what the repairs leave of the smallest circles.
use Rattle.std.specs.Prelude.{◌≡◌, refl, [], ◌∷◌}
use Prim.Native.String.{String}
use Rattle.model.specs.EId
use Rattle.model.specs.AId
use Rattle.model.specs.Cases.{Piece, ascii, el, attr, read, computed}
use Rattle.standards.proofs.Theorems.CascadeCases.{valued}

-- A `clipPath` with an id of one letter, which is clipped by another of one letter.
abbrev pub clips : String → String → Piece
clips id url = el EId.ClipPath (attr AId.Id id ∷ attr AId.ClipPath url ∷ read 2 5 1 ∷ [])

-- A circle of one link: cut. A circle of two: the second link is cut. A circle of three stays as it is.
pub circles : (valued AId.ClipPath (clips "a" "url(#a)" ∷ []) ≡ ascii "none" ∷ [])
    × (valued AId.ClipPath (clips "a" "url(#b)" ∷ clips "b" "url(#a)" ∷ []) ≡ ascii "url(#b)" ∷ ascii "none" ∷ [])
    × (valued AId.ClipPath (clips "a" "url(#b)" ∷ clips "b" "url(#c)" ∷ clips "c" "url(#a)" ∷ [])
    ≡ ascii "url(#b)" ∷ ascii "url(#c)" ∷ ascii "url(#a)" ∷ [])
unfolding computed
circles = (refl, refl, refl)
