-- href: the smallest drawings in which another element is followed than SVG 2 says.
use Rattle.std.specs.Prelude.{◌≡◌, refl, [], ◌∷◌}
use Rattle.model.specs.EId
use Rattle.model.specs.AId
use Rattle.model.specs.Cases.{ascii, texts, names, values, seen, given-room, svg, el, attr, attr_in, read, say, computed}

-- tref with both: <tref xlink:href="#a" href="#b"/> quotes the element a; by SVG 2's rule it would be b.
pub tref-both : seen texts (given-room (svg (el EId.Text
    (el EId.Tref (attr_in 2 AId.Href "#a" ∷ read 1 1 1 ∷ attr AId.Href "#b" ∷ read 1 1 1 ∷ []) ∷ [])
    ∷ el EId.G (attr AId.Id "a" ∷ say "x" ∷ []) ∷ el EId.G (attr AId.Id "b" ∷ say "y" ∷ []) ∷ []))) ≡ ascii "x" ∷ []
unfolding computed
tref-both = refl

-- use with both copies the element b, a `rect`, in either order.
pub use-both : (seen names (given-room (svg (el EId.Use (attr_in 2 AId.Href "#a" ∷ read 1 1 1 ∷ attr AId.Href "#b" ∷ read 1 1 1 ∷ [])
    ∷ el EId.G (attr AId.Id "a" ∷ []) ∷ el EId.Rect (attr AId.Id "b" ∷ []) ∷ [])))
    ≡ (EId.Svg ∷ []) ∷ (EId.Use ∷ []) ∷ (EId.Rect ∷ []) ∷ (EId.G ∷ []) ∷ (EId.Rect ∷ []) ∷ [])
    × (seen names (given-room (svg (el EId.Use (attr AId.Href "#b" ∷ read 1 1 1 ∷ attr_in 2 AId.Href "#a" ∷ read 1 1 1 ∷ [])
    ∷ el EId.G (attr AId.Id "a" ∷ []) ∷ el EId.Rect (attr AId.Id "b" ∷ []) ∷ [])))
    ≡ (EId.Svg ∷ []) ∷ (EId.Use ∷ []) ∷ (EId.Rect ∷ []) ∷ (EId.G ∷ []) ∷ (EId.Rect ∷ []) ∷ [])
unfolding computed
use-both = (refl, refl)

-- Two hrefs in no namespace, which no XML document has: use follows the first, #a, a `g`, and the tree's entry is the last, #b.
pub two-plain : (seen names (given-room (svg (el EId.Use (attr AId.Href "#a" ∷ read 1 1 1 ∷ attr AId.Href "#b" ∷ read 1 1 1 ∷ [])
    ∷ el EId.G (attr AId.Id "a" ∷ []) ∷ [])))
    ≡ (EId.Svg ∷ []) ∷ (EId.Use ∷ []) ∷ (EId.G ∷ []) ∷ (EId.G ∷ []) ∷ [])
    × (seen (values AId.Href) (given-room (svg (el EId.Use (attr AId.Href "#a" ∷ read 1 1 1 ∷ attr AId.Href "#b" ∷ read 1 1 1 ∷ [])
    ∷ []))) ≡ ascii "#b" ∷ [])
unfolding computed
two-plain = (refl, refl)
