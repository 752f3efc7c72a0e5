-- Other sentences of SVG 1.1 and SVG 2 about what is read: the smallest drawings in which the tree agrees with them, or does not.
use Rattle.std.specs.Prelude.{◌≡◌, refl, [], ◌∷◌}
use Rattle.model.specs.EId
use Rattle.model.specs.AId
use Rattle.model.specs.Cases.{ascii, texts, names, seen, given-room, svg, el, element_in, attr, attr_in, decl, read, say, comment, computed}
use Rattle.standards.proofs.Theorems.CascadeCases.{valued}
use Rattle.standards.proofs.Theorems.Edges.{shown}

-- ATTRIBUTES IN A NAMESPACE. fill in the XLink namespace counts as the presentation attribute; by SVG 1.1, section 6.4, and Namespaces in
-- XML it is another attribute. In a namespace that is none of the four it is left out.
pub namespace-case : (valued AId.Fill (attr_in 2 AId.Fill "red" ∷ []) ≡ ascii "red" ∷ [])
    × (valued AId.Fill (attr_in 4 AId.Fill "red" ∷ []) ≡ [])
unfolding computed
namespace-case = (refl, refl)

-- ELEMENTS IN NO NAMESPACE are read as those of SVG; SVG 1.1, section 1.3, has its elements in the SVG namespace. Those of another one are
-- passed over.
pub element-case : (seen names (given-room (svg (element_in 0 EId.Rect [] ∷ []))) ≡ (EId.Svg ∷ []) ∷ (EId.Rect ∷ []) ∷ [])
    × (seen names (given-room (svg (element_in 4 EId.Rect [] ∷ []))) ≡ (EId.Svg ∷ []) ∷ [])
unfolding computed
element-case = (refl, refl)

-- WHICH PROPERTIES HAVE PRESENTATION ATTRIBUTES. mix-blend-mode, isolation and font-kerning have none in SVG 2, and as attributes they are
-- left out; a declaration sets them. background-color has none either, and its attribute is kept.
pub presentation-case : (valued AId.MixBlendMode (attr AId.MixBlendMode "screen" ∷ []) ≡ [])
    × (valued AId.MixBlendMode (decl AId.MixBlendMode 0 "screen" ∷ []) ≡ ascii "screen" ∷ [])
    × (valued AId.BackgroundColor (attr AId.BackgroundColor "red" ∷ []) ≡ ascii "red" ∷ [])
unfolding computed
presentation-case = (refl, refl, refl)

-- image-rendering takes the word pixelated in a declaration, and not as an attribute, where SVG 2 lets it stand too.
pub rendering-case : (valued AId.ImageRendering (attr AId.ImageRendering "pixelated" ∷ []) ≡ [])
    × (valued AId.ImageRendering (decl AId.ImageRendering 0 "pixelated" ∷ []) ≡ ascii "pixelated" ∷ [])
unfolding computed
rendering-case = (refl, refl)

-- style and class are read by the host, who hands over the declarations; the tree does not have them.
pub style-case : (valued AId.Style (attr AId.Style "fill:red" ∷ []) ≡ []) × (valued AId.Class (attr AId.Class "a" ∷ []) ≡ [])
unfolding computed
style-case = (refl, refl)

-- A COPY INHERITS FROM THE `use`, and not from where its original stands (SVG 1.1, section 5.6): the copy of a rect with fill inherit has
-- the red of the use, the original the blue of its group.
pub copy-case : valued AId.Fill (el EId.G (attr AId.Fill "blue" ∷ el EId.Rect (attr AId.Id "a" ∷ attr AId.Fill "inherit" ∷ []) ∷ [])
    ∷ el EId.Use (attr AId.Fill "red" ∷ attr AId.Href "#a" ∷ read 1 1 1 ∷ []) ∷ [])
    ≡ ascii "blue" ∷ ascii "blue" ∷ ascii "red" ∷ ascii "red" ∷ []
unfolding computed
copy-case = refl

-- A TREF QUOTES all characters of the element, also those in its parts, in order (SVG 1.1, section 10.6); spaces are those of the whole.
pub tref-case : seen texts (given-room (svg (el EId.Text (el EId.Tref (attr_in 2 AId.Href "#b" ∷ read 1 1 1 ∷ []) ∷ [])
    ∷ el EId.G (attr AId.Id "b" ∷ say "a " ∷ el EId.G (say " b" ∷ []) ∷ say "c" ∷ []) ∷ []))) ≡ ascii "a bc" ∷ []
unfolding computed
tref-case = refl

-- OTHER ELEMENTS INSIDE TEXT are passed over with all that they hold; SVG 1.1, section 10.14, draws the characters of an altGlyph whose
-- glyph is not there. A comment counts for nothing.
pub passed-over-case : (shown (say "a" ∷ el 255 (say "b" ∷ []) ∷ []) ≡ ascii "a" ∷ []) × (shown (say "a" ∷ comment ∷ []) ≡ ascii "a" ∷ [])
unfolding computed
passed-over-case = (refl, refl)
