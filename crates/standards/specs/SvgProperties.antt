-- SVG 1.1 (second edition), appendix N, the property index; for names that SVG 1.1 has not, the texts of SVG 2 and of CSS that define them.
use Rattle.std.specs.Prelude.{ℕ, Bool, true, false, List, [], ◌∷◌}
use Prim.Native.String.{String}
use Rattle.std.proofs.Math.Option.{Option, none, some}
use Rattle.model.specs.AId
use Rattle.model.specs.Cases.{ascii}

-- A property: its name's code, its initial value (none where the text leaves it to the user agent), and whether it inherits.
pub record Property : Type 0 where
  pub name : ℕ
  pub initial : Option (List ℕ)
  pub inherits : Bool

-- A property that inherits.
abbrev pub inherits : ℕ → String → Property
inherits a s = record { name = a; initial = some (ascii s); inherits = true }

-- A property that does not.
abbrev pub stays : ℕ → String → Property
stays a s = record { name = a; initial = some (ascii s); inherits = false }

-- A property that inherits, and whose initial value depends on the user agent.
abbrev pub agents : ℕ → Property
agents a = record { name = a; initial = none; inherits = true }

-- Codes that no definition of `model` names.
abbrev pub Clip : ℕ
Clip = 8

-- color-profile
abbrev pub ColorProfile : ℕ
ColorProfile = 15

-- enable-background
abbrev pub EnableBackground : ℕ
EnableBackground = 29

-- The table. Of SVG 1.1's index it has every property that has a code: `font` and `marker` are shorthands, and the list of names has
-- neither cursor nor pointer-events. overflow is CSS 2.1's, to which the index refers.
unfoldable pub properties : List Property
properties =
    -- SVG 1.1, appendix N, the property index
    stays AId.AlignmentBaseline "auto" ∷ stays AId.BaselineShift "baseline" ∷ stays Clip "auto" ∷ stays AId.ClipPath "none" ∷
    inherits AId.ClipRule "nonzero" ∷ agents AId.Color ∷ inherits AId.ColorInterpolation "sRGB" ∷
    inherits AId.ColorInterpolationFilters "linearRGB" ∷ inherits ColorProfile "auto" ∷ inherits AId.ColorRendering "auto" ∷
    inherits AId.Direction "ltr" ∷ stays AId.Display "inline" ∷ stays AId.DominantBaseline "auto" ∷
    stays EnableBackground "accumulate" ∷ inherits AId.Fill "black" ∷ inherits AId.FillOpacity "1" ∷ inherits AId.FillRule "nonzero" ∷
    stays AId.Filter "none" ∷ stays AId.FloodColor "black" ∷ stays AId.FloodOpacity "1" ∷ agents AId.FontFamily ∷
    inherits AId.FontSize "medium" ∷ inherits AId.FontSizeAdjust "none" ∷ inherits AId.FontStretch "normal" ∷
    inherits AId.FontStyle "normal" ∷ inherits AId.FontVariant "normal" ∷ inherits AId.FontWeight "normal" ∷
    inherits AId.GlyphOrientationHorizontal "0deg" ∷ inherits AId.GlyphOrientationVertical "auto" ∷
    inherits AId.ImageRendering "auto" ∷ inherits AId.Kerning "auto" ∷ inherits AId.LetterSpacing "normal" ∷
    stays AId.LightingColor "white" ∷ inherits AId.MarkerEnd "none" ∷ inherits AId.MarkerMid "none" ∷
    inherits AId.MarkerStart "none" ∷ stays AId.Mask "none" ∷ stays AId.Opacity "1" ∷ stays AId.Overflow "visible" ∷
    inherits AId.ShapeRendering "auto" ∷ stays AId.StopColor "black" ∷ stays AId.StopOpacity "1" ∷ inherits AId.Stroke "none" ∷
    inherits AId.StrokeDasharray "none" ∷ inherits AId.StrokeDashoffset "0" ∷ inherits AId.StrokeLinecap "butt" ∷
    inherits AId.StrokeLinejoin "miter" ∷ inherits AId.StrokeMiterlimit "4" ∷ inherits AId.StrokeOpacity "1" ∷
    inherits AId.StrokeWidth "1" ∷ inherits AId.TextAnchor "start" ∷ stays AId.TextDecoration "none" ∷
    inherits AId.TextRendering "auto" ∷ stays AId.UnicodeBidi "normal" ∷ inherits AId.Visibility "visible" ∷
    inherits AId.WordSpacing "normal" ∷ inherits AId.WritingMode "lr-tb" ∷
    -- SVG 2: paint-order, vector-effect
    inherits AId.PaintOrder "normal" ∷ stays AId.VectorEffect "none" ∷
    -- CSS Fonts 4
    inherits AId.FontKerning "auto" ∷ inherits AId.FontOpticalSizing "auto" ∷ inherits AId.FontVariationSettings "normal" ∷
    -- CSS Transforms 1: for elements of SVG the origin is 0 0
    stays AId.Transform "none" ∷ stays AId.TransformOrigin "0 0" ∷
    -- Compositing and Blending 1
    stays AId.Isolation "auto" ∷ stays AId.MixBlendMode "normal" ∷
    -- CSS Masking 1, CSS Backgrounds 3, CSS Overflow 3, CSS Text 3
    stays AId.MaskType "luminance" ∷ stays AId.BackgroundColor "transparent" ∷ stays AId.TextOverflow "clip" ∷
    inherits AId.WhiteSpace "normal" ∷
    []
