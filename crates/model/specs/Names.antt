-- Lists of the Rust, written by tools/names; tests/names compares them with the Rust.
use Rattle.std.specs.Prelude.{ℕ, Bool, not, List, [], ◌∷◌, leb, get_or}
use Rattle.model.specs.Base.{and, among, Pair, ◌gives◌, paired_with}
use Rattle.model.specs.AId

-- The element codes count from 0 in the order of `enum EId`.
unfoldable pub is_element : ℕ → Bool
is_element c = leb c 52

-- The attribute codes count from 0 in the order of `enum AId`.
unfoldable pub is_attribute : ℕ → Bool
is_attribute a = leb a 210

-- `AId::is_presentation`: the names that a declaration may set.
unfoldable pub is_presentation : ℕ → Bool
is_presentation a = among a (
    AId.AlignmentBaseline ∷ AId.BaselineShift ∷ AId.BackgroundColor ∷ AId.ClipPath ∷ AId.ClipRule ∷ AId.Color ∷ AId.ColorInterpolation ∷
    AId.ColorInterpolationFilters ∷ AId.ColorRendering ∷ AId.Direction ∷ AId.Display ∷ AId.DominantBaseline ∷ AId.Fill ∷ AId.FillOpacity ∷
    AId.FillRule ∷ AId.Filter ∷ AId.FloodColor ∷ AId.FloodOpacity ∷ AId.FontFamily ∷ AId.FontKerning ∷ AId.FontOpticalSizing ∷
    AId.FontSize ∷ AId.FontSizeAdjust ∷ AId.FontStretch ∷ AId.FontStyle ∷ AId.FontVariant ∷ AId.FontWeight ∷ AId.FontVariationSettings ∷
    AId.GlyphOrientationHorizontal ∷ AId.GlyphOrientationVertical ∷ AId.ImageRendering ∷ AId.Isolation ∷ AId.LetterSpacing ∷
    AId.LightingColor ∷ AId.MarkerEnd ∷ AId.MarkerMid ∷ AId.MarkerStart ∷ AId.Mask ∷ AId.MaskType ∷ AId.MixBlendMode ∷ AId.Opacity ∷
    AId.Overflow ∷ AId.PaintOrder ∷ AId.ShapeRendering ∷ AId.StopColor ∷ AId.StopOpacity ∷ AId.Stroke ∷ AId.StrokeDasharray ∷
    AId.StrokeDashoffset ∷ AId.StrokeLinecap ∷ AId.StrokeLinejoin ∷ AId.StrokeMiterlimit ∷ AId.StrokeOpacity ∷ AId.StrokeWidth ∷
    AId.TextAnchor ∷ AId.TextDecoration ∷ AId.TextOverflow ∷ AId.TextRendering ∷ AId.Transform ∷ AId.TransformOrigin ∷ AId.UnicodeBidi ∷
    AId.VectorEffect ∷ AId.Visibility ∷ AId.WhiteSpace ∷ AId.WordSpacing ∷ AId.WritingMode ∷ [])

-- `is_non_inheritable`: presentation names that are taken from a direct parent only.
unfoldable pub is_non_inheritable : ℕ → Bool
is_non_inheritable a = among a (
    AId.AlignmentBaseline ∷ AId.BaselineShift ∷ AId.ClipPath ∷ AId.Display ∷ AId.Filter ∷ AId.FloodColor ∷ AId.FloodOpacity ∷ AId.Mask ∷
    AId.Opacity ∷ AId.Overflow ∷ AId.LightingColor ∷ AId.StopColor ∷ AId.StopOpacity ∷ AId.TextDecoration ∷ AId.Transform ∷
    AId.TransformOrigin ∷ [])

-- `AId::allows_inherit_value`: the names whose value `inherit` is resolved.
unfoldable pub allows_inherit_value : ℕ → Bool
allows_inherit_value a = among a (
    AId.AlignmentBaseline ∷ AId.BaselineShift ∷ AId.ClipPath ∷ AId.ClipRule ∷ AId.Color ∷ AId.ColorInterpolationFilters ∷ AId.Direction ∷
    AId.Display ∷ AId.DominantBaseline ∷ AId.Fill ∷ AId.FillOpacity ∷ AId.FillRule ∷ AId.Filter ∷ AId.FloodColor ∷ AId.FloodOpacity ∷
    AId.FontFamily ∷ AId.FontKerning ∷ AId.FontOpticalSizing ∷ AId.FontSize ∷ AId.FontStretch ∷ AId.FontStyle ∷ AId.FontVariant ∷
    AId.FontWeight ∷ AId.ImageRendering ∷ AId.Kerning ∷ AId.LetterSpacing ∷ AId.MarkerEnd ∷ AId.MarkerMid ∷ AId.MarkerStart ∷ AId.Mask ∷
    AId.Opacity ∷ AId.Overflow ∷ AId.ShapeRendering ∷ AId.StopColor ∷ AId.StopOpacity ∷ AId.Stroke ∷ AId.StrokeDasharray ∷
    AId.StrokeDashoffset ∷ AId.StrokeLinecap ∷ AId.StrokeLinejoin ∷ AId.StrokeMiterlimit ∷ AId.StrokeOpacity ∷ AId.StrokeWidth ∷
    AId.TextAnchor ∷ AId.TextDecoration ∷ AId.TextRendering ∷ AId.Visibility ∷ AId.WordSpacing ∷ AId.WritingMode ∷ [])

-- `SvgNode::attribute`: the names whose value `none` counts as absent.
unfoldable pub is_possible_none : ℕ → Bool
is_possible_none a = among a (
    AId.Mask ∷ AId.MarkerStart ∷ AId.MarkerMid ∷ AId.MarkerEnd ∷ AId.ClipPath ∷ AId.Filter ∷ AId.FontSizeAdjust ∷ AId.TextDecoration ∷
    AId.Stroke ∷ AId.StrokeDasharray ∷ [])

-- `parse_svg_element`: names that are dropped as attributes and taken as declarations.
unfoldable pub is_declared_only : ℕ → Bool
is_declared_only a = among a (
    AId.MixBlendMode ∷ AId.Isolation ∷ AId.FontKerning ∷ [])

-- `AId::is_inheritable`
unfoldable pub is_inheritable : ℕ → Bool
is_inheritable a = and (is_presentation a) (not (is_non_inheritable a))

-- `resolve_inherit`: the fixed value of a name that no one above has.
unfoldable pub inherit_defaults : List Pair
inherit_defaults =
    AId.ImageRendering gives 2 ∷ AId.ShapeRendering gives 2 ∷ AId.TextRendering gives 2 ∷ AId.ClipPath gives 1 ∷ AId.Filter gives 1 ∷
    AId.MarkerEnd gives 1 ∷ AId.MarkerMid gives 1 ∷ AId.MarkerStart gives 1 ∷ AId.Mask gives 1 ∷ AId.Stroke gives 1 ∷
    AId.StrokeDasharray gives 1 ∷ AId.TextDecoration gives 1 ∷ AId.FontStretch gives 3 ∷ AId.FontStyle gives 3 ∷ AId.FontVariant gives 3 ∷
    AId.FontWeight gives 3 ∷ AId.LetterSpacing gives 3 ∷ AId.WordSpacing gives 3 ∷ AId.Fill gives 4 ∷ AId.FloodColor gives 4 ∷
    AId.StopColor gives 4 ∷ AId.FillOpacity gives 5 ∷ AId.FloodOpacity gives 5 ∷ AId.Opacity gives 5 ∷ AId.StopOpacity gives 5 ∷
    AId.StrokeOpacity gives 5 ∷ AId.ClipRule gives 6 ∷ AId.FillRule gives 6 ∷ AId.BaselineShift gives 7 ∷
    AId.ColorInterpolationFilters gives 8 ∷ AId.Direction gives 9 ∷ AId.Display gives 10 ∷ AId.FontSize gives 11 ∷ AId.Overflow gives 12 ∷
    AId.StrokeDashoffset gives 13 ∷ AId.StrokeLinecap gives 14 ∷ AId.StrokeLinejoin gives 15 ∷ AId.StrokeMiterlimit gives 16 ∷
    AId.StrokeWidth gives 5 ∷ AId.TextAnchor gives 17 ∷ AId.Visibility gives 12 ∷ AId.WritingMode gives 18 ∷ []

-- The number of that fixed value, 0 where the attribute is dropped.
unfoldable pub inherit_default : ℕ → ℕ
inherit_default a = paired_with a inherit_defaults

-- `write_declaration`: what a font declaration resets, in its order, with the fixed value of each.
unfoldable pub font_resets : List Pair
font_resets =
    AId.FontStyle gives 3 ∷ AId.FontVariant gives 3 ∷ AId.FontWeight gives 3 ∷ AId.FontStretch gives 3 ∷ AId.LineHeight gives 3 ∷
    AId.FontSizeAdjust gives 1 ∷ AId.FontKerning gives 2 ∷ AId.FontVariantCaps gives 3 ∷ AId.FontVariantLigatures gives 3 ∷
    AId.FontVariantNumeric gives 3 ∷ AId.FontVariantEastAsian gives 3 ∷ AId.FontVariantPosition gives 3 ∷ []

-- The bytes of the fixed values, the first of them numbered 1.
unfoldable pub fixed_values : List (List ℕ)
fixed_values =
    (110 ∷ 111 ∷ 110 ∷ 101 ∷ []) ∷  -- none
    (97 ∷ 117 ∷ 116 ∷ 111 ∷ []) ∷  -- auto
    (110 ∷ 111 ∷ 114 ∷ 109 ∷ 97 ∷ 108 ∷ []) ∷  -- normal
    (98 ∷ 108 ∷ 97 ∷ 99 ∷ 107 ∷ []) ∷  -- black
    (49 ∷ []) ∷  -- 1
    (110 ∷ 111 ∷ 110 ∷ 122 ∷ 101 ∷ 114 ∷ 111 ∷ []) ∷  -- nonzero
    (98 ∷ 97 ∷ 115 ∷ 101 ∷ 108 ∷ 105 ∷ 110 ∷ 101 ∷ []) ∷  -- baseline
    (108 ∷ 105 ∷ 110 ∷ 101 ∷ 97 ∷ 114 ∷ 82 ∷ 71 ∷ 66 ∷ []) ∷  -- linearRGB
    (108 ∷ 116 ∷ 114 ∷ []) ∷  -- ltr
    (105 ∷ 110 ∷ 108 ∷ 105 ∷ 110 ∷ 101 ∷ []) ∷  -- inline
    (109 ∷ 101 ∷ 100 ∷ 105 ∷ 117 ∷ 109 ∷ []) ∷  -- medium
    (118 ∷ 105 ∷ 115 ∷ 105 ∷ 98 ∷ 108 ∷ 101 ∷ []) ∷  -- visible
    (48 ∷ []) ∷  -- 0
    (98 ∷ 117 ∷ 116 ∷ 116 ∷ []) ∷  -- butt
    (109 ∷ 105 ∷ 116 ∷ 101 ∷ 114 ∷ []) ∷  -- miter
    (52 ∷ []) ∷  -- 4
    (115 ∷ 116 ∷ 97 ∷ 114 ∷ 116 ∷ []) ∷  -- start
    (108 ∷ 114 ∷ 45 ∷ 116 ∷ 98 ∷ []) ∷  -- lr-tb
    []

-- The bytes of the fixed value with a number, 1 to 18.
unfoldable pub fixed_bytes : ℕ → List ℕ
fixed_bytes n = get_or ([] ∷ fixed_values) n []

-- `parse_svg_element`: the four words that image-rendering may not have as an attribute.
unfoldable pub image_rendering_words : List (List ℕ)
image_rendering_words =
    (115 ∷ 109 ∷ 111 ∷ 111 ∷ 116 ∷ 104 ∷ []) ∷  -- smooth
    (104 ∷ 105 ∷ 103 ∷ 104 ∷ 45 ∷ 113 ∷ 117 ∷ 97 ∷ 108 ∷ 105 ∷ 116 ∷ 121 ∷ []) ∷  -- high-quality
    (99 ∷ 114 ∷ 105 ∷ 115 ∷ 112 ∷ 45 ∷ 101 ∷ 100 ∷ 103 ∷ 101 ∷ 115 ∷ []) ∷  -- crisp-edges
    (112 ∷ 105 ∷ 120 ∷ 101 ∷ 108 ∷ 97 ∷ 116 ∷ 101 ∷ 100 ∷ []) ∷  -- pixelated
    []
