-- The codes of attributes that a definition names, written by tools/names: they count from 0 in the order of `enum AId`.
use Rattle.std.specs.Prelude.{ℕ}

abbrev pub AlignmentBaseline : ℕ
AlignmentBaseline = 0

abbrev pub BackgroundColor : ℕ
BackgroundColor = 3

abbrev pub BaselineShift : ℕ
BaselineShift = 5

abbrev pub Class : ℕ
Class = 7

abbrev pub ClipPath : ℕ
ClipPath = 9

abbrev pub ClipRule : ℕ
ClipRule = 10

abbrev pub Color : ℕ
Color = 12

abbrev pub ColorInterpolation : ℕ
ColorInterpolation = 13

abbrev pub ColorInterpolationFilters : ℕ
ColorInterpolationFilters = 14

abbrev pub ColorRendering : ℕ
ColorRendering = 16

abbrev pub Direction : ℕ
Direction = 21

abbrev pub Display : ℕ
Display = 22

abbrev pub DominantBaseline : ℕ
DominantBaseline = 24

abbrev pub Fill : ℕ
Fill = 31

abbrev pub FillOpacity : ℕ
FillOpacity = 32

abbrev pub FillRule : ℕ
FillRule = 33

abbrev pub Filter : ℕ
Filter = 34

abbrev pub FloodColor : ℕ
FloodColor = 36

abbrev pub FloodOpacity : ℕ
FloodOpacity = 37

abbrev pub Font : ℕ
Font = 38

abbrev pub FontFamily : ℕ
FontFamily = 39

abbrev pub FontKerning : ℕ
FontKerning = 41

abbrev pub FontOpticalSizing : ℕ
FontOpticalSizing = 42

abbrev pub FontSize : ℕ
FontSize = 43

abbrev pub FontSizeAdjust : ℕ
FontSizeAdjust = 44

abbrev pub FontStretch : ℕ
FontStretch = 45

abbrev pub FontStyle : ℕ
FontStyle = 46

abbrev pub FontVariant : ℕ
FontVariant = 48

abbrev pub FontVariantCaps : ℕ
FontVariantCaps = 49

abbrev pub FontVariantEastAsian : ℕ
FontVariantEastAsian = 50

abbrev pub FontVariantLigatures : ℕ
FontVariantLigatures = 51

abbrev pub FontVariantNumeric : ℕ
FontVariantNumeric = 52

abbrev pub FontVariantPosition : ℕ
FontVariantPosition = 53

abbrev pub FontVariationSettings : ℕ
FontVariationSettings = 54

abbrev pub FontWeight : ℕ
FontWeight = 55

abbrev pub GlyphOrientationHorizontal : ℕ
GlyphOrientationHorizontal = 59

abbrev pub GlyphOrientationVertical : ℕ
GlyphOrientationVertical = 60

abbrev pub Href : ℕ
Href = 64

abbrev pub Id : ℕ
Id = 65

abbrev pub ImageRendering : ℕ
ImageRendering = 66

abbrev pub Isolation : ℕ
Isolation = 71

abbrev pub Kerning : ℕ
Kerning = 78

abbrev pub LetterSpacing : ℕ
LetterSpacing = 80

abbrev pub LightingColor : ℕ
LightingColor = 81

abbrev pub LineHeight : ℕ
LineHeight = 83

abbrev pub MarkerEnd : ℕ
MarkerEnd = 84

abbrev pub MarkerMid : ℕ
MarkerMid = 85

abbrev pub MarkerStart : ℕ
MarkerStart = 86

abbrev pub Mask : ℕ
Mask = 90

abbrev pub MaskType : ℕ
MaskType = 105

abbrev pub MixBlendMode : ℕ
MixBlendMode = 108

abbrev pub Opacity : ℕ
Opacity = 112

abbrev pub Overflow : ℕ
Overflow = 116

abbrev pub PaintOrder : ℕ
PaintOrder = 117

abbrev pub ShapeRendering : ℕ
ShapeRendering = 146

abbrev pub Space : ℕ
Space = 150

abbrev pub StopColor : ℕ
StopColor = 157

abbrev pub StopOpacity : ℕ
StopOpacity = 158

abbrev pub Stroke : ℕ
Stroke = 159

abbrev pub StrokeDasharray : ℕ
StrokeDasharray = 160

abbrev pub StrokeDashoffset : ℕ
StrokeDashoffset = 161

abbrev pub StrokeLinecap : ℕ
StrokeLinecap = 162

abbrev pub StrokeLinejoin : ℕ
StrokeLinejoin = 163

abbrev pub StrokeMiterlimit : ℕ
StrokeMiterlimit = 164

abbrev pub StrokeOpacity : ℕ
StrokeOpacity = 165

abbrev pub StrokeWidth : ℕ
StrokeWidth = 166

abbrev pub Style : ℕ
Style = 167

abbrev pub TextAnchor : ℕ
TextAnchor = 175

abbrev pub TextDecoration : ℕ
TextDecoration = 176

abbrev pub TextOverflow : ℕ
TextOverflow = 184

abbrev pub TextRendering : ℕ
TextRendering = 185

abbrev pub Transform : ℕ
Transform = 188

abbrev pub TransformOrigin : ℕ
TransformOrigin = 190

abbrev pub UnicodeBidi : ℕ
UnicodeBidi = 192

abbrev pub VectorEffect : ℕ
VectorEffect = 195

abbrev pub Visibility : ℕ
Visibility = 197

abbrev pub WhiteSpace : ℕ
WhiteSpace = 198

abbrev pub WordSpacing : ℕ
WordSpacing = 200

abbrev pub WritingMode : ℕ
WritingMode = 201
