-- The codes of elements that a definition names, written by tools/names: they count from 0 in the order of `enum EId`.
use Rattle.std.specs.Prelude.{ℕ}

abbrev pub A : ℕ
A = 0

abbrev pub ClipPath : ℕ
ClipPath = 2

abbrev pub FeImage : ℕ
FeImage = 20

abbrev pub Filter : ℕ
Filter = 30

abbrev pub G : ℕ
G = 31

abbrev pub Mask : ℕ
Mask = 36

abbrev pub Pattern : ℕ
Pattern = 38

abbrev pub Rect : ℕ
Rect = 42

abbrev pub Style : ℕ
Style = 44

abbrev pub Svg : ℕ
Svg = 45

abbrev pub Text : ℕ
Text = 48

abbrev pub TextPath : ℕ
TextPath = 49

abbrev pub Tref : ℕ
Tref = 50

abbrev pub Tspan : ℕ
Tspan = 51

abbrev pub Use : ℕ
Use = 52
