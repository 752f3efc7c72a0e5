-- SVG 2, chapter 16, Linking: "URL reference attributes" and "Deprecated XLink URL reference attributes".
use Rattle.std.specs.Prelude.{ℕ, Bool, List, eqb}
use Rattle.std.proofs.Math.Option.{Option, none, some}
use Rattle.model.specs.Base.{and, or_else}
use Rattle.model.specs.AId
use Rattle.model.specs.Drawing.{Value, Attribute}
use Rattle.standards.specs.CssCascade.{first_of, those}

-- The codes of the two namespaces: none, and http://www.w3.org/1999/xlink.
abbrev pub NONE : ℕ
NONE = 0

-- XLink.
abbrev pub XLINK : ℕ
XLINK = 2

-- Is it an href in that namespace?
abbrev pub is_href : ℕ → Attribute → Bool
is_href n x = and (eqb x.name AId.Href) (eqb x.namespace n)

-- The hrefs of an element in a namespace, in their order. Namespaces in XML, section 6.3, allows one at most; a script may have more.
unfoldable pub hrefs : ℕ → List Attribute → List Attribute
hrefs n xs = those (is_href n) xs

-- The value of an attribute that may be there.
abbrev pub value_in : Option Attribute → Option Value
value_in none = none
value_in (some x) = some x.value

-- An href in no namespace is used, and one in XLink is then ignored; without the first the second is used.
unfoldable pub used_href : List Attribute → Option Value
used_href xs = value_in (or_else (first_of (hrefs NONE xs)) (first_of (hrefs XLINK xs)))
