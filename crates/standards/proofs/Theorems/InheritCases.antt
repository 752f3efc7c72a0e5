-- `inherit` and xml:space: the smallest drawings in which the tree has another value than the standards'.
use Rattle.std.specs.Prelude.{ℕ, ◌≡◌, refl, Bool, true, false, List, [], ◌∷◌, map}
use Rattle.std.proofs.Common.{◌∙◌}
use Rattle.std.proofs.Math.Option.{Option, none, some}
use Rattle.model.specs.Names.{is_inheritable, inherit_default}
use Rattle.model.specs.EId
use Rattle.model.specs.AId
use Rattle.model.specs.Tables.{Tree, Entry}
use Rattle.model.specs.Element.{resolve_inherit}
use Rattle.model.specs.Cases.{ascii, el, attr, decl, say, computed}
use Rattle.standards.specs.CssCascade.{inherited}
use Rattle.standards.specs.SvgSpace.{without, convert, no_leading, no_trailing, consolidated, as_default}
use Rattle.standards.proofs.Theorems.Inheritance.{upward, own_entry, held, initial_entry, inherit-is-inherited}
use Rattle.standards.proofs.Theorems.CascadeCases.{valued}
use Rattle.standards.proofs.Theorems.Edges.{shown}

-- No node of the list has an entry of that name.
abbrev pub NoneHas : Tree → ℕ → List ℕ → Type 0
NoneHas t a [] = Unit {0}
NoneHas t a (i ∷ is) = (own_entry t a i ≡ none) × NoneHas t a is

none-inherited : (t : Tree) (a : ℕ) (b : Bool) (is : List ℕ) (d : Option Entry) → NoneHas t a is →
    inherited b (map (λ i. held (own_entry t a i)) is) d ≡ d
unfolding inherited
none-inherited t a b [] d h = refl
none-inherited t a true (i ∷ is) d h = rw h.0 (none-inherited t a true is d h.1)
none-inherited t a false (i ∷ is) d h = rw h.0 refl

-- DROPPED. A name that has no fixed value, where neither the parent nor those around it have the attribute: `inherit` gives none at all,
-- and CSS's initial value is missing. <svg color="inherit"/> meets it.
pub inherit-dropped : (t : Tree) (p a : ℕ) → inherit_default a ≡ 0 → NoneHas t a (upward t p) → resolve_inherit t p a ≡ none
inherit-dropped t p a z h =
    inherit-is-inherited t p a ∙ none-inherited t a (is_inheritable a) (upward t p) (initial_entry t p a) h ∙ rw z refl

-- The drawing: color inherit on the top element leaves no attribute; stroke inherit leaves its initial value none.
pub dropped-case : (valued AId.Color (attr AId.Color "inherit" ∷ []) ≡ [])
    × (valued AId.Stroke (attr AId.Stroke "inherit" ∷ []) ≡ ascii "none" ∷ [])
unfolding computed
dropped-case = (refl, refl)

-- THE DIRECT PARENT ALONE. kerning inherits in SVG 1.1; below an element without it, `inherit` does not find the one above. CSS's value
-- is 2.
pub parent-case : (valued AId.Kerning (attr AId.Kerning "2" ∷ el EId.G (el EId.G (attr AId.Kerning "inherit" ∷ []) ∷ []) ∷ [])
    ≡ ascii "2" ∷ [])
    × (inherited true (none ∷ some (ascii "2") ∷ []) (ascii "auto") ≡ ascii "2")
unfolding computed inherited
parent-case = (refl, refl)

-- HANDED DOWN. dominant-baseline does not inherit in SVG 1.1; `inherit` finds it all the same past an element without it. By SVG 1.1 the
-- value is the parent's, which is the initial value auto. (CSS Inline 3 and SVG 2 let it inherit.)
pub handed-down-case : (valued AId.DominantBaseline
    (attr AId.DominantBaseline "middle" ∷ el EId.G (el EId.G (attr AId.DominantBaseline "inherit" ∷ []) ∷ []) ∷ [])
    ≡ ascii "middle" ∷ ascii "middle" ∷ []) × (inherited false (none ∷ some (ascii "middle") ∷ []) (ascii "auto") ≡ ascii "auto")
unfolding computed inherited
handed-down-case = (refl, refl)

-- AS WRITTEN. paint-order inherit stays the word inherit; by CSS it is the parent's value.
pub as-written-case : (valued AId.PaintOrder (attr AId.PaintOrder "stroke" ∷ el EId.G (attr AId.PaintOrder "inherit" ∷ []) ∷ [])
    ≡ ascii "stroke" ∷ ascii "inherit" ∷ [])
    × (inherited true (some (ascii "stroke") ∷ []) (ascii "normal") ≡ ascii "stroke")
unfolding computed inherited
as-written-case = (refl, refl)

-- NOT SET. A declaration of kerning, which SVG 1.1 lists as a property, is passed over; an attribute is not.
pub not-set-case : (valued AId.Kerning (decl AId.Kerning 0 "2" ∷ []) ≡ [])
    × (valued AId.Kerning (attr AId.Kerning "2" ∷ []) ≡ ascii "2" ∷ [])
unfolding computed
not-set-case = (refl, refl)

-- ANY SPACE. An attribute `space` in no namespace counts as xml:space: <text space="preserve"> a</text> keeps its space. The standard knows
-- the one in the XML namespace alone, and its text is "a".
pub any-space-case : (shown (attr AId.Space "preserve" ∷ say " a" ∷ []) ≡ ascii " a" ∷ []) × (as_default (ascii " a") ≡ ascii "a")
unfolding computed without convert no_leading no_trailing consolidated as_default
any-space-case = (refl, refl)

-- OTHER KEYWORDS. Of CSS's keywords for every property only `inherit` is known, and only in small letters: initial, unset and INHERIT stay
-- as written. CSS Cascade, section 7.3, has the first two, and CSS keywords are the same in capital letters.
pub keywords-case : (valued AId.Fill (decl AId.Fill 0 "initial" ∷ []) ≡ ascii "initial" ∷ [])
    × (valued AId.Fill (decl AId.Fill 0 "unset" ∷ []) ≡ ascii "unset" ∷ [])
    × (valued AId.Fill (decl AId.Fill 0 "INHERIT" ∷ []) ≡ ascii "INHERIT" ∷ [])
unfolding computed
keywords-case = (refl, refl, refl)
