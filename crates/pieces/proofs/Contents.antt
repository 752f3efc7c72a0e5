-- The elements that are read inside a text element. Assumes nothing.
use Prim.Native.Nat.{ℕ}
use mathlib.Core.Path.{◌≡◌, refl}
use mathlib.Core.Bool.{Bool, true, false}
use mathlib.Core.List.{[], ◌∷◌}
use lib.Dec.{leb}
use Rattle.model.specs.Base.{pick, and, among}
use Rattle.model.specs.EId
use Rattle.model.specs.Names.{is_element}
use Rattle.model.specs.Drawing.{Element, has_tag_name}
use Rattle.model.specs.Parse.{is_text_content, text_tag_of}
use Rattle.pieces.specs.Content.{is_content_name, is_content, tag_in}

pub content-is : (e : Element) (direct : Bool) → is_content e.code e.namespace direct ≡ is_text_content e direct
unfolding has_tag_name
content-is e direct = refl

pub tag_is : (e : Element) → tag_in e.code ≡ text_tag_of e
tag_is e = refl

tspan-or : (b : Bool) (code : ℕ) → is_element code ≡ true → is_element (pick b (λ u. EId.Tspan) (λ u. code)) ≡ true
unfolding is_element
tspan-or true code h = refl
tspan-or false code h = h

-- Its name in the tree is one of the list.
pub tag-element : (e : Element) (direct : Bool) → is_text_content e direct ≡ true → is_element (text_tag_of e) ≡ true
unfolding has_tag_name
tag-element e direct h =
    tspan-or (among e.code (EId.A ∷ EId.Tref ∷ [])) e.code
    (named (leb e.namespace 1) (is_element e.code) (is_content_name e.code direct) h)
  where
    named : (a b c : Bool) → and (and a b) c ≡ true → b ≡ true
    named true true c q = refl
    named true false c q = cc
    named false b c q = cc
