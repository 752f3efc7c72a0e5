-- href in the tree: no declaration sets it, so that the entry that the tree has is the one of the attributes.
use Rattle.std.specs.Prelude.{ℕ, ◌≤◌, ◌≡◌, eqb, length}
use Rattle.std.proofs.Math.Path.{refl}
use Rattle.std.proofs.Common.{ap, ◌∙◌}
use mathlib.Core.Bool.{Bool, true, false}
use mathlib.Core.List.{List, [], ◌∷◌, ◌++◌, map}
use Rattle.std.proofs.Math.Option.{Option, none, some}
use Rattle.model.specs.Base.{pick, and, given, or_else, Pair}
use Rattle.model.specs.Names.{is_presentation, font_resets}
use Rattle.model.specs.EId
use Rattle.model.specs.AId
use Rattle.model.specs.Drawing.{Part, Declaration, Element, reading_of}
use Rattle.model.specs.Tables.{Tree, done, Entry}
use Rattle.model.specs.Element.{marker, font_parts, is_read, parse_svg_element}
use Rattle.model.specs.Theorems.Sim.{Every}
use Rattle.standards.specs.CssCascade.{those, last_of, first_of}
use Rattle.standards.specs.SvgHref.{NONE, hrefs, used_href}
use Rattle.standards.proofs.Theorems.Inheritance.{own_entry}
use Rattle.standards.specs.Theorems.Cascade.{kept}
use Rattle.standards.proofs.Theorems.Cascade.{is_important, Longhand, longhand, reset_longhand, part_longhands, written_out}
use Rattle.standards.proofs.Theorems.Cascade.{all_written_out, applying, as_list, attribute_entry}
use Rattle.standards.proofs.Theorems.Attributes.{href_entry_of, tree-href-used}
use Rattle.standards.proofs.Theorems.Stored.{not-name, no_such, tree-value-stands}

-- A longhand of another name.
abbrev NotHref : Longhand → Type 0
NotHref l = eqb l.name AId.Href ≡ false

none-applies : (ls : List Longhand) → Every NotHref ls → applying AId.Href ls ≡ []
unfolding applying
none-applies [] h = refl
none-applies (l ∷ ls) h = rw h.0 (none-applies ls h.1)

every_append : (xs ys : List Longhand) → Every NotHref xs → Every NotHref ys → Every NotHref (xs ++ ys)
every_append [] ys h g = g
every_append (x ∷ xs) ys h g = (h.0, every_append xs ys h.1 g)

module _ (t : Tree) (p tag : ℕ) (d : Declaration) where
  resets-other : (rs : List Pair) → Every (λ (r : Pair). eqb r.key AId.Href ≡ false) rs →
      Every NotHref (map (reset_longhand t p tag d) rs)
  resets-other [] h = tt
  resets-other (r ∷ rs) h = (h.0, resets-other rs h.1)

  parts-other : (ks : List Pair) → Every (λ (k : Pair). eqb k.value AId.Href ≡ false) ks → Every NotHref (part_longhands t p tag d ks)
  unfolding part_longhands
  parts-other [] h = tt
  parts-other (k ∷ ks) h = go (reading_of k.key d.value.readings) (parts-other ks h.1)
    where
      go : (o : Option Part) → Every NotHref (part_longhands t p tag d ks) →
          Every NotHref (given o (λ v. longhand t p tag d k.value v ∷ part_longhands t p tag d ks) (λ u. part_longhands t p tag d ks))
      go (some v) g = (h.0, g)
      go none g = g

  out-other : Every NotHref (written_out t p tag d)
  unfolding written_out font_resets font_parts
  out-other = go (eqb d.name marker) (eqb d.name AId.Font) (and (is_read t p tag d 9) (is_read t p tag d 10))
      (is_presentation d.name) refl
    where
      v : Part
      v = d.value.part

      resets : Every (λ (r : Pair). eqb r.key AId.Href ≡ false) font_resets
      resets = (refl, (refl, (refl, (refl, (refl, (refl, (refl, (refl, (refl, (refl, (refl, (refl, tt))))))))))))

      parts : Every (λ (k : Pair). eqb k.value AId.Href ≡ false) font_parts
      parts = (refl, (refl, (refl, (refl, (refl, (refl, tt))))))

      go : (x y z w : Bool) → is_presentation d.name ≡ w → Every NotHref (
          pick x (λ u. longhand t p tag d AId.MarkerStart v ∷ longhand t p tag d AId.MarkerMid v ∷ longhand t p tag d AId.MarkerEnd v ∷ [])
          (λ u. pick y (λ v. pick z (λ w. map (reset_longhand t p tag d) font_resets ++ part_longhands t p tag d font_parts) (λ w. []))
          (λ u. pick w (λ w. longhand t p tag d d.name v ∷ []) (λ w. []))))
      go true y z w e = (refl, (refl, (refl, tt)))
      go false true true w e = every_append (map (reset_longhand t p tag d) font_resets) (part_longhands t p tag d font_parts)
          (resets-other font_resets resets) (parts-other font_parts parts)
      go false true false w e = tt
      go false false z true e = (not-name d.name AId.Href e no_such.2, tt)
      go false false z false e = tt

all-other : (t : Tree) (p tag : ℕ) (ds : List Declaration) → Every NotHref (all_written_out t p tag ds)
unfolding all_written_out
all-other t p tag [] = tt
all-other t p tag (d ∷ ds) = every_append (written_out t p tag d) (all_written_out t p tag ds) (out-other t p tag d) (all-other t p tag ds)

-- Of one or none, which is not important, it is that one that is kept.
alone-kept : (o : Option Entry) → kept is_important (as_list o ++ []) ≡ o
unfolding kept those last_of
alone-kept none = refl
alone-kept (some e) = go (eqb e.important 0)
  where
    go : (b : Bool) → or_else (first_of (pick (mathlib.Core.Bool.not b) (λ u. e ∷ []) (λ u. []))) (some e) ≡ some e
    go true = refl
    go false = refl

-- THEOREM. An element that is built, other than a tspan, with at most one href in no namespace, as in every XML document: the tree's entry
-- of href is the one that SVG 2 says, whatever the order of the attributes. <use xlink:href="#a" href="#b"/> meets it.
pub href-in-tree : (x : Element) (tag : ℕ) (g : Bool) (p : ℕ) (t q : Tree) → parse_svg_element x tag g p t ≡ done q →
    eqb tag EId.Tspan ≡ false →
    length (hrefs NONE x.attributes) ≤ 1 → own_entry q AId.Href t.node_count ≡ href_entry_of (used_href x.attributes)
href-in-tree x tag g p t q h s l =
    tree-value-stands x tag g p t q h AId.Href
    ∙ ap (λ (r : List Entry). kept is_important (as_list (attribute_entry t p tag g AId.Href x) ++ r))
    (none-applies (all_written_out t p tag x.declarations) (all-other t p tag x.declarations))
    ∙ alone-kept (attribute_entry t p tag g AId.Href x) ∙ tree-href-used t p tag g s x.attributes l
