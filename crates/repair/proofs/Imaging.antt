-- What a feImage cuts: the node that it leads to. Assumes nothing.
use mathlib.Core.Path.{◌≡◌, refl, sym, ap, ◌∙◌}
use mathlib.Core.Bool.{Bool, true, false}
use mathlib.Core.List.{List, []}
use mathlib.Core.Option.{Option, none, some}
use Prim.Native.Nat.{ℕ, ◌+◌, ◌-◌}
use native.Mathlib.Omega.{arith}
use Rattle.script.specs.declared.drawing.Drawing.{Drawing}
use Rattle.std.proofs.Common as common
use Rattle.std.proofs.Common.{Some, None}
use borrow.Author.Tests.{eq-eqb, ne_eqb}
use lib.Dec.{eqb}
use Rattle.model.specs.Base.{pick, given}
use Rattle.model.specs.AId
use Rattle.model.specs.Drawing.{Part, Value, part_at, readings_of}
use Rattle.model.specs.Tables.{Tree, word, parent_of, entry_at, entry_word, value_at_entry, attribute_id, last_with_id, element_by_id}
use Rattle.model.specs.Repair.{any_reading, element_id, readings_of_attribute, link_of, node_attribute, recursive_fe_image}
use Rattle.walk.specs.declared.value.Part.{Part as Found}
use Rattle.walk.specs.Values.{part_of}
use Rattle.tree.specs.declared.Counts.{Counts}
use Rattle.tree.specs.Lent.{plus_one, read_of, entries_of}
use Rattle.tree.proofs.Alike.{id_same, attribute-same, last-same}
use Rattle.leads.specs.Links.{values_of, id_at}
use Rattle.targets.specs.Targets.{seen_of}
use Rattle.targets.proofs.Finding.{link-seen}

-- The readings of an attribute, in the tables as they are lent.
readings-seen : (chars : List ℕ) (values : List Value) (t : Tree) (a i : ℕ)
    → readings_of_attribute chars values (read_of t.nodes t.attributes) a i ≡ readings_of_attribute chars values t a i
unfolding readings_of_attribute entry_at
readings-seen chars values t a i =
    ap (λ (j : ℕ). pick (eqb j 0) (λ u. []) (λ u. readings_of (entry_word t (j - 1) 4) values)) (attribute-same t chars i a)

-- The id in an entry that was looked for.
id-told : (chars : List ℕ) (t : Tree) (o : common.Option ℕ) (x : ℕ) → plus_one o ≡ x
    → id_at chars (entries_of t.attributes) o ≡ pick (eqb x 0) (λ u. []) (λ u. value_at_entry chars t x)
unfolding entry_at
id-told chars t None x e = rw (← e) refl
id-told chars t (Some j) x e =
    let z : j + 1 - 1 ≡ j = omega arith in
    rw (← e, ne_eqb (j + 1) 0 (λ y. omega arith), z) refl

module _ (drawing : Drawing) (ns es : List ℕ) (c : Counts) (i : ℕ) where
  abbrev values : List Value
  values = values_of drawing

  abbrev t : Tree
  t = seen_of ns es c

  by-href : node_attribute drawing.characters.now values t AId.Href i
      ≡ given (link_of drawing.characters.now values 1 (read_of ns es) AId.Href i) (λ v. element_by_id drawing.characters.now t v.bytes) (λ u. 0)
  unfolding node_attribute
  by-href = sym (ap (λ (o : Option Part). given o (λ v. element_by_id drawing.characters.now t v.bytes) (λ u. 0)) (link-seen drawing.characters.now values t 1 AId.Href i))

  href-nowhere : none ≡ link_of drawing.characters.now values 1 (read_of ns es) AId.Href i → 0 ≡ node_attribute drawing.characters.now values t AId.Href i
  href-nowhere e = ap (λ (o : Option Part). given o (λ v. element_by_id drawing.characters.now t v.bytes) (λ u. 0)) e ∙ sym by-href

  href-on : (v : Part) → some v ≡ link_of drawing.characters.now values 1 (read_of ns es) AId.Href i → (p : List ℕ) → p ≡ v.bytes → (n : ℕ)
      → n ≡ last_with_id drawing.characters.now (read_of ns es) p c.nodes → n ≡ node_attribute drawing.characters.now values t AId.Href i
  unfolding element_by_id
  href-on v e p q n h =
      h ∙ last-same t drawing.characters.now p c.nodes ∙ ap (λ (b : List ℕ). element_by_id drawing.characters.now t b) q
      ∙ ap (λ (o : Option Part). given o (λ x. element_by_id drawing.characters.now t x.bytes) (λ u. 0)) e ∙ sym by-href

  -- By what was looked for: the link, and the element with its id.
  module _ (r : common.Option Found) (same : part_of drawing.characters.now r ≡ link_of drawing.characters.now values 1 (read_of ns es) AId.Href i) where
    pub href-none : r ≡ None → 0 ≡ node_attribute drawing.characters.now values t AId.Href i
    href-none q = href-nowhere (sym (ap (part_of drawing.characters.now) q) ∙ same)

    pub href-found : (x : Found) → r ≡ Some x → (id : List ℕ) → id ≡ (part_at drawing.characters.now x.start x.len).bytes → (o : common.Option ℕ)
        → plus_one o ≡ last_with_id drawing.characters.now (read_of ns es) id c.nodes → plus_one o ≡ node_attribute drawing.characters.now values t AId.Href i
    href-found x q id b o h = href-on (part_at drawing.characters.now x.start x.len) (sym (ap (part_of drawing.characters.now) q) ∙ same) id b (plus_one o) h

  -- It leads nowhere.
  pub image-nowhere : 0 ≡ node_attribute drawing.characters.now values t AId.Href i → 0 ≡ recursive_fe_image drawing.characters.now values t i
  unfolding recursive_fe_image
  image-nowhere e = rw (eq-eqb (node_attribute drawing.characters.now values t AId.Href i) 0 (sym e)) refl

  -- It leads to node w: the filters there decide.
  module _ (w : ℕ) (e : w + 1 ≡ node_attribute drawing.characters.now values t AId.Href i) (p : ℕ) (q : p ≡ word ns i 1)
      (o : common.Option ℕ) (d : plus_one o ≡ attribute_id (read_of ns es) (p - 1) AId.Id) (b : Bool)
      (h : b ≡ any_reading 4 (id_at drawing.characters.now (entries_of es) o) (readings_of_attribute drawing.characters.now values (read_of ns es) AId.Filter w)) where
    by-filters : b ≡ any_reading 4 (element_id drawing.characters.now t (parent_of t i - 1)) (readings_of_attribute drawing.characters.now values t AId.Filter w)
    unfolding element_id
    by-filters =
        h ∙ ap (any_reading 4 (id_at drawing.characters.now (entries_of es) o)) (readings-seen drawing.characters.now values t AId.Filter w)
        ∙ ap (λ (id : List ℕ). any_reading 4 id (readings_of_attribute drawing.characters.now values t AId.Filter w))
        (id-told drawing.characters.now t o _ (d ∙ id_same t (p - 1) AId.Id ∙ ap (λ (x : ℕ). attribute_id t (x - 1) AId.Id) q))

    decided : pick b (λ u. w + 1) (λ u. 0) ≡ recursive_fe_image drawing.characters.now values t i
    unfolding recursive_fe_image
    decided = let z : w + 1 - 1 ≡ w = omega arith in rw (by-filters, ← e, ne_eqb (w + 1) 0 (λ x. omega arith), z) refl

    pub image-back : b ≡ true → w + 1 ≡ recursive_fe_image drawing.characters.now values t i
    image-back f = sym (ap (λ (x : Bool). pick x (λ u. w + 1) (λ u. 0)) f) ∙ decided

    pub image-not : b ≡ false → 0 ≡ recursive_fe_image drawing.characters.now values t i
    image-not f = sym (ap (λ (x : Bool). pick x (λ u. w + 1) (λ u. 0)) f) ∙ decided
