-- The id of an element, and the search for the first element with an id. Assumes nothing.
use mathlib.Core.Path.{◌≡◌, refl, sym, ap, ◌∙◌, subst}
use mathlib.Core.List.{List, [], ◌∷◌}
use mathlib.Core.Bool.{Bool, true, false}
use Prim.Native.Nat.{ℕ, ◌+◌}
use native.Mathlib.Omega.{arith}
use lib.Seq.{slice}
use Rattle.model.specs.Base.{given, same_bytes}
use Rattle.model.specs.AId
use Rattle.model.specs.Drawing as model
use Rattle.model.specs.Drawing.{Event, begin, close, attribute_in, value_at, has_id, first_with_id}
use Rattle.script.specs.declared.drawing.Drawing.{Drawing}
use Rattle.script.specs.declared.cursor.Cursor.{Cursor}
use Rattle.walk.specs.declared.node.Opened.{Opened}
use Rattle.walk.specs.declared.node.Item.{Item}
use Rattle.walk.specs.declared.node.Item.TheVariants as item
use Rattle.walk.specs.declared.value.ValueAt.{ValueAt}
use Rattle.std.specs.Prelude.{Result, Ok, Err}
use Rattle.walk.specs.Values.{attributes_in, events_at, value_in, ValueFit, Attributed}
use Rattle.walk.specs.Nodes.{element_of, node_at, Further}
use Rattle.memo.specs.Plain.{Without, Tested}
use Rattle.walk.proofs.Walks.{ItemIs, item-told}
use Rattle.walk.proofs.Along.{Along, at_item, over}

-- AN ELEMENT'S ID

-- What attribute_in ensures of the unprefixed id.
abbrev pub IdIs : Drawing → Opened → Result ValueAt Cursor → Type 0
IdIs drawing e r = (value_in drawing r ≡ attribute_in 0 AId.Id (attributes_in drawing e.inside)) × ValueFit drawing e.inside r

id-told : (drawing : Drawing) (e : Opened) (r x : Result ValueAt Cursor) → r ≡ x → IdIs drawing e r → IdIs drawing e x
id-told drawing e r x t h = subst (IdIs drawing e) t h

module _ (drawing : Drawing) (id : List ℕ) (e : Opened) (r : Result ValueAt Cursor) (h : IdIs drawing e r) where
  module _ (v : ValueAt) (t : r ≡ Ok v) (p : List ℕ) (g : p ≡ slice v.own.chars (v.own.chars + v.len) drawing.characters.now) (q : Bool)
      (k : q ≡ same_bytes p id) where
    pub compared : q ≡ has_id id (element_of drawing e)
    unfolding has_id value_at model.part_at
    compared =
        k ∙ ap (λ b. same_bytes b id) g
        ∙ ap (λ w. given w (λ y. same_bytes y.part.bytes id) (λ u. false)) (id-told drawing e r (Ok v) t h).0

    pub has : q ≡ true → Tested drawing id e (Ok tt)
    has z = sym compared ∙ z

    pub has-not : q ≡ false → Tested drawing id e (Err v.behind)
    has-not z = record { has-not = sym compared ∙ z; nodes = (id-told drawing e r (Ok v) t h).1.rest.nodes }

  pub has-none : (n : Cursor) → r ≡ Err n → Tested drawing id e (Err n)
  unfolding has_id
  has-none n t = record {
    has-not = sym (ap (λ w. given w (λ (y : model.Value). same_bytes y.part.bytes id) (λ u. false))
        (id-told drawing e r (Err n) t h).0);
    nodes = (id-told drawing e r (Err n) t h).1.rest.nodes;
  }

pub value-fit : (drawing : Drawing) (from : Cursor) (r : Result ValueAt Cursor) (v : ValueAt) → r ≡ Ok v → ValueFit drawing from r
    → Attributed drawing from v
value-fit drawing from r v t f = subst (ValueFit drawing from) t f

-- THE FIRST ID

-- The search for the id, as a walk that counts no elements.
abbrev pub first_id : List ℕ → ℕ → List Event → List Event
first_id id k xs = first_with_id id xs

pub tested : (drawing : Drawing) (id : List ℕ) (e : Opened) (r x : Result (Unit {0}) Cursor) → r ≡ x → Tested drawing id e r → Tested drawing id e x
tested drawing id e r x t h = subst (Tested drawing id e) t h

module _ (id : List ℕ) (xs : List Event) where
  pub id-miss : (e : model.Element) → has_id id e ≡ false → first_with_id id (begin e ∷ xs) ≡ first_with_id id xs
  unfolding first_with_id
  id-miss e h = rw h

  pub id-hit : (e : model.Element) → has_id id e ≡ true → first_with_id id (begin e ∷ xs) ≡ begin e ∷ xs
  unfolding first_with_id
  id-hit e h = rw h

  pub id-text : (a : model.Source) → first_with_id id (model.Event.text a ∷ xs) ≡ first_with_id id xs
  unfolding first_with_id
  id-text a = refl

  pub id_other : first_with_id id (model.Event.other ∷ xs) ≡ first_with_id id xs
  unfolding first_with_id
  id_other = refl

  pub id-close : first_with_id id (close ∷ xs) ≡ first_with_id id xs
  unfolding first_with_id
  id-close = refl

pub id-none : (id : List ℕ) → first_with_id id [] ≡ []
unfolding first_with_id
id-none id = refl

module _ (id : List ℕ) (v : List Event) (drawing : Drawing) (from c : Cursor) (w : Along (first_id id) v drawing from c 0)
    (r : Item) (e : Opened) (t : r ≡ item.Begin e) (i : ItemIs drawing c r) where
  -- The element has the id.
  pub found-id : has_id id (element_of drawing e) ≡ true → node_at drawing e ≡ v
  found-id h = sym (id-hit id (events_at drawing e.inside) (element_of drawing e) h)
      ∙ at_item (first_id id) v drawing from c 0 w r (item.Begin e) t i

  behind : (n : Cursor) → Without drawing id e n → Further drawing c n
  behind n z = record {
    fit = z.nodes.fit;
    further = omega
        (arith, (item-told drawing c r (item.Begin e) t i).1.1.further, z.nodes.later);
  }

  -- It has not, and the search goes on behind the attributes that were read.
  pub over-without : (n : Cursor) → Without drawing id e n → Along (first_id id) v drawing from n 0
  over-without n z = over (first_id id) v drawing from c 0 w r (item.Begin e) t i n 0 (behind n z) (omega arith)
      (id-miss id (events_at drawing e.inside) (element_of drawing e) z.has-not ∙ ap (first_with_id id) (sym z.nodes.events))

  pub further-without : (n : Cursor) → Without drawing id e n → Further drawing c n
  further-without n z = behind n z
