-- Links, and the elements that use and tref lead to. Assumes nothing.
use mathlib.Core.Path.{◌≡◌, refl, sym, ap, ◌∙◌, subst}
use mathlib.Core.List.{List, [], ◌∷◌}
use mathlib.Core.Bool.{Bool, true, false, not, false≢true}
use mathlib.Core.Option as math
use mathlib.Core.Option.{none, some}
use Rattle.std.specs.Prelude.{Option, Some, None, Result, Ok, Err, is_some}
use Rattle.std.specs.Result.{result_ok}
use Prim.Native.Nat.{ℕ, zero, ◌+◌}
use native.Mathlib.Omega.{arith}
use borrow.Author.Tests.{eq-eqb, ne_eqb}
use lib.Dec.{eqb, leb}
use lib.Seq.{slice}
use Rattle.model.specs.Base.{pick, and, or, given, or_else, among, same_bytes}
use Rattle.model.specs.AId
use Rattle.model.specs.Names.{is_element}
use Rattle.model.specs.Drawing as model
use Rattle.model.specs.Drawing.{Event, attribute_in, value_at, part_at, reading_of, iri_of, use_href, tref_href, first_with_id}
use Rattle.model.specs.Drawing.{linked_by}
use Rattle.model.specs.Drawing.{number_of, leads_back, uses_in}
use Rattle.model.specs.Drawing.{has_tag_name, copied, use_target, quoted_from, quoted, texts_in}
use Rattle.script.specs.declared.drawing.Drawing.{Drawing}
use Rattle.script.specs.declared.cursor.Cursor.{Cursor}
use Rattle.script.specs.Step.{Fit, document}
use Rattle.walk.specs.declared.node.Opened.{Opened}
use Rattle.links.specs.declared.uses.InnerUse.{InnerUse}
use Rattle.walk.specs.declared.value.ValueAt.{ValueAt}
use Rattle.walk.specs.declared.value.Part.{Part}
use Rattle.walk.specs.Values.{attributes_in, readings_in, events_at, value_in, ValueFit, Readable, Attributed, part_of, PartFit}
use Rattle.walk.specs.Nodes.{element_of, node_at, Standing}
use Rattle.links.specs.Uses.{uses_of, UseFit}
use Rattle.memo.specs.Plain.{node_of, NodeFit}
use Rattle.links.specs.Links.{texts_of, same_parts, leading_id}
use Rattle.walk.proofs.Along.{Along}
use Rattle.memo.proofs.Ids.{IdIs}
use Rattle.links.proofs.Leading.{leads-to-own, leads-to-linked}

-- LINKS

-- What `ok` says of a value that was looked for.
pub ok-is : (r : Result ValueAt Cursor) (o : Option ValueAt) (v : ValueAt) → o ≡ result_ok r → o ≡ Some v → r ≡ Ok v
ok-is (Ok x) o v h e = let q : x ≡ v = cc in ap Ok q
ok-is (Err n) o v h e = absurd (cc)

pub err-is : (r : Result ValueAt Cursor) (o : Option ValueAt) → o ≡ result_ok r → o ≡ None → (n : Cursor) × (r ≡ Err n)
err-is (Ok x) o h e = absurd (cc)
err-is (Err n) o h e = (n, refl)

pub value-fit : (drawing : Drawing) (from : Cursor) (r : Result ValueAt Cursor) (v : ValueAt) → r ≡ Ok v → ValueFit drawing from r
    → Attributed drawing from v
value-fit drawing from r v t f = subst (ValueFit drawing from) t f

pub read-fit : (drawing : Drawing) (r : Result ValueAt Cursor) (v : ValueAt) → r ≡ Ok v → Readable drawing r → Fit drawing v.own × Fit drawing v.behind
read-fit drawing r v t f = subst (Readable drawing) t f

module _ (drawing : Drawing) (r : Result ValueAt Cursor) where
  pub iri-value : (v : ValueAt) → r ≡ Ok v → (p : Option Part)
      → part_of drawing.characters.now p ≡ reading_of 1 (readings_in drawing v.own.chars v.behind)
      → part_of drawing.characters.now p ≡ iri_of (value_in drawing r)
  unfolding value_at
  iri-value v t p h = h ∙ ap (λ w. iri_of (value_in drawing w)) (sym t)

module _ (drawing : Drawing) (e : Opened) (p : math.Option model.Part) where
  pub use-link : p ≡ iri_of (or_else (attribute_in 0 AId.Href (attributes_in drawing e.inside))
      (attribute_in 2 AId.Href (attributes_in drawing e.inside)))
      → p ≡ use_href (element_of drawing e)
  unfolding use_href
  use-link h = h

  pub tref-link : p ≡ iri_of (or_else (attribute_in 2 AId.Href (attributes_in drawing e.inside))
      (attribute_in 0 AId.Href (attributes_in drawing e.inside)))
      → p ≡ tref_href (element_of drawing e)
  unfolding tref_href
  tref-link h = h

pub linked-at : (chars : List ℕ) (all : List Event) (link : Option Part) (o : Part) → link ≡ Some o → (p : List ℕ)
    → p ≡ slice o.start (o.start + o.len) chars → (r : List Event)
    → r ≡ first_with_id p all → r ≡ linked_by all (part_of chars link)
unfolding part_at
linked-at chars all link o e p f r h = h ∙ ap (λ q. first_with_id q all) f ∙ ap (λ k. linked_by all (part_of chars k)) (sym e)

pub part-fit : (link : Option Part) (o : Part) → link ≡ Some o → PartFit link → PartFit (Some o)
part-fit link o e f = subst PartFit e f

-- PARTS

module _ (chars : List ℕ) (a b : Option Part) where
  pub parts_same : (o : Part) → a ≡ Some o → (p : List ℕ) → p ≡ slice o.start (o.start + o.len) chars → (i : Part) → b ≡ Some i →
      (q : List ℕ)
      → q ≡ slice i.start (i.start + i.len) chars
      → (r : Bool) → r ≡ same_bytes p q → r ≡ same_parts (part_of chars a) (part_of chars b)
  unfolding part_at
  parts_same o e p f i g q h r k = rw (e, g, ← f, ← h) k

-- THE LEADING ID

module _ (drawing : Drawing) (e : Opened) (r : Result ValueAt Cursor) (h : IdIs drawing e r) where
  abbrev leading : math.Option model.Value → math.Option model.Part
  leading o = given o (λ v. pick (eqb (number_of (first_with_id v.part.bytes (document drawing))) (e.own.number + 1))
      (λ u. some v.part) (λ u. none)) (λ u. none)

  is_leading : leading (value_in drawing r) ≡ leading_id (document drawing) (element_of drawing e)
  unfolding leading_id
  is_leading = ap leading h.0

  pub leading-none : (n : Cursor) → r ≡ Err n → none ≡ leading_id (document drawing) (element_of drawing e)
  leading-none n t = ap (λ w. leading (value_in drawing w)) (sym t) ∙ is_leading

  module _ (v : ValueAt) (t : r ≡ Ok v) (p : List ℕ) (g : p ≡ slice v.own.chars (v.own.chars + v.len) drawing.characters.now)
      (x : Option Opened) (k : node_of drawing x ≡ first_with_id p (document drawing)) where
    by_number : pick (eqb (number_of (node_of drawing x)) (e.own.number + 1)) (λ u. part_of drawing.characters.now (Some
        (record { start = v.own.chars; len = v.len })))
        (λ u. none)
        ≡ leading_id (document drawing) (element_of drawing e)
    unfolding value_at part_at
    by_number = rw (k, g) (ap (λ w. leading (value_in drawing w)) (sym t) ∙ is_leading)

    pub leading-found : (f : Opened) → x ≡ Some f → f.own.number ≡ e.own.number
        → part_of drawing.characters.now (Some (record { start = v.own.chars; len = v.len })) ≡ leading_id (document drawing) (element_of drawing e)
    leading-found f z y =
        sym (ap (λ w. pick (eqb (number_of (node_of drawing w)) (e.own.number + 1))
        (λ u. part_of drawing.characters.now (Some (record { start = v.own.chars; len = v.len }))) (λ u. none)) z
        ∙ rw (eq-eqb (f.own.number + 1) (e.own.number + 1) (omega (arith, y)))) ∙ by_number

    pub leading-other : (f : Opened) → x ≡ Some f → (f.own.number ≡ e.own.number → ⊥)
        → none ≡ leading_id (document drawing) (element_of drawing e)
    leading-other f z y =
        sym (ap (λ w. pick (eqb (number_of (node_of drawing w)) (e.own.number + 1))
        (λ u. part_of drawing.characters.now (Some (record { start = v.own.chars; len = v.len }))) (λ u. none)) z
        ∙ rw (ne_eqb (f.own.number + 1) (e.own.number + 1) (λ q. y (omega (arith, q))))) ∙ by_number

    pub leading-nowhere : x ≡ None → none ≡ leading_id (document drawing) (element_of drawing e)
    leading-nowhere z =
        sym (ap (λ w. pick (eqb (number_of (node_of drawing w)) (e.own.number + 1))
        (λ u. part_of drawing.characters.now (Some (record { start = v.own.chars; len = v.len }))) (λ u. none)) z
        ∙ rw (ne_eqb 0 (e.own.number + 1) (λ q. omega (arith, q)))) ∙ by_number

-- WHERE A USE LEADS

-- What next_use ensures.
abbrev pub UseIs : Drawing → Cursor → ℕ → Option InnerUse → Type 0
UseIs drawing c k r = (uses_of drawing r ≡ uses_in k (events_at drawing c)) × UseFit drawing c r

pub use-told : (drawing : Drawing) (c : Cursor) (k : ℕ) (r x : Option InnerUse) → r ≡ x → UseIs drawing c k r → UseIs drawing c k x
use-told drawing c k r x e h = subst (UseIs drawing c k) e h

-- Has one of the `use`s the bytes of one of two parts as its link?
unfoldable pub led_by : math.Option model.Part → math.Option model.Part → List model.Element → Bool
led_by p q [] = false
led_by p q (u ∷ us) = pick (same_parts (use_href u) p) (λ x. true) (λ x. pick (same_parts (use_href u) q) (λ y. true) (λ y. led_by p q us))

-- The same of the `use`s inside an element, from a node on and with k elements open.
abbrev pub leading_by : math.Option model.Part → math.Option model.Part → ℕ → List Event → Bool
leading_by p q k xs = led_by p q (uses_in k xs)

module _ (p q : math.Option model.Part) (v : Bool) (drawing : Drawing) (from c : Cursor) (k : ℕ) (w : Along
    (leading_by p q) v drawing from c k)
    (r : Option InnerUse) where
  module _ (u : InnerUse) (t : r ≡ Some u) (i : UseIs drawing c k r) (h : math.Option model.Part)
      (f : h ≡ use_href (element_of drawing u.element))
      (x : Bool) (a : x ≡ same_parts h p) where
    turn : (y : Bool) → y ≡ same_parts h q
        → pick x (λ z. true) (λ z. pick y (λ z. true) (λ z. led_by p q (uses_in u.open_elements (events_at drawing u.element.inside)))) ≡ v
    unfolding led_by
    turn y b = rw (a, b, f) (ap (led_by p q) (use-told drawing c k r (Some u) t i).0 ∙ w.same)

    pub back-first : x ≡ true → true ≡ v
    back-first z = sym (rw z) ∙ turn _ refl

    module _ (y : Bool) (b : y ≡ same_parts h q) where
      pub back-second : x ≡ false → y ≡ true → true ≡ v
      back-second z e = sym (rw (z, e)) ∙ turn y b

      pub back-neither : x ≡ false → y ≡ false → Along (leading_by p q) v drawing from u.element.inside u.open_elements
      back-neither z e =
          let g = (use-told drawing c k r (Some u) t i).1 in
          record {
            fit = g.behind.fit;
            later = omega (arith, w.later, g.behind.further);
            low = g.low;
            same = sym (rw (z, e))
                ∙ turn y b;
          }

  pub back_end : r ≡ None → UseIs drawing c k r → false ≡ v
  unfolding led_by
  back_end t i = ap (led_by p q) (use-told drawing c k r None t i).0 ∙ w.same

-- The `use` e leads to l by its link, and has that leading id.
pub record Between (drawing : Drawing) (e l : Opened) (link id : Option Part) : Type 0 where
  pub use-stands : Standing drawing e
  pub leads : node_at drawing l ≡ linked_by (document drawing) (part_of drawing.characters.now link)
  pub by : part_of drawing.characters.now id ≡ leading_id (document drawing) (element_of drawing e)

-- Where links lead to n and to m exactly if they name p and q, the `use`s that lead back are those whose links name p or q.
led-by : (all : List Event) (n m : ℕ) (p q : math.Option model.Part)
    → ((h : math.Option model.Part) → eqb (number_of (linked_by all h)) n ≡ same_parts h p)
    → ((h : math.Option model.Part) → eqb (number_of (linked_by all h)) m ≡ same_parts h q) → (us : List model.Element)
    → led_by p q us ≡ leads_back all n m us
unfolding led_by leads_back among
led-by all n m p q f g [] = refl
led-by all n m p q f g (u ∷ us) =
    rw (← f (use_href u), ← g (use_href u))
    (go (eqb (number_of (linked_by all (use_href u))) n) (eqb (number_of (linked_by all (use_href u))) m) (led-by all n m p q f g us))
  where
    go : (x y : Bool) → led_by p q us ≡ leads_back all n m us
        → pick x (λ z. true) (λ z. pick y (λ z. true) (λ z. led_by p q us))
        ≡ pick (pick x (λ z. true) (λ z. pick y (λ z. true) (λ z. false))) (λ z. true) (λ z. leads_back all n m us)
    go true y h = refl
    go false true h = refl
    go false false h = h

-- So those inside l lead back whose links name the leading id of e or the link to l.
pub led-back : (drawing : Drawing) (e l : Opened) (link id : Option Part) → Between drawing e l link id → (us : List model.Element)
    → led_by (part_of drawing.characters.now id) (part_of drawing.characters.now link) us ≡ leads_back (document drawing) (e.own.number + 1) (l.own.number + 1) us
led-back drawing e l link id b us =
    led-by (document drawing) (e.own.number + 1) (l.own.number + 1) (part_of drawing.characters.now id) (part_of drawing.characters.now link)
    (λ h. leads-to-own drawing e b.use-stands h ∙ ap (same_parts h) (sym b.by))
    (λ h. leads-to-linked drawing l (part_of drawing.characters.now link) b.leads h) us

-- WHAT A USE COPIES

pub node-stands : (drawing : Drawing) (v : Option Opened) (l : Opened) → v ≡ Some l → NodeFit drawing v → Standing drawing l
node-stands drawing v l e f = subst (NodeFit drawing) e f

pub node-led : (drawing : Drawing) (v : Option Opened) (l : Opened) (xs : List Event) → v ≡ Some l → node_of drawing v ≡ xs
    → node_at drawing l ≡ xs
node-led drawing v l xs e f = ap (node_of drawing) (sym e) ∙ f

module _ (drawing : Drawing) (e : Opened) (origin : ℕ) (p : math.Option model.Part) (f : p ≡ use_href (element_of drawing e))
    (v : Option Opened)
    (g : node_of drawing v ≡ linked_by (document drawing) p) where
  target : copied (document drawing) (element_of drawing e) origin (node_of drawing v)
      ≡ use_target (document drawing) (element_of drawing e) origin
  unfolding use_target use_href
  target = ap (copied (document drawing) (element_of drawing e) origin) (g ∙ ap (linked_by (document drawing)) f)

  pub copies-nothing : v ≡ None → [] ≡ use_target (document drawing) (element_of drawing e) origin
  copies-nothing z = ap (λ w. copied (document drawing) (element_of drawing e) origin (node_of drawing w)) (sym z) ∙ target

  module _ (l : Opened) (z : v ≡ Some l) where
    abbrev back : Bool
    back = leads_back (document drawing) (e.own.number + 1) (l.own.number + 1) (uses_in zero (events_at drawing l.inside))

    copying : pick (and (and (and (leb l.space 1) (is_element l.name))
        (not (or (eqb (l.own.number + 1) (e.own.number + 1)) (eqb (l.own.number + 1) origin)))) (not back))
        (λ u. node_at drawing l) (λ u. []) ≡ use_target (document drawing) (element_of drawing e) origin
    unfolding has_tag_name
    copying = ap (λ w. copied (document drawing) (element_of drawing e) origin (node_of drawing w)) (sym z) ∙ target

    module _ (t : Bool) (h : t ≡ and (leb l.space 1) (is_element l.name)) where
      pub no-tag : t ≡ false → [] ≡ use_target (document drawing) (element_of drawing e) origin
      no-tag a = sym (rw (sym h ∙ a)) ∙ copying

      module _ (a : t ≡ true) where
        pub itself : l.own.number + 1 ≡ e.own.number + 1 → [] ≡ use_target (document drawing) (element_of drawing e) origin
        itself n = sym (rw (sym h ∙ a, eq-eqb (l.own.number + 1) (e.own.number + 1) n)) ∙ copying

        module _ (n : l.own.number + 1 ≡ e.own.number + 1 → ⊥) where
          pub its-origin : l.own.number + 1 ≡ origin → [] ≡ use_target (document drawing) (element_of drawing e) origin
          its-origin o = sym (rw (sym h ∙ a, ne_eqb (l.own.number + 1) (e.own.number + 1) n, eq-eqb (l.own.number + 1) origin o))
              ∙ copying

          module _ (o : l.own.number + 1 ≡ origin → ⊥) (r : Bool) (k : r ≡ back) where
            pub leads-itself : r ≡ true → [] ≡ use_target (document drawing) (element_of drawing e) origin
            leads-itself q =
                sym (rw (sym h ∙ a, ne_eqb (l.own.number + 1) (e.own.number + 1) n, ne_eqb (l.own.number + 1) origin o, sym k ∙ q))
                ∙ copying

            pub copies : r ≡ false → node_at drawing l ≡ use_target (document drawing) (element_of drawing e) origin
            copies q =
                sym (rw (sym h ∙ a, ne_eqb (l.own.number + 1) (e.own.number + 1) n, ne_eqb (l.own.number + 1) origin o, sym k ∙ q))
                ∙ copying

-- WHAT A TREF QUOTES

module _ (drawing : Drawing) (e : Opened) (p : math.Option model.Part) (f : p ≡ tref_href (element_of drawing e)) (v : Option Opened)
    (g : node_of drawing v ≡ linked_by (document drawing) p) where
  quoting : quoted_from (node_of drawing v) ≡ quoted (document drawing) (element_of drawing e)
  unfolding quoted tref_href
  quoting = ap quoted_from (g ∙ ap (linked_by (document drawing)) f)

  pub quotes-nothing : v ≡ None → [] ≡ quoted (document drawing) (element_of drawing e)
  quotes-nothing z = ap (λ w. quoted_from (node_of drawing w)) (sym z) ∙ quoting

  module _ (l : Opened) (z : v ≡ Some l) (t : Bool) (h : t ≡ and (leb l.space 1) (is_element l.name)) where
    quotes : pick (and (leb l.space 1) (is_element l.name)) (λ u. texts_in zero (events_at drawing l.inside)) (λ u. [])
        ≡ quoted (document drawing) (element_of drawing e)
    unfolding has_tag_name
    quotes = ap (λ w. quoted_from (node_of drawing w)) (sym z) ∙ quoting

    pub quotes-foreign : t ≡ false → [] ≡ quoted (document drawing) (element_of drawing e)
    quotes-foreign a = sym (rw (sym h ∙ a)) ∙ quotes

    pub quotes-texts : t ≡ true → texts_of drawing (Some l) ≡ quoted (document drawing) (element_of drawing e)
    quotes-texts a = sym (rw (sym h ∙ a)) ∙ quotes

-- No `use` leads back where there is none.
pub back_none : (drawing : Drawing) (c : Cursor) (k : ℕ) (r : Option InnerUse) → false ≡ is_some r → UseIs drawing c k r
    → (all : List Event) (n m : ℕ) → false ≡ leads_back all n m (uses_in k (events_at drawing c))
unfolding leads_back
back_none drawing c k None t i all n m = ap (leads_back all n m) i.0
back_none drawing c k (Some u) t i all n m = absurd (false≢true t)
