-- Searches: parts of the characters, attributes by name, readings by kind. Assumes nothing.
use mathlib.Core.Path.{◌≡◌, refl, sym, ap, ◌∙◌}
use mathlib.Core.List.{List}
use mathlib.Core.Bool.{Bool, true, false}
use mathlib.Core.Option.{some}
use Prim.Native.Nat.{ℕ, ◌+◌, ◌≤◌}
use native.Mathlib.Omega.{arith}
use Rattle.std.specs.Prelude.{Option, Some, None, Result, Ok, Err}
use borrow.Author.Tests.{eq-eqb, ne_eqb}
use lib.Dec.{eqb}
use lib.Seq.{slice}
use Rattle.model.specs.Base.{pick, and, same_bytes}
use Rattle.model.specs.Drawing.{attribute_in, reading_of, part_at}
use Rattle.model.specs.Repair.{any_reading}
use Rattle.script.specs.declared.drawing.Drawing.{Drawing}
use Rattle.script.specs.declared.cursor.Cursor.{Cursor}
use Rattle.script.specs.Step.{Fit, most_place}
use Rattle.walk.specs.declared.value.Named.{Named}
use Rattle.walk.specs.declared.value.ReadingAt.{ReadingAt}
use Rattle.walk.specs.Values.{attributes_in, readings_in, SameNodes, SameRest, value_of, value_in, ValueFit, Attributed, part_of}
use Rattle.walk.proofs.Walks.{AttributeIs, attribute-told, ReadingIs, reading-told}

-- A place in the characters is small.
pub fit-chars : (drawing : Drawing) (c : Cursor) → Fit drawing c → c.chars ≤ most_place
fit-chars drawing c f = omega (arith, f.chars, f.at, f.size)

-- ATTRIBUTES BY NAME

-- From one cursor to a later one, and from there to a still later one.
pub nodes-on : (drawing : Drawing) (a b c : Cursor) → SameNodes drawing a b → SameNodes drawing b c → SameNodes drawing a c
nodes-on drawing a b c r q = record { fit = q.fit; later = omega (arith, r.later, q.later); events = q.events ∙ r.events }

pub rest-on : (drawing : Drawing) (a b c : Cursor) → SameRest drawing a b → SameRest drawing b c → SameRest drawing a c
rest-on drawing a b c r q =
    record { nodes = nodes-on drawing a b c r.nodes q.nodes; declarations = q.declarations ∙ r.declarations }

-- From `from` to c there is no attribute a of the namespace p.
pub record Looking (drawing : Drawing) (p a : ℕ) (from c : Cursor) : Type 0 where
  pub rest : SameRest drawing from c
  pub same : attribute_in p a (attributes_in drawing c) ≡ attribute_in p a (attributes_in drawing from)

pub looking : (drawing : Drawing) (p a : ℕ) (c : Cursor) → Fit drawing c → Looking drawing p a c c
looking drawing p a c f =
    record { rest = record { nodes = record { fit = f; later = omega arith; events = refl }; declarations = refl }; same = refl }

module _ (drawing : Drawing) (p a : ℕ) (from c : Cursor) (w : Looking drawing p a from c) (r : Result Named Cursor) where
  module _ (x : Named) (t : r ≡ Ok x) (i : AttributeIs drawing c r) where
    fitting : Attributed drawing c x.value
    fitting = (attribute-told drawing c r (Ok x) t i).1

    looked : pick (and (eqb x.qualifier p) (eqb x.name a)) (λ u. some (value_of drawing x.value)) (λ u. attribute_in p a (attributes_in drawing x.value.behind))
        ≡ attribute_in p a (attributes_in drawing from)
    unfolding attribute_in
    looked = ap (attribute_in p a) (attribute-told drawing c r (Ok x) t i).0 ∙ w.same

    pub named : x.qualifier ≡ p → x.name ≡ a → (value_in drawing (Ok x.value) ≡ attribute_in p a (attributes_in drawing from)) × ValueFit drawing from
        (Ok x.value)
    named e f = (
      sym (rw (eq-eqb x.qualifier p e, eq-eqb x.name a f)) ∙ looked,
      record {
        own = fitting.own;
        rest = rest-on drawing from c x.value.behind w.rest fitting.rest;
        further = omega
            (arith, w.rest.nodes.later, fitting.further);
      },
    )

    pub other-space : (x.qualifier ≡ p → ⊥) → Looking drawing p a from x.value.behind
    other-space e = record { rest = rest-on drawing from c x.value.behind w.rest fitting.rest; same = sym (rw (ne_eqb x.qualifier p e)) ∙ looked }

    pub other_name : x.qualifier ≡ p → (x.name ≡ a → ⊥) → Looking drawing p a from x.value.behind
    other_name f e = record {
      rest = rest-on drawing from c x.value.behind w.rest fitting.rest;
      same = sym
          (rw (eq-eqb x.qualifier p f, ne_eqb x.name a e)) ∙ looked;
    }

  pub unnamed : (n : Cursor) → r ≡ Err n → AttributeIs drawing c r
      → (value_in drawing (Err n) ≡ attribute_in p a (attributes_in drawing from)) × ValueFit drawing from (Err n)
  unfolding attribute_in
  unnamed n t i =
      let e = attribute-told drawing c r (Err n) t i in (
        ap (attribute_in p a) e.0 ∙ w.same,
        record { rest = rest-on drawing from c n w.rest e.1.rest; none_left = e.1.none_left },
      )

-- READINGS

-- What f says of the readings from c on it says of those from `from` on.
pub record Reading {A : Type 0} (f : Drawing → ℕ → Cursor → A) (drawing : Drawing) (a : ℕ) (from c : Cursor) : Type 0 where
  pub fit : Fit drawing c
  pub same : f drawing a c ≡ f drawing a from

pub reading-first : {A : Type 0} (f : Drawing → ℕ → Cursor → A) (drawing : Drawing) (a : ℕ) (c : Cursor) → Fit drawing c → Reading f drawing a c c
reading-first f drawing a c h = record { fit = h; same = refl }

module _ (drawing : Drawing) (a k : ℕ) (from c : Cursor) (r : Option ReadingAt) where
  module _ (x : ReadingAt) (t : r ≡ Some x) (i : ReadingIs drawing c a r) where
    told : ReadingIs drawing c a (Some x)
    told = reading-told drawing c a r (Some x) t i

    pub of-kind : Reading (λ drawing a c. reading_of k (readings_in drawing a c)) drawing a from c → x.kind ≡ k
        → part_of drawing.characters.now (Some x.part) ≡ reading_of k (readings_in drawing a from)
    unfolding reading_of
    of-kind w e = sym (rw (eq-eqb x.kind k e)) ∙ ap (reading_of k) told.0 ∙ w.same

    pub other-kind : Reading (λ drawing a c. reading_of k (readings_in drawing a c)) drawing a from c → (x.kind ≡ k → ⊥)
        → Reading (λ drawing a c. reading_of k (readings_in drawing a c)) drawing a from x.behind
    unfolding reading_of
    other-kind w e = record { fit = told.1.rest.nodes.fit; same = sym (rw (ne_eqb x.kind k e)) ∙ ap (reading_of k) told.0 ∙ w.same }

    module _ (id : List ℕ) (w : Reading (λ drawing a c. any_reading k id (readings_in drawing a c)) drawing a from c) where
      pub any-kind : (x.kind ≡ k → ⊥) → Reading (λ drawing a c. any_reading k id (readings_in drawing a c)) drawing a from x.behind
      unfolding any_reading
      any-kind e = record { fit = told.1.rest.nodes.fit; same = sym (rw (ne_eqb x.kind k e)) ∙ ap (any_reading k id) told.0 ∙ w.same }

      module _ (e : x.kind ≡ k) (p : List ℕ) (g : p ≡ slice x.part.start (x.part.start + x.part.len) drawing.characters.now) (q : Bool) (h : q ≡ same_bytes p id) where
        asked : pick q (λ u. true) (λ u. any_reading k id (readings_in drawing a x.behind)) ≡ any_reading k id (readings_in drawing a from)
        unfolding any_reading part_at
        asked = rw (h, g) (sym (rw (eq-eqb x.kind k e)) ∙ ap (any_reading k id) told.0 ∙ w.same)

        pub any-hit : q ≡ true → true ≡ any_reading k id (readings_in drawing a from)
        any-hit z = sym (rw z) ∙ asked

        pub any-miss : q ≡ false → Reading (λ drawing a c. any_reading k id (readings_in drawing a c)) drawing a from x.behind
        any-miss z = record { fit = told.1.rest.nodes.fit; same = sym (rw z) ∙ asked }

  pub of-no-kind : r ≡ None → ReadingIs drawing c a r → Reading (λ drawing a c. reading_of k (readings_in drawing a c)) drawing a from c
      → part_of drawing.characters.now None ≡ reading_of k (readings_in drawing a from)
  unfolding reading_of
  of-no-kind t i w = ap (reading_of k) (reading-told drawing c a r None t i).0 ∙ w.same

  pub any_none : (id : List ℕ) → r ≡ None → ReadingIs drawing c a r
      → Reading (λ drawing a c. any_reading k id (readings_in drawing a c)) drawing a from c
      → false ≡ any_reading k id (readings_in drawing a from)
  unfolding any_reading
  any_none id t i w = ap (any_reading k id) (reading-told drawing c a r None t i).0 ∙ w.same

-- An attribute by its name, a reading by its kind, one by its kind and bytes.
pub ruleset by_name = (attribute-told, looking, named, other-space, other_name, unnamed)

pub ruleset by_kind = (reading-told, reading-first, of-kind, other-kind, of-no-kind)

pub ruleset by_bytes = (reading-told, reading-first, any-kind, any-hit, any-miss, any_none)
