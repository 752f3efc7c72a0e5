-- What stands at the cursor, by the item that was read there. Assumes nothing.
use Prim.Native.Nat.{ℕ, zero, ◌+◌, ◌≤◌}
use Rattle.std.specs.Prelude.{Result, Ok, Err}
use mathlib.Core.Path.{◌≡◌, refl, ap, sym, ◌∙◌, subst}
use mathlib.Core.List.{List, ◌∷◌}
use native.Mathlib.Omega.{arith}
use Rattle.model.specs.Drawing as model
use Rattle.model.specs.Drawing.{Event, close, children_from, source_at}
use Rattle.model.specs.Tables.{Tree, refused}
use Rattle.refusal.specs.declared.Refusal.{Refusal}
use Rattle.refusal.specs.Number.{number_of}
use Rattle.model.specs.Parse.{each, node, plain}
use Rattle.script.specs.declared.drawing.Drawing.{Drawing}
use Rattle.script.specs.declared.cursor.Cursor.{Cursor}
use Rattle.script.specs.Step.{mark_of, document}
use Rattle.walk.specs.declared.node.Opened.{Opened}
use Rattle.walk.specs.declared.node.Item.{Item}
use Rattle.walk.specs.declared.node.Item.TheVariants as item
use Rattle.walk.specs.Nodes.{node_at, leave, Standing, Further, events_of, ItemFit}
use Rattle.walk.specs.Values.{events_at}
use Rattle.walk.proofs.Walks.{ItemIs, item-told}
use Rattle.tree.specs.Lent.{tree_of}
use Rattle.label.specs.Walk.{Lies}
use Rattle.label.specs.Whole.{Underway, Beginning}
use Rattle.parse.specs.declared.State.{State}
use Rattle.parse.specs.declared.met.Met.{Met}
use Rattle.parse.specs.declared.met.Met.TheVariants.{Passed, Children, Copy, End}
use Rattle.parse.specs.Met.{is_copied, next_of, Opens, first_of, MetNode, MetOr, MetFirst, MetEnd, MetFit, HandedFit}
use Rattle.parse.proofs.Following.{Handed, handed-next, handed-done, handed-deep}

-- An element at the cursor, and a node that is handed over, are none that ends the element around them.
module _ (drawing : Drawing) (left origin p : ℕ) (from : Cursor) (t : Tree) (s : State) (u : Tree) where
  abbrev First : Result Met Refusal → Type 0
  First = MetFirst drawing left origin p from t s u

  -- An end is no node.
  no-end : MetNode drawing left origin p (events_at drawing from) (from.at + 1) t s u End → ⊥
  no-end h = h.rest

  pub met_of : (m : Result Met Refusal) → First m → MetFit drawing left origin p from t s u m
  met_of (Ok Passed) h = h
  met_of (Ok Children) h = h
  met_of (Ok Copy) h = h
  met_of (Ok End) h = absurd (no-end h.node)
  met_of (Err r) h = h

module _ (drawing : Drawing) (left p : ℕ) (ns ats bs : List ℕ) (s : State)
    (under : Underway drawing (tree_of ns ats bs s.counts) p s.cursor) (r : Item)
    (same : events_of drawing r ≡ events_at drawing s.cursor) (fit : ItemFit drawing s.cursor r) where
  abbrev t : Tree
  t = tree_of ns ats bs s.counts

  abbrev c : Cursor
  c = s.cursor

  abbrev o : ℕ
  o = s.origin

  abbrev xs : List Event
  xs = events_at drawing c

  told : (x : Item) → r ≡ x → ItemIs drawing c x
  told x q = item-told drawing c r x q (same, fit)

  -- AN ELEMENT

  module _ (e : Opened) (q : r ≡ item.Begin e) where
    lies : Lies drawing.characters.now (node_at drawing e)
    lies = subst (Lies drawing.characters.now) (sym (told (item.Begin e) q).0) under.lies

    pub first-begins : Beginning drawing t p e
    first-begins = record {
      inside = record {
        fit = (told (item.Begin e) q).1.1.fit;
        all = under.all;
        lies = lies.1;
        small = under.small;
        tidy = under.tidy;
        few = under.few;
        below = under.below;
      };
      element = lies.0;
    }

    pub first-stands : Standing drawing e
    first-stands = (told (item.Begin e) q).1.0

    module _ (s' : State) (u : Tree) where
      node-first : (m : Result Met Refusal) → MetOr drawing left o p (node_at drawing e) e.inside.at t s' u m
          → MetOr drawing left o p xs (c.at + 1) t s' u m
      node-first (Err j) h = h ∙ ap (λ zs. first_of drawing left o p zs t) (told (item.Begin e) q).0
      node-first (Ok m) h =
          let w = told (item.Begin e) q in
          record {
            built = h.built ∙ ap (λ zs. first_of drawing left o p zs t) w.0;
            rest = h.rest;
            by = h.by;
            behind = h.behind ∙ ap next_of w.0;
            later = omega (arith, h.later, w.1.1.further);
            more = h.more;
          }

      pub first-met : (m : Result Met Refusal) → MetOr drawing left o p (node_at drawing e) e.inside.at t s' u m
          → MetFit drawing left o p c t s' u m
      first-met m h =
          met_of drawing left o p c t s' u m
          (record { opens = subst Opens (told (item.Begin e) q).0 tt; node = node-first m h })

  -- A NODE THAT IS HANDED OVER

  module _ (x : Event) (is-handed : Handed x) (n : Cursor) (first : x ∷ events_at drawing n ≡ xs) (behind : Further drawing c n)
    where
      opens : Opens xs
      opens = subst Opens first (handed-next x is-handed (events_at drawing n)).0

      -- The cursor is moved.
      on : 1 ≤ left → (s' : State) → s' ≡ record s { cursor = n } → MetFit drawing left o p c t s' (tree_of ns ats bs s'.counts) (Ok Passed)
      on l s' z = subst (λ (y : State). MetFit drawing left o p c t y (tree_of ns ats bs y.counts) (Ok Passed)) (sym z) (record {
        opens = opens;
        node = record {
          built = handed-done drawing.characters.now (document drawing) left o (is_copied o) p t x is-handed (events_at drawing n) l
              ∙ ap (λ zs. first_of drawing left o p zs t) first;
          rest = record { fit = behind.fit; tidy = under.tidy; few = under.few };
          by = refl;
          behind = (handed-next x is-handed (events_at drawing n)).1 ∙ ap next_of first;
          later = omega (arith, behind.further);
          more = omega arith;
        };
      })

      deep : left ≡ 0 → (j : Refusal) → number_of j ≡ 20 → (s' : State) → (u : Tree) → MetFit drawing left o p c t s' u (Err j)
      deep h j z s' u = record {
        opens = opens;
        node = ap (λ k. refused k) z ∙ handed-deep drawing.characters.now (document drawing) left o (is_copied o) p t h xs;
      }

      handed : (s' : State) (m : Result Met Refusal) → HandedFit left n s s' m
          → MetFit drawing left o p c t s' (tree_of ns ats bs s'.counts) m
      handed s' (Ok Passed) h = on h.0 s' h.1
      handed s' (Ok Children) h = absurd h
      handed s' (Ok Copy) h = absurd h
      handed s' (Ok End) h = absurd h
      handed s' (Err j) h = deep h.0 j h.1 s' (tree_of ns ats bs s'.counts)

  pub text-met : (a : Cursor) (l : ℕ) (n : Cursor) → r ≡ item.Text a l n → (s' : State) (m : Result Met Refusal) → HandedFit left n s s' m
      → MetFit drawing left o p c t s' (tree_of ns ats bs s'.counts) m
  text-met a l n q =
      let w = told (item.Text a l n) q in
      handed (model.Event.text (source_at drawing.characters.now (mark_of a) l)) tt n w.0 w.1.1

  pub other-met : (n : Cursor) → r ≡ item.Other n → (s' : State) (m : Result Met Refusal) → HandedFit left n s s' m
      → MetFit drawing left o p c t s' (tree_of ns ats bs s'.counts) m
  other-met n q =
      let w = told (item.Other n) q in
      handed model.Event.other tt n w.0 w.1

  -- THE END

  pub close-met : (n : Cursor) → r ≡ item.Close n → MetEnd drawing left o p c t (record s { cursor = n }) t
  unfolding children_from leave
  close-met n q =
      let w = told (item.Close n) q in
      record {
        none = λ z. subst Opens (sym w.0) z;
        built = ap (λ zs. each (node (plain drawing.characters.now) (document drawing) left) (children_from zero zs) o (is_copied o) p t) w.0;
        reached = record {
          by = refl;
          fit = w.1.fit;
          later = omega (arith, w.1.further);
          behind = ap (leave 0) w.0;
          tidy = under.tidy;
          few = under.few;
          more = omega arith;
        };
      }

  pub end-met : r ≡ item.End → MetEnd drawing left o p c t s t
  unfolding children_from leave
  end-met q =
      let w = told item.End q in
      record {
        none = λ z. subst Opens (sym w.0) z;
        built = ap (λ zs. each (node (plain drawing.characters.now) (document drawing) left) (children_from zero zs) o (is_copied o) p t) w.0;
        reached = record {
          by = refl;
          fit = under.fit;
          later = omega arith;
          behind = sym w.0 ∙ ap (leave 0) w.0;
          tidy = under.tidy;
          few = under.few;
          more = omega arith;
        };
      }
