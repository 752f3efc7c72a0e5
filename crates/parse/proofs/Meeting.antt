-- A node that the recursion meets, case by case. Assumes nothing.
use Prim.Native.Nat.{ℕ, ◌+◌, ◌-◌, ◌≤◌}
use Rattle.std.specs.Prelude.{Option, Some, None, Result, Ok, Err}
use mathlib.Core.Path.{◌≡◌, refl, ap, sym, ◌∙◌, subst}
use mathlib.Core.Bool.{Bool, true, not}
use mathlib.Core.List.{List}
use native.Mathlib.Omega.{arith}
use borrow.Author.Tests.{ne_eqb}
use Rattle.model.specs.Drawing.{Event, use_target}
use Rattle.model.specs.Tables.{Tree, Out}
use Rattle.model.specs.Parse.{copy, node, plain}
use Rattle.script.specs.declared.drawing.Drawing.{Drawing}
use Rattle.script.specs.declared.cursor.Cursor.{Cursor}
use Rattle.script.specs.Step.{Fit, document}
use Rattle.walk.specs.declared.node.Opened.{Opened}
use Rattle.walk.specs.Nodes.{element_of, node_at, leave}
use Rattle.walk.specs.Values.{events_at}
use Rattle.refusal.specs.declared.Refusal.{Refusal}
use Rattle.memo.specs.Plain.{node_of, NodeFit}
use Rattle.memo.proofs.Filling.{own-nodes}
use Rattle.tree.specs.declared.Counts.{Counts}
use Rattle.tree.specs.Lent.{tree_of}
use Rattle.label.specs.Whole.{Beginning}
use Rattle.parse.specs.declared.Begun.{Begun}
use Rattle.parse.specs.declared.Begun.TheVariants as begun
use Rattle.parse.specs.Cycle.{BegunFit}
use Rattle.parse.specs.declared.State.{State}
use Rattle.parse.specs.declared.met.Met.{Met}
use Rattle.parse.specs.declared.met.Met.TheVariants.{Passed, Children, Copy, End}
use Rattle.parse.specs.Met.{is_copied, Opens, first_of, MetOr, CopyAt, CopyNone, CopyFit}
use Rattle.parse.proofs.Nodes.{target-begins}

-- WHAT A USE COPIES

module _ (drawing : Drawing) (e : Opened) (children : Cursor) (s : State) (r : Option Opened)
    (same : node_of drawing r ≡ use_target (document drawing) (element_of drawing e) s.origin)
    (fit : NodeFit drawing r) where
  pub copy-found : (l : Opened) → r ≡ Some l
      → CopyAt drawing e children s (record s { cursor = l.own; children = children; copier = e.own.number + 1 })
  copy-found l q = record {
    target = l;
    stands = subst (NodeFit drawing) q fit;
    same = subst (λ (y : Option Opened). node_of drawing y ≡ use_target (document drawing) (element_of drawing e) s.origin)
        q same;
    stood = refl;
  }

  pub copy-none : r ≡ None → (past : Cursor) → events_at drawing past ≡ leave 0 (events_at drawing children) →
      Fit drawing past → children.at ≤ past.at → CopyNone drawing e children s (record s { cursor = past })
  copy-none q past b f l = record {
    none = subst (λ (y : Option Opened). node_of drawing y ≡ use_target (document drawing) (element_of drawing e) s.origin)
        q same;
    past = past;
    fit = f;
    later = l;
    behind = b;
    stood = refl;
  }

copied-one : (n : ℕ) → true ≡ is_copied (n + 1)
copied-one n = ap not (sym (ne_eqb (n + 1) 0 (λ z. omega (arith, z))))

-- AN ELEMENT

module _ (drawing : Drawing) (left p : ℕ) (e : Opened) (ns ats bs : List ℕ) (s : State) (ignored : Bool)
    (ignores : ignored ≡ is_copied s.origin) (ns' ats' bs' : List ℕ) (r : Result Begun Refusal)
    (fit : BegunFit drawing left ignored p e (tree_of ns ats bs s.counts) ns' ats' bs' r) where
  abbrev o : ℕ
  o = s.origin

  abbrev t : Tree
  t = tree_of ns ats bs s.counts

  abbrev at : State → Result Met Refusal → Type 0
  at s' = MetOr drawing left o p (node_at drawing e) e.inside.at t s' (tree_of ns' ats' bs' s'.counts)

  told : (x : Result Begun Refusal) → r ≡ x → BegunFit drawing left (is_copied o) p e t ns' ats' bs' x
  told x q =
      subst (BegunFit drawing left (is_copied o) p e t ns' ats' bs') q
      (subst (λ (b : Bool). BegunFit drawing left b p e t ns' ats' bs' r) ignores fit)

  pub met-refused : (j : Refusal) → r ≡ Err j → (s' : State) → at s' (Err j)
  met-refused j q s' = told (Err j) q o

  pub use-fit : (m : Counts) (c : Cursor) → r ≡ Ok (begun.Use m c) → Fit drawing c
  use-fit m c q = (told (Ok (begun.Use m c)) q).1.under.fit

  module _ (m : Counts) (c : Cursor) where
    pub met-passed : r ≡ Ok (begun.Passed m c) → at (record s { counts = m; cursor = c }) (Ok Passed)
    met-passed q =
        let h = told (Ok (begun.Passed m c)) q in
        record {
          built = h.0 o;
          rest = record { fit = h.1.fit; tidy = h.1.tidy; few = h.1.few };
          by = refl;
          behind = h.1.behind;
          later = h.1.later;
          more = h.1.more;
        }

    pub met-children : r ≡ Ok (begun.Children m c) → at (record s { counts = m; cursor = c }) (Ok Children)
    met-children q =
        let h = told (Ok (begun.Children m c)) q in
        record {
          built = h.0 o;
          rest = record { above = h.1.above; under = h.1.under };
          by = refl;
          behind = ap (leave 0) h.1.nodes.events;
          later = h.1.nodes.later;
          more = h.1.more;
        }

    module _ (q : r ≡ Ok (begun.Use m c)) where
      abbrev s₁ : State
      s₁ = record s { counts = m }

      abbrev u : Tree
      u = tree_of ns' ats' bs' m

      abbrev copies : List Event → Out Tree
      copies xs =
          copy (plain drawing.characters.now) (document drawing) (node (plain drawing.characters.now) (document drawing) (left - 2)) xs
          (element_of drawing e).number t.node_count u

      use-told : BegunFit drawing left (is_copied o) p e t ns' ats' bs' (Ok (begun.Use m c))
      use-told = told (Ok (begun.Use m c)) q

      copied_none : (s' : State) → CopyNone drawing e c s₁ s' → at s' (Ok Passed)
      copied_none s' w = subst (λ (y : State). at y (Ok Passed)) (sym w.stood) (record {
        built = ap copies w.none ∙ use-told.0 o;
        rest = record { fit = w.fit; tidy = use-told.1.under.tidy; few = use-told.1.under.few };
        by = refl;
        behind = w.behind ∙ ap (leave 0) use-told.1.nodes.events;
        later = omega (arith, use-told.1.nodes.later, w.later);
        more = use-told.1.more;
      })

      copied_at : (s' : State) → CopyAt drawing e c s₁ s' → at s' (Ok Copy)
      copied_at s' w =
          let l : Opened = w.target in
          let b : Beginning drawing u t.node_count l = target-begins drawing u t.node_count c e l o use-told.1.under
          w.stands w.same in
          let here : node_at drawing l ≡ events_at drawing l.own = own-nodes drawing l w.stands in
          subst (λ (y : State). at y (Ok Copy)) (sym w.stood) (record {
            built = ap (λ xs. first_of drawing (left - 2) (e.own.number + 1) t.node_count xs u) (sym here)
                ∙ ap (λ y. node (plain drawing.characters.now) (document drawing) (left - 2) (node_at drawing l) (e.own.number + 1) y t.node_count u)
                (sym (copied-one e.own.number))
                ∙ ap copies w.same
                ∙ use-told.0 o;
            rest = record {
              above = use-told.1.above;
              under = record {
                fit = w.stands.own;
                all = b.inside.all;
                lies = rw (← here) (b.element, b.inside.lies);
                small = b.inside.small;
                tidy = b.inside.tidy;
                few = b.inside.few;
                below = b.inside.below;
              };
              opens = subst Opens here tt;
              aside = use-told.1.under;
            };
            by = refl;
            behind = ap (leave 0) use-told.1.nodes.events;
            later = use-told.1.nodes.later;
            more = use-told.1.more;
          })

      pub met-use : (s' : State) (k : Met) → CopyFit drawing e c s₁ s' k → at s' (Ok k)
      met-use s' Passed h = copied_none s' h
      met-use s' Children h = absurd h
      met-use s' Copy h = copied_at s' h
      met-use s' End h = absurd h
