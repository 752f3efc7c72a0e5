-- A turn of the loop over the elements. Assumes nothing.
use Prim.Native.Nat.{ℕ, ◌+◌, ◌*◌, ◌≤◌, ◌<◌}
use mathlib.Core.Path.{◌≡◌, refl, sym, ap, ◌∙◌, subst}
use mathlib.Core.Bool.{Bool, true}
use mathlib.Core.List.{List, ◌∷◌}
use native.Mathlib.Omega.{arith}
use lib.ListN.{length, replicate, length-replicate}
use Rattle.model.specs.Drawing as model
use Rattle.model.specs.Drawing.{Event, Source, begin, close, commands, events}
use Rattle.model.specs.Names.{is_element}
use Rattle.model.specs.Tables.{Tree, done, word, set_word, rooted, cleared, add_element}
use Rattle.model.specs.Element.{parse_svg_element}
use Rattle.model.proofs.Theorems.Inside.{all-inside}
use Rattle.model.proofs.Theorems.Kept.{tidy-root}
use Rattle.script.specs.declared.drawing.Drawing.{Drawing}
use Rattle.script.specs.declared.cursor.Cursor.{Cursor}
use Rattle.script.specs.Step.{Fit, at_start, commands_at, Checked}
use Rattle.script.proofs.Commands.{placed_first}
use Rattle.walk.specs.declared.node.Opened.{Opened}
use Rattle.walk.specs.Nodes.{element_of, leave, Further}
use Rattle.walk.specs.Values.{events_at, SameNodes}
use Rattle.tree.specs.declared.Counts.{Counts}
use Rattle.tree.specs.Lent.{tree_of}
use Rattle.element.specs.declared.Parsed.{Parsed}
use Rattle.element.specs.Runs.{InAttributes, InDeclarations, Ready}
use Rattle.element.proofs.Keeping.{kept-ready, element-grown}
use Rattle.elements.specs.declared.State.{State}
use Rattle.std.specs.Prelude.{Option, Some, Result, Ok}
use Rattle.refusal.specs.declared.Refusal.{Refusal}
use Rattle.build.specs.Results.{nothing}
use Rattle.build.proofs.Building.{both_small}
use Rattle.label.specs.Walk.{Lies}
use Rattle.label.specs.Whole.{Beginning, Closed, ClosedFit}
use Rattle.label.proofs.Growing.{made-element}
use Rattle.label.proofs.Walking.{lies-leave}
use Rattle.elements.specs.Turns.{Going, Opening, TurnFit}

module _ (drawing : Drawing) (ns ats bs : List ℕ) (s : State) (g : Going drawing ns ats bs s) where
  abbrev t : Tree
  t = tree_of ns ats bs s.counts

  -- Another place of the drawing, another node.
  pub elsewhere : (c : Cursor) (p : ℕ) → Fit drawing c → Lies drawing.characters.now (events_at drawing c) → p < s.counts.nodes →
      Going drawing ns ats bs (record { c = c; parent = p; counts = s.counts })
  elsewhere c p f l b = record { fit = f; all = g.all; lies = l; small = g.small; tidy = g.tidy; few = g.few; below = b }

  -- The way up.
  pub above-there : (8 * s.parent + 7 < length ns) × (word ns s.parent 1 ≤ s.parent)
  above-there = (omega (arith, g.below, g.tidy.kept.fits.nodes), (g.tidy.kept.nodes s.parent g.below).falls)

  -- Behind a text, a comment or a close.
  pub further-on : (c : Cursor) (p : ℕ) → Further drawing s.c c → Lies drawing.characters.now (events_at drawing c) → p ≤ s.parent →
      Going drawing ns ats bs (record { c = c; parent = p; counts = s.counts }) × (s.c.at < c.at)
  further-on c p f l b = (elsewhere c p f.fit l (omega (arith, g.below)), f.further)

  module _ (e : Opened) (o : Opening drawing s e) where
    pub ready : Ready ns ats s.counts s.parent
    ready =
        kept-ready (length drawing.characters.now) ns ats bs s.counts g.tidy.kept (g.few.0, g.few.1) s.parent g.below

    pub inside : InAttributes drawing e.inside × InDeclarations drawing e.inside
    inside = (
      record { fit = o.further.fit; lie = o.element.0; small = g.small },
      record { fit = o.further.fit; lie = o.element.1; small = g.small },
    )

    pub passed : (c : Cursor) → events_at drawing c ≡ leave 0 (events_at drawing e.inside) → Fit drawing c →
        e.inside.at ≤ c.at →
        Going drawing ns ats bs (record { c = c; parent = s.parent; counts = s.counts }) × (s.c.at < c.at)
    passed c q f l = (
      elsewhere c s.parent f (rw q (lies-leave drawing.characters.now 0 (events_at drawing e.inside) o.lies)) g.below,
      omega (arith, o.further.further),
    )

    pub grown : (ignored : Bool) (code : ℕ) → is_element code ≡ true → (c : Counts) (behind : Cursor) →
        SameNodes drawing e.inside behind →
        (ms as' : List ℕ) → done (tree_of ms as' bs c) ≡ parse_svg_element (element_of drawing e) code ignored s.parent t →
        Going drawing ms as' bs (record { c = behind; parent = s.counts.nodes; counts = c }) × (s.c.at < behind.at)
    unfolding add_element
    grown ignored code is c behind same ms as' q =
        let h = element-grown (length drawing.characters.now) t g.tidy code is s.parent g.below ignored (element_of drawing e) o.element
        (tree_of ms as' bs c) q in
        let m = made-element t s.parent code ignored (element_of drawing e) (tree_of ms as' bs c) q in
        let texts : c.text ≡ s.counts.text = ap (λ (v : Tree). v.text_count) m.0 in (
          record {
            fit = same.fit;
            all = g.all;
            lies = rw same.events o.lies;
            small = g.small;
            tidy = h.tidy;
            few = (h.few.0, h.few.1, omega (arith, texts, g.few.2));
            below = omega (arith, h.one);
          },
          omega (arith, o.further.further, same.later),
        )

    -- A text element can be built here.
    pub beginning : Beginning drawing t s.parent e
    beginning = record {
      inside = record {
        fit = o.further.fit;
        all = g.all;
        lies = o.lies;
        small = g.small;
        tidy = g.tidy;
        few = g.few;
        below = g.below;
      };
      element = o.element;
    }

    -- Behind a text element.
    pub labelled : (r : Result Parsed Refusal) (x : Parsed) → r ≡ Ok x → (ms as' bs' : List ℕ) →
        ClosedFit drawing e.inside s.counts.nodes ms as' bs' r →
        Going drawing ms as' bs' (record { c = x.behind; parent = s.parent; counts = x.counts }) × (s.c.at < x.behind.at)
    labelled r x q ms as' bs' h =
        let k : Closed drawing e.inside s.counts.nodes (tree_of ms as' bs' x.counts) x.behind = rw q at h in (
          record {
            fit = k.fit;
            all = g.all;
            lies = rw k.behind (lies-leave drawing.characters.now 0 (events_at drawing e.inside) o.lies);
            small = g.small;
            tidy = k.tidy;
            few = k.few;
            below = omega (arith, k.more, g.below);
          },
          omega (arith, o.further.further, k.later),
        )

module _ (drawing : Drawing) (s : State) where
  pub opening : (e : Opened) → begin (element_of drawing e) ∷ events_at drawing e.inside ≡ events_at drawing s.c →
      Further drawing s.c e.inside → Lies drawing.characters.now (events_at drawing s.c) → Opening drawing s e
  opening e q f l = let h : Lies drawing.characters.now (begin (element_of drawing e) ∷ events_at drawing e.inside) = subst (Lies drawing.characters.now) (sym
      q) l in
      record { further = f; element = h.0; lies = h.1 }

  module _ (c : Cursor) (l : Lies drawing.characters.now (events_at drawing s.c)) where
    pub behind-text : (a : Source) → model.Event.text a ∷ events_at drawing c ≡ events_at drawing s.c →
        Lies drawing.characters.now (events_at drawing c)
    behind-text a q =
        let h : Lies drawing.characters.now (model.Event.text a ∷ events_at drawing c) = subst (Lies drawing.characters.now) (sym q) l in h.1

    pub behind-other : model.Event.other ∷ events_at drawing c ≡ events_at drawing s.c → Lies drawing.characters.now (events_at drawing c)
    behind-other q = let h : Lies drawing.characters.now (model.Event.other ∷ events_at drawing c) = subst (Lies drawing.characters.now) (sym q) l in h

    pub behind-close : close ∷ events_at drawing c ≡ events_at drawing s.c → Lies drawing.characters.now (events_at drawing c)
    behind-close q = let h : Lies drawing.characters.now (close ∷ events_at drawing c) = subst (Lies drawing.characters.now) (sym q) l in h

first-lies : (drawing : Drawing) → Checked drawing → Lies drawing.characters.now (events_at drawing at_start)
unfolding events commands_at
first-lies drawing h = all-inside drawing.script.now drawing.characters.now h

-- The first state.
pub starting : (drawing : Drawing) (n m b : ℕ) → Checked drawing → (mid ats bs : List ℕ) →
    tree_of mid ats bs nothing ≡ cleared n m b → 8 ≤ length mid → (c : Cursor) → c ≡ at_start → (ns : List ℕ) → ns ≡ set_word mid 0 0 1 →
    Going drawing ns ats bs (record { c = c; parent = 0; counts = record { nodes = 1; attributes = 0; text = 0 } })
unfolding rooted cleared
starting drawing n m b h mid ats bs k l c e ns p =
    let z : mid ≡ replicate n 0 = ap (λ (t : Tree). t.nodes) k in
    let q : ats ≡ replicate m 0 = ap (λ (t : Tree). t.attributes) k in
    let r : bs ≡ replicate b 0 = ap (λ (t : Tree). t.text) k in
    let long : length mid ≡ n = ap length z ∙ length-replicate n 0 in
    rw (e, p, q, r, z) (record {
      fit = placed_first drawing at_start refl (both_small drawing h).0;
      all = all-inside drawing.script.now drawing.characters.now h;
      lies = first-lies drawing h;
      small = (both_small drawing h).1;
      tidy = tidy-root (length drawing.characters.now) n m b (omega arith);
      few = (omega arith, omega arith, omega arith);
      below = omega arith;
    })

pub turn-told : (drawing : Drawing) (ns ats bs : List ℕ) (s : State) (r : Result (Option State) Refusal) (x : Option State) (n : State) →
    r ≡ Ok x → x ≡ Some n → TurnFit drawing ns ats bs s r → Going drawing ns ats bs n × (s.c.at < n.c.at)
turn-told drawing ns ats bs s r x n e f h =
    let k : TurnFit drawing ns ats bs s (Ok x) = subst (TurnFit drawing ns ats bs s) e h in
    subst (λ (y : Option State). TurnFit drawing ns ats bs s (Ok y)) f k
