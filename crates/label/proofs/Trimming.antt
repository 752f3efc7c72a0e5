-- A text element whole: its node, its inside and its trimming. Assumes nothing.
use Prim.Native.Nat.{ℕ, ◌<◌}
use mathlib.Core.Path.{◌≡◌, refl, ap, ◌∙◌, subst}
use mathlib.Core.Bool.{Bool, true}
use mathlib.Core.List.{List}
use native.Mathlib.Omega.{arith}
use lib.ListN.{length}
use Rattle.model.specs.EId
use Rattle.model.specs.Names.{is_element}
use Rattle.model.specs.Drawing.{Element, Event}
use Rattle.model.specs.Tables.{Tree, Out, refused, done, then, text_of, set_text, add_element}
use Rattle.model.specs.Element.{parse_svg_element}
use Rattle.model.specs.Text.{Trimming, stop, look, cut, run, cut_text, space_of, own_text_nodes, trim_text_nodes}
use Rattle.model.specs.Parse.{label, plain}
use Rattle.model.specs.Theorems.Kept.{Tidy}
use Rattle.model.specs.Theorems.Reach as R
use Rattle.model.specs.Theorems.Reach.{IsText}
use Rattle.model.proofs.Theorems.Reach.{tidy-cut, within-trimming, own-collected}
use Rattle.script.specs.Step.{document}
use Rattle.script.specs.declared.drawing.Drawing.{Drawing}
use Rattle.script.specs.declared.cursor.Cursor.{Cursor}
use Rattle.walk.specs.declared.node.Opened.{Opened}
use Rattle.walk.specs.Nodes.{element_of, leave}
use Rattle.walk.specs.Values.{events_at, SameNodes}
use Rattle.tree.specs.declared.Counts.{Counts}
use Rattle.tree.specs.Lent.{tree_of, read_of}
use Rattle.element.specs.declared.Parsed.{Parsed}
use Rattle.refusal.specs.declared.Refusal.{Refusal}
use Rattle.refusal.specs.Number.{number_of}
use Rattle.std.specs.Prelude.{Result, Ok, Err}
use Rattle.element.specs.Runs.{InAttributes, InDeclarations, Ready}
use Rattle.element.proofs.Keeping.{Grown, kept-ready, element-grown}
use Rattle.text.specs.declared.XmlSpace.{XmlSpace}
use Rattle.text.specs.Spaces.{space_in}
use Rattle.text.proofs.Seen.{space-same}
use Rattle.edges.proofs.Steps.{cut-words}
use Rattle.label.specs.declared.State.{State}
use Rattle.label.specs.Walk.{Holding, Within, inside_of, whole, Ends, InsideFit}
use Rattle.label.specs.Whole.{Beginning, Closed}
use Rattle.label.proofs.Growing.{made-element}

-- A TRIMMING KEEPS THE TABLES TIDY

text-cut : (i a b : ℕ) (t : Tree) (j : ℕ) → IsText t j → IsText (cut_text i a b t) j
unfolding cut_text set_text
text-cut i a b t j h = (h.0, cut-words i a b t j 0 (λ e. omega arith) (λ e. omega arith) ∙ h.1)

within-map : (P Q : ℕ → Type 0) → ((i : ℕ) → P i → Q i) → (g : Trimming) → R.Within P g → R.Within Q g
within-map P Q f stop h = tt
within-map P Q f (look i k) h = (f i h.0, λ v. within-map P Q f (k v) (h.1 v))
within-map P Q f (cut i a b k) h = (f i h.0, within-map P Q f k h.1)

tidy-run : (size : ℕ) (g : Trimming) (t : Tree) → R.Within (IsText t) g → Tidy size t → Tidy size (run g t)
unfolding run
tidy-run size stop t w h = h
tidy-run size (look i k) t w h = tidy-run size (k (text_of t i)) t (w.1 (text_of t i)) h
tidy-run size (cut i a b k) t w h =
    tidy-run size k (cut_text i a b t) (within-map (IsText t) (IsText (cut_text i a b t)) (λ j x. text-cut i a b t j x) k w.1)
    (tidy-cut size i a b t w.0 h)

tidy-trimmed : (size : ℕ) (chars : List ℕ) (e : ℕ) (t : Tree) → e < t.node_count → Tidy size t → Tidy size (trim_text_nodes chars e t)
unfolding trim_text_nodes
tidy-trimmed size chars e t l g =
    tidy-run size _ t
    (within-trimming (IsText t) (space_of chars t e) (own_text_nodes chars t (space_of chars t e) e t.node_count)
    (own-collected (IsText t) chars t (space_of chars t e) e t.node_count l (λ j x y k. (y, k)))) g

-- ITS NODE

module _ (drawing : Drawing) (ns ats bs : List ℕ) (k : Counts) (p : ℕ) (x : Opened) (b : Beginning drawing (tree_of ns ats bs k) p x)
    (ignored : Bool) where
  abbrev t : Tree
  t = tree_of ns ats bs k

  abbrev X : Element
  X = element_of drawing x

  abbrev xs : List Event
  xs = events_at drawing x.inside

  abbrev labelled : Out Tree
  labelled = label (plain drawing.characters.now) (document drawing) X xs ignored p t

  -- What follows its node.
  abbrev follows : Tree → Out Tree
  follows r = then (inside_of drawing k.nodes xs k.nodes r) (λ q. done (trim_text_nodes drawing.characters.now k.nodes q))

  pub label-ready : Ready ns ats k p
  label-ready = kept-ready (length drawing.characters.now) ns ats bs k b.inside.tidy.kept (b.inside.few.0, b.inside.few.1) p b.inside.below

  pub label-values : InAttributes drawing x.inside × InDeclarations drawing x.inside
  label-values = (
    record { fit = b.inside.fit; lie = b.element.0; small = b.inside.small },
    record { fit = b.inside.fit; lie = b.element.1; small = b.inside.small },
  )

  module _ (ns₁ ats₁ bs₁ : List ℕ) (taken : Counts) (behind : Cursor) (nodes : SameNodes drawing x.inside behind)
      (told : done (tree_of ns₁ ats₁ bs₁ taken) ≡ parse_svg_element X EId.Text ignored p t) where
    is-element : is_element EId.Text ≡ true
    unfolding is_element
    is-element = refl

    grown : Grown (length drawing.characters.now) t (tree_of ns₁ ats₁ bs₁ taken)
    grown =
        element-grown (length drawing.characters.now) t b.inside.tidy EId.Text is-element p b.inside.below ignored X b.element
        (tree_of ns₁ ats₁ bs₁ taken) told

    texts : taken.text ≡ k.text
    unfolding add_element
    texts = ap (λ (v : Tree). v.text_count) (made-element t p EId.Text ignored X (tree_of ns₁ ats₁ bs₁ taken) told).0

    pub label-holds : Holding (length drawing.characters.now) (tree_of ns₁ ats₁ bs₁ taken) k.nodes
    label-holds = record {
      kept = grown.tidy.kept;
      few = (grown.few.0, omega (arith, texts, b.inside.few.2));
      below = omega (arith, grown.one);
    }

    module _ (sp : XmlSpace) (handed : space_in sp ≡ space_of drawing.characters.now (read_of ns₁ ats₁) k.nodes) where
      abbrev first : State
      first = record { c = behind; p = k.nodes; counts = taken; space = sp }

      pub label-within : Within drawing ns₁ ats₁ bs₁ k.nodes first
      label-within = record {
        fit = nodes.fit;
        all = b.inside.all;
        lies = rw nodes.events b.inside.lies;
        small = b.inside.small;
        sound = record {
          tidy = grown.tidy;
          few = (grown.few.0, grown.few.1, omega (arith, texts, b.inside.few.2));
          under = λ i l h. absurd (omega (arith, grown.one));
        };
        up = omega arith;
        below = omega (arith, grown.one);
        space = handed ∙ space-same drawing.characters.now (tree_of ns₁ ats₁ bs₁ taken) k.nodes;
      }

      so_far : then (inside_of drawing k.nodes (events_at drawing behind) k.nodes (tree_of ns₁ ats₁ bs₁ taken))
          (λ q. done (trim_text_nodes drawing.characters.now k.nodes q)) ≡ labelled
      so_far =
          ap (λ ys. then (inside_of drawing k.nodes ys k.nodes (tree_of ns₁ ats₁ bs₁ taken))
          (λ q. done (trim_text_nodes drawing.characters.now k.nodes q))) nodes.events
          ∙ ap (λ (o : Out Tree). then o follows) told

      module _ (ns₂ ats₂ bs₂ : List ℕ) where
        module _ (last : Counts) (c : Cursor) (ends : Ends drawing k.nodes ns₁ ats₁ bs₁ first ns₂ ats₂ bs₂ last c) where
          module _ (ns₃ bs₃ : List ℕ)
              (trimmed : tree_of ns₃ ats₂ bs₃ last ≡ trim_text_nodes drawing.characters.now k.nodes (tree_of ns₂ ats₂ bs₂ last)) where
            pub label-leaves : Closed drawing x.inside k.nodes (tree_of ns₃ ats₂ bs₃ last) c
            label-leaves = record {
              fit = ends.fit;
              later = omega (arith, nodes.later, ends.later);
              behind = ends.behind (leave 0 xs) (record { deep = 0; up = refl; left = ap (leave 0) nodes.events });
              tidy = rw trimmed (tidy-trimmed (length drawing.characters.now) drawing.characters.now k.nodes (tree_of ns₂ ats₂ bs₂ last) ends.below
                  ends.sound.tidy);
              few = ends.sound.few;
              more = omega (arith, ends.below);
            }

-- What the walk inside comes to.
module _ (drawing : Drawing) (e : ℕ) (ns ats bs : List ℕ) (s : State) (ns' ats' bs' : List ℕ) (r : Result Parsed Refusal)
    (h : InsideFit drawing e ns ats bs s ns' ats' bs' r) where
  pub inside-done : (x : Parsed) → r ≡ Ok x → Ends drawing e ns ats bs s ns' ats' bs' x.counts x.behind
  inside-done x q = subst (InsideFit drawing e ns ats bs s ns' ats' bs') q h

  pub inside-none : (k : Refusal) → r ≡ Err k → refused (number_of k) ≡ whole drawing e ns ats bs s ns' ats' bs'
  inside-none k q = subst (InsideFit drawing e ns ats bs s ns' ats' bs') q h
