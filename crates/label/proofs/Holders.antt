-- A text node is appended through nodes and text alone as through all three tables, with the space that is handed down. Assumes nothing.
use Prim.Native.Nat.{ℕ, ◌+◌, ◌/◌, ◌≤◌, min}
use mathlib.Core.Path.{◌≡◌, refl, sym, ap, ◌∙◌, subst}
use mathlib.Core.Bool.{Bool, true, false}
use mathlib.Core.List.{List, []}
use native.Mathlib.Omega.{arith}
use lib.Dec.{eqb, leb, ltb}
use lib.ListN.{length}
use Rattle.model.specs.Base.{pick}
use Rattle.model.specs.Drawing.{Element, Source, quoted}
use Rattle.model.specs.Tables.{Tree, Out, refused, done, most, node_room, text_room, add_text}
use Rattle.model.specs.Text.{XmlSpace, space_of, trim_text, total_size, joined, append_text}
use Rattle.model.specs.Theorems.Sim.{Every}
use Rattle.model.proofs.Theorems.Sim.{texts-quoted}
use Rattle.model.specs.Theorems.Inside.{LiesElement, LiesText}
use Rattle.model.specs.Theorems.Kept.{with_attributes}
use Rattle.model.proofs.Theorems.Kept.{last_within}
use Rattle.script.specs.Step.{document}
use Rattle.script.specs.declared.drawing.Drawing.{Drawing}
use Rattle.walk.specs.declared.node.Opened.{Opened}
use Rattle.walk.specs.Nodes.{Standing}
use Rattle.std.specs.Prelude.{Option, Some, None, Result, Ok, Err}
use Rattle.refusal.specs.declared.Refusal.{Refusal}
use Rattle.memo.specs.Plain.{NodeFit}
use Rattle.links.specs.Links.{texts_of}
use Rattle.tree.specs.declared.Counts.{Counts}
use Rattle.tree.specs.Lent.{tree_of, read_of, out_of, ReadableIn, Climbable}
use Rattle.tree.proofs.Facts.{readable-in, climbable}
use Rattle.text.specs.Append.{Appendable, append_in}
use Rattle.text.proofs.Appending.{append-in}
use Rattle.text.proofs.Seen.{space-same}
use Rattle.pieces.specs.Quotes.{texts_from, Quotable, quote_in}
use Rattle.label.specs.Walk.{Holding, quote_of, Lies}

-- WHAT IS ASKED OF THE TABLES

module _ (size : ℕ) (ns ats bs : List ℕ) (c : Counts) (p : ℕ) (h : Holding size (tree_of ns ats bs c) p) where
  pub climbs : Climbable (read_of ns ats) p
  climbs = climbable size (tree_of ns ats bs c) h.kept p h.below h.few.0

  pub reads : (k : ℕ) → k ≤ p → ReadableIn size (read_of ns ats) k
  reads k l = readable-in size (tree_of ns ats bs c) h.kept k (omega (arith, h.below))

  pub appends : Appendable (tree_of ns [] bs c) p
  unfolding text_room
  appends = record {
    room = omega (arith, h.kept.fits.bytes, h.few.1);
    parent = h.below;
    last = last_within size (tree_of ns ats bs c) h.kept p h.below;
  }

-- ALL THREE TABLES

abbrev wide : List ℕ → Out Tree → Out Tree
wide ats (refused k) = refused k
wide ats (done t) = done (with_attributes ats t)

wide-out : (ns ats bs : List ℕ) (r : Result Counts Refusal) → out_of ns ats bs r ≡ wide ats (out_of ns [] bs r)
wide-out ns ats bs (Ok c) = refl
wide-out ns ats bs (Err r) = refl

wide-rooms : (ats : List ℕ) (a b : Bool) (x y : Tree) → with_attributes ats x ≡ y →
    wide ats (pick a (λ u. pick b (λ v. done x) (λ v. refused 22)) (λ u. refused 24))
    ≡ pick a (λ u. pick b (λ v. done y) (λ v. refused 22)) (λ u. refused 24)
wide-rooms ats true true x y e = ap done e
wide-rooms ats true false x y e = refl
wide-rooms ats false b x y e = refl

wide-none : (ats : List ℕ) (b : Bool) (t u : Tree) (x y : Out Tree) → with_attributes ats t ≡ u → wide ats x ≡ y →
    wide ats (pick b (λ v. done t) (λ v. x)) ≡ pick b (λ v. done u) (λ v. y)
wide-none ats true t u x y e f = ap done e
wide-none ats false t u x y e f = f

module _ (chars : List ℕ) (from : List Source) (p : ℕ) (ns ats bs : List ℕ) (c : Counts) (w : XmlSpace) where
  wide-append : wide ats (append_in w chars from p (tree_of ns [] bs c)) ≡ append_in w chars from p (tree_of ns ats bs c)
  unfolding append_in text_room node_room add_text
  wide-append =
      wide-rooms ats (leb (c.text + total_size from) (min (length bs) most)) (ltb c.nodes (min (length ns / 8) most))
      (add_text (trim_text w (joined chars from)) (total_size from) p (tree_of ns [] bs c))
      (add_text (trim_text w (joined chars from)) (total_size from) p (tree_of ns ats bs c)) refl

  module _ (told : w ≡ space_of chars (read_of ns ats) p) where
    append-same : append_in w chars from p (tree_of ns ats bs c) ≡ append_text chars from p (tree_of ns ats bs c)
    append-same =
        ap (λ v. append_in v chars from p (tree_of ns ats bs c)) (told ∙ space-same chars (tree_of ns ats bs c) p)
        ∙ sym (append-in chars from p (tree_of ns ats bs c))

    module _ (ns' bs' : List ℕ) (r : Result Counts Refusal) where
      pub text-node : out_of ns' [] bs' r ≡ append_in w chars from p (tree_of ns [] bs c) →
          out_of ns' ats bs' r ≡ append_text chars from p (tree_of ns ats bs c)
      text-node e = wide-out ns' ats bs' r ∙ ap (wide ats) e ∙ wide-append ∙ append-same

      pub quote-node : out_of ns' [] bs' r ≡ quote_in w chars from p (tree_of ns [] bs c) →
          out_of ns' ats bs' r ≡ quote_of chars from p (tree_of ns ats bs c)
      unfolding quote_in
      quote-node e =
          wide-out ns' ats bs' r ∙ ap (wide ats) e
          ∙ wide-none ats (eqb (total_size from) 0) (tree_of ns [] bs c) (tree_of ns ats bs c)
          (append_in w chars from p (tree_of ns [] bs c)) (append_text chars from p (tree_of ns ats bs c)) refl (wide-append ∙ append-same)

-- WHAT A TREF LEADS TO

module _ (drawing : Drawing) (r : Option Opened) (x : Element) (told : texts_of drawing r ≡ quoted (document drawing) x) where
  module _ (l : Opened) (e : r ≡ Some l) where
    pub found-texts : texts_from drawing l.inside ≡ quoted (document drawing) x
    found-texts = subst (λ (f : Option Opened). texts_of drawing f ≡ quoted (document drawing) x) e told

    pub found-quotes : NodeFit drawing r → Lies drawing.characters.now (document drawing) → Quotable drawing l.inside
    found-quotes f h =
        let s : Standing drawing l = subst (NodeFit drawing) e f in
        record {
          fit = s.fit;
          lie = subst (Every (LiesText (length drawing.characters.now))) (sym found-texts)
              (texts-quoted (LiesElement (length drawing.characters.now)) (LiesText (length drawing.characters.now)) (document drawing) x h);
        }

  pub found_nothing : r ≡ None → (p : ℕ) (t : Tree) → done t ≡ quote_of drawing.characters.now (quoted (document drawing) x) p t
  unfolding total_size
  found_nothing e p t =
      let z : [] ≡ quoted (document drawing) x =
      subst (λ (f : Option Opened). texts_of drawing f ≡ quoted (document drawing) x) e told in
      subst (λ (l : List Source). done t ≡ quote_of drawing.characters.now l p t) z refl
