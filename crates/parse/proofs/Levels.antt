-- One level of the recursion in the model, case by case. Assumes nothing.
use Prim.Native.Nat.{ℕ, zero, suc, ◌-◌, ◌≤◌}
use mathlib.Core.Path.{◌≡◌, refl, ap, sym, ◌∙◌}
use mathlib.Core.Bool.{Bool, true, false}
use mathlib.Core.List.{List}
use native.Mathlib.Omega.{arith}
use lib.Dec.{eqb}
use Rattle.model.specs.Base.{pick}
use Rattle.model.specs.EId
use Rattle.model.specs.Drawing.{Element, Event, children_from, has_tag_name, use_target}
use Rattle.model.specs.Tables.{Tree, Out, refused, done, then}
use Rattle.model.specs.Element.{parse_svg_element}
use Rattle.model.specs.Parse.{Ops, Builder, each, copy, label, level, node, plain}
use Rattle.script.specs.Step.{document}
use Rattle.script.specs.declared.drawing.Drawing.{Drawing}
use Rattle.walk.specs.declared.node.Opened.{Opened}
use Rattle.walk.specs.Nodes.{element_of, node_at}
use Rattle.walk.specs.Values.{events_at}
use Rattle.parse.specs.Cycle.{is_parsed, tag_named}

-- Above the limit a node is a level whose children are one level deeper, and what it copies two.
pub node-level : {S : Type 0} (o : Ops S) (all : List Event) (left : ℕ) → 1 ≤ left →
    node o all left ≡ level o all (node o all (left - 1)) (node o all (left - 2))
node-level o all zero h = absurd (omega (arith, h))
node-level o all (suc zero) h = refl
node-level {S} o all (suc (suc k)) h =
    let one : suc k ≡ suc (suc k) - 1 = omega arith in
    let two : k ≡ suc (suc k) - 2 = omega arith in
    ap (λ i. level o all (node o all i) (node o all k)) one ∙ ap (λ i. level o all (node o all (suc (suc k) - 1)) (node o all i)) two

-- The element e with that many levels left.
module _ (drawing : Drawing) (e : Opened) (left origin : ℕ) (ignored : Bool) (p : ℕ) (t : Tree) where
  abbrev X : Element
  X = element_of drawing e

  abbrev xs : List Event
  xs = events_at drawing e.inside

  abbrev build : ℕ → Builder Tree
  build = node (plain drawing.characters.now) (document drawing)

  abbrev whole : Out Tree
  whole = build left (node_at drawing e) origin ignored p t

  abbrev labelled : Out Tree
  labelled = label (plain drawing.characters.now) (document drawing) X xs ignored p t

  abbrev made : Out Tree
  made = parse_svg_element X (tag_named e.name) ignored p t

  abbrev copies : Tree → Out Tree
  copies = copy (plain drawing.characters.now) (document drawing) (build (left - 2)) (use_target (document drawing) X origin) X.number t.node_count

  abbrev goes_on : Tree → Out Tree
  goes_on = each (build (left - 1)) (children_from zero xs) origin ignored t.node_count

  -- What a level comes to, by its three tests.
  abbrev cases : Bool → Bool → Bool → Out Tree
  cases a b c =
      pick a (λ u. pick b (λ v. labelled) (λ v. then made (λ r. pick c (λ w. copies r) (λ w. goes_on r)))) (λ u. done t)

  told : 1 ≤ left → cases (is_parsed e.name e.space) (eqb e.name EId.Text) (eqb e.name EId.Use) ≡ whole
  unfolding has_tag_name
  told h =
      sym (ap (λ (f : Builder Tree). f (node_at drawing e) origin ignored p t) (node-level (plain drawing.characters.now) (document drawing) left h))

  module _ (h : 1 ≤ left) where
    pub node-skipped : is_parsed e.name e.space ≡ false → done t ≡ whole
    node-skipped a = ap (λ x. cases x (eqb e.name EId.Text) (eqb e.name EId.Use)) (sym a) ∙ told h

    module _ (a : is_parsed e.name e.space ≡ true) where
      pub node-text : eqb e.name EId.Text ≡ true → labelled ≡ whole
      node-text b =
          ap (λ y. cases true y (eqb e.name EId.Use)) (sym b)
          ∙ ap (λ x. cases x (eqb e.name EId.Text) (eqb e.name EId.Use)) (sym a)
          ∙ told h

      module _ (b : eqb e.name EId.Text ≡ false) where
        plainly : then made (λ r. pick (eqb e.name EId.Use) (λ w. copies r) (λ w. goes_on r)) ≡ whole
        plainly =
            ap (λ y. cases true y (eqb e.name EId.Use)) (sym b)
            ∙ ap (λ x. cases x (eqb e.name EId.Text) (eqb e.name EId.Use)) (sym a)
            ∙ told h

        pub node-refused : (k : ℕ) → refused k ≡ made → refused k ≡ whole
        node-refused k m =
            ap (λ (o : Out Tree). then o (λ r. pick (eqb e.name EId.Use) (λ w. copies r) (λ w. goes_on r))) m ∙ plainly

        module _ (u : Tree) (m : done u ≡ made) where
          after : (c : Bool) → eqb e.name EId.Use ≡ c → pick c (λ w. copies u) (λ w. goes_on u) ≡ whole
          after c q =
              ap (λ x. pick x (λ w. copies u) (λ w. goes_on u)) (sym q)
              ∙ ap (λ (o : Out Tree). then o (λ r. pick (eqb e.name EId.Use) (λ w. copies r) (λ w. goes_on r))) m
              ∙ plainly

          pub node-use : eqb e.name EId.Use ≡ true → copies u ≡ whole
          node-use = after true

          pub node-children : eqb e.name EId.Use ≡ false → goes_on u ≡ whole
          node-children = after false
