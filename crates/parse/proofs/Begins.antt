-- A node begun, case by case. Assumes nothing.
use Prim.Native.Nat.{ℕ, zero, ◌-◌, ◌≤◌}
use mathlib.Core.Path.{◌≡◌, ap, sym, ◌∙◌, subst}
use mathlib.Core.Bool.{Bool, true, false}
use mathlib.Core.List.{List}
use Rattle.std.specs.Prelude.{Result, Ok, Err}
use lib.Dec.{eqb}
use Rattle.model.specs.EId
use Rattle.model.specs.Drawing.{Element, children_from}
use Rattle.model.specs.Tables.{Tree, done}
use Rattle.model.specs.Element.{parse_svg_element}
use Rattle.model.specs.Parse.{each, label, node, plain}
use Rattle.script.specs.Step.{document}
use Rattle.script.specs.declared.drawing.Drawing.{Drawing}
use Rattle.script.specs.declared.cursor.Cursor.{Cursor}
use Rattle.script.specs.Step as step
use Rattle.walk.specs.declared.node.Opened.{Opened}
use Rattle.walk.specs.Nodes.{element_of, leave}
use Rattle.walk.specs.Values.{events_at, SameNodes}
use Rattle.tree.specs.declared.Counts.{Counts}
use Rattle.tree.specs.Lent.{tree_of}
use Rattle.element.specs.declared.Parsed.{Parsed}
use Rattle.refusal.specs.declared.Refusal.{Refusal}
use Rattle.refusal.specs.declared.Refusal.TheVariants.{ElementsLimitReached}
use Rattle.element.specs.Runs.{parsed_of, ParsedFit}
use Rattle.label.specs.Whole.{Beginning, ClosedFit}
use Rattle.label.proofs.Telling.{element-done, element-none, element-behind}
use Rattle.parse.specs.declared.Begun.{Begun}
use Rattle.parse.specs.declared.Begun.TheVariants as begun
use Rattle.refusal.specs.Number.{number_of}
use Rattle.parse.specs.Cycle.{is_parsed, tag_named, node_built, IsText, IsOther, Made, BegunFit}
use Rattle.parse.proofs.Levels.{node-skipped, node-text, node-refused, node-use, node-children}
use Rattle.parse.proofs.Nodes.{closed_same, made_one, made-under}

module _ (drawing : Drawing) (ns ats bs : List ℕ) (k : Counts) (left : ℕ) (ignored : Bool) (p : ℕ) (e : Opened)
    (b : Beginning drawing (tree_of ns ats bs k) p e) where
  abbrev t : Tree
  t = tree_of ns ats bs k

  abbrev X : Element
  X = element_of drawing e

  abbrev Fit : List ℕ → List ℕ → List ℕ → Result Begun Refusal → Type 0
  Fit = BegunFit drawing left ignored p e t

  pub begun-deep : left ≡ 0 → Fit ns ats bs (Err ElementsLimitReached)
  begun-deep h origin = ap (λ l. node_built drawing l origin ignored p e t) (sym h)

  pub begun-skipped : 1 ≤ left → is_parsed e.name e.space ≡ false → (past : Cursor) →
      events_at drawing past ≡ leave 0 (events_at drawing e.inside) → step.Fit drawing past → e.inside.at ≤ past.at →
      Fit ns ats bs (Ok (begun.Passed k past))
  begun-skipped h a past q f l = (
    λ origin. node-skipped drawing e left origin ignored p t h a,
    closed_same drawing t p e.inside past b.inside q f l,
  )

  -- A TEXT ELEMENT

  module _ (is : IsText left e.name e.space) (ns' ats' bs' : List ℕ) (r : Result Parsed Refusal)
      (told : parsed_of ns' ats' bs' r ≡ label (plain drawing.characters.now) (document drawing) X (events_at drawing e.inside) ignored p t)
      (closed : ClosedFit drawing e.inside k.nodes ns' ats' bs' r) where
    pub text-refused : (j : Refusal) → r ≡ Err j → Fit ns' ats' bs' (Err j)
    text-refused j q origin =
        element-none r ns' ats' bs' _ told j q ∙ node-text drawing e left origin ignored p t is.0 is.1 is.2

    pub text-done : (x : Parsed) → r ≡ Ok x → Fit ns' ats' bs' (Ok (begun.Passed x.counts x.behind))
    text-done x q = (
      λ origin. element-done r ns' ats' bs' _ told x q
          ∙ node-text drawing e left origin ignored p t is.0 is.1 is.2,
      subst (ClosedFit drawing e.inside k.nodes ns' ats' bs') q closed,
    )

  -- ANY OTHER ELEMENT

  module _ (is : IsOther left e.name e.space) (tag : ℕ) (named : tag ≡ tag_named e.name) (ns' ats' : List ℕ) (r : Result Parsed Refusal)
      (told : parsed_of ns' ats' bs r ≡ parse_svg_element X tag ignored p t) (behind : ParsedFit drawing e.inside r) where
    made : parsed_of ns' ats' bs r ≡ parse_svg_element X (tag_named e.name) ignored p t
    made = told ∙ ap (λ g. parse_svg_element X g ignored p t) named

    pub other-refused : (j : Refusal) → r ≡ Err j → Fit ns' ats' bs (Err j)
    other-refused j q origin =
        node-refused drawing e left origin ignored p t is.0 is.1 is.2 (number_of j) (element-none r ns' ats' bs _ made j q)

    module _ (x : Parsed) (q : r ≡ Ok x) where
      abbrev m : Counts
      m = x.counts

      abbrev c : Cursor
      c = x.behind

      nodes : SameNodes drawing e.inside c
      nodes = element-behind r drawing e.inside behind x q

      stands : done (tree_of ns' ats' bs m) ≡ parse_svg_element X (tag_named e.name) ignored p t
      stands = element-done r ns' ats' bs _ made x q

      begun-made : Made drawing left ignored p e t (tree_of ns' ats' bs m) c
      begun-made = record {
        above = is.0;
        under = made-under drawing ns ats bs k p e b ignored is.1 ns' ats' m c nodes stands;
        nodes = nodes;
        more = made_one drawing ns ats bs k p e b ignored is.1 ns' ats' m c nodes stands;
      }

      pub other-use : eqb e.name EId.Use ≡ true → Fit ns' ats' bs (Ok (begun.Use m c))
      other-use u = (
        λ origin. node-use drawing e left origin ignored p t is.0 is.1 is.2 (tree_of ns' ats' bs m) stands u,
        begun-made,
      )

      pub other-children : eqb e.name EId.Use ≡ false → Fit ns' ats' bs (Ok (begun.Children m c))
      other-children u = (
        λ origin. ap (λ ys. each (node (plain drawing.characters.now) (document drawing) (left - 1)) (children_from zero ys) origin ignored k.nodes
            (tree_of ns' ats' bs m)) nodes.events
            ∙ node-children drawing e left origin ignored p t is.0 is.1 is.2 (tree_of ns' ats' bs m) stands u,
        begun-made,
      )
