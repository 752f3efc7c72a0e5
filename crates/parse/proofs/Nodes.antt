-- A node behind its element: what its children or the element that it copies are built on. Assumes nothing.
use Prim.Native.Nat.{ℕ, ◌≤◌}
use mathlib.Core.Path.{◌≡◌, refl, ap, sym, subst}
use mathlib.Core.Bool.{Bool, true, false, not}
use mathlib.Core.List.{List}
use native.Mathlib.Omega.{arith}
use lib.Dec.{eqb, leb}
use lib.ListN.{length}
use Rattle.model.specs.Base.{pick, and}
use Rattle.model.specs.EId
use Rattle.model.specs.Names.{is_element}
use Rattle.model.specs.Drawing.{Element, use_target}
use Rattle.model.specs.Tables.{Tree, done, add_element}
use Rattle.model.specs.Element.{parse_svg_element}
use Rattle.model.proofs.Theorems.Sim.{and_left, and_right, events-target}
use Rattle.model.specs.Theorems.Inside.{LiesElement, LiesText}
use Rattle.script.specs.declared.drawing.Drawing.{Drawing}
use Rattle.script.specs.declared.cursor.Cursor.{Cursor}
use Rattle.script.specs.Step.{Fit, document}
use Rattle.walk.specs.declared.node.Opened.{Opened}
use Rattle.walk.specs.Nodes.{element_of, node_at, leave, Standing}
use Rattle.walk.specs.Values.{events_at, SameNodes}
use Rattle.tree.specs.declared.Counts.{Counts}
use Rattle.tree.specs.Lent.{tree_of}
use Rattle.element.proofs.Keeping.{Grown, element-grown}
use Rattle.label.specs.Walk.{Lies}
use Rattle.label.specs.Whole.{Underway, Beginning, Closed}
use Rattle.label.proofs.Growing.{made-element}
use Rattle.parse.specs.Cycle.{is_parsed, tag_named}

group-element : is_element EId.G ≡ true
unfolding is_element
group-element = refl

-- An element of the tree has a name of the list, also as a group.
pub tag-element : (name space : ℕ) → is_parsed name space ≡ true → is_element (tag_named name) ≡ true
tag-element name space h = go (eqb name EId.A)
  where
    named : is_element name ≡ true
    named = and_right (leb space 1) (is_element name) (and_left (and (leb space 1) (is_element name)) (not (eqb name EId.Style)) h)

    go : (b : Bool) → is_element (pick b (λ u. EId.G) (λ u. name)) ≡ true
    go true = group-element
    go false = named

-- Passed over, with the tables as they were.
pub closed_same : (drawing : Drawing) (t : Tree) (p : ℕ) (from past : Cursor) → Underway drawing t p from →
    events_at drawing past ≡ leave 0 (events_at drawing from) → Fit drawing past → from.at ≤ past.at →
    Closed drawing from t.node_count t past
closed_same drawing t p from past u q f l =
    record { fit = f; later = l; behind = q; tidy = u.tidy; few = u.few; more = omega arith }

module _ (drawing : Drawing) (ns ats bs : List ℕ) (k : Counts) (p : ℕ) (e : Opened) (b : Beginning drawing (tree_of ns ats bs k) p e)
    (ignored : Bool) (named : is_parsed e.name e.space ≡ true) (ns' ats' : List ℕ) (taken : Counts) (behind : Cursor)
    (nodes : SameNodes drawing e.inside behind)
    (told : done (tree_of ns' ats' bs taken)
    ≡ parse_svg_element (element_of drawing e) (tag_named e.name) ignored p (tree_of ns ats bs k)) where
  abbrev t : Tree
  t = tree_of ns ats bs k

  abbrev u : Tree
  u = tree_of ns' ats' bs taken

  abbrev X : Element
  X = element_of drawing e

  grown : Grown (length drawing.characters.now) t u
  grown =
      element-grown (length drawing.characters.now) t b.inside.tidy (tag_named e.name) (tag-element e.name e.space named) p
      b.inside.below ignored X b.element u told

  texts : taken.text ≡ k.text
  unfolding add_element
  texts = ap (λ (v : Tree). v.text_count) (made-element t p (tag_named e.name) ignored X u told).0

  pub made_one : k.nodes ≤ taken.nodes
  made_one = omega (arith, grown.one)

  -- What stands inside it can be built below its node.
  pub made-under : Underway drawing u k.nodes behind
  made-under = record {
    fit = nodes.fit;
    all = b.inside.all;
    lies = rw nodes.events b.inside.lies;
    small = b.inside.small;
    tidy = grown.tidy;
    few = (grown.few.0, grown.few.1, omega (arith, texts, b.inside.few.2));
    below = omega (arith, grown.one);
  }

-- The element l that the use e copies can be built below any node.
pub target-begins : (drawing : Drawing) (t : Tree) (p : ℕ) (from : Cursor) (e l : Opened) (origin : ℕ) →
    Underway drawing t p from → Standing drawing l →
    node_at drawing l ≡ use_target (document drawing) (element_of drawing e) origin → Beginning drawing t p l
target-begins drawing t p from e l origin u s q =
    let h : Lies drawing.characters.now (node_at drawing l) = subst (Lies drawing.characters.now) (sym q)
    (events-target (LiesElement (length drawing.characters.now)) (LiesText (length drawing.characters.now)) (document drawing) (element_of drawing e) origin
    u.all) in
    record {
      inside = record {
        fit = s.fit;
        all = u.all;
        lies = h.1;
        small = u.small;
        tidy = u.tidy;
        few = u.few;
        below = u.below;
      };
      element = h.0;
    }
