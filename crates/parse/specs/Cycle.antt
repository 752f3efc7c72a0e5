-- The recursion as the code has it: names, and a node begun.
use Rattle.std.specs.Prelude.{ℕ, zero, ◌-◌, ◌≤◌, ◌≡◌, Bool, true, false, not, List, eqb, leb, Result, Ok, Err}
use Rattle.model.specs.Base.{pick, and}
use Rattle.model.specs.EId
use Rattle.model.specs.Names.{is_element}
use Rattle.model.specs.Drawing.{children_from, use_target}
use Rattle.model.specs.Tables.{Tree, Out, refused, done}
use Rattle.model.specs.Parse.{each, copy, node, plain}
use Rattle.script.specs.Step.{document}
use Rattle.script.specs.declared.drawing.Drawing.{Drawing}
use Rattle.script.specs.declared.cursor.Cursor.{Cursor}
use Rattle.walk.specs.declared.node.Opened.{Opened}
use Rattle.walk.specs.Nodes.{element_of, node_at}
use Rattle.walk.specs.Values.{events_at, SameNodes}
use Rattle.tree.specs.Lent.{tree_of}
use Rattle.label.specs.Whole.{Underway, Closed}
use Rattle.refusal.specs.declared.Refusal.{Refusal}
use Rattle.refusal.specs.Number.{number_of}
use Rattle.parse.specs.declared.Begun.{Begun}
use Rattle.parse.specs.declared.Begun.TheVariants as begun

-- Does an element with that name become a node?
abbrev pub is_parsed : ℕ → ℕ → Bool
is_parsed name space = and (and (leb space 1) (is_element name)) (not (eqb name EId.Style))

-- The name in the tree of an element with that name.
abbrev pub tag_named : ℕ → ℕ
tag_named name = pick (eqb name EId.A) (λ u. EId.G) (λ u. name)

-- THE RECURSION, BY WHAT THE CODE HOLDS

-- The element e and all below it, built below p, with that many levels left.
abbrev pub node_built : Drawing → ℕ → ℕ → Bool → ℕ → Opened → Tree → Out Tree
node_built drawing left origin ignored p e t =
    node (plain drawing.characters.now) (document drawing) left (node_at drawing e) origin ignored p t

-- The nodes from the cursor to the close of the element that it stands in, built below p with that many levels left.
abbrev pub children_built : Drawing → ℕ → ℕ → Bool → ℕ → Cursor → Tree → Out Tree
children_built drawing left origin ignored p from t =
    each (node (plain drawing.characters.now) (document drawing) left) (children_from zero (events_at drawing from)) origin ignored p t

-- What the use e copies below p, where e has that many levels left.
abbrev pub copy_built : Drawing → ℕ → ℕ → ℕ → Opened → Tree → Out Tree
copy_built drawing left origin p e t =
    copy (plain drawing.characters.now) (document drawing) (node (plain drawing.characters.now) (document drawing) (left - 2))
    (use_target (document drawing) (element_of drawing e) origin) (element_of drawing e).number p t

-- A NODE BEGUN

-- A text element above the limit, and any other element that becomes a node.
abbrev pub IsText : ℕ → ℕ → ℕ → Type 0
IsText left name space = (1 ≤ left) × (is_parsed name space ≡ true) × (eqb name EId.Text ≡ true)

abbrev pub IsOther : ℕ → ℕ → ℕ → Type 0
IsOther left name space = (1 ≤ left) × (is_parsed name space ≡ true) × (eqb name EId.Text ≡ false)

module _ (drawing : Drawing) (left : ℕ) (ignored : Bool) (p : ℕ) (e : Opened) (t : Tree) where
  -- Its own element stands in the tables u, and what stands below it can be built from the cursor c on.
  pub record Made (u : Tree) (c : Cursor) : Type 0 where
    pub above : 1 ≤ left
    pub under : Underway drawing u t.node_count c
    pub nodes : SameNodes drawing e.inside c
    pub more : t.node_count ≤ u.node_count

  abbrev pub BegunFit : List ℕ → List ℕ → List ℕ → Result Begun Refusal → Type 0
  BegunFit ns ats bs (Err r) = (origin : ℕ) → refused (number_of r) ≡ node_built drawing left origin ignored p e t
  BegunFit ns ats bs (Ok (begun.Passed k c)) =
      ((origin : ℕ) → done (tree_of ns ats bs k) ≡ node_built drawing left origin ignored p e t)
      × Closed drawing e.inside t.node_count (tree_of ns ats bs k) c
  BegunFit ns ats bs (Ok (begun.Children k c)) =
      ((origin : ℕ) → children_built drawing (left - 1) origin ignored t.node_count c (tree_of ns ats bs k)
      ≡ node_built drawing left origin ignored p e t) × Made (tree_of ns ats bs k) c
  BegunFit ns ats bs (Ok (begun.Use k c)) =
      ((origin : ℕ) → copy_built drawing left origin t.node_count e (tree_of ns ats bs k)
      ≡ node_built drawing left origin ignored p e t) × Made (tree_of ns ats bs k) c
