-- Node, children and use (document 01, section 5): the recursion, written once over the operations on the state.
use Rattle.std.specs.Prelude.{ℕ, zero, suc, ◌-◌, Bool, true, false, not, List, [], ◌∷◌, eqb}
use Rattle.model.specs.Base.{pick, and, or, among}
use Rattle.model.specs.EId
use Rattle.model.specs.Drawing.{Element, Source, Event, begin, text, other, close, children_from, has_tag_name, quoted, use_target}
use Rattle.model.specs.Tables.{Out, refused, done, then, Tree, parent_of}
use Rattle.model.specs.Element.{parse_svg_element}
use Rattle.model.specs.Text.{total_size, append_text, trim_text_nodes}

-- What the recursion does to the state, and what it asks of it.
pub record Ops (S : Type 0) : Type 0 where
  pub element : Element → ℕ → Bool → ℕ → S → Out S  -- an element of the tree: its name, whether ids are ignored, its parent
  pub text : ℕ → List Source → ℕ → S → Out S  -- a text node: the text element that it stands in, the texts it is made from, its parent
  pub finish : ℕ → S → S  -- the text element that ends
  pub count : S → ℕ  -- the index of the next node
  pub parent : ℕ → S → ℕ  -- the index of a node's parent

-- How a node is built: the node, the number of the `use` that it is copied by, whether ids are ignored, its parent, the state.
abbrev pub Builder : Type 0 → Type 0
Builder S = List Event → ℕ → Bool → ℕ → S → Out S

-- `parse_xml_node_children`
abbrev pub each : {S : Type 0} → Builder S → List (List Event) → ℕ → Bool → ℕ → S → Out S
each f [] origin ignore_ids p s = done s
each f (x ∷ xs) origin ignore_ids p s = then (f x origin ignore_ids p s) (λ r. each f xs origin ignore_ids p r)

-- At depth 1025 every node is refused.
abbrev pub refuse : {S : Type 0} → Builder S
refuse x origin ignore_ids p s = refused 20

-- The name in the tree of an element: links are groups.
abbrev pub tag_of : Element → ℕ
tag_of e = pick (eqb e.code EId.A) (λ u. EId.G) (λ u. e.code)

-- The same inside a text element: a link and a tref are tspans.
abbrev pub text_tag_of : Element → ℕ
text_tag_of e = pick (among e.code (EId.A ∷ EId.Tref ∷ [])) (λ u. EId.Tspan) (λ u. e.code)

-- Is the element read inside a text element? textPath only directly under it.
abbrev pub is_text_content : Element → Bool → Bool
is_text_content e direct =
    and (has_tag_name e) (or (among e.code (EId.A ∷ EId.Tspan ∷ EId.Tref ∷ [])) (and direct (eqb e.code EId.TextPath)))

module _ {S : Type 0} (o : Ops S) (all : List Event) where
  -- The text node of a tref; there is none for nothing.
  abbrev pub quote : ℕ → List Source → ℕ → S → Out S
  quote e from p s = pick (eqb (total_size from) 0) (λ u. done s) (λ u. o.text e from p s)

  -- `parse_svg_text_element_impl` inside the text element e: p is the node of the element that is open,
  -- k counts the elements open in one that is passed over.
  abbrev pub inside : ℕ → List Event → ℕ → ℕ → S → Out S
  inside e [] k p s = done s
  inside e (begin x ∷ xs) zero p s =
      pick (is_text_content x (eqb p e))
      (λ u. then (o.element x (text_tag_of x) false p s) (λ r.
      pick (eqb x.code EId.Tref)
      (λ v. then (quote e (quoted all x) (o.count s) r) (λ q. inside e xs 1 p q))
      (λ v. inside e xs zero (o.count s) r)))
      (λ u. inside e xs 1 p s)
  inside e (begin x ∷ xs) (suc k) p s = inside e xs (suc (suc k)) p s
  inside e (text a ∷ xs) zero p s = then (o.text e (a ∷ []) p s) (λ r. inside e xs zero p r)
  inside e (text a ∷ xs) (suc k) p s = inside e xs (suc k) p s
  inside e (other ∷ xs) k p s = inside e xs k p s
  inside e (close ∷ xs) zero p s = pick (eqb p e) (λ u. done s) (λ u. inside e xs zero (o.parent p s) s)
  inside e (close ∷ xs) (suc k) p s = inside e xs k p s

  -- A text element whole: `parse_svg_element`, then `parse_svg_text_element`.
  abbrev pub label : Element → List Event → Bool → ℕ → S → Out S
  label x xs ignore_ids p s =
      then (o.element x EId.Text ignore_ids p s) (λ r.
      then (inside (o.count s) xs zero (o.count s) r) (λ q. done (o.finish (o.count s) q)))

  -- What a `use` copies, if anything.
  abbrev pub copy : Builder S → List Event → ℕ → ℕ → S → Out S
  copy used [] n p s = done s
  copy used (x ∷ xs) n p s = used (x ∷ xs) n true p s

  -- `parse_xml_node` above the depth limit.
  abbrev pub level : Builder S → Builder S → Builder S
  level child used [] origin ignore_ids p s = done s
  level child used (text a ∷ xs) origin ignore_ids p s = done s
  level child used (other ∷ xs) origin ignore_ids p s = done s
  level child used (close ∷ xs) origin ignore_ids p s = done s
  level child used (begin x ∷ xs) origin ignore_ids p s =
      pick (and (has_tag_name x) (not (eqb x.code EId.Style)))
      (λ u. pick (eqb x.code EId.Text) (λ v. label x xs ignore_ids p s)
      (λ v. then (o.element x (tag_of x) ignore_ids p s) (λ r.
      pick (eqb x.code EId.Use)
      (λ w. copy used (use_target all x origin) x.number (o.count s) r)
      (λ w. each child (children_from zero xs) origin ignore_ids (o.count s) r))))
      (λ u. done s)

  -- The number is 1025 minus the depth: a child is one level deeper, a used element two.
  abbrev pub node : ℕ → Builder S
  node zero = refuse
  node (suc zero) = level refuse refuse
  node (suc (suc k)) = level (node (suc k)) (node k)

-- The operations on the tables.
abbrev pub plain : List ℕ → Ops Tree
plain chars = record {
  element = parse_svg_element;
  text = λ e from p t. append_text chars from p t;
  finish = trim_text_nodes chars;
  count = λ t. t.node_count;
  parent = λ i t. parent_of t i - 1;
}
