-- The repairs (document 01, section 5): a list of cuts, in the Rust's order, and their application.
use Rattle.std.specs.Prelude.{ℕ, zero, suc, ◌+◌, ◌-◌, Bool, true, false, List, [], ◌∷◌, ◌++◌, map, eqb, leb, get_or}
use Rattle.std.proofs.Math.Option.{Option}
use Rattle.model.specs.Base.{pick, and, or, given, folded, among, same_bytes}
use Rattle.model.specs.EId
use Rattle.model.specs.AId
use Rattle.model.specs.Drawing.{Part, Reading, Value, readings_of, reading_of}
use Rattle.model.specs.Tables.{Tree, parent_of, is_named, entry_at, value_at_entry, attribute_id, attribute_of, element_by_id, set_none}

-- The nodes from i on, as many as n.
unfoldable pub up_from : ℕ → ℕ → List ℕ
up_from i zero = []
up_from i (suc n) = i ∷ up_from (i + 1) n

-- The nodes with that name, in tree order.
unfoldable pub all_named : Tree → ℕ → List ℕ → List ℕ
all_named t c [] = []
all_named t c (i ∷ is) = pick (is_named t c i) (λ u. i ∷ all_named t c is) (λ u. all_named t c is)

-- In tree order the nodes below i follow it, up to the first whose parent comes before i.
unfoldable pub below_from : Tree → ℕ → List ℕ → List ℕ
below_from t i [] = []
below_from t i (j ∷ js) = pick (leb (i + 1) (parent_of t j)) (λ u. j ∷ below_from t i js) (λ u. [])

-- `descendants`: node i and the nodes below it.
unfoldable pub descendants : Tree → ℕ → List ℕ
descendants t i = i ∷ below_from t i (up_from (i + 1) (t.node_count - (i + 1)))

-- What the function finds for the first number that it finds anything for. What it finds is an index plus 1; 0 is nothing.
unfoldable pub first_found : (ℕ → ℕ) → List ℕ → ℕ
first_found f [] = 0
first_found f (i ∷ is) = let r : ℕ = f i in pick (eqb r 0) (λ u. first_found f is) (λ u. r)

-- Node j, as its index plus 1, if it passes; else 0.
abbrev pub if_passes : (ℕ → Bool) → ℕ → ℕ
if_passes f j = pick (f j) (λ u. j + 1) (λ u. 0)

-- The first node that passes, among the node whose index plus 1 is w and those below it, as its index plus 1; 0 for none, and where w is 0.
abbrev pub first_below : Tree → (ℕ → Bool) → ℕ → ℕ
first_below t f w = pick (eqb w 0) (λ u. 0) (λ u. first_found (if_passes f) (descendants t (w - 1)))

-- The kind of reading by which an attribute leads to a node: an IRI for href, else a FuncIRI.
abbrev pub link_kind : ℕ → ℕ
link_kind a = pick (eqb a AId.Href) (λ u. 1) (λ u. 2)

-- Is one of the readings of that kind and has these bytes?
unfoldable pub any_reading : ℕ → List ℕ → List Reading → Bool
any_reading k id [] = false
any_reading k id (r ∷ rs) = pick (and (eqb r.kind k) (same_bytes r.part.bytes id)) (λ u. true) (λ u. any_reading k id rs)

-- `element_id`, "" where there is none.
unfoldable pub element_id : List ℕ → Tree → ℕ → List ℕ
element_id chars t i =
    let j : ℕ = attribute_id t i AId.Id in
    pick (eqb j 0) (λ u. []) (λ u. value_at_entry chars t j)

-- `values` are those of the drawing, whose readings are asked for by the command of an entry.
module _ (chars : List ℕ) (values : List Value) where
  -- The readings of node i's attribute a, asked for by the command of its entry; none where it counts as absent.
  unfoldable pub readings_of_attribute : Tree → ℕ → ℕ → List Reading
  readings_of_attribute t a i =
      let j : ℕ = attribute_of chars t i a in
      pick (eqb j 0) (λ u. []) (λ u. readings_of (entry_at t (j - 1)).command values)

  -- The id in the first reading of that kind of node i's attribute a.
  abbrev pub link_of : ℕ → Tree → ℕ → ℕ → Option Part
  link_of k t a i = reading_of k (readings_of_attribute t a i)

  -- Does node i's attribute lead to the id, by its Paint?
  unfoldable pub paints_with : Tree → ℕ → List ℕ → ℕ → Bool
  paints_with t a id i = given (link_of 3 t a i) (λ v. same_bytes v.bytes id) (λ u. false)

  -- `node_attribute`: the node that node i's attribute leads to, as its index plus 1; 0 for none.
  unfoldable pub node_attribute : Tree → ℕ → ℕ → ℕ
  node_attribute t a i = given (link_of (link_kind a) t a i) (λ v. element_by_id chars t v.bytes) (λ u. 0)

  -- `find_recursive_pattern`: what the node `child` below a pattern with that id gives, as its index plus 1; 0 for nothing.
  unfoldable pub recursive_pattern_at : Tree → ℕ → List ℕ → ℕ → ℕ
  recursive_pattern_at t a id child =
      given (link_of 3 t a child)
      (λ v. pick (same_bytes v.bytes id) (λ u. child + 1) (λ u. first_below t (paints_with t a id) (element_by_id chars t v.bytes)))
      (λ u. 0)

  -- `find_recursive_pattern`: what the first pattern, and below it the first node, that gives anything gives.
  unfoldable pub find_recursive_pattern : ℕ → Tree → ℕ
  find_recursive_pattern a t =
      first_found (λ i. first_found (recursive_pattern_at t a (element_id chars t i)) (descendants t i))
      (all_named t EId.Pattern (up_from 0 t.node_count))

  -- `find_recursive_link`: what the node `child` below the node i gives, as its index plus 1; 0 for nothing.
  unfoldable pub recursive_link_at : Tree → ℕ → ℕ → ℕ → ℕ
  recursive_link_at t a i child =
      let w : ℕ = node_attribute t a child in
      pick (eqb w (i + 1)) (λ u. child + 1) (λ u. first_below t (λ j. eqb (node_attribute t a j) (i + 1)) w)

  -- `find_recursive_link`: what the first element of that name, and below it the first node, that gives anything gives.
  unfoldable pub find_recursive_link : ℕ → ℕ → Tree → ℕ
  find_recursive_link c a t = first_found (λ i. first_found (recursive_link_at t a i) (descendants t i))
      (all_named t c (up_from 0 t.node_count))

  -- `fix_recursive_fe_image`: the node that the feImage i leads to, as its index plus 1, where one of that node's filters leads to
  -- i's parent; 0 for none.
  unfoldable pub recursive_fe_image : Tree → ℕ → ℕ
  recursive_fe_image t i =
      let w : ℕ = node_attribute t AId.Href i in
      pick (eqb w 0) (λ u. 0)
      (λ u. pick (any_reading 4 (element_id chars t (parent_of t i - 1)) (readings_of_attribute t AId.Filter (w - 1))) (λ v. w) (λ v. 0))

  -- The nodes that feImage elements cut, each once, in the order of the elements. `is` are the feImage elements still to look at;
  -- `found` are the nodes listed before, each as its index plus 1.
  unfoldable pub fe_image_links : Tree → List ℕ → List ℕ → List ℕ
  fe_image_links t found [] = []
  fe_image_links t found (i ∷ is) =
      let w : ℕ = recursive_fe_image t i in
      pick (or (eqb w 0) (among w found)) (λ u. fe_image_links t found is) (λ u. (w - 1) ∷ fe_image_links t (w ∷ found) is)

-- THE PASSES

-- A repair: its pass, the index of the node whose value is cut, and the command that the value came from before.
-- The passes: 1 pattern fill, 2 pattern stroke, 3 clip path, 4 mask, 5 filter, 6 feImage.
pub record Cut : Type 0 where
  pub pass : ℕ
  pub node : ℕ
  pub command : ℕ

-- The attribute that a pass cuts.
unfoldable pub cut_name : ℕ → ℕ
cut_name k = get_or (0 ∷ AId.Fill ∷ AId.Stroke ∷ AId.ClipPath ∷ AId.Mask ∷ AId.Filter ∷ AId.Filter ∷ []) k 0

-- The entry that pass k cuts at node i, as its number plus 1; 0 where the node has no such attribute.
abbrev pub cut_entry : Tree → ℕ → ℕ → ℕ
cut_entry t k i = attribute_id t i (cut_name k)

-- The cut of pass k at node i, in the tree as it is before the cut.
unfoldable pub cut_at : Tree → ℕ → ℕ → Cut
cut_at t k i =
    let j : ℕ = cut_entry t k i in
    record { pass = k; node = i; command = pick (eqb j 0) (λ u. 0) (λ u. (entry_at t (j - 1)).command) }

-- A cut value becomes fixed value 1, its importance kept.
unfoldable pub apply_cut : Tree → Cut → Tree
apply_cut t c = let j : ℕ = cut_entry t c.pass c.node in pick (eqb j 0) (λ u. t) (λ u. set_none (j - 1) t)

-- The tree with the listed cuts applied, one after another.
unfoldable pub applied : Tree → List Cut → Tree
applied t cs = folded apply_cut t cs

module _ (chars : List ℕ) (values : List Value) where
  -- The next node that pass k cuts, as its index plus 1; 0 for none. For the passes 1 to 5.
  unfoldable pub next_cut : ℕ → Tree → ℕ
  next_cut k t =
      pick (leb k 2) (λ u. find_recursive_pattern chars values (cut_name k) t)
      (λ u. find_recursive_link chars values (get_or (EId.ClipPath ∷ EId.Mask ∷ EId.Filter ∷ []) (k - 3) 0) (cut_name k) t)

  -- Cut after cut, until there is none. A value that is cut has no reading any more, so that as many cuts as entries are enough.
  unfoldable pub cuts_from : ℕ → ℕ → Tree → List Cut
  cuts_from k zero t = []
  cuts_from k (suc n) t =
      let w : ℕ = next_cut k t in
      pick (eqb w 0) (λ u. []) (λ u. let c : Cut = cut_at t k (w - 1) in c ∷ cuts_from k n (apply_cut t c))

  -- The cuts of one pass. feImage finds all of them before it cuts any.
  unfoldable pub cuts_of : ℕ → Tree → List Cut
  cuts_of k t =
      pick (leb k 5) (λ u. cuts_from k t.attribute_count t)
      (λ u. map (cut_at t k) (fe_image_links chars values t [] (all_named t EId.FeImage (up_from 0 t.node_count))))

  -- The cuts of passes, each on the tree as the ones before left it.
  unfoldable pub cuts_of_all : List ℕ → Tree → List Cut
  cuts_of_all [] t = []
  cuts_of_all (k ∷ ks) t = let cs : List Cut = cuts_of k t in cs ++ cuts_of_all ks (applied t cs)

  -- The repairs of a tree, in the order in which they are made.
  unfoldable pub repairs : Tree → List Cut
  repairs t = cuts_of_all (1 ∷ 2 ∷ 3 ∷ 4 ∷ 5 ∷ 6 ∷ []) t

-- The tree with its repairs.
unfoldable pub repaired : List ℕ → List Value → Tree → Tree
repaired chars values t = applied t (repairs chars values t)
