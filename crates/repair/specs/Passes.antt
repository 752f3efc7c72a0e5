-- What a pass cuts at a list of nodes, and what all of them cut.
use Rattle.std.specs.Prelude.{◌≡◌, ℕ, ◌<◌, ◌≤◌, Bool, true, List, [], ◌∷◌}
use Rattle.model.specs.Base.{and, or}
use Rattle.model.specs.EId
use Rattle.model.specs.Drawing.{Value}
use Rattle.model.specs.Tables.{Tree, is_named}
use Rattle.model.specs.Repair.{all_named, Cut, cut_name}
use Rattle.model.specs.Theorems.GoingOn.{element_of, pairs_of, going_on}
use Rattle.model.specs.Theorems.Images.{images_on, passes_on}
use Rattle.ids.specs.declared.heads.Heads.{Heads}
use Rattle.script.specs.declared.drawing.Drawing.{Drawing}
use Rattle.script.specs.Step.{at_start}
use Rattle.places.specs.declared.marks.Marks.{Marks}
use Rattle.tree.specs.declared.Counts.{Counts}
use Rattle.leads.specs.Links.{values_of}
use Rattle.targets.specs.Targets.{seen_of, Targeted}
use Rattle.cuts.specs.Seen.{has_links, Mendable}

-- The cuts of one of the passes 1 to 5 at these nodes, where they are elements with the code that it looks at.
abbrev pub link_cuts : List ℕ → List Value → ℕ → ℕ → Tree → List ℕ → List Cut
link_cuts chars values k code t is = going_on chars values k t (pairs_of t (all_named t code is))

-- The cuts of the last pass at these nodes, where they are feImages.
abbrev pub image_cuts : List ℕ → List Value → Tree → List ℕ → List Cut
image_cuts chars values t is = images_on chars values t (all_named t EId.FeImage is)

-- The cuts of all six passes, going on after each.
abbrev pub all_passes : List ℕ → List Value → Tree → List Cut
all_passes chars values t = passes_on chars values (1 ∷ 2 ∷ 3 ∷ 4 ∷ 5 ∷ 6 ∷ []) t

-- Is node i an element that one of the passes looks at?
abbrev pub is_linked : Tree → ℕ → Bool
is_linked t i =
    or (is_named t EId.Pattern i) (or (is_named t EId.ClipPath i) (or (is_named t EId.Mask i)
    (or (is_named t EId.Filter i) (is_named t EId.FeImage i))))

-- Is node i an element with that code, and has it or a node below it the attribute a?
abbrev pub is_sought : Tree → ℕ → ℕ → ℕ → Bool
is_sought t code a i = and (is_named t code i) (has_links t a i)

-- Where pass k looks at an element with links at or below it, the marks of its links are in the tables.
abbrev pub Sought : List ℕ → List Value → Tree → ℕ → Type 0
Sought chars values t k =
    (i : ℕ) → i < t.node_count → is_named t (element_of k) i ≡ true → has_links t (cut_name k) i ≡ true → Targeted chars values k t

-- So it is for the passes before pass n.
pub record Resolved (chars : List ℕ) (values : List Value) (t : Tree) (n : ℕ) : Type 0 where
  pub sought : (k : ℕ) → 1 ≤ k → k < n → Sought chars values t k

-- What pass k asks, one of the passes 1 to 5: what the repairs ask, and the marks, if the word behind the heads says so.
pub record Passable (drawing : Drawing) (marks : Marks) (heads : Heads) (ns es : List ℕ) (c : Counts) (k : ℕ) : Type 0 where
  pub mendable : Mendable drawing marks heads ns es c at_start
  pub sought : (heads.is_whole ≡ true) → Sought drawing.characters.now (values_of drawing) (seen_of ns es c) k
