-- CSS Cascading and Inheritance (Levels 3 and 4): which declaration of a property counts, and what `inherit` means.
use Rattle.std.specs.Prelude.{Bool, true, false, List, [], ◌∷◌}
use Rattle.std.proofs.Math.Option.{Option, none, some}
use Rattle.model.specs.Base.{pick, or_else}

-- SECTION 6, CASCADING

-- The first of a list, if there is one.
abbrev pub first_of : {A : Type 0} → List A → Option A
first_of [] = none
first_of (x ∷ xs) = some x

-- The last of a list, if there is one.
unfoldable pub last_of : {A : Type 0} → List A → Option A
last_of [] = none
last_of (x ∷ xs) = or_else (last_of xs) (some x)

-- Those that a test picks out, in their order.
unfoldable pub those : {A : Type 0} → (A → Bool) → List A → List A
those f [] = []
those f (x ∷ xs) = pick (f x) (λ u. x ∷ those f xs) (λ u. those f xs)

-- Section 6, the sorting order, for declarations of one origin in the order of their weight (presentation attributes first: SVG 1.1,
-- section 6.4, and SVG 2, section 6.6, give them specificity 0 before all rules). Important ones come before the others, and among equals
-- the last one wins.
unfoldable pub winner : {A : Type 0} → (A → Bool) → List A → Option A
winner important ds = or_else (last_of (those important ds)) (last_of ds)

-- SECTION 7, DEFAULTING

-- Section 7.3.2, the keyword `inherit`: the value is the inherited value, which is the computed value of the parent, and at the top of the
-- tree the initial value (7.2). An element that has no declared value has its parent's where the property inherits (7.2), and the
-- initial value where it does not (7.1). `own` are the values that the parent and the elements above it have of their own, nearest first.
unfoldable pub inherited : {A : Type 0} → Bool → List (Option A) → A → A
inherited inherits [] initial = initial
inherited inherits (some v ∷ own) initial = v
inherited true (none ∷ own) initial = inherited true own initial
inherited false (none ∷ own) initial = initial
