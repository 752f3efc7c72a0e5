-- The properties: the standards' table beside the names and fixed values of the Rust, row by row.
use Rattle.std.specs.Prelude.{ℕ, ◌≡◌, refl, Bool, true, false, not, List, [], ◌∷◌, ◌++◌, map, eqb}
use Rattle.std.proofs.Common.{sym, ap, ap₂, ◌∙◌, subst, eqb-true}
use Rattle.std.proofs.lemmas.Bool.{false≢true}
use Rattle.std.proofs.Math.Option.{Option, none, some}
use Rattle.model.specs.Base
use Rattle.model.specs.Names
use Rattle.model.specs.Base.{pick, or, same_bytes, among, Pair}
use Rattle.model.specs.Names.{is_presentation, is_inheritable, allows_inherit_value, inherit_defaults, inherit_default, fixed_bytes}
use Rattle.model.specs.AId
use Rattle.model.specs.Cases.{ascii}
use Rattle.model.specs.Tables.{Tree, fixed_entry, value_of}
use Rattle.model.specs.Element.{resolve_inherit}
use Rattle.standards.specs.CssCascade.{inherited}
use Rattle.standards.specs.SvgProperties.{Property, properties, Clip, ColorProfile, EnableBackground}
use Rattle.standards.proofs.Theorems.Inheritance.{upward, own_entry, held, initial_entry, inherit-is-inherited}

-- In what the Rust may differ from a row of the table.
pub data Difference : Type 0 where
  not_set : Difference  -- a declaration of the name is passed over
  not_handed_down : Difference  -- the property inherits, and the Rust looks at the direct parent alone
  handed_down : Difference  -- the property does not inherit, and the Rust looks at all ancestors
  as_written : Difference  -- a value `inherit` stays as it is written
  dropped : Difference  -- where none above has a value, `inherit` drops the attribute
  other_initial : Difference  -- where none above has a value, `inherit` gives another one than the initial value

-- The difference, unless the test passes.
abbrev pub unless : Bool → Difference → List Difference
unless b d = pick b (λ u. []) (λ u. d ∷ [])

-- Are they the same value?
abbrev pub is_initial : Option (List ℕ) → List ℕ → Bool
is_initial none v = false
is_initial (some u) v = same_bytes u v

-- The differences of a row.
unfoldable pub differences_of : Property → List Difference
differences_of r =
    let a : ℕ = r.name in
    unless (is_presentation a) not_set ++ unless (or (not r.inherits) (is_inheritable a)) not_handed_down
    ++ unless (or r.inherits (not (is_inheritable a))) handed_down ++ unless (allows_inherit_value a) as_written
    ++ unless (or (not (allows_inherit_value a)) (not (eqb (inherit_default a) 0))) dropped
    ++ unless (or (eqb (inherit_default a) 0) (is_initial r.initial (fixed_bytes (inherit_default a)))) other_initial

-- A name with its differences.
pub record Differing : Type 0 where
  pub name : ℕ
  pub differences : List Difference

infix 90 ◌has◌
-- The same, written as a table shows it.
abbrev pub ◌has◌ : ℕ → List Difference → Differing
a has ds = record { name = a; differences = ds }

-- One row more, if it has differences.
abbrev pub with_differing : ℕ → List Difference → List Differing → List Differing
with_differing a [] rest = rest
with_differing a (d ∷ ds) rest = (a has (d ∷ ds)) ∷ rest

-- The rows that have differences.
unfoldable pub differing : List Property → List Differing
differing [] = []
differing (r ∷ rs) = with_differing r.name (differences_of r) (differing rs)

-- The names of the table.
unfoldable pub names : List ℕ
names = map (λ r. r.name) properties

-- Are all numbers of the first list in the second?
unfoldable pub all_among : List ℕ → List ℕ → Bool
all_among [] bs = true
all_among (a ∷ more) bs = pick (among a bs) (λ u. all_among more bs) (λ u. false)

-- Those of the first n numbers that pass a test.
unfoldable pub passing : (ℕ → Bool) → ℕ → List ℕ
passing f ℕ.zero = []
passing f (ℕ.suc n) = pick (f n) (λ u. n ∷ passing f n) (λ u. passing f n)

-- THE CLAIM. All differences between the table and the Rust: every row that is not here has the standard's inheritance and, for `inherit`
-- with no value above, the standard's initial value.
pub all-differences : differing properties ≡
    AId.AlignmentBaseline has (dropped ∷ []) ∷
    Clip has (not_set ∷ as_written ∷ []) ∷
    AId.Color has (dropped ∷ []) ∷
    AId.ColorInterpolation has (as_written ∷ []) ∷
    ColorProfile has (not_set ∷ not_handed_down ∷ as_written ∷ []) ∷
    AId.ColorRendering has (as_written ∷ []) ∷
    AId.DominantBaseline has (handed_down ∷ dropped ∷ []) ∷
    EnableBackground has (not_set ∷ as_written ∷ []) ∷
    AId.FontFamily has (dropped ∷ []) ∷
    AId.FontSizeAdjust has (as_written ∷ []) ∷
    AId.GlyphOrientationHorizontal has (as_written ∷ []) ∷
    AId.GlyphOrientationVertical has (as_written ∷ []) ∷
    AId.Kerning has (not_set ∷ not_handed_down ∷ dropped ∷ []) ∷
    AId.LightingColor has (as_written ∷ []) ∷
    AId.UnicodeBidi has (handed_down ∷ as_written ∷ []) ∷
    AId.PaintOrder has (as_written ∷ []) ∷
    AId.VectorEffect has (handed_down ∷ as_written ∷ []) ∷
    AId.FontKerning has (dropped ∷ []) ∷
    AId.FontOpticalSizing has (dropped ∷ []) ∷
    AId.FontVariationSettings has (as_written ∷ []) ∷
    AId.Transform has (as_written ∷ []) ∷
    AId.TransformOrigin has (as_written ∷ []) ∷
    AId.Isolation has (handed_down ∷ as_written ∷ []) ∷
    AId.MixBlendMode has (handed_down ∷ as_written ∷ []) ∷
    AId.MaskType has (handed_down ∷ as_written ∷ []) ∷
    AId.BackgroundColor has (handed_down ∷ as_written ∷ []) ∷
    AId.TextOverflow has (handed_down ∷ as_written ∷ []) ∷
    AId.WhiteSpace has (as_written ∷ []) ∷
    []
unfolding differing differences_of properties ascii Base.among Base.same_bytes Base.paired_with Names.is_presentation
    Names.is_non_inheritable
    Names.is_inheritable Names.allows_inherit_value Names.inherit_defaults Names.inherit_default Names.fixed_values Names.fixed_bytes
all-differences = refl

-- NOTHING IS LEFT OUT. Every presentation name, every name whose `inherit` is resolved and every name with a fixed value is in the table.
pub table-complete : (all_among (passing is_presentation 211) names ≡ true) × (all_among (passing allows_inherit_value 211) names ≡ true)
    × (all_among (map (λ (k : Pair). k.key) inherit_defaults) names ≡ true)
unfolding all_among passing names properties Base.among Names.is_presentation Names.allows_inherit_value Names.inherit_defaults
table-complete = (refl, refl, refl)

-- INHERIT, IN CSS'S WORDS

-- A value that may be there, made into another.
abbrev pub mapped : {A B : Type 0} → (A → B) → Option A → Option B
mapped f none = none
mapped f (some x) = some (f x)

inherited-mapped : {A B : Type 0} (f : A → B) (b : Bool) (own : ℕ → Option A) (xs : List ℕ) (d : A) →
    mapped f (inherited b (map (λ i. held (own i)) xs) (some d)) ≡ some (inherited b (map (λ i. mapped f (own i)) xs) (f d))
unfolding inherited
inherited-mapped f b own [] d = refl
inherited-mapped f b own (i ∷ xs) d = go b (own i) (inherited-mapped f b own xs d)
  where
    go : (b : Bool) (o : Option _) → mapped f (inherited b (map (λ i. held (own i)) xs) (some d))
        ≡ some (inherited b (map (λ i. mapped f (own i)) xs) (f d)) →
        mapped f (inherited b (held o ∷ map (λ i. held (own i)) xs) (some d))
        ≡ some (inherited b (mapped f o ∷ map (λ i. mapped f (own i)) xs) (f d))
    go b (some x) h = refl
    go true none h = h
    go false none h = refl

-- Is there none?
abbrev is_none : List Difference → Bool
is_none [] = true
is_none (d ∷ ds) = false

all_pass : (a b c d e f : Bool) →
    unless a not_set ++ unless b not_handed_down ++ unless c handed_down ++ unless d as_written ++ unless e dropped
    ++ unless f other_initial
    ≡ [] →
    (a ≡ true) × (b ≡ true) × (c ≡ true) × (d ≡ true) × (e ≡ true) × (f ≡ true)
all_pass true true true true true true h = (refl, refl, refl, refl, refl, refl)
all_pass true true true true true false h = absurd (false≢true (ap is_none h))
all_pass true true true true false f h = absurd (false≢true (ap is_none h))
all_pass true true true false e f h = absurd (false≢true (ap is_none h))
all_pass true true false d e f h = absurd (false≢true (ap is_none h))
all_pass true false c d e f h = absurd (false≢true (ap is_none h))
all_pass false b c d e f h = absurd (false≢true (ap is_none h))

same-bytes : (u v : List ℕ) → same_bytes u v ≡ true → u ≡ v
unfolding same_bytes
same-bytes [] [] h = refl
same-bytes [] (y ∷ v) h = absurd (false≢true h)
same-bytes (x ∷ u) [] h = absurd (false≢true h)
same-bytes (x ∷ u) (y ∷ v) h = go (eqb x y) refl h (same-bytes u v)
  where
    go : (b : Bool) → eqb x y ≡ b → pick b (λ u'. same_bytes u v) (λ u'. false) ≡ true → (same_bytes u v ≡ true → u ≡ v) → x ∷ u ≡ y ∷ v
    go true e k r = rw (eqb-true x y e, r k) refl
    go false e k r = absurd (false≢true k)

both_ways : (x y : Bool) → or (not x) y ≡ true → or x (not y) ≡ true → y ≡ x
both_ways true y h g = h
both_ways false true h g = absurd (false≢true g)
both_ways false false h g = refl

is-fixed : (x y : Bool) → x ≡ true → or (not x) (not y) ≡ true → y ≡ false
is-fixed true true e h = absurd (false≢true h)
is-fixed true false e h = refl
is-fixed false y e h = absurd (false≢true e)

of-initial : (z : Bool) (u : Option (List ℕ)) (w v : List ℕ) → z ≡ false → u ≡ some v → or z (is_initial u w) ≡ true → same_bytes v w ≡ true
of-initial true u w v e q h = absurd (false≢true (sym e))
of-initial false u w v e q h = subst (λ (o : Option (List ℕ)). is_initial o w ≡ true) q h

-- The facts of a row without differences.
record Agrees (r : Property) (v : List ℕ) : Type 0 where
  pub inherits : is_inheritable r.name ≡ r.inherits
  pub fixed : eqb (inherit_default r.name) 0 ≡ false
  pub initial : fixed_bytes (inherit_default r.name) ≡ v

agrees : (r : Property) (v : List ℕ) → r.initial ≡ some v → differences_of r ≡ [] → Agrees r v
unfolding differences_of
agrees r v e h =
    let a = r.name in
    let z = all_pass (is_presentation a) (or (not r.inherits) (is_inheritable a)) (or r.inherits (not (is_inheritable a)))
    (allows_inherit_value a)
    (or (not (allows_inherit_value a)) (not (eqb (inherit_default a) 0)))
    (or (eqb (inherit_default a) 0) (is_initial r.initial (fixed_bytes (inherit_default a)))) h in
    let f = is-fixed (allows_inherit_value a) (eqb (inherit_default a) 0) z.3 z.4 in
    record {
      inherits = both_ways r.inherits (is_inheritable a) z.1 z.2;
      fixed = f;
      initial = sym (same-bytes v (fixed_bytes (inherit_default a))
          (of-initial (eqb (inherit_default a) 0) r.initial (fixed_bytes (inherit_default a)) v f e z.5));
    }

fixed-value : (chars : List ℕ) (a n : ℕ) → value_of chars (fixed_entry a 0 n) ≡ fixed_bytes n
unfolding value_of
fixed-value chars a n = refl

-- THEOREM. For every row of the table without differences, such as fill, in any tree: a value `inherit` below node p comes to the inherited
-- value of CSS Cascade, importance aside: the value of the nearest element around that has one if the property inherits, of the parent
-- alone if it does not, and else the initial value.
pub inherit-is-css : (chars : List ℕ) (t : Tree) (p : ℕ) (r : Property) (v : List ℕ) → r.initial ≡ some v → differences_of r ≡ [] →
    mapped (value_of chars) (resolve_inherit t p r.name)
    ≡ some (inherited r.inherits (map (λ i. mapped (value_of chars) (own_entry t r.name i)) (upward t p)) v)
inherit-is-css chars t p r v e h =
    ap (mapped (value_of chars)) (inherit-is-inherited t p a
    ∙ ap (inherited (is_inheritable a) (map (λ i. held (own_entry t a i)) (upward t p))) some-fixed)
    ∙ inherited-mapped (value_of chars) (is_inheritable a) (own_entry t a) (upward t p) (fixed_entry a 0 (inherit_default a))
    ∙ ap₂ (λ (b : Bool) (w : List ℕ). some (inherited b (map (λ i. mapped (value_of chars) (own_entry t a i)) (upward t p)) w)) k.inherits
    (fixed-value chars a (inherit_default a) ∙ k.initial)
  where
    a : ℕ
    a = r.name

    k : Agrees r v
    k = agrees r v e h

    some-fixed : initial_entry t p a ≡ some (fixed_entry a 0 (inherit_default a))
    some-fixed = rw k.fixed refl
