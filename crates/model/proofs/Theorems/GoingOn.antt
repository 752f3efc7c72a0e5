-- The repairs without starting over: the cuts of a pass, found going on after each cut, are those that are found from the start again.
use Prim.Native.Nat.{ℕ, zero, suc, ◌+◌, ◌-◌, ◌≤◌, ◌<◌}
use Rattle.std.proofs.Math.Path.{◌≡◌, refl, sym, ap, fun_ext}
use Rattle.std.proofs.Common.{◌∙◌, add-one}
use Rattle.std.proofs.Math.Bool.{Bool, true, false, not}
use mathlib.Core.List.{List, [], ◌∷◌, ◌++◌, append_assoc}
use Rattle.std.proofs.Math.Option.{Option, none, some}
use native.Mathlib.Omega.{arith}
use Rattle.std.proofs.Math.Decide.{ℕ_discrete}
use borrow.Author.Tests.{eqb-true, eq-eqb, ne_eqb}
use Rattle.std.proofs.Math.Dec.{eqb, leb}
use Rattle.std.proofs.Math.ListN.{get_or}
use Rattle.model.specs.Base.{pick, given, same_bytes, Pair}
use Rattle.model.specs.EId
use Rattle.model.specs.AId
use Rattle.model.specs.Drawing.{Part, Value, readings_of, reading_of}
use Rattle.model.specs.Tables.{Tree, parent_of, entry_at, attribute_id, attribute_of, element_by_id, set_none}
use Rattle.model.specs.Repair.{up_from, all_named, below_from, descendants, first_found, if_passes, first_below, link_kind, element_id}
use Rattle.model.specs.Repair.{readings_of_attribute, link_of, paints_with, node_attribute, recursive_pattern_at, find_recursive_pattern}
use Rattle.model.specs.Repair.{recursive_link_at, find_recursive_link, Cut, cut_name, cut_at, apply_cut, applied, next_cut, cuts_from}
use Rattle.model.proofs.Theorems.Entries.{absurd-bool, none-others, none-entry}
use Rattle.model.specs.Theorems.Kept.{Tidy}
use Rattle.model.proofs.Theorems.Kept.{tidy-none, attribute-any}
use Rattle.model.proofs.Theorems.Cuts.{attribute-there, readings-kept, readings-gone, by-id-kept, element-id-kept}
use Rattle.model.specs.Theorems.GoingOn.{passing, Without, with_each, pairs_of, element_of, leads_to, target_of, nodes_at, cuts_along}
use Rattle.model.specs.Theorems.GoingOn.{going_on, pass_pairs}

-- SEARCHES IN RISING LISTS

-- From n on, each larger than the one before.
abbrev Rising : ℕ → List ℕ → Type 0
Rising n [] = Unit {0}
Rising n (x ∷ xs) = (n ≤ x) × Rising (x + 1) xs

up-rising : (i n : ℕ) → Rising i (up_from i n)
unfolding up_from
up-rising i zero = tt
up-rising i (suc n) = (omega arith, up-rising (i + 1) n)

below-rising : (t : Tree) (i n : ℕ) (js : List ℕ) → Rising n js → Rising n (below_from t i js)
unfolding below_from
below-rising t i n [] h = tt
below-rising t i n (j ∷ js) h = go (leb (i + 1) (parent_of t j)) (below-rising t i (j + 1) js h.1)
  where
    go : (b : Bool) → Rising (j + 1) (below_from t i js) → Rising n (pick b (λ u. j ∷ below_from t i js) (λ u. []))
    go true r = (h.0, r)
    go false r = tt

descendants-rising : (t : Tree) (i : ℕ) → Rising i (descendants t i)
unfolding descendants
descendants-rising t i = (omega arith, below-rising t i (i + 1) _ (up-rising (i + 1) _))

module _ (f g : ℕ → Bool) (m : ℕ) (w : Without f g m) where
  above_same : (n : ℕ) (xs : List ℕ) → m < n → Rising n xs → passing g xs ≡ passing f xs
  unfolding passing
  above_same n [] l h = refl
  above_same n (x ∷ xs) l h = rw (w.others x (λ e. omega (arith, h.0)), above_same (x + 1) xs (omega (arith, h.0)) h.1) refl

  -- The first that passes is m: it comes first, and then those that pass without it.
  first-passing : (n : ℕ) (xs : List ℕ) → Rising n xs → first_found (if_passes f) xs ≡ m + 1 → passing f xs ≡ m ∷ passing g xs
  unfolding passing first_found
  first-passing n [] h e = absurd (omega arith)
  first-passing n (x ∷ xs) h e = go (f x) refl e (first-passing (x + 1) xs h.1) (ℕ_discrete x m)
    where
      go : (b : Bool) → f x ≡ b → (let r : ℕ = pick b (λ u. x + 1) (λ u. 0) in pick (eqb r 0) (λ u. first_found (if_passes f) xs) (λ u. r))
          ≡ m + 1 →
          (first_found (if_passes f) xs ≡ m + 1 → passing f xs ≡ m ∷ passing g xs) → Dec (x ≡ m) →
          pick b (λ u. x ∷ passing f xs) (λ u. passing f xs) ≡ m ∷ pick (g x) (λ u. x ∷ passing g xs) (λ u. passing g xs)
      go true y z r (yes d) = rw (d, w.gone) (ap (λ l. m ∷ l) (sym (above_same (x + 1) xs (omega arith) h.1)))
      go true y z r (no d) =
          let q : pick (eqb (x + 1) 0) (λ u. first_found (if_passes f) xs) (λ u. x + 1) ≡ x + 1 = rw (ne_eqb (x + 1) 0 (λ o. omega arith))
          refl in
          absurd (d (omega (arith, q, z)))
      go false y z r (yes d) = rw (d, w.gone) (r z)
      go false y z r (no d) = rw (w.others x d, y) (r z)

  -- What gave nothing gives nothing.
  still-nothing : (xs : List ℕ) → first_found (if_passes f) xs ≡ 0 → first_found (if_passes g) xs ≡ 0
  unfolding first_found
  still-nothing [] e = refl
  still-nothing (x ∷ xs) e = go (f x) refl e (still-nothing xs) (ℕ_discrete x m)
    where
      go : (b : Bool) → f x ≡ b → (let r : ℕ = pick b (λ u. x + 1) (λ u. 0) in pick (eqb r 0) (λ u. first_found (if_passes f) xs) (λ u. r))
          ≡ 0 →
          (first_found (if_passes f) xs ≡ 0 → first_found (if_passes g) xs ≡ 0) → Dec (x ≡ m) →
          (let r : ℕ = pick (g x) (λ u. x + 1) (λ u. 0) in pick (eqb r 0) (λ u. first_found (if_passes g) xs) (λ u. r)) ≡ 0
      go true y z r d =
          let q : pick (eqb (x + 1) 0) (λ u. first_found (if_passes f) xs) (λ u. x + 1) ≡ x + 1 = rw (ne_eqb (x + 1) 0 (λ o. omega arith))
          refl in
          absurd (omega (arith, q, z))
      go false y z r (yes d) = rw (d, w.gone) (r z)
      go false y z r (no d) = rw (w.others x d, y) (r z)

none-passing : (f : ℕ → Bool) (xs : List ℕ) → first_found (if_passes f) xs ≡ 0 → passing f xs ≡ []
unfolding passing first_found
none-passing f [] e = refl
none-passing f (x ∷ xs) e = go (f x) e (none-passing f xs)
  where
    go : (b : Bool) → (let r : ℕ = pick b (λ u. x + 1) (λ u. 0) in pick (eqb r 0) (λ u. first_found (if_passes f) xs) (λ u. r)) ≡ 0 →
        (first_found (if_passes f) xs ≡ 0 → passing f xs ≡ []) → pick b (λ u. x ∷ passing f xs) (λ u. passing f xs) ≡ []
    go true z r =
        let q : pick (eqb (x + 1) 0) (λ u. first_found (if_passes f) xs) (λ u. x + 1) ≡ x + 1 = rw (ne_eqb (x + 1) 0 (λ o. omega arith))
        refl in
        absurd (omega (arith, q, z))
    go false z r = r z

-- What is found passes.
found-passes : (f : ℕ → Bool) (xs : List ℕ) (m : ℕ) → first_found (if_passes f) xs ≡ m + 1 → f m ≡ true
unfolding first_found
found-passes f [] m e = absurd (omega arith)
found-passes f (x ∷ xs) m e = go (f x) refl e (found-passes f xs m)
  where
    go : (b : Bool) → f x ≡ b → (let r : ℕ = pick b (λ u. x + 1) (λ u. 0) in pick (eqb r 0) (λ u. first_found (if_passes f) xs) (λ u. r))
        ≡ m + 1 →
        (first_found (if_passes f) xs ≡ m + 1 → f m ≡ true) → f m ≡ true
    go true y z r =
        let q : pick (eqb (x + 1) 0) (λ u. first_found (if_passes f) xs) (λ u. x + 1) ≡ x + 1 = rw (ne_eqb (x + 1) 0 (λ o. omega arith))
        refl in
        let d : x ≡ m = omega (arith, q, z) in
        ap f (sym d) ∙ y
    go false y z r = r z

-- THE PAIRS OF A PASS

-- The first pair that the function finds anything for, and what it finds.
unfoldable pub first_pair : (ℕ → ℕ → ℕ) → List Pair → ℕ
first_pair f [] = 0
first_pair f (p ∷ ps) = pick (eqb (f p.key p.value) 0) (λ u. first_pair f ps) (λ u. f p.key p.value)

each_first : (f : ℕ → ℕ → ℕ) (i : ℕ) (js : List ℕ) (more : List Pair) →
    first_pair f (with_each i js more) ≡ pick (eqb (first_found (f i) js) 0) (λ u. first_pair f more) (λ u. first_found (f i) js)
unfolding first_pair with_each first_found
each_first f i [] more = refl
each_first f i (j ∷ js) more = go (each_first f i js more) (ℕ_discrete (f i j) 0)
  where
    go : first_pair f (with_each i js more) ≡ pick (eqb (first_found (f i) js) 0) (λ u. first_pair f more) (λ u. first_found (f i) js) →
        Dec (f i j ≡ 0) →
        pick (eqb (f i j) 0) (λ u. first_pair f (with_each i js more)) (λ u. f i j)
        ≡ pick (eqb (let r : ℕ = f i j in pick (eqb r 0) (λ u. first_found (f i) js) (λ u. r)) 0) (λ u. first_pair f more)
        (λ u. let r : ℕ = f i j in pick (eqb r 0) (λ u. first_found (f i) js) (λ u. r))
    go r (yes e) = rw e r
    go r (no e) = rw (ne_eqb (f i j) 0 e, ne_eqb (f i j) 0 e) refl

-- The search of an element, and below it of a node, is the search of a pair.
pub nested-first : (t : Tree) (f : ℕ → ℕ → ℕ) (is : List ℕ) →
    first_found (λ i. first_found (f i) (descendants t i)) is ≡ first_pair f (pairs_of t is)
unfolding first_pair pairs_of first_found
nested-first t f [] = refl
nested-first t f (i ∷ is) =
    ap (λ n. pick (eqb (first_found (f i) (descendants t i)) 0) (λ u. n) (λ u. first_found (f i) (descendants t i))) (nested-first t f is)
    ∙ sym (each_first f i (descendants t i) (pairs_of t is))

-- Every pair of a list gives nothing.
abbrev Nothing : (ℕ → ℕ → ℕ) → List Pair → Type 0
Nothing f [] = Unit {0}
Nothing f (p ∷ ps) = (f p.key p.value ≡ 0) × Nothing f ps

pass-nothing : (f : ℕ → ℕ → ℕ) (ps qs : List Pair) → Nothing f ps → first_pair f (ps ++ qs) ≡ first_pair f qs
unfolding first_pair
pass-nothing f [] qs h = refl
pass-nothing f (p ∷ ps) qs h = rw h.0 (pass-nothing f ps qs h.1)

one_more : (f : ℕ → ℕ → ℕ) (ps : List Pair) (p : Pair) → Nothing f ps → f p.key p.value ≡ 0 → Nothing f (ps ++ (p ∷ []))
one_more f [] p h e = (e, tt)
one_more f (q ∷ ps) p h e = (h.0, one_more f ps p h.1 e)

-- COUNTING ENTRIES THAT ARE NO FIXED VALUES

unfoldable pub count_below : (ℕ → Bool) → ℕ → ℕ
count_below f zero = 0
count_below f (suc n) = pick (f n) (λ u. suc (count_below f n)) (λ u. count_below f n)

count_most : (f : ℕ → Bool) (n : ℕ) → count_below f n ≤ n
unfolding count_below
count_most f zero = omega arith
count_most f (suc n) = go (f n) (count_most f n)
  where
    go : (b : Bool) → count_below f n ≤ n → pick b (λ u. suc (count_below f n)) (λ u. count_below f n) ≤ suc n
    go true h = omega arith
    go false h = omega arith

count_same : (f g : ℕ → Bool) (n : ℕ) → ((x : ℕ) → x < n → g x ≡ f x) → count_below g n ≡ count_below f n
unfolding count_below
count_same f g zero h = refl
count_same f g (suc n) h = rw (h n (omega arith), count_same f g n (λ x l. h x (omega arith))) refl

-- One less.
count_less : (f g : ℕ → Bool) (m n : ℕ) → Without f g m → f m ≡ true → m < n → suc (count_below g n) ≡ count_below f n
unfolding count_below
count_less f g m zero w e l = absurd (omega arith)
count_less f g m (suc n) w e l = go (ℕ_discrete n m) (λ d. count_less f g m n w e d)
  where
    go : Dec (n ≡ m) → (m < n → suc (count_below g n) ≡ count_below f n) →
        suc (pick (g n) (λ u. suc (count_below g n)) (λ u. count_below g n))
        ≡ pick (f n) (λ u. suc (count_below f n)) (λ u. count_below f n)
    go (yes d) r = rw (d, w.gone, e) (ap suc (count_same f g m (λ x l. w.others x (λ z. omega arith))))
    go (no d) r = rw (w.others n d) (inner (f n) (r (omega arith)))
      where
        inner : (b : Bool) → suc (count_below g n) ≡ count_below f n → suc (pick b (λ u. suc (count_below g n)) (λ u. count_below g n))
            ≡ pick b (λ u. suc (count_below f n)) (λ u. count_below f n)
        inner true x = ap suc x
        inner false x = x

-- Is the value of entry x no fixed one?
abbrev is_live : Tree → ℕ → Bool
is_live t x = not (eqb (entry_at t x).command 0)

-- How many there are.
abbrev live : Tree → ℕ
live t = count_below (is_live t) t.attribute_count

-- ONE PASS

module _ (chars : List ℕ) (values : List Value) (k : ℕ) where
  -- What the node j below the element i gives, as its index plus 1: itself, or the first below where it leads that leads back.
  abbrev pub found_at : Tree → ℕ → ℕ → ℕ
  found_at t i j = pick (leads_to chars values k t i j) (λ u. j + 1)
      (λ u. first_below t (leads_to chars values k t i) (target_of chars values k t j))

  -- next_cut is the search of a pair.
  leads-pattern : leb k 2 ≡ true → (t : Tree) (i : ℕ) → leads_to chars values k t i
      ≡ paints_with chars values t (cut_name k) (element_id chars t i)
  unfolding leads_to
  leads-pattern e t i = fun_ext (λ m. rw e refl)

  target-pattern : leb k 2 ≡ true → (t : Tree) (j : ℕ) →
      target_of chars values k t j ≡ given (link_of chars values 3 t (cut_name k) j) (λ v. element_by_id chars t v.bytes) (λ x. 0)
  unfolding target_of
  target-pattern e t j = rw e refl

  leads-link : leb k 2 ≡ false → (t : Tree) (i : ℕ) → leads_to chars values k t i
      ≡ (λ m. eqb (node_attribute chars values t (cut_name k) m) (i + 1))
  unfolding leads_to
  leads-link e t i = fun_ext (λ m. rw e refl)

  target-link : leb k 2 ≡ false → (t : Tree) (j : ℕ) → target_of chars values k t j ≡ node_attribute chars values t (cut_name k) j
  unfolding target_of
  target-link e t j = rw e refl

  -- What a pair gives, by what leads and where.
  abbrev shape : Tree → ℕ → (ℕ → Bool) → ℕ → ℕ
  shape t j f w = pick (f j) (λ u. j + 1) (λ u. first_below t f w)

  pattern-found : (t : Tree) (i j : ℕ) → leb k 2 ≡ true → recursive_pattern_at chars values t (cut_name k) (element_id chars t i) j
      ≡ found_at t i j
  unfolding recursive_pattern_at paints_with
  pattern-found t i j e = go (link_of chars values 3 t (cut_name k) j)
      ∙ sym (λ x. shape t j (leads-pattern e t i x) (target-pattern e t j x))
    where
      go : (o : Option Part) →
          given o (λ v. pick (same_bytes v.bytes (element_id chars t i)) (λ u. j + 1)
          (λ u. first_below t (paints_with chars values t (cut_name k) (element_id chars t i)) (element_by_id chars t v.bytes))) (λ u. 0)
          ≡ pick (given o (λ v. same_bytes v.bytes (element_id chars t i)) (λ u. false)) (λ u. j + 1)
          (λ u. first_below t (paints_with chars values t (cut_name k) (element_id chars t i)) (given o (λ v. element_by_id chars t v.bytes)
          (λ x. 0)))
      go none = refl
      go (some v) = refl

  link-found : (t : Tree) (i j : ℕ) → leb k 2 ≡ false → recursive_link_at chars values t (cut_name k) i j ≡ found_at t i j
  unfolding recursive_link_at
  link-found t i j e = sym (λ x. shape t j (leads-link e t i x) (target-link e t j x))

  pub next-found : (t : Tree) → next_cut chars values k t ≡ first_pair (found_at t) (pass_pairs chars values k t)
  unfolding next_cut find_recursive_pattern find_recursive_link
  next-found t = go (leb k 2) refl ∙ nested-first t (found_at t) (all_named t (element_of k) (up_from 0 t.node_count))
    where
      go : (b : Bool) → leb k 2 ≡ b →
          pick b (λ u. find_recursive_pattern chars values (cut_name k) t)
          (λ u. find_recursive_link chars values (get_or (EId.ClipPath ∷ EId.Mask ∷ EId.Filter ∷ []) (k - 3) 0) (cut_name k) t)
          ≡ first_found (λ i. first_found (found_at t i) (descendants t i))
          (all_named t (pick b (λ u. EId.Pattern) (λ u. get_or (EId.ClipPath ∷ EId.Mask ∷ EId.Filter ∷ []) (k - 3) 0))
          (up_from 0 t.node_count))
      go true e = ap (λ f. first_found f (all_named t EId.Pattern (up_from 0 t.node_count)))
          (fun_ext (λ i. ap (λ f. first_found f (descendants t i)) (fun_ext (λ j. pattern-found t i j e))))
      go false e = ap (λ f. first_found f (all_named t (get_or (EId.ClipPath ∷ EId.Mask ∷ EId.Filter ∷ []) (k - 3) 0)
          (up_from 0 t.node_count)))
          (fun_ext (λ i. ap (λ f. first_found f (descendants t i)) (fun_ext (λ j. link-found t i j e))))

-- A CUT CHANGES ONE NODE'S LINK

below-same : (n : ℕ) (t : Tree) (i : ℕ) (js : List ℕ) → below_from (set_none n t) i js ≡ below_from t i js
unfolding below_from set_none
below-same n t i [] = refl
below-same n t i (j ∷ js) = rw (below-same n t i js) refl

pub descendants-same : (n : ℕ) (t : Tree) (i : ℕ) → descendants (set_none n t) i ≡ descendants t i
unfolding descendants set_none
descendants-same n t i = ap (λ l. i ∷ l) (below-same n t i (up_from (i + 1) (t.node_count - (i + 1))))

named-same : (n : ℕ) (t : Tree) (c : ℕ) (is : List ℕ) → all_named (set_none n t) c is ≡ all_named t c is
unfolding all_named set_none
named-same n t c [] = refl
named-same n t c (i ∷ is) = rw (named-same n t c is) refl

pairs-same : (n : ℕ) (t : Tree) (is : List ℕ) → pairs_of (set_none n t) is ≡ pairs_of t is
unfolding pairs_of
pairs-same n t [] = refl
pairs-same n t (i ∷ is) = rw (descendants-same n t i, pairs-same n t is) refl

pub given_both : {A B : Type 0} (o : Option A) (f g : A → B) (b : B) → ((a : A) → f a ≡ g a) → given o f (λ u. b) ≡ given o g (λ u. b)
given_both none f g b h = refl
given_both (some a) f g b h = h a

-- What a pair gives leads to its element.
found-leads : (chars : List ℕ) (values : List Value) (k : ℕ) (t : Tree) (i j m : ℕ) → found_at chars values k t i j ≡ m + 1 →
    leads_to chars values k t i m ≡ true
found-leads chars values k t i j m e = go (f j) refl (eqb w 0) e
  where
    f : ℕ → Bool
    f = leads_to chars values k t i

    w : ℕ
    w = target_of chars values k t j

    go : (b : Bool) → f j ≡ b → (o : Bool) →
        pick b (λ u. j + 1) (λ u. pick o (λ x. 0) (λ x. first_found (if_passes f) (descendants t (w - 1)))) ≡ m + 1 → f m ≡ true
    go true l o z = let d : j ≡ m = omega arith in ap f (sym d) ∙ l
    go false l true z = absurd (omega arith)
    go false l false z = found-passes f (descendants t (w - 1)) m z

-- Pass k cuts node m of a tidy tree; the name that it cuts is not `id`.
module _ (size : ℕ) (chars : List ℕ) (values : List Value) (bare : readings_of 0 values ≡ []) (k : ℕ) (other : cut_name k ≡ AId.Id → ⊥)
    (t : Tree) (g : Tidy size t) (m : ℕ) (h : attribute_id t m (cut_name k) ≡ 0 → ⊥) where
  abbrev a : ℕ
  a = cut_name k

  abbrev n : ℕ
  n = attribute_id t m (cut_name k) - 1

  abbrev v : Tree
  v = set_none n t

  pub cut-is : apply_cut t (cut_at t k m) ≡ v
  unfolding apply_cut cut_at
  cut-is = rw (ne_eqb (attribute_id t m (cut_name k)) 0 h) refl

  link-others : (r x : ℕ) → (x ≡ m → ⊥) → link_of chars values r v a x ≡ link_of chars values r t a x
  link-others r x d = ap (reading_of r) (readings-kept size chars values bare t g m a h x a (λ e f. d e))

  link-gone : (r : ℕ) → link_of chars values r v a m ≡ none
  unfolding reading_of
  link-gone r = ap (reading_of r) (readings-gone size chars values bare t g m a h)

  by-id : (id : List ℕ) → element_by_id chars v id ≡ element_by_id chars t id
  by-id id = by-id-kept size chars values bare t g m a h other id

  node-others : (x : ℕ) → (x ≡ m → ⊥) → node_attribute chars values v a x ≡ node_attribute chars values t a x
  unfolding node_attribute
  node-others x d =
      given_both (link_of chars values (link_kind a) v a x) _ _ 0 (λ p. by-id p.bytes)
      ∙ ap (λ o. given o (λ p. element_by_id chars t p.bytes) (λ u. 0)) (link-others (link_kind a) x d)

  node-gone : node_attribute chars values v a m ≡ 0
  unfolding node_attribute
  node-gone = ap (λ o. given o (λ p. element_by_id chars v p.bytes) (λ u. 0)) (link-gone (link_kind a))

  leads-others : (i x : ℕ) → (x ≡ m → ⊥) → leads_to chars values k v i x ≡ leads_to chars values k t i x
  unfolding leads_to paints_with
  leads-others i x d = rw (link-others 3 x d, element-id-kept size chars values bare t g m a h other i, node-others x d) refl

  leads-gone : (i : ℕ) → leads_to chars values k v i m ≡ false
  unfolding leads_to paints_with
  leads-gone i = rw (link-gone 3, node-gone) (go (leb k 2))
    where
      go : (b : Bool) → pick b (λ u. false) (λ u. eqb 0 (i + 1)) ≡ false
      go true = refl
      go false = ne_eqb 0 (i + 1) (λ e. omega arith)

  pub leads-without : (i : ℕ) → Without (leads_to chars values k t i) (leads_to chars values k v i) m
  leads-without i = record { others = leads-others i; gone = leads-gone i }

  pub target-others : (x : ℕ) → (x ≡ m → ⊥) → target_of chars values k v x ≡ target_of chars values k t x
  unfolding target_of
  target-others x d = rw (node-others x d) (go (leb k 2))
    where
      go : (b : Bool) →
          pick b (λ u. given (link_of chars values 3 v a x) (λ p. element_by_id chars v p.bytes) (λ y. 0))
          (λ u. node_attribute chars values t a x)
          ≡ pick b (λ u. given (link_of chars values 3 t a x) (λ p. element_by_id chars t p.bytes) (λ y. 0))
          (λ u. node_attribute chars values t a x)
      go true = given_both (link_of chars values 3 v a x) _ _ 0 (λ p. by-id p.bytes)
          ∙ ap (λ o. given o (λ p. element_by_id chars t p.bytes) (λ u. 0)) (link-others 3 x d)
      go false = refl

  pub target-gone : target_of chars values k v m ≡ 0
  unfolding target_of
  target-gone = rw (link-gone 3, node-gone) (go (leb k 2))
    where
      go : (b : Bool) → ◌≡◌ {A = ℕ} (pick b (λ u. 0) (λ u. 0)) 0
      go true = refl
      go false = refl

  -- A pair that gave nothing still gives nothing.
  still-below : (i w : ℕ) → first_below t (leads_to chars values k t i) w ≡ 0 → first_below v (leads_to chars values k v i) w ≡ 0
  still-below i w e = go (eqb w 0) e
    where
      go : (b : Bool) → pick b (λ u. 0) (λ u. first_found (if_passes (leads_to chars values k t i)) (descendants t (w - 1))) ≡ 0 →
          pick b (λ u. 0) (λ u. first_found (if_passes (leads_to chars values k v i)) (descendants v (w - 1))) ≡ 0
      go true z = refl
      go false z = rw (descendants-same n t (w - 1)) (still-nothing _ _ m (leads-without i) (descendants t (w - 1)) z)

  pub found_nothing : (i j : ℕ) → found_at chars values k t i j ≡ 0 → found_at chars values k v i j ≡ 0
  found_nothing i j e = go (leads_to chars values k t i j) refl e (ℕ_discrete j m)
    where
      below : Tree → ℕ → ℕ
      below u w = first_below u (leads_to chars values k u i) w

      go : (b : Bool) → leads_to chars values k t i j ≡ b → pick b (λ u. j + 1) (λ u. below t (target_of chars values k t j)) ≡ 0 →
          Dec (j ≡ m) → found_at chars values k v i j ≡ 0
      go true l z d = absurd (omega arith)
      go false l z (yes d) = rw (d, leads-gone i, target-gone) refl
      go false l z (no d) = rw (leads-others i j d ∙ l, target-others j d) (still-below i (target_of chars values k t j) z)

  -- A pair that gives m is cut at m, and then where it is cut without m.
  pub one-cut : (i j : ℕ) → found_at chars values k t i j ≡ m + 1 → nodes_at chars values k t i j ≡ m ∷ nodes_at chars values k v i j
  unfolding nodes_at
  one-cut i j e = go (leads_to chars values k t i j) refl e (ℕ_discrete j m)
    where
      f : ℕ → Bool
      f = leads_to chars values k t i

      w : ℕ
      w = target_of chars values k t j

      go : (b : Bool) → leads_to chars values k t i j ≡ b → pick b (λ u. j + 1) (λ u. first_below t f w) ≡ m + 1 → Dec (j ≡ m) →
          pick b (λ u. j ∷ []) (λ u. pick (eqb w 0) (λ x. []) (λ x. passing f (descendants t (w - 1)))) ≡ m ∷ nodes_at chars values k v i j
      go true l z (yes d) = rw (d, leads-gone i, target-gone) refl
      go true l z (no d) = absurd (d (omega arith))
      go false l z (yes d) = absurd-bool (sym (found-leads chars values k t i j m e) ∙ ap f (sym d) ∙ l)
      go false l z (no d) = inner w refl (ℕ_discrete w 0) z
        where
          inner : (x : ℕ) → w ≡ x → Dec (x ≡ 0) → first_below t f x ≡ m + 1 →
              pick (eqb x 0) (λ y. []) (λ y. passing f (descendants t (x - 1))) ≡ m ∷ nodes_at chars values k v i j
          inner x q (yes o) y =
              let r : first_below t f x ≡ 0 = rw (eq-eqb x 0 o) refl in absurd (omega (arith, r, y))
          inner x q (no o) y =
              let r : eqb x 0 ≡ false = ne_eqb x 0 o in
              rw (leads-others i j d ∙ l, target-others j d ∙ q, r, descendants-same n t (x - 1))
              (first-passing f (leads_to chars values k v i) m (leads-without i) (x - 1) (descendants t (x - 1))
              (descendants-rising t (x - 1))
              (rw r at y))

  -- One entry less is no fixed value.
  live-less : ((entry_at t n).command ≡ 0 → ⊥) → suc (live v) ≡ live t
  unfolding set_none
  live-less c =
      let r = attribute-any size t g.kept g.unused m a h in
      let w : Without (is_live t) (is_live v) n =
      record {
        others = λ x d. ap (λ e. not (eqb e.command 0)) (none-others n t x d);
        gone = ap (λ e. not (eqb e.command 0)) (none-entry n t (omega (arith, r, g.kept.fits.entries)));
      } in
      count_less (is_live t) (is_live v) n t.attribute_count w (rw (ne_eqb (entry_at t n).command 0 c) refl) (omega (arith, r, h))

  pub tidy-cut : Tidy size v
  tidy-cut = tidy-none size t g n (omega (arith, attribute-any size t g.kept g.unused m a h, h))

-- A value that leads anywhere is there, and is no fixed one.
pub record There (t : Tree) (m a : ℕ) : Type 0 where
  pub entry : attribute_id t m a ≡ 0 → ⊥
  pub command : (entry_at t (attribute_id t m a - 1)).command ≡ 0 → ⊥

module _ (chars : List ℕ) (values : List Value) (bare : readings_of 0 values ≡ []) where
  pub readings-there : (t : Tree) (m a : ℕ) → (readings_of_attribute chars values t a m ≡ [] → ⊥) → There t m a
  unfolding readings_of_attribute
  readings-there t m a z = go (ℕ_discrete (attribute_of chars t m a) 0)
    where
      go : Dec (attribute_of chars t m a ≡ 0) → There t m a
      go (yes e) = absurd (z (rw (eq-eqb _ 0 e) refl))
      go (no e) =
          let f = attribute-there chars t m a e in
          record {
            entry = f.1;
            command = λ c. z (rw (ne_eqb _ 0 e, f.0, c) bare);
          }

  leads-there : (k : ℕ) (t : Tree) (i m : ℕ) → leads_to chars values k t i m ≡ true → There t m (cut_name k)
  unfolding leads_to paints_with node_attribute reading_of
  leads-there k t i m e = readings-there t m (cut_name k) (λ z. go (leb k 2) (rw z at e))
    where
      go : (b : Bool) → pick b (λ u. false) (λ u. eqb 0 (i + 1)) ≡ true → ⊥
      go true y = absurd-bool (sym y)
      go false y = let q = eqb-true 0 (i + 1) y in omega arith

-- THE PASS, GOING ON

module _ (size : ℕ) (chars : List ℕ) (values : List Value) (bare : readings_of 0 values ≡ []) (k : ℕ)
    (other : cut_name k ≡ AId.Id → ⊥) where
  abbrev found : Tree → ℕ → ℕ → ℕ
  found t = found_at chars values k t

  nothing-kept : (t u : Tree) → ((i j : ℕ) → found t i j ≡ 0 → found u i j ≡ 0) → (ps : List Pair) → Nothing (found t) ps →
      Nothing (found u) ps
  nothing-kept t u f [] h = tt
  nothing-kept t u f (p ∷ ps) h = (f p.key p.value h.0, nothing-kept t u f ps h.1)

  -- The cuts of the pairs from p on, where one more node is cut for p.
  on-cons : (t : Tree) (p : Pair) (ps : List Pair) (m : ℕ) (u : Tree) → apply_cut t (cut_at t k m) ≡ u →
      nodes_at chars values k t p.key p.value ≡ m ∷ nodes_at chars values k u p.key p.value →
      going_on chars values k t (p ∷ ps) ≡ cut_at t k m ∷ going_on chars values k u (p ∷ ps)
  unfolding going_on cuts_along applied
  on-cons t p ps m u e q =
      let ms = nodes_at chars values k u p.key p.value in
      ap (λ (ns : List ℕ). let cs : List Cut = cuts_along chars values k t ns in cs ++ going_on chars values k (applied t cs) ps) q
      ∙ ap (λ (w : Tree). let cs : List Cut = cuts_along chars values k w ms in
      cut_at t k m ∷ (cs ++ going_on chars values k (applied w cs) ps)) e

  -- Where it is cut nowhere.
  on_none : (t : Tree) (p : Pair) (ps : List Pair) → nodes_at chars values k t p.key p.value ≡ [] →
      going_on chars values k t (p ∷ ps) ≡ going_on chars values k t ps
  unfolding going_on cuts_along applied
  on_none t p ps e = rw e refl

  nodes-none : (t : Tree) (i j : ℕ) → found t i j ≡ 0 → nodes_at chars values k t i j ≡ []
  unfolding nodes_at
  nodes-none t i j e = go (leads_to chars values k t i j) (eqb (target_of chars values k t j) 0) e
    where
      f : ℕ → Bool
      f = leads_to chars values k t i

      ds : List ℕ
      ds = descendants t (target_of chars values k t j - 1)

      go : (b o : Bool) → pick b (λ u. j + 1) (λ u. pick o (λ x. 0) (λ x. first_found (if_passes f) ds)) ≡ 0 →
          pick b (λ u. j ∷ []) (λ u. pick o (λ x. []) (λ x. passing f ds)) ≡ []
      go true o z = absurd (omega arith)
      go false true z = refl
      go false false z = none-passing f ds z

  -- The next cut, where the pairs before p give nothing and p gives m.
  next-is : (t : Tree) (past : List Pair) (p : Pair) (ps : List Pair) → pass_pairs chars values k t ≡ past ++ (p ∷ ps) →
      Nothing (found t) past →
      (m : ℕ) → found t p.key p.value ≡ m + 1 → next_cut chars values k t ≡ m + 1
  unfolding first_pair
  next-is t past p ps e h m q = next-found chars values k t ∙ rw (
    e,
    pass-nothing (found t) past (p ∷ ps) h,
    q,
    ne_eqb (m + 1) 0
        (λ o. omega arith),
  ) refl

  pass_same : (n : ℕ) (t : Tree) → pass_pairs chars values k (set_none n t) ≡ pass_pairs chars values k t
  unfolding set_none
  pass_same n t =
      pairs-same n t (all_named (set_none n t) (element_of k) (up_from 0 t.node_count))
      ∙ ap (pairs_of t) (named-same n t (element_of k) (up_from 0 t.node_count))

  cuts-step : (n : ℕ) (t : Tree) (m : ℕ) → next_cut chars values k t ≡ m + 1 →
      cuts_from chars values k (suc n) t ≡ cut_at t k m ∷ cuts_from chars values k n (apply_cut t (cut_at t k m))
  unfolding cuts_from
  cuts-step n t m q = let z : m + 1 - 1 ≡ m = omega arith in rw (q, ne_eqb (m + 1) 0 (λ o. omega arith), z) refl

  -- The pair p, with pairs before it that give nothing: what is cut for it, and then for the pairs behind it.
  module _ (past : List Pair) (p : Pair) (ps : List Pair)
      (rest : (n : ℕ) (t : Tree) → Tidy size t → pass_pairs chars values k t ≡ (past ++ (p ∷ [])) ++ ps →
      Nothing (found t) (past ++ (p ∷ [])) →
      live t ≤ n → cuts_from chars values k n t ≡ going_on chars values k t ps) where
    -- What there is to show with n cuts at the most.
    abbrev Along : ℕ → Type 0
    Along n =
        (t : Tree) → Tidy size t → pass_pairs chars values k t ≡ past ++ (p ∷ ps) → Nothing (found t) past → live t ≤ n →
        cuts_from chars values k n t ≡ going_on chars values k t (p ∷ ps)

    none_here : (n : ℕ) (t : Tree) → Tidy size t → pass_pairs chars values k t ≡ past ++ (p ∷ ps) → Nothing (found t) past → live t ≤ n →
        found t p.key p.value ≡ 0 → cuts_from chars values k n t ≡ going_on chars values k t (p ∷ ps)
    none_here n t g e h l z =
        rest n t g (e ∙ sym (append_assoc past (p ∷ []) ps)) (one_more (found t) past p h z) l
        ∙ sym (on_none t p ps (nodes-none t p.key p.value z))

    there : (t : Tree) (m : ℕ) → found t p.key p.value ≡ m + 1 → There t m (cut_name k)
    there t m z = leads-there chars values bare k t p.key m (found-leads chars values k t p.key p.value m z)

    one-here : (n : ℕ) → Along n → (t : Tree) → Tidy size t → pass_pairs chars values k t ≡ past ++ (p ∷ ps) → Nothing (found t) past →
        live t ≤ suc n → (m : ℕ) → found t p.key p.value ≡ m + 1 →
        cuts_from chars values k (suc n) t ≡ going_on chars values k t (p ∷ ps)
    one-here n next t g e h l m z =
        let w = there t m z in
        let u = set_none (attribute_id t m (cut_name k) - 1) t in
        let c = cut-is size chars values bare k other t g m w.entry in
        let s = live-less size chars values bare k other t g m w.entry w.command in
        let kept = nothing-kept t u (found_nothing size chars values bare k other t g m w.entry) past h in
        cuts-step n t m (next-is t past p ps e h m z)
        ∙ ap (λ (x : Tree). cut_at t k m ∷ cuts_from chars values k n x) c
        ∙ ap (λ (x : List Cut). cut_at t k m ∷ x)
        (next u (tidy-cut size chars values bare k other t g m w.entry) (pass_same _ t ∙ e) kept (omega (arith, s)))
        ∙ sym (on-cons t p ps m u c (one-cut size chars values bare k other t g m w.entry p.key p.value z))

    along : (n : ℕ) → Along n
    along zero t g e h l = go (found t p.key p.value) refl
      where
        go : (x : ℕ) → found t p.key p.value ≡ x → cuts_from chars values k zero t ≡ going_on chars values k t (p ∷ ps)
        go zero z = none_here zero t g e h l z
        go (suc m) z =
            let y = z ∙ sym (add-one m) in
            let s = live-less size chars values bare k other t g m (there t m y).entry (there t m y).command in
            absurd (omega (arith, s))
    along (suc n) t g e h l = go (found t p.key p.value) refl (along n)
      where
        go : (x : ℕ) → found t p.key p.value ≡ x → Along n → cuts_from chars values k (suc n) t ≡ going_on chars values k t (p ∷ ps)
        go zero z r = none_here (suc n) t g e h l z
        go (suc m) z r = one-here n r t g e h l m (z ∙ sym (add-one m))

  -- No pair is left: nothing is cut.
  cuts-end : (n : ℕ) (t : Tree) → next_cut chars values k t ≡ 0 → cuts_from chars values k n t ≡ []
  unfolding cuts_from
  cuts-end zero t q = refl
  cuts-end (suc n) t q = rw q refl

  -- The cuts of the pairs from here on, where those before give nothing.
  from-here : (past ps : List Pair) (n : ℕ) (t : Tree) → Tidy size t → pass_pairs chars values k t ≡ past ++ ps → Nothing (found t) past →
      live t ≤ n →
      cuts_from chars values k n t ≡ going_on chars values k t ps
  unfolding going_on first_pair
  from-here past [] n t g e h l = cuts-end n t (next-found chars values k t ∙ rw (e, pass-nothing (found t) past [] h) refl)
  from-here past (p ∷ ps) n t g e h l = along past p ps (λ m u. from-here (past ++ (p ∷ [])) ps m u) n t g e h l

  -- THE LAW: the cuts of a pass, found going on after each cut, are those that are found from the start again.
  pub cuts-going-on : (t : Tree) → Tidy size t →
      cuts_from chars values k t.attribute_count t ≡ going_on chars values k t (pass_pairs chars values k t)
  cuts-going-on t g = from-here [] (pass_pairs chars values k t) t.attribute_count t g refl tt (count_most (is_live t) t.attribute_count)
