-- The nodes below a node follow it: they are a range of the table. Assumes nothing.
use mathlib.Core.Path.{◌≡◌, refl, sym, ap, ◌∙◌}
use mathlib.Core.Bool.{true, false}
use mathlib.Core.List.{List, [], ◌∷◌}
use Prim.Native.Nat.{ℕ, zero, suc, ◌+◌, ◌-◌, ◌<◌, ◌≤◌}
use native.Mathlib.Omega.{arith}
use native.Mathlib.Decide.{ℕ_discrete, dec_lt}
use borrow.Author.Tests.{eq-eqb, ne_eqb, le-leb, lt-leb}
use lib.Dec.{eqb, leb}
use Rattle.model.specs.Base.{pick}
use Rattle.model.specs.Tables.{Tree, word, parent_of, attribute_id}
use Rattle.model.specs.Repair.{up_from, below_from, descendants}
use Rattle.tree.specs.declared.Counts.{Counts}
use Rattle.tree.specs.Lent.{read_of}
use Rattle.tree.proofs.Alike.{id_same}
use Rattle.targets.specs.Targets.{seen_of}
use Rattle.std.proofs.Common.{Option, Some, None, IfSome}
use Rattle.std.specs.Option.{is_some, unwrap_or}
use Rattle.cuts.specs.Seen.{any_with, has_links, Range}

-- The nodes from i on, up to n, where there is one.
pub up_step : (i n : ℕ) → i < n → up_from i (n - i) ≡ i ∷ up_from (i + 1) (n - (i + 1))
unfolding up_from
up_step i n h = let e : n - i ≡ suc (n - (i + 1)) = omega arith in ap (up_from i) e

pub up_none : (i n : ℕ) → n ≤ i → up_from i (n - i) ≡ []
unfolding up_from
up_none i n h = let e : n - i ≡ 0 = omega arith in ap (up_from i) e

-- WHERE THE NODES BELOW END

-- From i up to j all nodes stand below i.
pub record Passed (ns : List ℕ) (n i j : ℕ) : Type 0 where
  pub low : i < j
  pub high : j ≤ n
  pub under : (y : ℕ) → i < y → y < j → i < word ns y 1

-- The nodes below a node, from a on.
below_up : (t : Tree) (i end : ℕ) → Range t.nodes t.node_count i end → (n a : ℕ) → i < a → a ≤ end → a + n ≡ t.node_count
    → below_from t i (up_from a n) ≡ up_from a (end - a)
unfolding below_from up_from
below_up t i end r zero a l h e = sym (up_none a end (omega (arith, r.high)))
below_up t i end r (suc n) a l h e = go (dec_lt a end) (λ m. below_up t i end r n (a + 1) (omega arith) m (omega arith))
  where
    go : Dec (a < end) → (a + 1 ≤ end → below_from t i (up_from (a + 1) n) ≡ up_from (a + 1) (end - (a + 1)))
        → pick (leb (i + 1) (parent_of t a)) (λ u. a ∷ below_from t i (up_from (a + 1) n)) (λ u. []) ≡ up_from a (end - a)
    go (yes d) f =
        rw (le-leb (i + 1) (parent_of t a) (omega (arith, r.under a l d)), up_step a end d) (ap (λ (xs : List ℕ). a ∷ xs) (f (omega arith)))
    go (no d) f =
        let q : a ≡ end = omega arith in
        rw (lt-leb (i + 1) (parent_of t a) (omega (arith, r.closed (omega arith), ap (parent_of t) q)), up_none a end (omega arith)) refl

pub range_same : (t : Tree) (i end : ℕ) → Range t.nodes t.node_count i end → descendants t i ≡ up_from i (end - i)
unfolding descendants
range_same t i end r =
    ap (λ (xs : List ℕ). i ∷ xs)
    (below_up t i end r (t.node_count - (i + 1)) (i + 1) (omega arith) (omega (arith, r.low)) (omega (arith, r.low, r.high)))
    ∙ sym (up_step i end r.low)

-- Only the nodes and their count are read.
below_alike : (t u : Tree) → t.nodes ≡ u.nodes → (i : ℕ) (js : List ℕ) → below_from t i js ≡ below_from u i js
unfolding below_from
below_alike t u e i [] = refl
below_alike t u e i (j ∷ js) =
    ap (λ (l : List ℕ). pick (leb (i + 1) (parent_of t j)) (λ x. j ∷ l) (λ x. [])) (below_alike t u e i js)
    ∙ ap (λ (ns : List ℕ). pick (leb (i + 1) (word ns j 1)) (λ x. j ∷ below_from u i js) (λ x. [])) e

pub descendants-alike : (t u : Tree) → t.nodes ≡ u.nodes → t.node_count ≡ u.node_count → (i : ℕ) → descendants t i ≡ descendants u i
unfolding descendants
descendants-alike t u e n i =
    ap (λ (l : List ℕ). i ∷ l)
    (below_alike t u e i (up_from (i + 1) (t.node_count - (i + 1)))
    ∙ ap (λ (k : ℕ). below_from u i (up_from (i + 1) (k - (i + 1)))) n)

-- From i up to m no node has the attribute.
pub record Without (t : Tree) (a i end m : ℕ) : Type 0 where
  pub low : i ≤ m
  pub high : m ≤ end
  pub none : (x : ℕ) → i ≤ x → x < m → attribute_id t x a ≡ 0

-- LINKS BELOW AN ELEMENT

with_none : (t : Tree) (a n i : ℕ) → ((x : ℕ) → i ≤ x → x < i + n → attribute_id t x a ≡ 0) → any_with t a (up_from i n) ≡ false
unfolding any_with up_from
with_none t a zero i h = refl
with_none t a (suc n) i h =
    rw (eq-eqb (attribute_id t i a) 0 (h i (omega arith) (omega arith)))
    (with_none t a n (i + 1) (λ x l m. h x (omega arith) (omega arith)))

with-some : (t : Tree) (a n i x : ℕ) → i ≤ x → x < i + n → (attribute_id t x a ≡ 0 → ⊥) → any_with t a (up_from i n) ≡ true
unfolding any_with up_from
with-some t a zero i x l m h = absurd (omega arith)
with-some t a (suc n) i x l m h = go (ℕ_discrete (attribute_id t i a) 0) (λ d. with-some t a n (i + 1) x d (omega arith) h)
  where
    go : Dec (attribute_id t i a ≡ 0) → (i + 1 ≤ x → any_with t a (up_from (i + 1) n) ≡ true)
        → pick (eqb (attribute_id t i a) 0) (λ u. any_with t a (up_from (i + 1) n)) (λ u. true) ≡ true
    go (no e) r = rw (ne_eqb (attribute_id t i a) 0 e) refl
    go (yes e) r = rw (eq-eqb (attribute_id t i a) 0 e) (r (later (ℕ_discrete i x)))
      where
        later : Dec (i ≡ x) → i + 1 ≤ x
        later (yes d) = absurd (h (ap (λ (y : ℕ). attribute_id t y a) (sym d) ∙ e))
        later (no d) = omega arith

-- What was found by a search for the first one.
pub links-found : (ns es : List ℕ) (c : Counts) (a i end : ℕ) (o : Option ℕ) → Range ns c.nodes i end
    → IfSome o (λ m. (i ≤ m) × (m < end)) → ((m : ℕ) → i ≤ m → m < unwrap_or o end → attribute_id (read_of ns es) m a ≡ 0)
    → IfSome o (λ m. attribute_id (read_of ns es) m a ≡ 0 → ⊥) → is_some o ≡ has_links (seen_of ns es c) a i
unfolding has_links
links-found ns es c a i end (Some r) d b none some =
    let t = seen_of ns es c in
    sym (ap (any_with t a) (range_same t i end d)
    ∙ with-some t a (end - i) i r b.0 (omega (arith, b.1)) (λ z. some (id_same t r a ∙ z)))
links-found ns es c a i end None d b none some =
    let t = seen_of ns es c in
    sym (ap (any_with t a) (range_same t i end d)
    ∙ with_none t a (end - i) i (λ x p q. sym (id_same t x a) ∙ none x p (omega (arith, d.low))))
