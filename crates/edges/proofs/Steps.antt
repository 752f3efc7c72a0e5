-- The steps of a trimming: what each asks of the bounds, and what it leaves. Assumes nothing.
use Prim.Native.Nat.{ℕ, ◌+◌, ◌*◌, ◌<◌}
use mathlib.Core.Path.{◌≡◌, refl, sym, ap, ◌∙◌}
use mathlib.Core.Bool.{Bool, true, false, not}
use native.Mathlib.Omega.{arith}
use native.Mathlib.Decide.{ℕ_discrete}
use lib.Dec.{eqb}
use lib.ListN.{length, set, length-set}
use lib.Seq.{length-sets, get_or-set_same, get_or-set_other}
use Rattle.model.specs.Base.{pick, and}
use Rattle.model.specs.Tables.{Tree, word, from_of, to_of, text_of, set_text}
use Rattle.model.specs.Text.{ends_with_space, is_empty, cut_from, cut_to, cut_text}
use Rattle.edges.specs.declared.Pair.{Pair}
use Rattle.edges.specs.declared.Edges.{Edges}
use Rattle.edges.specs.Pairs.{Ranged, Filled, size_of, cut_if, edges_of, after_between}
use Rattle.edges.specs.Pairs.{after_outer, after_last, after_pair}
use Rattle.edges.proofs.Looking.{begins-filled, ends-filled, empty-is}

-- ONE CUT

module _ (i f b : ℕ) (t : Tree) where
  -- A word of another node, or another word than the bounds.
  pub cut-words : (j k : ℕ) → (8 * j + k ≡ 8 * i + 6 → ⊥) → (8 * j + k ≡ 8 * i + 7 → ⊥) →
      word (cut_text i f b t).nodes j k ≡ word t.nodes j k
  unfolding cut_text set_text
  cut-words j k x y =
      get_or-set_other (set t.nodes (8 * i + 6) (cut_from (from_of t i) (to_of t i) f)) (8 * i + 7) (8 * j + k) _ 0 y
      ∙ get_or-set_other t.nodes (8 * i + 6) (8 * j + k) _ 0 x

  pub cut-long : length (cut_text i f b t).nodes ≡ length t.nodes
  unfolding cut_text set_text
  cut-long = length-set (set t.nodes (8 * i + 6) _) (8 * i + 7) _ ∙ length-set t.nodes (8 * i + 6) _

  pub cut-text-long : length (cut_text i f b t).text ≡ length t.text
  unfolding cut_text set_text
  cut-text-long = simp length-sets

  module _ (inside : 8 * i + 7 < length t.nodes) where
    pub cut-own-from : from_of (cut_text i f b t) i ≡ cut_from (from_of t i) (to_of t i) f
    unfolding cut_text set_text
    cut-own-from =
        get_or-set_other (set t.nodes (8 * i + 6) (cut_from (from_of t i) (to_of t i) f)) (8 * i + 7) (8 * i + 6) _ 0 (λ e. omega arith)
        ∙ get_or-set_same t.nodes (8 * i + 6) _ 0 (omega arith)

    pub cut-own-to : to_of (cut_text i f b t) i ≡ cut_to (from_of t i) (to_of t i) f b
    unfolding cut_text set_text
    cut-own-to =
        get_or-set_same (set t.nodes (8 * i + 6) (cut_from (from_of t i) (to_of t i) f)) (8 * i + 7) _ 0
        (rw length-set (omega arith))

-- Bounds stay in order and within the text table.
pub ranged-cut : (i f b : ℕ) (t : Tree) (j : ℕ) → Ranged t i → Ranged t j → Ranged (cut_text i f b t) j
ranged-cut i f b t j ri rj = go (ℕ_discrete j i)
  where
    long : length (cut_text i f b t).nodes ≡ length t.nodes
    long = cut-long i f b t

    within : length (cut_text i f b t).text ≡ length t.text
    within = cut-text-long i f b t

    go : Dec (j ≡ i) → Ranged (cut_text i f b t) j
    go (yes e) =
        let x = cut-own-from i f b t ri.ordered.inside in
        let y = cut-own-to i f b t ri.ordered.inside in
        rw e
        (record {
          ordered = record { inside = omega (arith, long, ri.ordered.inside); order = omega (arith, x, y) };
          within = omega (arith, within, y, ri.within, ri.ordered.order);
        })
    go (no n) =
        let x = cut-words i f b t j 6 (λ e. n (omega arith)) (λ e. n (omega arith)) in
        let y = cut-words i f b t j 7 (λ e. n (omega arith)) (λ e. n (omega arith)) in
        record {
          ordered = record { inside = omega (arith, long, rj.ordered.inside); order = omega (arith, x, y, rj.ordered.order) };
          within = omega (arith, within, y, rj.within);
        }

-- WHAT EVERY CUT KEEPS, EACH STEP KEEPS

module _ (P : Tree → Type 0) where
  keep-pick : (b : Bool) {s t : Tree} → P s → P t → P (pick b (λ u. s) (λ u. t))
  keep-pick true x y = x
  keep-pick false x y = y

  module _ (p : Pair) (first1 : (t : Tree) → P t → P (cut_text p.node1 1 0 t)) (last1 : (t : Tree) → P t → P (cut_text p.node1 0 1 t))
      (first2 : (t : Tree) → P t → P (cut_text p.node2 1 0 t)) (last2 : (t : Tree) → P t → P (cut_text p.node2 0 1 t)) where
    pub keep-between : (c : Edges) (t : Tree) → P t → P (after_between p c t)
    unfolding after_between
    keep-between c t h =
        keep-pick p.deeper (keep-pick (and c.c3 p.default2) (first2 t h) h)
        (keep-pick (and (and c.c2 c.c3) p.default2) (keep-pick p.default1 (last1 t h) (first2 t h)) h)

    pub keep-outer : (c : Edges) (t : Tree) → P t → P (after_outer p c t)
    unfolding after_outer
    keep-outer c t h =
        keep-pick (and (and p.first c.c1) (and p.default1 (not (is_empty (text_of t p.node1))))) (first1 t h)
        (keep-pick (and (and p.last c.c4) (and (not (is_empty (text_of t p.node2))) p.default2)) (last2 t h) h)

    keep-last : (c : Edges) (t : Tree) → P t → P (after_last p c t)
    unfolding after_last
    keep-last c t h =
        keep-pick (and (and p.last c.c2) (and (is_empty (text_of t p.node2)) (ends_with_space (text_of t p.node1)))) (last1 t h) h

    pub keep_pair : (t : Tree) → P t → P (after_pair p t)
    unfolding after_pair
    keep_pair t h = let c = edges_of t p.node1 p.node2 in keep-last c _ (keep-outer c _ (keep-between c t h))

-- The two texts of a pair have bounds.
abbrev pub Both : Pair → Tree → Type 0
Both p t = Ranged t p.node1 × Ranged t p.node2

both_first : (p : Pair) (f b : ℕ) (t : Tree) → Both p t → Both p (cut_text p.node1 f b t)
both_first p f b t h = (ranged-cut p.node1 f b t p.node1 h.0 h.0, ranged-cut p.node1 f b t p.node2 h.0 h.1)

both-second : (p : Pair) (f b : ℕ) (t : Tree) → Both p t → Both p (cut_text p.node2 f b t)
both-second p f b t h = (ranged-cut p.node2 f b t p.node1 h.1 h.0, ranged-cut p.node2 f b t p.node2 h.1 h.1)

pub both-between : (p : Pair) (c : Edges) (t : Tree) → Both p t → Both p (after_between p c t)
both-between p c t h = keep-between (Both p) p (both_first p 1 0) (both_first p 0 1) (both-second p 1 0) (both-second p 0 1) c t h

pub both-outer : (p : Pair) (c : Edges) (t : Tree) → Both p t → Both p (after_outer p c t)
both-outer p c t h = keep-outer (Both p) p (both_first p 1 0) (both_first p 0 1) (both-second p 1 0) (both-second p 0 1) c t h

pub both-pair : (p : Pair) (t : Tree) → Both p t → Both p (after_pair p t)
both-pair p t h = keep_pair (Both p) p (both_first p 1 0) (both_first p 0 1) (both-second p 1 0) (both-second p 0 1) t h

-- A SINGLE TEXT

-- The last byte is still there when the first was given up.
pub single-last : (t : Tree) (i : ℕ) → Ranged t i → (size_of t.nodes i ≡ 1 → ⊥) → (passed : Bool) → ends_with_space (text_of t i) ≡ true →
    Filled (cut_if passed i 1 0 t) i
single-last t i r n true e =
    let x = cut-own-from i 1 0 t r.ordered.inside in
    let y = cut-own-to i 1 0 t r.ordered.inside in
    record { ranged = ranged-cut i 1 0 t i r r; some = omega (arith, x, y, (ends-filled t i r e).some) }
single-last t i r n false e = ends-filled t i r e

-- A PAIR

module _ (t : Tree) (p : Pair) (c : Edges) (h : Both p t) where
  module _ (e : c ≡ edges_of t p.node1 p.node2) where
    pub second-filled : c.c3 ≡ true → Filled t p.node2
    second-filled k = begins-filled t p.node2 h.1 (sym (ap (λ (x : Edges). x.c3) e) ∙ k)

    pub first-filled : c.c2 ≡ true → Filled t p.node1
    first-filled k = ends-filled t p.node1 h.0 (sym (ap (λ (x : Edges). x.c2) e) ∙ k)

  -- The tests of the outer edges, by the sizes.
  abbrev first_test : Bool
  first_test = and (and p.first c.c1) (and p.default1 (not (eqb (size_of t.nodes p.node1) 0)))

  abbrev last_test : Bool
  last_test = and (and p.last c.c4) (and (not (eqb (size_of t.nodes p.node2) 0)) p.default2)

  pub outer-is : after_outer p c t ≡ pick first_test (λ u. cut_text p.node1 1 0 t) (λ u. cut_if last_test p.node2 0 1 t)
  unfolding after_outer
  outer-is = rw (empty-is t p.node1 h.0, empty-is t p.node2 h.1) refl

  pub last-is : after_last p c t ≡ cut_if
      (and (and p.last c.c2) (and (eqb (size_of t.nodes p.node2) 0) (ends_with_space (text_of t p.node1)))) p.node1 0 1 t
  unfolding after_last
  last-is = rw (empty-is t p.node2 h.1) refl

-- The steps at the outer edges, by what looking tells.
pub ruleset edge_steps = (ends-filled, outer-is, last-is)
