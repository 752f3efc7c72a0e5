-- The model's program of looks and cuts, step by step. Assumes nothing.
use Prim.Native.Nat.{ℕ}
use mathlib.Core.Path.{◌≡◌, refl, ◌∙◌}
use mathlib.Core.Bool.{Bool, true, false, not}
use mathlib.Core.List.{List}
use lib.Dec.{eqb}
use lib.ListN.{length}
use Rattle.model.specs.Base.{pick, and}
use Rattle.model.specs.Tables.{Tree, text_of, set_text}
use Rattle.model.specs.Text.{Trimming, stop, look, cut, run, TextNode, is_default, begins_with_space, ends_with_space}
use Rattle.model.specs.Text.{is_empty, cut_text, single, between, outer_spaces, last_edge, pair}
use Rattle.tree.specs.Lent.{texts_of, tree_of}
use Rattle.tree.specs.declared.Counts.{Counts}
use Rattle.edges.specs.declared.Pair.{Pair}
use Rattle.edges.specs.declared.Edges.{Edges}
use Rattle.edges.specs.Pairs.{after_single, edges_of, after_between, after_outer, after_last, after_pair}

-- A program reads and writes nodes and text alone.
pub run_lent : (g : Trimming) (ns es bs : List ℕ) (c : Counts) →
    run g (tree_of ns es bs c) ≡ tree_of (run g (texts_of ns bs)).nodes es (run g (texts_of ns bs)).text c
unfolding run cut_text set_text text_of
run_lent stop ns es bs c = refl
run_lent (look i k) ns es bs c = run_lent (k (text_of (texts_of ns bs) i)) ns es bs c
run_lent (cut i f b k) ns es bs c = run_lent k (cut_text i f b (texts_of ns bs)).nodes es (cut_text i f b (texts_of ns bs)).text c

-- The branches of each step.
on-single : (n b e : Bool) (i : ℕ) (t : Tree) →
    run (pick n (λ u. pick b (λ u. cut i 0 1 stop) (λ u. stop))
    (λ u. pick b (λ u. cut i 1 0 (pick e (λ u. cut i 0 1 stop) (λ u. stop))) (λ u. pick e (λ u. cut i 0 1 stop) (λ u. stop)))) t ≡
    pick n (λ u. pick b (λ u. cut_text i 0 1 t) (λ u. t))
    (λ u. pick e (λ u. cut_text i 0 1 (pick b (λ u. cut_text i 1 0 t) (λ u. t))) (λ u. pick b (λ u. cut_text i 1 0 t) (λ u. t)))
unfolding run
on-single true true e i t = refl
on-single true false e i t = refl
on-single false true true i t = refl
on-single false true false i t = refl
on-single false false true i t = refl
on-single false false false i t = refl

on-between : (d x y z : Bool) (i j : ℕ) (k : Trimming) (t : Tree) →
    run (pick d (λ u. pick x (λ u. cut j 1 0 k) (λ u. k))
    (λ u. pick y (λ u. pick z (λ u. cut i 0 1 k) (λ u. cut j 1 0 k)) (λ u. k))) t ≡
    run k (pick d (λ u. pick x (λ u. cut_text j 1 0 t) (λ u. t))
    (λ u. pick y (λ u. pick z (λ u. cut_text i 0 1 t) (λ u. cut_text j 1 0 t)) (λ u. t)))
unfolding run
on-between true true y z i j k t = refl
on-between true false y z i j k t = refl
on-between false x true true i j k t = refl
on-between false x true false i j k t = refl
on-between false x false z i j k t = refl

on-outer : (x y : Bool) (i j : ℕ) (k : Trimming) (t : Tree) →
    run (pick x (λ u. cut i 1 0 k) (λ u. pick y (λ u. cut j 0 1 k) (λ u. k))) t ≡
    run k (pick x (λ u. cut_text i 1 0 t) (λ u. pick y (λ u. cut_text j 0 1 t) (λ u. t)))
unfolding run
on-outer true y i j k t = refl
on-outer false true i j k t = refl
on-outer false false i j k t = refl

on-last : (x : Bool) (i : ℕ) (k : Trimming) (t : Tree) →
    run (pick x (λ u. cut i 0 1 k) (λ u. k)) t ≡ run k (pick x (λ u. cut_text i 0 1 t) (λ u. t))
unfolding run
on-last true i k t = refl
on-last false i k t = refl

pub run-single : (a : TextNode) (t : Tree) → run (single a) t ≡ after_single a.node t
unfolding run after_single
run-single a t = let v = text_of t a.node in on-single (eqb (length v) 1) (begins_with_space v) (ends_with_space v) a.node t

module _ (d f l : Bool) (a b : TextNode) where
  abbrev p : Pair
  p = record {
    node1 = a.node;
    node2 = b.node;
    deeper = d;
    first = f;
    last = l;
    default1 = is_default a.space;
    default2 = is_default b.space;
  }

  -- The edges of two texts.
  abbrev edges : List ℕ → List ℕ → Edges
  edges v w = record { c1 = begins_with_space v; c2 = ends_with_space v; c3 = begins_with_space w; c4 = ends_with_space w }

  run-between : (v w : List ℕ) (k : Trimming) (t : Tree) → run (between d a b v w k) t ≡ run k (after_between p (edges v w) t)
  unfolding run after_between
  run-between v w k t =
      on-between d (and (begins_with_space w) (is_default b.space))
      (and (and (ends_with_space v) (begins_with_space w)) (is_default b.space)) (is_default a.space) a.node b.node k t

  run-outer : (v w : List ℕ) (k : Trimming) (t : Tree) → run (outer_spaces f l a b v w k) t ≡ run k (after_outer p (edges v w) t)
  unfolding run after_outer
  run-outer v w k t =
      on-outer (and (and f (begins_with_space v)) (and (is_default a.space) (not (is_empty (text_of t a.node)))))
      (and (and l (ends_with_space w)) (and (not (is_empty (text_of t b.node))) (is_default b.space))) a.node b.node k t

  run-last : (v w : List ℕ) (k : Trimming) (t : Tree) → run (last_edge l a b v k) t ≡ run k (after_last p (edges v w) t)
  unfolding run after_last
  run-last v w k t =
      on-last (and (and l (ends_with_space v)) (and (is_empty (text_of t b.node)) (ends_with_space (text_of t a.node)))) a.node k t

  pub run-pair : (k : Trimming) (t : Tree) → run (pair d f l a b k) t ≡ run k (after_pair p t)
  unfolding run after_pair
  run-pair k t =
      let v = text_of t a.node in
      let w = text_of t b.node in
      let c = edges_of t a.node b.node in
      run-between v w (outer_spaces f l a b v w (last_edge l a b v k)) t
      ∙ run-outer v w (last_edge l a b v k) (after_between p c t)
      ∙ run-last v w k (after_outer p c (after_between p c t))
