-- What a trimming can reach: from, to and the bytes of the text nodes that it names, and nothing else.
use Prim.Native.Nat.{ℕ, zero, suc, ◌+◌, ◌-◌, ◌*◌, ◌≤◌, ◌<◌}
use Rattle.std.specs.Prelude.{◌≡◌, ◌⊎◌, Bool, not, eqb, ltb, length, get_or, set, replicate}
use Rattle.std.proofs.Math.Path.{refl}
use Rattle.std.proofs.Common.{sym, ap, ◌∙◌, subst, inl, inr, arith, eqb-true, get_or-set_other}
use Rattle.std.proofs.Math.Bool.{true, false}
use mathlib.Core.List.{List, [], ◌∷◌}
use Rattle.std.proofs.Math.Option.{Option, none, some}
use Rattle.std.proofs.lemmas.List.{length-replicate}
use Rattle.model.specs.Base.{pick, and, given}
use Rattle.model.specs.Utf8.{is_blank}
use Rattle.model.specs.Tables.{Tree, TEXT, word, kind_of, parent_of, from_of, to_of, text_of, set_text}
use Rattle.model.specs.Text.{XmlSpace, is_default, get_xmlspace, Trimming, stop, look, cut, cut_from, cut_to, cut_text, run, TextNode}
use Rattle.model.specs.Text.{depth_below, text_nodes, own_text_nodes, begins_with_space, ends_with_space, is_empty, single, between}
use Rattle.model.specs.Text.{outer_spaces, last_edge, pair, stands_for, is_nil, pairs, trimming}
use Rattle.model.specs.Theorems.Sim.{Every}
use Rattle.model.specs.Noted.{Note, size, In}
use Rattle.model.specs.Theorems.Agree.{Agree}
use Rattle.model.proofs.Theorems.Agree.{agree_refl, agree_trans, agree-set, agree-sets, agree-out, agree-outs, agree-slice}
use Rattle.model.proofs.Theorems.Agree.{set_cases}
use Rattle.model.proofs.Under.{under-keep}
use Rattle.model.specs.Theorems.Kept.{Tidy}
use Rattle.model.proofs.Theorems.Kept.{tidy-bounds}
use Rattle.model.specs.Theorems.Good.{Fits, Good}
use Rattle.model.proofs.Theorems.Good.{text-nodes-keep}
use Rattle.model.specs.Theorems.Reach.{IsText, Within}

-- ONE CUT

moved : (f t a b : ℕ) → f ≤ t → (f ≤ cut_from f t a) × (cut_from f t a ≤ cut_to f t a b) × (cut_to f t a b ≤ t)
moved f t a b h = (omega arith, omega arith, omega arith)

-- The words but from and to stay.
cut_word : (i a b : ℕ) (t : Tree) (j k : ℕ) → ((8 * j + k ≡ 8 * i + 6) → ⊥) → ((8 * j + k ≡ 8 * i + 7) → ⊥) →
    word (cut_text i a b t).nodes j k ≡ word t.nodes j k
unfolding cut_text set_text
cut_word i a b t j k x y =
    get_or-set_other (set t.nodes (8 * i + 6) (cut_from (from_of t i) (to_of t i) a)) (8 * i + 7) (8 * j + k)
    (cut_to (from_of t i) (to_of t i) a b) 0 y
    ∙ get_or-set_other t.nodes (8 * i + 6) (8 * j + k) (cut_from (from_of t i) (to_of t i) a) 0 x

-- From and to of a node after a cut: as they were, or the node is the one cut and they are the new ones.
cut-from : (i a b : ℕ) (t : Tree) (j : ℕ) →
    (from_of (cut_text i a b t) j ≡ from_of t j) ⊎ ((j ≡ i) × (from_of (cut_text i a b t) j ≡ cut_from (from_of t i) (to_of t i) a))
unfolding cut_text set_text
cut-from i a b t j = go (set_cases t.nodes (8 * i + 6) f (8 * j + 6))
  where
    f : ℕ
    f = cut_from (from_of t i) (to_of t i) a

    off : from_of (cut_text i a b t) j ≡ get_or (set t.nodes (8 * i + 6) f) (8 * j + 6) 0
    off = get_or-set_other (set t.nodes (8 * i + 6) f) (8 * i + 7) (8 * j + 6) (cut_to (from_of t i) (to_of t i) a b) 0 (omega arith)

    go : (get_or (set t.nodes (8 * i + 6) f) (8 * j + 6) 0 ≡ from_of t j)
        ⊎ ((8 * j + 6 ≡ 8 * i + 6) × (get_or (set t.nodes (8 * i + 6) f) (8 * j + 6) 0 ≡ f)) →
        (from_of (cut_text i a b t) j ≡ from_of t j) ⊎ ((j ≡ i) × (from_of (cut_text i a b t) j ≡ f))
    go (inl e) = inl (off ∙ e)
    go (inr e) = inr (omega (arith, e.0), off ∙ e.1)

cut-to : (i a b : ℕ) (t : Tree) (j : ℕ) →
    (to_of (cut_text i a b t) j ≡ to_of t j) ⊎ ((j ≡ i) × (to_of (cut_text i a b t) j ≡ cut_to (from_of t i) (to_of t i) a b))
unfolding cut_text set_text
cut-to i a b t j = go (set_cases (set t.nodes (8 * i + 6) f) (8 * i + 7) g (8 * j + 7))
  where
    f : ℕ
    f = cut_from (from_of t i) (to_of t i) a

    g : ℕ
    g = cut_to (from_of t i) (to_of t i) a b

    off : get_or (set t.nodes (8 * i + 6) f) (8 * j + 7) 0 ≡ to_of t j
    off = get_or-set_other t.nodes (8 * i + 6) (8 * j + 7) f 0 (omega arith)

    go : (to_of (cut_text i a b t) j ≡ get_or (set t.nodes (8 * i + 6) f) (8 * j + 7) 0)
        ⊎ ((8 * j + 7 ≡ 8 * i + 7) × (to_of (cut_text i a b t) j ≡ g)) →
        (to_of (cut_text i a b t) j ≡ to_of t j) ⊎ ((j ≡ i) × (to_of (cut_text i a b t) j ≡ g))
    go (inl e) = inl (e ∙ off)
    go (inr e) = inr (omega (arith, e.0), e.1)

fits_cut : (n : Note) (i a b : ℕ) (t : Tree) → Fits n t → Fits n (cut_text i a b t)
fits_cut n i a b t h = go (cut-from i a b t n.node) (cut-to i a b t n.node)
  where
    f : ℕ
    f = from_of t i

    g : ℕ
    g = to_of t i

    k : kind_of (cut_text i a b t) n.node ≡ TEXT
    k = cut_word i a b t n.node 0 (λ e. omega arith) (λ e. omega arith) ∙ h.kind

    same_from : n.node ≡ i → from_of t n.node ≡ f
    same_from e = ap (λ j. from_of t j) e

    same-to : n.node ≡ i → to_of t n.node ≡ g
    same-to e = ap (λ j. to_of t j) e

    go : (from_of (cut_text i a b t) n.node ≡ from_of t n.node)
        ⊎ ((n.node ≡ i) × (from_of (cut_text i a b t) n.node ≡ cut_from f g a)) →
        (to_of (cut_text i a b t) n.node ≡ to_of t n.node) ⊎ ((n.node ≡ i) × (to_of (cut_text i a b t) n.node ≡ cut_to f g a b)) →
        Fits n (cut_text i a b t)
    go (inl x) (inl y) = record { kind = k; low = rw x h.low; mid = rw (x, y) h.mid; high = rw y h.high }
    go (inl x) (inr y) =
        let e6 = same_from y.0 in
        let e7 = same-to y.0 in
        let m = moved f g a b (omega (arith, h.mid)) in
        record { kind = k; low = rw x h.low; mid = omega arith; high = omega (arith, h.high) }
    go (inr x) (inl y) =
        let e6 = same_from x.0 in
        let e7 = same-to x.0 in
        let m = moved f g a b (omega (arith, h.mid)) in
        record { kind = k; low = omega (arith, h.low); mid = omega arith; high = rw y h.high }
    go (inr x) (inr y) =
        let e6 = same_from x.0 in
        let e7 = same-to x.0 in
        let m = moved f g a b (omega (arith, h.mid)) in
        record { kind = k; low = omega (arith, h.low); mid = omega arith; high = omega (arith, h.high) }

pub tidy-cut : (size' : ℕ) (i a b : ℕ) (t : Tree) → IsText t i → Tidy size' t → Tidy size' (cut_text i a b t)
unfolding cut_text
tidy-cut size' i a b t h k =
    let n = (k.kept.nodes i h.0).bytes h.1 in
    let m = moved (from_of t i) (to_of t i) a b n.0 in
    tidy-bounds size' t k i _ _ h.0 h.1 m.1 (omega (arith, m.2, n.1))

good-cut : (size' : ℕ) (ns : List Note) (i a b : ℕ) (t : Tree) → IsText t i → Good size' ns t → Good size' ns (cut_text i a b t)
unfolding cut_text set_text
good-cut size' ns i a b t x g = record {
  tidy = tidy-cut size' i a b t x g.tidy;
  tiles = g.tiles;
  each = g.each ∙ sym (text-nodes-keep (cut_text i a b t) t t.node_count (λ j l. cut_word i a b t j 0 (λ e. omega arith)
      (λ e. omega arith)));
  fits = λ n h. fits_cut n i a b t (g.fits n h);
  below = g.below;
  apart = g.apart;
  placed = λ n h. let f = g.placed n h in (
    f.0,
    (
      cut_word i a b t n.elem 0 (λ e. omega arith) (λ e. omega arith) ∙ f.1.0,
      cut_word i a b t n.elem 5 (λ e. omega arith)
          (λ e. omega arith) ∙ f.1.1,
    ),
    under-keep t.nodes _ n.elem t.node_count (λ j b. cut_word i a _ t j 1 (λ e. omega arith) (λ e. omega arith)) n.node
        (g.below n h).0 f.2,
  );
  noted = λ j h k. g.noted j h (sym (cut_word i a b t j 0 (λ e. omega arith) (λ e. omega arith)) ∙ k);
}

-- A PROGRAM

-- What a trimming leaves alone.
pub record Unmoved (s t : Tree) : Type 0 where
  pub node_count : s.node_count ≡ t.node_count
  pub attribute_count : s.attribute_count ≡ t.attribute_count
  pub text_count : s.text_count ≡ t.text_count
  pub attributes : s.attributes ≡ t.attributes

pub run-unmoved : (g : Trimming) (t : Tree) → Unmoved (run g t) t
unfolding run cut_text set_text
run-unmoved stop t = record { node_count = refl; attribute_count = refl; text_count = refl; attributes = refl }
run-unmoved (look i k) t = run-unmoved (k (text_of t i)) t
run-unmoved (cut i a b k) t = let u = run-unmoved k (cut_text i a b t) in
    record { node_count = u.node_count; attribute_count = u.attribute_count; text_count = u.text_count; attributes = u.attributes }

-- A weaker condition.
within-map : (P Q : ℕ → Type 0) → ((i : ℕ) → P i → Q i) → (g : Trimming) → Within P g → Within Q g
within-map P Q f stop h = tt
within-map P Q f (look i k) h = (f i h.0, λ v. within-map P Q f (k v) (h.1 v))
within-map P Q f (cut i a b k) h = (f i h.0, within-map P Q f k h.1)

-- A cut makes no node a text, and none another.
text-cut : (i a b : ℕ) (t : Tree) (j : ℕ) → IsText t j → IsText (cut_text i a b t) j
unfolding cut_text set_text
text-cut i a b t j h = (h.0, cut_word i a b t j 0 (λ e. omega arith) (λ e. omega arith) ∙ h.1)

pub good-run : (size' : ℕ) (ns : List Note) (g : Trimming) (t : Tree) → Within (IsText t) g → Good size' ns t → Good size' ns (run g t)
unfolding run
good-run size' ns stop t w h = h
good-run size' ns (look i k) t w h = good-run size' ns (k (text_of t i)) t (w.1 (text_of t i)) h
good-run size' ns (cut i a b k) t w h =
    good-run size' ns k (cut_text i a b t) (within-map (IsText t) (IsText (cut_text i a b t)) (λ j x. text-cut i a b t j x) k w.1)
    (good-cut size' ns i a b t w.0 h)

-- The node of a note is a text node.
noted-text : (size' : ℕ) (ns : List Note) (t : Tree) → Good size' ns t → (n : Note) → In n ns → (i : ℕ) → n.node ≡ i → IsText t i
noted-text size' ns t g n h i e = rw (← e) ((g.below n h).0, (g.fits n h).kind)

cut_out : {P Q : ℕ → Type 0} (n : Note) (i a b : ℕ) (t : Tree) → Fits n t → n.node ≡ i → (P (8 * i + 6) → ⊥) → (P (8 * i + 7) → ⊥) →
    ((j : ℕ) → n.start ≤ j → j < n.start + size n → Q j → ⊥) →
    Agree P (cut_text i a b t).nodes t.nodes × Agree Q (cut_text i a b t).text t.text
unfolding cut_text set_text
cut_out {P} {Q} n i a b t h e x y out =
    let f : ℕ = from_of t i in
    let g : ℕ = to_of t i in
    let e6 : from_of t n.node ≡ f = ap (λ j. from_of t j) e in
    let e7 : to_of t n.node ≡ g = ap (λ j. to_of t j) e in
    let m = moved f g a b (omega (arith, h.mid)) in (
      agree_trans (agree-out _ (8 * i + 7) (cut_to f g a b) y) (agree-out t.nodes (8 * i + 6) (cut_from f g a) x),
      agree_trans
          (agree-outs (replicate (g - cut_to f g a b) 0) _ (cut_to f g a b)
          (λ j u v. out j (omega (arith, h.low)) (omega (arith, h.high, length-replicate {A = ℕ} (g - cut_to f g a b) 0))))
          (agree-outs (replicate (cut_from f g a - f) 0) t.text f
          (λ j u v. out j (omega (arith, h.low)) (omega (arith, h.high, length-replicate {A = ℕ} (cut_from f g a - f) 0)))),
    )

-- It touches from and to of the nodes that it names, and bytes in their places.
pub run_out : {P Q : ℕ → Type 0} (size' : ℕ) (ns : List Note) (g : Trimming) (t : Tree) → Good size' ns t →
    Within (λ i. (P (8 * i + 6) → ⊥) × (P (8 * i + 7) → ⊥)
    × ((n : Note) × In n ns × (n.node ≡ i) × ((j : ℕ) → n.start ≤ j → j < n.start + size n → Q j → ⊥))) g →
    Agree P (run g t).nodes t.nodes × Agree Q (run g t).text t.text
unfolding run
run_out size' ns stop t g h = (agree_refl _ _, agree_refl _ _)
run_out {P} {Q} size' ns (look i k) t g h = run_out {P = P} {Q = Q} size' ns (k (text_of t i)) t g (h.1 (text_of t i))
run_out {P} {Q} size' ns (cut i a b k) t g h =
    let w = h.0.2 in
    let r = run_out {P = P} {Q = Q} size' ns k (cut_text i a b t)
    (good-cut size' ns i a b t (noted-text size' ns t g w.0 w.1 i w.2) g) h.1 in
    let o = cut_out {P = P} {Q = Q} w.0 i a b t (g.fits w.0 w.1) w.2 h.0.0 h.0.1 w.3 in
    (agree_trans r.0 o.0, agree_trans r.1 o.1)

-- The same cut of nodes whose from and to are the same.
set-text-both : {P Q : ℕ → Type 0} (i f g f' g' : ℕ) (s t : Tree) → from_of s i ≡ f → from_of t i ≡ f → to_of s i ≡ g → to_of t i ≡ g →
    Agree P s.nodes t.nodes → Agree Q s.text t.text →
    Agree P (set_text i f' g' s).nodes (set_text i f' g' t).nodes × Agree Q (set_text i f' g' s).text (set_text i f' g' t).text
unfolding set_text
set-text-both i f g f' g' s t a b c d x y = (
  agree-set (8 * i + 7) g' g' (λ u. refl) (agree-set (8 * i + 6) f' f' (λ u. refl) x),
  rw (a, b, c, d) (agree-sets (replicate (g - g') 0) g' (agree-sets (replicate (f' - f) 0) f y)),
)

cut-both : {P Q : ℕ → Type 0} (i a b : ℕ) (s t : Tree) → P (8 * i + 6) → P (8 * i + 7) → Agree P s.nodes t.nodes →
    Agree Q s.text t.text →
    Agree P (cut_text i a b s).nodes (cut_text i a b t).nodes × Agree Q (cut_text i a b s).text (cut_text i a b t).text
unfolding cut_text
cut-both {P} {Q} i a b s t p q x y =
    rw (← x.at (8 * i + 6) p, ← x.at (8 * i + 7) q)
    (set-text-both {P = P} {Q = Q} i (from_of s i) (to_of s i) _ _ s t refl (sym (x.at (8 * i + 6) p)) refl (sym (x.at (8 * i + 7) q)) x y)

text_same : {P Q : ℕ → Type 0} (n : Note) (i : ℕ) (s t : Tree) → Fits n s → n.node ≡ i → P (8 * i + 6) → P (8 * i + 7) →
    ((j : ℕ) → n.start ≤ j → j < n.start + size n → Q j) → Agree P s.nodes t.nodes → Agree Q s.text t.text →
    text_of s i ≡ text_of t i
unfolding text_of
text_same n i s t h e p q f x y =
    let e6 : from_of s n.node ≡ from_of s i = ap (λ j. from_of s j) e in
    let e7 : to_of s n.node ≡ to_of s i = ap (λ j. to_of s j) e in
    rw (← x.at (8 * i + 6) p, ← x.at (8 * i + 7) q)
    (agree-slice (from_of s i) (to_of s i) (λ j u v. f j (omega (arith, h.low)) (omega (arith, h.high))) y)

-- It does the same to tables that agree on what it names.
pub run-both : {P Q : ℕ → Type 0} (size' : ℕ) (ns : List Note) (g : Trimming) (s t : Tree) → Good size' ns s →
    Within (λ i. P (8 * i + 6) × P (8 * i + 7) × ((n : Note) × In n ns × (n.node ≡ i) × ((j : ℕ) → n.start ≤ j → j < n.start + size n →
    Q j))) g →
    Agree P s.nodes t.nodes → Agree Q s.text t.text →
    Agree P (run g s).nodes (run g t).nodes × Agree Q (run g s).text (run g t).text
unfolding run
run-both size' ns stop s t g h x y = (x, y)
run-both {P} {Q} size' ns (look i k) s t g h x y =
    let w = h.0.2 in
    subst (λ (v : List ℕ). Agree P (run (k (text_of s i)) s).nodes (run (k v) t).nodes × Agree Q (run (k (text_of s i)) s).text
    (run (k v) t).text)
    (text_same {P = P} {Q = Q} w.0 i s t (g.fits w.0 w.1) w.2 h.0.0 h.0.1 w.3 x y)
    (run-both {P = P} {Q = Q} size' ns (k (text_of s i)) s t g (h.1 (text_of s i)) x y)
run-both {P} {Q} size' ns (cut i a b k) s t g h x y =
    let w = h.0.2 in
    let o = cut-both {P = P} {Q = Q} i a b s t h.0.0 h.0.1 x y in
    run-both {P = P} {Q = Q} size' ns k (cut_text i a b s) (cut_text i a b t)
    (good-cut size' ns i a b s (noted-text size' ns s g w.0 w.1 i w.2) g) h.1 o.0 o.1

-- TRIM_TEXT_NODES names only the text nodes that it is given

module _ (Q : ℕ → Type 0) where
  within-pick : (b : Bool) (x y : Unit {0} → Trimming) → Within Q (x tt) → Within Q (y tt) → Within Q (pick b x y)
  within-pick true x y h g = h
  within-pick false x y h g = g

  within-single : (a : TextNode) → Q a.node → Within Q (single a)
  within-single a q = (
    q,
    λ v. within-pick (eqb (length v) 1) _ _
        (within-pick (begins_with_space v) _ _ (q, tt) tt)
        (within-pick (begins_with_space v) _ _ (q, within-pick (ends_with_space v) _ _ (q, tt) tt)
        (within-pick (ends_with_space v) _ _ (q, tt)
        tt)),
  )

  within-last : (z : Bool) (a b : TextNode) (v : List ℕ) (k : Trimming) → Q a.node → Q b.node → Within Q k →
      Within Q (last_edge z a b v k)
  within-last z a b v k p q h = (
    p,
    λ x. (
      q,
      λ y. within-pick (and (and z (ends_with_space v)) (and (is_empty y) (ends_with_space x))) _ _
          (p, h) h,
    ),
  )

  within-outer_spaces : (f z : Bool) (a b : TextNode) (v w : List ℕ) (k : Trimming) → Q a.node → Q b.node → Within Q k →
      Within Q (outer_spaces f z a b v w k)
  within-outer_spaces f z a b v w k p q h = (
    p,
    λ x. (
      q,
      λ y. within-pick (and (and f (begins_with_space v)) (and (is_default a.space) (not (is_empty x)))) _ _ (p, h)
          (within-pick (and (and z (ends_with_space w)) (and (not (is_empty y)) (is_default b.space))) _ _ (q, h) h),
    ),
  )

  within-between : (d : Bool) (a b : TextNode) (v w : List ℕ) (k : Trimming) → Q a.node → Q b.node → Within Q k →
      Within Q (between d a b v w k)
  within-between d a b v w k p q h =
      within-pick d _ _ (within-pick (and (begins_with_space w) (is_default b.space)) _ _ (q, h) h)
      (within-pick (and (and (ends_with_space v) (begins_with_space w)) (is_default b.space)) _ _ (within-pick (is_default a.space) _ _
      (p, h) (q, h)) h)

  within_pair : (d f z : Bool) (a b : TextNode) (k : Trimming) → Q a.node → Q b.node → Within Q k → Within Q (pair d f z a b k)
  within_pair d f z a b k p q h =
      (p, λ v. (q, λ w. within-between d a b v w _ p q (within-outer_spaces f z a b v w _ p q (within-last z a b v k p q h))))

  -- A node that may be there is one that is named.
  abbrev Named : Option TextNode → Type 0
  Named none = Unit {0}
  Named (some n) = Q n.node

  named-pick : (c : Bool) (last : Option TextNode) (n : TextNode) → Named last → Q n.node → Named (pick c (λ u. last) (λ u. some n))
  named-pick true last n h q = h
  named-pick false last n h q = q

  stands-named : (c : Bool) (last : Option TextNode) (a : TextNode) → Named last → Q a.node →
      Q (pick c (λ u. given last (λ n. n) (λ w. a)) (λ u. a)).node
  stands-named true none a h q = q
  stands-named true (some n) a h q = h
  stands-named false last a h q = q

  within-pairs : (f : Bool) (last : Option TextNode) (a : TextNode) (more : List TextNode) → Named last → Q a.node →
      Every (λ (o : TextNode). Q o.node) more → Within Q (pairs f last a more)
  unfolding pairs
  within-pairs f last a [] h q e = tt
  within-pairs f last a (b ∷ more) h q e = (
    q,
    λ v.
        let p = stands-named (is_empty v) last a h q in
        within_pair (ltb a.depth b.depth) f (is_nil more) (stands_for v a last) b _ p e.0
        (p, λ x. within-pairs false _ b more (named-pick (is_blank x) last (stands_for v a last) h p) e.0 e.1),
  )

  pub within-trimming : (w : XmlSpace) (is : List TextNode) → Every (λ (o : TextNode). Q o.node) is → Within Q (trimming w is)
  unfolding trimming
  within-trimming w [] h = tt
  within-trimming w (a ∷ []) h = within-pick (is_default w) _ _ (within-single a h.0) tt
  within-trimming w (a ∷ b ∷ more) h = within-pairs true none a (b ∷ more) tt h.0 h.1

  -- The text nodes that are collected.
  collected : (chars : List ℕ) (t : Tree) (w : XmlSpace) (e i n : ℕ) → ((j : ℕ) → i ≤ j → j < i + n → kind_of t j ≡ TEXT → Q j) →
      Every (λ (o : TextNode). Q o.node) (text_nodes chars t w e i n)
  unfolding text_nodes
  collected chars t w e i zero h = tt
  collected chars t w e i (suc n) h =
      go (collected chars t w e (i + 1) n (λ j a b k. h j (omega arith) (omega arith) k)) (eqb (kind_of t i) TEXT)
      (λ f. h i (omega arith) (omega arith) (eqb-true _ _ f))
    where
      go : Every (λ (o : TextNode). Q o.node) (text_nodes chars t w e (i + 1) n) → (b : Bool) → (b ≡ true → Q i) →
          Every (λ (o : TextNode). Q o.node)
          (pick b (λ u. record { node = i; depth = depth_below t e i i; space = get_xmlspace chars t (parent_of t i - 1) w } ∷
          text_nodes chars t w e (i + 1) n)
          (λ u. text_nodes chars t w e (i + 1) n))
      go r true f = (f refl, r)
      go r false f = r

  -- The text nodes of e all stand behind it.
  pub own-collected : (chars : List ℕ) (t : Tree) (w : XmlSpace) (e n : ℕ) → e < n → ((j : ℕ) → e < j → j < n → kind_of t j ≡ TEXT → Q j) →
      Every (λ (o : TextNode). Q o.node) (own_text_nodes chars t w e n)
  unfolding own_text_nodes
  own-collected chars t w e n l h = collected chars t w e _ _ (λ j a b k. h j (omega arith) (omega arith) k)
