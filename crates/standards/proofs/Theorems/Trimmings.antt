-- A trimming of the tables, seen as what it does to the texts alone.
use Prim.Native.Nat.{ℕ, ◌+◌, ◌-◌, ◌*◌, ◌≤◌, ◌<◌}
use Rattle.std.specs.Prelude.{◌≡◌, refl, ◌⊎◌, List, eqb, length, get_or, set, take, replicate}
use Rattle.std.proofs.Common.{sym, ◌∙◌, eq-eqb, ne_eqb, ext_get_or, get_or-take, get_or-drop}
use Rattle.std.proofs.Math.Path.{ap}
use Rattle.std.proofs.Math.Logic.{inl, inr}
use native.Mathlib.Omega.{arith}
use Rattle.std.proofs.Math.Decide.{ℕ_discrete}
use Rattle.std.proofs.Math.ListN.{length-set, length-replicate}
use Rattle.std.proofs.Math.Seq.{slice, get_or-set_same, get_or-set_other, length-slice}
use Rattle.model.specs.Base.{pick}
use Rattle.model.specs.Tables.{Tree, from_of, to_of, text_of, set_text}
use Rattle.model.specs.Text.{Trimming, stop, look, cut, cut_from, cut_to, cut_text, run}
use Rattle.model.proofs.Theorems.Agree.{agree_trans, agree-outs, agree-slice}
use Rattle.model.specs.Theorems.Reach.{Within}
use Rattle.model.proofs.Theorems.Unused.{bounds-lengths}

-- THE TEXTS ALONE

-- A text without f bytes in front and b bytes at its end, as far as it has them.
abbrev pub cut_list : ℕ → ℕ → List ℕ → List ℕ
cut_list f b v = slice (cut_from 0 (length v) f) (cut_to 0 (length v) f b) v

-- The texts by node, with another one for node i.
abbrev pub with_text : ℕ → List ℕ → (ℕ → List ℕ) → ℕ → List ℕ
with_text i v f j = pick (eqb j i) (λ u. v) (λ u. f j)

-- What a trimming does to the texts.
unfoldable pub told : Trimming → (ℕ → List ℕ) → ℕ → List ℕ
told stop f = f
told (look i k) f = told (k (f i)) f
told (cut i a b k) f = told k (with_text i (cut_list a b (f i)) f)

-- WHERE THE TEXTS LIE

-- The nodes that Q names have records in the table, and their texts lie in the text table, each in a part of its own.
pub record Placed (Q : ℕ → Type 0) (t : Tree) : Type 0 where
  pub inside : (i : ℕ) → Q i → (8 * i + 8 ≤ length t.nodes) × (from_of t i ≤ to_of t i) × (to_of t i ≤ length t.text)
  pub apart : (i j : ℕ) → Q i → Q j → (i ≡ j → ⊥) → (to_of t i ≤ from_of t j) ⊎ (to_of t j ≤ from_of t i)

get_or-slice : (f t : ℕ) (l : List ℕ) (i : ℕ) → f + i < t → get_or (slice f t l) i 0 ≡ get_or l (f + i) 0
get_or-slice f t l i h = get_or-drop f (take t l) i 0 ∙ get_or-take t l (f + i) 0 h

-- A part of a part.
slice-slice : (a b c d : ℕ) (l : List ℕ) → d ≤ length l → c + b ≤ d → slice (c + a) (c + b) l ≡ slice a b (slice c d l)
slice-slice a b c d l h g =
    ext_get_or 0 (slice (c + a) (c + b) l) (slice a b (slice c d l)) same (λ i k.
    let u : c + (a + i) < c + b = omega (arith, outer, k) in
    let v : a + i < b = omega arith in
    get_or-slice (c + a) (c + b) l i (omega arith) ∙ ap (λ n. get_or l n 0) (assoc i)
    ∙ sym (get_or-slice c d l (a + i) (omega arith)) ∙ sym (get_or-slice a b (slice c d l) i v))
  where
    outer : length (slice (c + a) (c + b) l) ≡ b - a
    outer = length-slice (c + a) (c + b) l (omega arith) ∙ sub
      where
        sub : (c + b) - (c + a) ≡ b - a
        sub = omega arith

    whole : length (slice c d l) ≡ d - c
    whole = length-slice c d l h

    same : length (slice (c + a) (c + b) l) ≡ length (slice a b (slice c d l))
    same = outer ∙ sym (length-slice a b (slice c d l) (omega (arith, whole)))

    assoc : (i : ℕ) → c + a + i ≡ c + (a + i)
    assoc i = omega arith

bounds-from-zero : (f n a b : ℕ) → (cut_from f (f + n) a ≡ f + cut_from 0 n a) × (cut_to f (f + n) a b ≡ f + cut_to 0 n a b)
bounds-from-zero f n a b = (omega arith, omega arith)

module _ (i a b : ℕ) (t : Tree) where
  -- The new bounds.
  new_from : ℕ
  new_from = cut_from (from_of t i) (to_of t i) a

  new_to : ℕ
  new_to = cut_to (from_of t i) (to_of t i) a b

  from_cut : 8 * i + 8 ≤ length t.nodes → from_of (cut_text i a b t) i ≡ new_from
  unfolding cut_text set_text new_from new_to
  from_cut h =
      get_or-set_other (set t.nodes (8 * i + 6) new_from) (8 * i + 7) (8 * i + 6) new_to 0 (omega arith)
      ∙ get_or-set_same t.nodes (8 * i + 6) new_from 0 (omega arith)

  to-cut : 8 * i + 8 ≤ length t.nodes → to_of (cut_text i a b t) i ≡ new_to
  unfolding cut_text set_text new_from new_to
  to-cut h = get_or-set_same (set t.nodes (8 * i + 6) new_from) (8 * i + 7) new_to 0 (rw length-set (omega arith))

  pub bound-else : (j k : ℕ) → (k ≡ 6) ⊎ (k ≡ 7) → (j ≡ i → ⊥) → get_or (cut_text i a b t).nodes (8 * j + k) 0
      ≡ get_or t.nodes (8 * j + k) 0
  unfolding cut_text set_text new_from new_to
  bound-else j k q d =
      get_or-set_other (set t.nodes (8 * i + 6) new_from) (8 * i + 7) (8 * j + k) new_to 0 (off 7 q (omega arith) (omega arith))
      ∙ get_or-set_other t.nodes (8 * i + 6) (8 * j + k) new_from 0 (off 6 q (omega arith) (omega arith))
    where
      off : (m : ℕ) → (k ≡ 6) ⊎ (k ≡ 7) → 6 ≤ m → m ≤ 7 → (8 * j + k ≡ 8 * i + m) → ⊥
      off m (inl e) x y z = d (omega arith)
      off m (inr e) x y z = d (omega arith)

  text-kept : (f g : ℕ) → (g ≤ from_of t i) ⊎ ((new_from ≤ f) × (g ≤ new_to)) ⊎ (to_of t i ≤ f) → from_of t i ≤ to_of t i →
      slice f g (cut_text i a b t).text ≡ slice f g t.text
  unfolding cut_text set_text new_from new_to
  text-kept f g w h = agree-slice {P = λ k. (f ≤ k) × (k < g)} f g (λ k x y. (x, y))
      (agree_trans
      (agree-outs {P = λ k. (f ≤ k) × (k < g)} (replicate (to_of t i - new_to) 0) _ new_to
      (λ k x y p. back k x (rw length-replicate at y) p w))
      (agree-outs {P = λ k. (f ≤ k) × (k < g)} (replicate (new_from - from_of t i) 0) t.text (from_of t i)
      (λ k x y p. front k x (rw length-replicate at y) p w)))
    where
      back : (k : ℕ) → new_to ≤ k → k < new_to + (to_of t i - new_to) → (f ≤ k) × (k < g) →
          (g ≤ from_of t i) ⊎ ((new_from ≤ f) × (g ≤ new_to)) ⊎ (to_of t i ≤ f) → ⊥
      back k x y p (inl u) = omega arith
      back k x y p (inr (inl u)) = omega arith
      back k x y p (inr (inr u)) = omega arith

      front : (k : ℕ) → from_of t i ≤ k → k < from_of t i + (new_from - from_of t i) → (f ≤ k) × (k < g) →
          (g ≤ from_of t i) ⊎ ((new_from ≤ f) × (g ≤ new_to)) ⊎ (to_of t i ≤ f) → ⊥
      front k x y p (inl u) = omega arith
      front k x y p (inr (inl u)) = omega arith
      front k x y p (inr (inr u)) = omega arith

  places : from_of t i ≤ to_of t i →
      (new_from ≡ from_of t i + cut_from 0 (to_of t i - from_of t i) a) × (new_to ≡ from_of t i + cut_to 0 (to_of t i - from_of t i) a b)
  unfolding new_from new_to
  places h =
      let e : to_of t i ≡ from_of t i + (to_of t i - from_of t i) = omega arith in
      let k = bounds-from-zero (from_of t i) (to_of t i - from_of t i) a b in
      (ap (λ m. cut_from (from_of t i) m a) e ∙ k.0, ap (λ m. cut_to (from_of t i) m a b) e ∙ k.1)

  -- The text of the node that is cut.
  own-cut : (8 * i + 8 ≤ length t.nodes) × (from_of t i ≤ to_of t i) × (to_of t i ≤ length t.text) →
      text_of (cut_text i a b t) i ≡ cut_list a b (text_of t i)
  unfolding text_of
  own-cut h =
      rw (from_cut h.0, to-cut h.0, text-kept new_from new_to (inr (inl (omega arith, omega arith))) h.1, long)
      (rw ((places h.1).0, (places h.1).1) (slice-slice (cut_from 0 n a) (cut_to 0 n a b) (from_of t i) (to_of t i) t.text h.2
      (omega arith)))
    where
      n : ℕ
      n = to_of t i - from_of t i

      long : length (slice (from_of t i) (to_of t i) t.text) ≡ n
      long = length-slice (from_of t i) (to_of t i) t.text h.2

  -- The text of a node whose part is another one.
  else-cut : (j : ℕ) → (j ≡ i → ⊥) → from_of t i ≤ to_of t i → (to_of t j ≤ from_of t i) ⊎ (to_of t i ≤ from_of t j) →
      text_of (cut_text i a b t) j ≡ text_of t j
  unfolding text_of
  else-cut j d h w =
      rw (bound-else j 6 (inl refl) d, bound-else j 7 (inr refl) d) (text-kept (from_of t j) (to_of t j) (either w) h)
    where
      either : (to_of t j ≤ from_of t i) ⊎ (to_of t i ≤ from_of t j) →
          (to_of t j ≤ from_of t i) ⊎ ((new_from ≤ from_of t j) × (to_of t j ≤ new_to)) ⊎ (to_of t i ≤ from_of t j)
      either (inl u) = inl u
      either (inr u) = inr (inr u)

  -- The bounds of any node after the cut lie within what they were.
  pub within-cut : (Q : ℕ → Type 0) → Placed Q t → Q i → (j : ℕ) → Q j →
      (from_of t j ≤ from_of (cut_text i a b t) j) × (from_of (cut_text i a b t) j ≤ to_of (cut_text i a b t) j)
      × (to_of (cut_text i a b t) j ≤ to_of t j)
  unfolding new_from new_to
  within-cut Q p q j r = go (ℕ_discrete j i)
    where
      go : Dec (j ≡ i) → (from_of t j ≤ from_of (cut_text i a b t) j) × (from_of (cut_text i a b t) j ≤ to_of (cut_text i a b t) j)
          × (to_of (cut_text i a b t) j ≤ to_of t j)
      go (yes e) =
          let h = p.inside i q in
          rw (e, from_cut h.0, to-cut h.0) (omega (arith, h.1), omega (arith, h.1), omega (arith, h.1))
      go (no d) =
          let h = p.inside j r in
          rw (bound-else j 6 (inl refl) d, bound-else j 7 (inr refl) d) (omega arith, h.1, omega arith)

  pub lengths : (length (cut_text i a b t).nodes ≡ length t.nodes) × (length (cut_text i a b t).text ≡ length t.text)
  unfolding cut_text
  lengths = let h = bounds-lengths i (cut_from (from_of t i) (to_of t i) a) (cut_to (from_of t i) (to_of t i) a b) t in (h.nodes, h.text)

  pub placed-cut : (Q : ℕ → Type 0) → Placed Q t → Q i → Placed Q (cut_text i a b t)
  placed-cut Q p q = record {
    inside = λ j r. let h = p.inside j r in let w = within-cut Q p q j r in
        (rw nodes-long h.0, w.1, rw text-long (omega (arith, h.2, w.2)));
    apart = λ j k r s d. still j k (within-cut Q p q j r) (within-cut Q p q k s) (p.apart j k r s d);
  }
    where
      nodes-long : length (cut_text i a b t).nodes ≡ length t.nodes
      nodes-long = lengths.0

      text-long : length (cut_text i a b t).text ≡ length t.text
      text-long = lengths.1

      still : (j k : ℕ) →
          (from_of t j ≤ from_of (cut_text i a b t) j) × (from_of (cut_text i a b t) j ≤ to_of (cut_text i a b t) j)
          × (to_of (cut_text i a b t) j ≤ to_of t j) →
          (from_of t k ≤ from_of (cut_text i a b t) k) × (from_of (cut_text i a b t) k ≤ to_of (cut_text i a b t) k)
          × (to_of (cut_text i a b t) k ≤ to_of t k) →
          (to_of t j ≤ from_of t k) ⊎ (to_of t k ≤ from_of t j) →
          (to_of (cut_text i a b t) j ≤ from_of (cut_text i a b t) k) ⊎ (to_of (cut_text i a b t) k ≤ from_of (cut_text i a b t) j)
      still j k x y (inl u) = inl (omega (arith, x.2, y.0))
      still j k x y (inr u) = inr (omega (arith, y.2, x.0))

-- A trimming that names only nodes of Q: the texts of these nodes after it are what it does to the texts alone.
pub run-told : (Q : ℕ → Type 0) (g : Trimming) (t : Tree) (f : ℕ → List ℕ) → Within Q g → Placed Q t → ((j : ℕ) → Q j → text_of t j ≡ f j) →
    (j : ℕ) → Q j → text_of (run g t) j ≡ told g f j
unfolding run told
run-told Q stop t f w p h j q = h j q
run-told Q (look i k) t f w p h j q = rw (h i w.0) (run-told Q (k (f i)) t f (w.1 (f i)) p h j q)
run-told Q (cut i a b k) t f w p h j q =
    run-told Q k (cut_text i a b t) (with_text i (cut_list a b (f i)) f) w.1 (placed-cut i a b t Q p w.0)
    (λ m r. go m r (ℕ_discrete m i)) j q
  where
    go : (m : ℕ) → Q m → Dec (m ≡ i) → text_of (cut_text i a b t) m ≡ with_text i (cut_list a b (f i)) f m
    go m r (yes e) = rw (e, own-cut i a b t (p.inside i w.0), h i w.0, eq-eqb i i refl) refl
    go m r (no d) = else-cut i a b t m d (p.inside i w.0).1 (p.apart m i r w.0 d) ∙ h m r ∙ rw (ne_eqb m i d) refl
