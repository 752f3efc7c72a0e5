-- Several text nodes: a trimming takes spaces off the ends of texts, and nothing else.
use Prim.Native.Nat.{ℕ, suc, ◌≤◌, ◌<◌}
use Rattle.std.specs.Prelude.{◌≡◌, refl, Bool, not, ltb, length, take}
use Rattle.std.proofs.Common.{sym, ap, ◌∙◌, subst, arith, length-append, take-suc}
use Rattle.std.proofs.Math.Bool.{true, false}
use Rattle.std.proofs.lemmas.Bool.{false≢true}
use mathlib.Core.List.{List, [], ◌∷◌, ◌++◌}
use Rattle.std.proofs.Math.Option.{Option, none, some}
use borrow.Author.Tests.{eqb-true, eqb-false, eq-eqb, ne_eqb, not-true}
use Rattle.std.proofs.Math.Dec.{eqb}
use Rattle.std.proofs.Math.Seq.{slice, take-length}
use Rattle.model.specs.Base.{pick, and, given}
use Rattle.model.specs.Utf8.{is_blank, is_utf8}
use Rattle.model.specs.Text.{XmlSpace, SPACE, is_default, Trimming, cut_from, cut_to, TextNode, begins_with_space, ends_with_space}
use Rattle.model.specs.Text.{is_empty}
use Rattle.model.specs.Text.{single, outer_spaces, last_edge, pair, stands_for, is_nil, pairs, trimming}
use Rattle.model.proofs.Theorems.Sim.{and_left, and_right}
use Rattle.standards.specs.SvgSpace.{without}
use Rattle.standards.proofs.Theorems.Spaces.{NoTwo}
use Rattle.standards.proofs.Theorems.Sequences.{first-space-utf8, last-space-utf8}
use Rattle.standards.proofs.Theorems.Trimmings.{cut_list, with_text, told}
use Rattle.standards.specs.Theorems.Shaved.{Shaved, whole, front, back}

-- ONE SPACE OFF AN END

pub first_off : (b : ℕ) (bs : List ℕ) → cut_list 1 0 (b ∷ bs) ≡ bs
first_off b bs = ap (λ n. slice n (cut_to 0 (length (b ∷ bs)) 1 0) (b ∷ bs)) one ∙ ap (λ n. slice 1 n (b ∷ bs)) all ∙ take-length bs
  where
    one : cut_from 0 (length (b ∷ bs)) 1 ≡ 1
    one = omega arith

    all : cut_to 0 (length (b ∷ bs)) 1 0 ≡ suc (length bs)
    all = omega arith

pub last_off : (b : ℕ) (bs : List ℕ) → cut_list 0 1 (b ∷ bs) ≡ take (length bs) (b ∷ bs)
last_off b bs = ap (λ n. slice n (cut_to 0 (length (b ∷ bs)) 0 1) (b ∷ bs)) no-first ∙ ap (λ n. slice 0 n (b ∷ bs)) all
  where
    no-first : cut_from 0 (length (b ∷ bs)) 0 ≡ 0
    no-first = omega arith

    all : cut_to 0 (length (b ∷ bs)) 0 1 ≡ length bs
    all = omega arith

pub begins-split : (v : List ℕ) → begins_with_space v ≡ true → v ≡ SPACE ∷ cut_list 1 0 v
begins-split [] h = absurd (false≢true h)
begins-split (b ∷ bs) h = rw (first_off b bs) (ap (λ c. c ∷ bs) (eqb-true b SPACE h))

pub ends-split : (v : List ℕ) → ends_with_space v ≡ true → v ≡ cut_list 0 1 v ++ (SPACE ∷ [])
ends-split [] h = absurd (false≢true h)
ends-split (b ∷ bs) h =
    sym (take-length (b ∷ bs)) ∙ take-suc (b ∷ bs) (length bs) 0 (omega arith)
    ∙ ap (λ c. take (length bs) (b ∷ bs) ++ (c ∷ [])) (eqb-true _ SPACE h) ∙ ap (λ r. r ++ (SPACE ∷ [])) (sym (last_off b bs))

-- What the other end still is.
ends-tail : (a : ℕ) (r : List ℕ) → ends_with_space (a ∷ r) ≡ true → is_empty r ≡ false → ends_with_space r ≡ true
ends-tail a [] h g = absurd (false≢true (sym g))
ends-tail a (b ∷ r) h g = h

begins-front : (r : List ℕ) (b : ℕ) → begins_with_space (r ++ (b ∷ [])) ≡ true → is_empty r ≡ false → begins_with_space r ≡ true
begins-front [] b h g = absurd (false≢true (sym g))
begins-front (a ∷ r) b h g = h

-- THE PROGRAM

-- A node that stands before m, if there is one.
abbrev Before : Option TextNode → ℕ → Type 0
Before none m = Unit {0}
Before (some n) m = n.node < m

-- Nodes behind m, each behind the one before it.
abbrev pub Rising : ℕ → List TextNode → Type 0
Rising m [] = Unit {0}
Rising m (b ∷ more) = (m < b.node) × Rising b.node more

module _ (f₀ : ℕ → List ℕ) where
  -- Every text is so far as it was, with spaces taken off its ends.
  abbrev Kept : (ℕ → List ℕ) → Type 0
  Kept f = (j : ℕ) → Shaved (f₀ j) (f j)

  first-cut : (f : ℕ → List ℕ) (i : ℕ) → Kept f → begins_with_space (f i) ≡ true → Kept (with_text i (cut_list 1 0 (f i)) f)
  first-cut f i s h j = go (eqb j i) refl
    where
      go : (b : Bool) → eqb j i ≡ b → Shaved (f₀ j) (pick b (λ u. cut_list 1 0 (f i)) (λ u. f j))
      go true e = front (subst (λ (r : List ℕ). Shaved (f₀ j) r) (ap f (eqb-true j i e) ∙ begins-split (f i) h) (s j))
      go false e = s j

  last-cut : (f : ℕ → List ℕ) (i : ℕ) → Kept f → ends_with_space (f i) ≡ true → Kept (with_text i (cut_list 0 1 (f i)) f)
  last-cut f i s h j = go (eqb j i) refl
    where
      go : (b : Bool) → eqb j i ≡ b → Shaved (f₀ j) (pick b (λ u. cut_list 0 1 (f i)) (λ u. f j))
      go true e = back (subst (λ (r : List ℕ). Shaved (f₀ j) r) (ap f (eqb-true j i e) ∙ ends-split (f i) h) (s j))
      go false e = s j

  kept-pick : (b : Bool) (x y : Unit {0} → Trimming) (f : ℕ → List ℕ) → (b ≡ true → Kept (told (x tt) f)) →
      (b ≡ false → Kept (told (y tt) f)) →
      Kept (told (pick b x y) f)
  kept-pick true x y f h g = h refl
  kept-pick false x y f h g = g refl

  module _ (deeper is_first is_last : Bool) (a b : TextNode) (d : a.node ≡ b.node → ⊥) (k : Trimming) (rest : (f : ℕ → List ℕ) →
      Kept f → Kept (told k f)) where
    edge_kept : (v : List ℕ) (f : ℕ → List ℕ) → Kept f → Kept (told (last_edge is_last a b v k) f)
    unfolding told
    edge_kept v f s =
        kept-pick (and (and is_last (ends_with_space v)) (and (is_empty (f b.node)) (ends_with_space (f a.node)))) _ _ f
        (λ e. rest _ (last-cut f a.node s (and_right (is_empty (f b.node)) _ (and_right (and is_last (ends_with_space v)) _ e))))
        (λ e. rest f s)

    -- What is known of the two texts, v and w at first, behind the space between them.
    abbrev Behind : List ℕ → List ℕ → (ℕ → List ℕ) → Type 0
    Behind v w f =
        Kept f × (begins_with_space v ≡ true → is_empty (f a.node) ≡ false → begins_with_space (f a.node) ≡ true)
        × (ends_with_space w ≡ true → is_empty (f b.node) ≡ false → ends_with_space (f b.node) ≡ true)

    outer-kept : (v w : List ℕ) (f : ℕ → List ℕ) → Behind v w f →
        Kept (told (outer_spaces is_first is_last a b v w (last_edge is_last a b v k)) f)
    unfolding told
    outer-kept v w f s =
        kept-pick (and (and is_first (begins_with_space v)) (and (is_default a.space) (not (is_empty (f a.node))))) _ _ f
        (λ e. edge_kept v _ (first-cut f a.node s.0 (s.1 (and_right is_first _ (and_left (and is_first (begins_with_space v)) _ e))
        (not-true _ (and_right (is_default a.space) _ (and_right (and is_first (begins_with_space v)) _ e))))))
        (λ e. kept-pick (and (and is_last (ends_with_space w)) (and (not (is_empty (f b.node))) (is_default b.space))) _ _ f
        (λ e. edge_kept v _ (last-cut f b.node s.0 (s.2 (and_right is_last _ (and_left (and is_last (ends_with_space w)) _ e))
        (not-true _ (and_left (not (is_empty (f b.node))) _ (and_right (and is_last (ends_with_space w)) _ e))))))
        (λ e. edge_kept v f s.0))

    pair-kept : (f : ℕ → List ℕ) → Kept f → Kept (told (pair deeper is_first is_last a b k) f)
    unfolding told
    pair-kept f s =
        kept-pick deeper _ _ f
        (λ e. kept-pick (and (begins_with_space w) (is_default b.space)) _ _ f (λ g. second (and_left (begins_with_space w) _ g))
        (λ g. neither))
        (λ e. kept-pick (and (and (ends_with_space v) (begins_with_space w)) (is_default b.space)) _ _ f
        (λ g. let q = and_left (and (ends_with_space v) (begins_with_space w)) _ g in
        kept-pick (is_default a.space) _ _ f (λ x. first (and_left (ends_with_space v) _ q))
        (λ x. second (and_right (ends_with_space v) _ q)))
        (λ g. neither))
      where
        v : List ℕ
        v = f a.node

        w : List ℕ
        w = f b.node

        neither : Kept (told (outer_spaces is_first is_last a b v w (last_edge is_last a b v k)) f)
        neither = outer-kept v w f (s, λ h g. h, λ h g. h)

        first : ends_with_space v ≡ true →
            Kept (told (outer_spaces is_first is_last a b v w (last_edge is_last a b v k)) (with_text a.node (cut_list 0 1 v) f))
        first h = outer-kept v w (with_text a.node (cut_list 0 1 v) f) (
          last-cut f a.node s h,
          rw (eq-eqb a.node a.node refl) (λ x y. begins-front (cut_list 0 1 v) SPACE (rw (← ends-split v h) x) y),
          rw (ne_eqb b.node a.node (λ q. d (sym q))) (λ x y. x),
        )

        second : begins_with_space w ≡ true →
            Kept (told (outer_spaces is_first is_last a b v w (last_edge is_last a b v k)) (with_text b.node (cut_list 1 0 w) f))
        second h = outer-kept v w (with_text b.node (cut_list 1 0 w) f) (
          first-cut f b.node s h,
          rw (ne_eqb a.node b.node d) (λ x y. x),
          rw (eq-eqb b.node b.node refl) (λ x y. ends-tail SPACE (cut_list 1 0 w)
              (subst (λ (r : List ℕ). ends_with_space r ≡ true) (begins-split w h) x) y),
        )

  stands-before : (e : Bool) (a : TextNode) (last : Option TextNode) (m : ℕ) → a.node < m → Before last a.node →
      (pick e (λ u. given last (λ n. n) (λ w. a)) (λ u. a)).node < m
  stands-before true a none m h g = h
  stands-before true a (some n) m h g = omega arith
  stands-before false a last m h g = h

  before-pick : (e : Bool) (c : TextNode) (last : Option TextNode) (k m : ℕ) → k < m → c.node < m → Before last k →
      Before (pick e (λ u. last) (λ u. some c)) m
  before-pick true c none k m l h g = tt
  before-pick true c (some n) k m l h g = omega arith
  before-pick false c last k m l h g = h

  pairs-kept : (more : List TextNode) (is_first : Bool) (last : Option TextNode) (a : TextNode) → Before last a.node →
      Rising a.node more →
      (f : ℕ → List ℕ) → Kept f → Kept (told (pairs is_first last a more) f)
  unfolding told pairs
  pairs-kept [] is_first last a l r f s = s
  pairs-kept (b ∷ more) is_first last a l r f s =
      let c = stands_for (f a.node) a last in
      let q : c.node < b.node = stands-before (is_empty (f a.node)) a last b.node r.0 l in
      pair-kept (ltb a.depth b.depth) is_first (is_nil more) c b (λ e. omega arith) _ (λ g h.
      pairs-kept more false (pick (is_blank (g c.node)) (λ u. last) (λ u. some c)) b
      (before-pick (is_blank (g c.node)) c last a.node b.node r.0 q l) r.1 g h) f s

  single-kept : (a : TextNode) (f : ℕ → List ℕ) → Kept f → Kept (told (single a) f)
  unfolding told
  single-kept a f s =
      kept-pick (eqb (length (f a.node)) 1) _ _ f
      (λ e. kept-pick (begins_with_space (f a.node)) _ _ f (λ g. last-cut f a.node s (alone (f a.node) e g)) (λ g. s))
      (λ e. kept-pick (begins_with_space (f a.node)) _ _ f
      (λ g. kept-pick (ends_with_space (f a.node)) _ _ _
      (λ k. last-cut _ a.node (first-cut f a.node s g) (rw (eq-eqb a.node a.node refl) (still (f a.node) e g k)))
      (λ k. first-cut f a.node s g))
      (λ g. kept-pick (ends_with_space (f a.node)) _ _ f (λ k. last-cut f a.node s k) (λ k. s)))
    where
      alone : (v : List ℕ) → eqb (length v) 1 ≡ true → begins_with_space v ≡ true → ends_with_space v ≡ true
      alone [] h g = absurd (false≢true g)
      alone (b ∷ []) h g = g
      alone (b ∷ c ∷ v) h g = absurd (omega (arith, eqb-true (length (b ∷ c ∷ v)) 1 h))

      still : (v : List ℕ) → eqb (length v) 1 ≡ false → begins_with_space v ≡ true → ends_with_space v ≡ true →
          ends_with_space (cut_list 1 0 v) ≡ true
      still [] h g k = absurd (false≢true g)
      still (b ∷ []) h g k = absurd (eqb-false (length (b ∷ [])) 1 h refl)
      still (b ∷ c ∷ v) h g k = rw (first_off b (c ∷ v)) k

  -- Behind the trimming of text nodes that come one behind another, every text is as it was with spaces taken off its ends.
  pub trimming-kept : (w : XmlSpace) (m : ℕ) (is : List TextNode) → Rising m is → (j : ℕ) → Shaved (f₀ j) (told (trimming w is) f₀ j)
  unfolding told trimming
  trimming-kept w m [] r = λ j. whole
  trimming-kept w m (a ∷ []) r = kept-pick (is_default w) _ _ f₀ (λ e. single-kept a f₀ (λ j. whole)) (λ e j. whole)
  trimming-kept w m (a ∷ b ∷ more) r = pairs-kept (b ∷ more) true none a tt r.1 f₀ (λ j. whole)

-- One trimming after another.
pub shaved-then : {u v w : List ℕ} → Shaved u v → Shaved v w → Shaved u w
shaved-then r whole = r
shaved-then r (front s) = front (shaved-then r s)
shaved-then r (back s) = back (shaved-then r s)

-- WHAT FOLLOWS

no-two-front : (w : List ℕ) (b : ℕ) → NoTwo (w ++ (b ∷ [])) → NoTwo w
no-two-front [] b h = tt
no-two-front (a ∷ []) b h = (λ e. refl, tt)
no-two-front (a ∷ c ∷ w) b h = (h.0, no-two-front (c ∷ w) b h.1)

pub shaved-no-two : {v w : List ℕ} → Shaved v w → NoTwo v → NoTwo w
shaved-no-two whole h = h
shaved-no-two (front s) h = (shaved-no-two s h).1
shaved-no-two (back {w = w} s) h = no-two-front w SPACE (shaved-no-two s h)

-- No text gets longer.
pub shaved-shorter : {v w : List ℕ} → Shaved v w → length w ≤ length v
shaved-shorter whole = omega arith
shaved-shorter (front s) = omega (arith, shaved-shorter s)
shaved-shorter (back {w = w} s) = omega (arith, shaved-shorter s, length-append w (SPACE ∷ []))

without-last : (w : List ℕ) → without SPACE (w ++ (SPACE ∷ [])) ≡ without SPACE w
unfolding without
without-last [] = refl
without-last (a ∷ w) = go (eqb a SPACE) (without-last w)
  where
    go : (c : Bool) → without SPACE (w ++ (SPACE ∷ [])) ≡ without SPACE w →
        pick c (λ u. without SPACE (w ++ (SPACE ∷ []))) (λ u. a ∷ without SPACE (w ++ (SPACE ∷ [])))
        ≡ pick c (λ u. without SPACE w) (λ u. a ∷ without SPACE w)
    go true h = h
    go false h = ap (λ r. a ∷ r) h

-- The characters other than spaces stay, in their order.
pub shaved-visible : {v w : List ℕ} → Shaved v w → without SPACE w ≡ without SPACE v
unfolding without
shaved-visible whole = refl
shaved-visible (front s) = shaved-visible s
shaved-visible (back {w = w} s) = sym (without-last w) ∙ shaved-visible s

-- Sequences of UTF-8 stay whole.
pub shaved-utf8 : {v w : List ℕ} → Shaved v w → is_utf8 v ≡ true → is_utf8 w ≡ true
shaved-utf8 whole h = h
shaved-utf8 (front {w = w} s) h = first-space-utf8 w (shaved-utf8 s h)
shaved-utf8 (back {w = w} s) h = last-space-utf8 w (shaved-utf8 s h)
