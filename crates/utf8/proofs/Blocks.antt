-- Blocks of bytes that are each in place behind the three before. Assumes nothing.
use mathlib.Core.Path.{◌≡◌, refl, sym, ap, ◌∙◌, subst}
use mathlib.Core.List.{List}
use mathlib.Core.Bool.{Bool, true, false, not, ◌||◌, beq}
use Prim.Native.Nat.{ℕ, zero, suc, ◌+◌, ◌-◌, ◌<◌, ◌≤◌}
use native.Mathlib.Omega.{arith}
use borrow.Author.Tests.{eqb-true, eqb-false, leb-true, leb-false, ltb-true, not-false, ne_eqb, lt-ltb, le-ltb, le-leb, lt-leb}
use lib.Dec.{eqb, leb, ltb}
use lib.ListN.{length, get_or, drop}
use Rattle.std.proofs.Common.{rules, tests}
use Rattle.model.specs.Base.{pick, or}
use Rattle.model.specs.Utf8.{Range, ◌to◌, is_within, well_formed, sequence_of}
use Rattle.utf8.specs.Lead.{length_of, second_of, never, left_out, misplaced, misplaced_of_two, begun_by, misplaced_in}
use Rattle.utf8.specs.Lead.{misplaced_of_two_in, begun_at}
use Rattle.utf8.proofs.Parts.{and_left, and_right, any_none}
use Rattle.utf8.proofs.Sequence.{all_below, below, first-most, length_most, one, two, three, four}
use Rattle.utf8.proofs.Ascii.{Reach, reach-none, reach-join, reach-on}

-- THE TESTS WITHOUT BRANCHES

-- What is_misplaced computes, where a sequence goes on or does not.
abbrev computed : Bool → ℕ → ℕ → Bool
computed g p b = (not (beq (is_within b (0x80 to 0xBF)) g) || never b) || left_out p b

module _ (p b : ℕ) where
  -- Behind a byte that more bytes follow.
  second_is : computed true p b ≡ not (is_within b (second_of p))
  unfolding second_of
  second_is = search (rules, tests)

  -- Behind a byte that no other follows as a second.
  further-is : p < 0xC0 → computed true p b ≡ not (is_within b (0x80 to 0xBF))
  further-is l = search (rules, tests)

  first-is : p < 0xC0 → computed false p b ≡ eqb (length_of b) 0
  unfolding length_of
  first-is l = search (rules, tests)

pub misplaced-is : (p3 p2 p1 b : ℕ) → computed (leb 0xC0 p1 || (leb 0xE0 p2 || leb 0xF0 p3)) p1 b ≡ misplaced p3 p2 p1 b
unfolding misplaced
misplaced-is p3 p2 p1 b = go (leb 0xC0 p1) (leb 0xE0 p2) (leb 0xF0 p3) refl
  where
    go : (t u v : Bool) → leb 0xC0 p1 ≡ t
        → computed (t || (u || v)) p1 b
        ≡ pick t (λ x. not (is_within b (second_of p1)))
        (λ x. pick (or u v) (λ y. not (is_within b (0x80 to 0xBF))) (λ y. eqb (length_of b) 0))
    go true u v e = second_is p1 b
    go false true v e = further-is p1 b (leb-false 0xC0 p1 e)
    go false false true e = further-is p1 b (leb-false 0xC0 p1 e)
    go false false false e = first-is p1 b (leb-false 0xC0 p1 e)

-- WHAT IT MEANS TO BE IN PLACE

module _ (p3 p2 p1 b : ℕ) (h : misplaced p3 p2 p1 b ≡ false) where
  second_fits : 0xC0 ≤ p1 → is_within b (second_of p1) ≡ true
  unfolding misplaced
  second_fits l = not-false (is_within b (second_of p1)) (sym (rw (le-leb 0xC0 p1 l)) ∙ h)

  third-fits : p1 < 0xC0 → 0xE0 ≤ p2 → is_within b (0x80 to 0xBF) ≡ true
  unfolding misplaced
  third-fits l m = not-false (is_within b (0x80 to 0xBF)) (sym (rw (lt-leb 0xC0 p1 l, le-leb 0xE0 p2 m)) ∙ h)

  fourth-fits : p1 < 0xC0 → p2 < 0xE0 → 0xF0 ≤ p3 → is_within b (0x80 to 0xBF) ≡ true
  unfolding misplaced
  fourth-fits l m n = not-false (is_within b (0x80 to 0xBF)) (sym (rw (lt-leb 0xC0 p1 l, lt-leb 0xE0 p2 m, le-leb 0xF0 p3 n)) ∙ h)

  first_fits : p1 < 0xC0 → p2 < 0xE0 → p3 < 0xF0 → length_of b ≡ 0 → ⊥
  unfolding misplaced
  first_fits l m n = eqb-false (length_of b) 0 (sym (rw (lt-leb 0xC0 p1 l, lt-leb 0xE0 p2 m, lt-leb 0xF0 p3 n)) ∙ h)

within-most : (b : ℕ) (r : Range) → is_within b r ≡ true → b ≤ r.last
within-most b r e = leb-true b r.last (and_right (leb r.first b) (leb b r.last) e)

within-least : (b : ℕ) (r : Range) → is_within b r ≡ true → r.first ≤ b
within-least b r e = leb-true r.first b (and_left (leb r.first b) (leb b r.last) e)

-- The greatest second byte.
second-most : (p b : ℕ) → is_within b (second_of p) ≡ true → b < 0xC0
unfolding second_of
second-most p b e = go (eqb p 0xED) (eqb p 0xF4) (within-most b (second_of p) e)
  where
    go : (t u : Bool) → b ≤ pick t (λ x. 0x9F) (λ x. pick u (λ y. 0x8F) (λ y. 0xBF)) → b < 0xC0
    go true u l = omega arith
    go false true l = omega arith
    go false false l = omega arith

-- The first bytes of the sequences of d bytes.
firsts : ℕ → Range
firsts d = pick (eqb d 1) (λ u. 0x00 to 0x7F)
    (λ u. pick (eqb d 2) (λ v. 0xC2 to 0xDF) (λ v. pick (eqb d 3) (λ w. 0xE0 to 0xEF) (λ w. 0xF0 to 0xF4)))

firsts-rule : ℕ → Bool
firsts-rule b = or (eqb (length_of b) 0) (is_within b (firsts (length_of b)))

all_firsts : all_below 256 firsts-rule ≡ true
unfolding firsts-rule firsts length_of
all_firsts = refl

first-within : (b d : ℕ) → length_of b ≡ suc d → is_within b (firsts (suc d)) ≡ true
unfolding firsts-rule
first-within b d e = sym (rw (e, ne_eqb (suc d) 0 (λ z. omega arith))) ∙ below 256 firsts-rule all_firsts b (first-most b d e)

-- Is each of the n bytes behind the three from a on in place?
abbrev Placed : List ℕ → ℕ → ℕ → Type 0
Placed s a n =
    (k : ℕ) → k < n → misplaced (get_or s (a + k) 0) (get_or s (a + k + 1) 0) (get_or s (a + k + 2) 0) (get_or s (a + k + 3) 0) ≡ false

-- No sequence goes on behind the three bytes from a on.
record Quiet (s : List ℕ) (a : ℕ) : Type 0 where
  pub third : get_or s a 0 < 0xF0
  pub second : get_or s (a + 1) 0 < 0xE0
  pub first : get_or s (a + 2) 0 < 0xC0

module _ (p3 p2 p1 : ℕ) where
  pub begun-one : 0xC0 ≤ p1 → begun_by p3 p2 p1 ≡ 1
  unfolding begun_by
  begun-one l = rw (le-leb 0xC0 p1 l)

  pub begun-two : p1 < 0xC0 → 0xE0 ≤ p2 → begun_by p3 p2 p1 ≡ 2
  unfolding begun_by
  begun-two l m = rw (lt-leb 0xC0 p1 l, le-leb 0xE0 p2 m)

  pub begun-three : p1 < 0xC0 → p2 < 0xE0 → 0xF0 ≤ p3 → begun_by p3 p2 p1 ≡ 3
  unfolding begun_by
  begun-three l m n = rw (lt-leb 0xC0 p1 l, lt-leb 0xE0 p2 m, le-leb 0xF0 p3 n)

  pub begun-none : p1 < 0xC0 → p2 < 0xE0 → p3 < 0xF0 → begun_by p3 p2 p1 ≡ 0
  unfolding begun_by
  begun-none l m n = rw (lt-leb 0xC0 p1 l, lt-leb 0xE0 p2 m, lt-leb 0xF0 p3 n)

quiet_at : (s : List ℕ) (a : ℕ) → begun_at s a ≡ 0 → Quiet s a
unfolding begun_by
quiet_at s a e = go (leb 0xC0 (get_or s (a + 2) 0)) (leb 0xE0 (get_or s (a + 1) 0)) (leb 0xF0 (get_or s a 0)) refl refl refl e
  where
    go : (t u v : Bool) → leb 0xC0 (get_or s (a + 2) 0) ≡ t → leb 0xE0 (get_or s (a + 1) 0) ≡ u → leb 0xF0 (get_or s a 0) ≡ v
        → ◌≡◌ {A = ℕ} (pick t (λ x. 1) (λ x. pick u (λ y. 2) (λ y. pick v (λ z. 3) (λ z. 0)))) 0 → Quiet s a
    go true u v f g h z = absurd (omega arith)
    go false true v f g h z = absurd (omega arith)
    go false false true f g h z = absurd (omega arith)
    go false false false f g h z = record { third = leb-false 0xF0 _ h; second = leb-false 0xE0 _ g; first = leb-false 0xC0 _ f }

-- ONE SEQUENCE

module _ (s : List ℕ) (a n : ℕ) (r : a + 3 + n ≤ length s) (q : Quiet s a) (p : Placed s a n) (some : 0 < n) where
  b0 : ℕ
  b0 = get_or s (a + 3) 0

  -- A byte at a place that is written in another way.
  less : (x y l m : ℕ) → x ≡ y → l ≤ m → get_or s x 0 < l → get_or s y 0 < m
  less x y l m e h k = subst (λ z. get_or s z 0 < m) e (omega arith)

  placed_at : (k w x y z : ℕ) → k < n → a + k ≡ w → a + k + 1 ≡ x → a + k + 2 ≡ y → a + k + 3 ≡ z
      → misplaced (get_or s w 0) (get_or s x 0) (get_or s y 0) (get_or s z 0) ≡ false
  placed_at k w x y z h e f g i = rw (← e, ← f, ← g, ← i) (p k h)

  begins : length_of b0 ≡ 0 → ⊥
  unfolding b0
  begins = first_fits _ _ _ _ (placed_at 0 a (a + 1) (a + 2) (a + 3) some (omega arith) (omega arith) (omega arith) (omega arith))
      q.first q.second q.third

  at_second : 0xC0 ≤ b0 → 1 < n → is_within (get_or s (a + 3 + 1) 0) (second_of b0) ≡ true
  unfolding b0
  at_second l h = second_fits _ _ _ _
      (placed_at 1 (a + 1) (a + 2) (a + 3) (a + 3 + 1) h (omega arith) (omega arith) (omega arith) (omega arith)) l

  second-less : 0xC0 ≤ b0 → 1 < n → get_or s (a + 3 + 1) 0 < 0xC0
  second-less l h = second-most b0 _ (at_second l h)

  at-third : 0xE0 ≤ b0 → 2 < n → is_within (get_or s (a + 3 + 2) 0) (0x80 to 0xBF) ≡ true
  unfolding b0
  at-third l h = third-fits _ _ _ _
      (placed_at 2 (a + 2) (a + 3) (a + 3 + 1) (a + 3 + 2) h (omega arith) (omega arith) (omega arith) (omega arith))
      (second-less (omega arith) (omega arith)) l

  third-less : 0xE0 ≤ b0 → 2 < n → get_or s (a + 3 + 2) 0 < 0xC0
  third-less l h = let m : get_or s (a + 3 + 2) 0 ≤ 0xBF = within-most _ (0x80 to 0xBF) (at-third l h) in omega arith

  at-fourth : 0xF0 ≤ b0 → 3 < n → is_within (get_or s (a + 3 + 3) 0) (0x80 to 0xBF) ≡ true
  unfolding b0
  at-fourth l h = fourth-fits _ _ _ _
      (placed_at 3 (a + 3) (a + 3 + 1) (a + 3 + 2) (a + 3 + 3) h (omega arith) (omega arith) (omega arith) (omega arith))
      (third-less (omega arith) (omega arith))
      (let m : get_or s (a + 3 + 1) 0 < 0xC0 = second-less (omega arith) (omega arith) in omega arith) l

  fourth-less : 0xF0 ≤ b0 → 3 < n → get_or s (a + 3 + 3) 0 < 0xC0
  fourth-less l h = let m : get_or s (a + 3 + 3) 0 ≤ 0xBF = within-most _ (0x80 to 0xBF) (at-fourth l h) in omega arith

  -- The sequence of d bytes, all of them in the block.
  record Whole (d : ℕ) : Type 0 where
    pub is : d ≡ sequence_of well_formed (drop (a + 3) s)
    pub quiet : Quiet s (a + d)

  module _ (d : ℕ) (e : length_of b0 ≡ suc d) where
    low : (firsts (suc d)).first ≤ b0
    low = within-least b0 (firsts (suc d)) (first-within b0 d e)

    high : b0 ≤ (firsts (suc d)).last
    high = within-most b0 (firsts (suc d)) (first-within b0 d e)

  whole1 : length_of b0 ≡ 1 → Whole 1
  unfolding b0 firsts
  whole1 e = record {
    is = one s (a + 3) 1 (omega arith) (first-most b0 0 e) (sym e) (omega arith);
    quiet = record {
      third = less (a + 1) (a + 1) 0xE0 0xF0 refl (omega arith) q.second;
      second = less (a + 2) (a + 1 + 1) 0xC0 0xE0 (omega arith) (omega arith) q.first;
      first = less (a + 3) (a + 1 + 2) 0x80 0xC0 (omega arith) (omega arith) (omega (arith, high 0 e));
    };
  }

  whole2 : length_of b0 ≡ 2 → 1 < n → Whole 2
  unfolding b0 firsts
  whole2 e h =
      let l : 0xC0 ≤ b0 = omega (arith, low 1 e) in
      record {
        is = two s (a + 3) 2 (omega arith) (first-most b0 1 e) (sym e)
            (record { room = omega arith; size = omega arith; fits = at_second l h }) (omega arith);
        quiet = record {
          third = less (a + 2) (a + 2) 0xC0 0xF0 refl (omega arith) q.first;
          second = less (a + 3) (a + 2 + 1) 0xE0 0xE0 (omega arith) (omega arith) (omega (arith, high 1 e));
          first = less (a + 3 + 1) (a + 2 + 2) 0xC0 0xC0 (omega arith) (omega arith) (second-less l h);
        };
      }

  whole3 : length_of b0 ≡ 3 → 2 < n → Whole 3
  unfolding b0 firsts
  whole3 e h =
      let l : 0xE0 ≤ b0 = omega (arith, low 2 e) in
      let m : 0xC0 ≤ b0 = omega arith in
      let k : 1 < n = omega arith in
      record {
        is = three s (a + 3) 3 (omega arith) (first-most b0 2 e) (sym e)
            (record {
              second = record { room = omega arith; size = omega arith; fits = at_second m k };
              size = omega arith;
              fits = at-third l h;
            }) (omega arith);
        quiet = record {
          third = omega (arith, high 2 e);
          second = less (a + 3 + 1) (a + 3 + 1) 0xC0 0xE0 refl (omega arith) (second-less m k);
          first = third-less l h;
        };
      }

  whole4 : length_of b0 ≡ 4 → 3 < n → Whole 4
  unfolding b0 firsts
  whole4 e h =
      let l : 0xF0 ≤ b0 = omega (arith, low 3 e) in
      let m : 0xE0 ≤ b0 = omega arith in
      let o : 0xC0 ≤ b0 = omega arith in
      let k : 1 < n = omega arith in
      let j : 2 < n = omega arith in
      record {
        is = four s (a + 3) 4 (omega arith) (first-most b0 3 e) (sym e)
            (record {
              third = record {
                second = record { room = omega arith; size = omega arith; fits = at_second o k };
                size = omega arith;
                fits = at-third m j;
              };
              size = omega arith;
              fits = at-fourth l h;
            });
        quiet = record {
          third = less (a + 3 + 1) (a + 4) 0xC0 0xF0 (omega arith) (omega arith) (second-less o k);
          second = less (a + 3 + 2) (a + 4 + 1) 0xC0 0xE0 (omega arith) (omega arith) (third-less m j);
          first = less (a + 3 + 3) (a + 4 + 2) 0xC0 0xC0 (omega arith) (omega arith) (fourth-less l h);
        };
      }

  whole : (d : ℕ) → length_of b0 ≡ d → d ≤ n → Whole d
  unfolding b0
  whole zero e h = absurd (begins e)
  whole (suc zero) e h = whole1 e
  whole (suc (suc zero)) e h = whole2 e (omega arith)
  whole (suc (suc (suc zero))) e h = whole3 e (omega arith)
  whole (suc (suc (suc (suc zero)))) e h = whole4 e (omega arith)
  whole (suc (suc (suc (suc (suc d))))) e h = absurd (omega (arith, e, length_most b0 (first-most b0 (suc (suc (suc (suc d)))) e)))

  more : (x y l : ℕ) → x ≡ y → l ≤ get_or s x 0 → l ≤ get_or s y 0
  more x y l e h = subst (λ z. l ≤ get_or s z 0) e h

  -- The least that the first byte of a sequence of d bytes or more is.
  least : (d : ℕ) → length_of b0 ≡ d → (2 ≤ d → 0xC0 ≤ b0) × (3 ≤ d → 0xE0 ≤ b0) × (4 ≤ d → 0xF0 ≤ b0)
  unfolding firsts
  least zero e = (λ h. omega arith, λ h. omega arith, λ h. omega arith)
  least (suc zero) e = (λ h. omega arith, λ h. omega arith, λ h. omega arith)
  least (suc (suc zero)) e = (λ h. omega (arith, low 1 e), λ h. omega arith, λ h. omega arith)
  least (suc (suc (suc zero))) e = (λ h. omega (arith, low 2 e), λ h. omega (arith, low 2 e), λ h. omega arith)
  least (suc (suc (suc (suc zero)))) e = (λ h. omega (arith, low 3 e), λ h. omega (arith, low 3 e), λ h. omega (arith, low 3 e))
  least (suc (suc (suc (suc (suc d))))) e = absurd (omega (arith, e, length_most b0 (first-most b0 (suc (suc (suc (suc d)))) e)))

  -- The block ends inside the sequence.
  cut_off : (d : ℕ) → length_of b0 ≡ d → n < d → begun_at s (a + n) ≡ n
  unfolding b0
  cut_off d e l = go n refl
    where
      go : (m : ℕ) → m ≡ n → begun_at s (a + m) ≡ m
      go zero h = absurd (omega arith)
      go (suc zero) h = begun-one _ _ _ (more (a + 3) (a + 1 + 2) 0xC0 (omega arith) ((least d e).0 (omega arith)))
      go (suc (suc zero)) h =
          let k : 0xE0 ≤ get_or s (a + 3) 0 = (least d e).1 (omega arith) in
          begun-two _ _ _ (less (a + 3 + 1) (a + 2 + 2) 0xC0 0xC0 (omega arith) (omega arith) (second-less (omega arith) (omega arith)))
          (more (a + 3) (a + 2 + 1) 0xE0 (omega arith) k)
      go (suc (suc (suc zero))) h =
          let k : 0xF0 ≤ get_or s (a + 3) 0 = (least d e).2 (omega arith) in
          begun-three _ _ _ (third-less (omega arith) (omega arith))
          (less (a + 3 + 1) (a + 3 + 1) 0xC0 0xE0 refl (omega arith) (second-less (omega arith) (omega arith))) k
      go (suc (suc (suc (suc m)))) h = absurd (omega (arith, e, length_most b0 (first-most b0 (d - 1) (e ∙ omega arith))))

  -- The block is read if what is left of it behind the sequence is.
  onward : ((d : ℕ) → (d ≡ 0 → ⊥) → d ≤ n → Quiet s (a + d) → Reach s (a + d + 3) (a + d + 3 + (n - d) - begun_at s (a + d + (n - d))))
      → Reach s (a + 3) (a + 3 + n - begun_at s (a + n))
  unfolding b0
  onward rest = go (length_of (get_or s (a + 3) 0)) refl (leb (length_of (get_or s (a + 3) 0)) n) refl
    where
      go : (d : ℕ) → length_of (get_or s (a + 3) 0) ≡ d → (t : Bool) → leb (length_of (get_or s (a + 3) 0)) n ≡ t
          → Reach s (a + 3) (a + 3 + n - begun_at s (a + n))
      go d e true f =
          let h : d ≤ n = omega (arith, e, leb-true _ n f) in
          let z : d ≡ 0 → ⊥ = λ y. begins (e ∙ y) in
          let w : Whole d = whole d e h in
          let x : a + d + 3 ≡ a + 3 + d = omega arith in
          let y : a + d + (n - d) ≡ a + n = omega arith in
          let v : a + d + 3 + (n - d) ≡ a + 3 + n = omega arith in
          reach-join s (a + 3) (a + 3 + d) (a + 3 + n - begun_at s (a + n)) (reach-on s (a + 3) (omega arith) d w.is z)
          (subst (λ j. Reach s j (a + 3 + n - begun_at s (a + n))) x
          (subst (λ j. Reach s (a + d + 3) (j - begun_at s (a + n))) v
          (subst (λ j. Reach s (a + d + 3) (a + d + 3 + (n - d) - begun_at s j)) y (rest d z h w.quiet))))
      go d e false f =
          let c : begun_at s (a + n) ≡ n = cut_off d e (omega (arith, e, leb-false _ n f)) in
          subst (λ j. Reach s (a + 3) j) (let y : a + 3 ≡ a + 3 + n - begun_at s (a + n) = omega (arith, c) in y)
          (reach-none s (a + 3) (omega arith))

-- A BLOCK

placed-from : (s : List ℕ) (a n d m : ℕ) → d + m ≤ n → Placed s a n → Placed s (a + d) m
placed-from s a n d m l p k h =
    let e : a + (d + k) ≡ a + d + k = omega arith in
    rw (← e) (p (d + k) (omega arith))

none_left : (s : List ℕ) (a n : ℕ) → n ≡ 0 → a + 3 + n ≤ length s → Quiet s a → Reach s (a + 3) (a + 3 + n - begun_at s (a + n))
none_left s a n e r q =
    let z : begun_at s (a + n) ≡ 0 = ap (λ x. begun_at s x) (let y : a + n ≡ a = omega arith in y)
    ∙ begun-none _ _ _ q.first q.second q.third in
    subst (λ j. Reach s (a + 3) j) (let y : a + 3 ≡ a + 3 + n - begun_at s (a + n) = omega (arith, z) in y)
    (reach-none s (a + 3) (omega arith))

some_left : (s : List ℕ) (a n : ℕ) → a + 3 + n ≤ length s → Quiet s a
    → (0 < n → Reach s (a + 3) (a + 3 + n - begun_at s (a + n))) → Reach s (a + 3) (a + 3 + n - begun_at s (a + n))
some_left s a n r q more = go (eqb n 0) refl
  where
    go : (t : Bool) → eqb n 0 ≡ t → Reach s (a + 3) (a + 3 + n - begun_at s (a + n))
    go true e = none_left s a n (eqb-true n 0 e) r q
    go false e = let d : n ≡ 0 → ⊥ = eqb-false n 0 e in more (omega arith)

-- At most f bytes.
blocks-reach : (f : ℕ) (s : List ℕ) (a n : ℕ) → n ≤ f → a + 3 + n ≤ length s → Quiet s a → Placed s a n
    → Reach s (a + 3) (a + 3 + n - begun_at s (a + n))
blocks-reach zero s a n l r q p = none_left s a n (omega arith) r q
blocks-reach (suc f) s a n l r q p =
    some_left s a n r q
    (λ m. onward s a n r q p m (λ d z h w. blocks-reach f s (a + d) (n - d) (omega arith) (omega arith) w
    (placed-from s a n d (n - d) (omega arith) p)))

-- SEQUENCES OF ONE BYTE AND OF TWO

module _ (p b : ℕ) (h : misplaced_of_two p b ≡ false) where
  behind-two : 0xC0 ≤ p → is_within b (0x80 to 0xBF) ≡ true
  unfolding misplaced_of_two
  behind-two l = not-false _ (sym (rw (le-leb 0xC0 p l)) ∙ h)

  elsewhere : p < 0xC0 → or (ltb b 0x80) (is_within b (0xC2 to 0xDF)) ≡ true
  unfolding misplaced_of_two
  elsewhere l = not-false _ (sym (rw (lt-leb 0xC0 p l)) ∙ h)

  two-less : b < 0xE0
  two-less = go (leb 0xC0 p) refl
    where
      first : (t : Bool) → ltb b 0x80 ≡ t → or t (is_within b (0xC2 to 0xDF)) ≡ true → b < 0xE0
      first true e o = let l : b < 0x80 = ltb-true b 0x80 e in omega arith
      first false e o = let l : b ≤ 0xDF = within-most b (0xC2 to 0xDF) o in omega arith

      go : (t : Bool) → leb 0xC0 p ≡ t → b < 0xE0
      go true e = let l : b ≤ 0xBF = within-most b (0x80 to 0xBF) (behind-two (leb-true 0xC0 p e)) in omega arith
      go false e = first (ltb b 0x80) refl (elsewhere (leb-false 0xC0 p e))

  first-of-two : p < 0xC0 → eqb (length_of b) 0 ≡ false
  unfolding length_of
  first-of-two l = go (ltb b 0x80) refl (elsewhere l)
    where
      go : (t : Bool) → ltb b 0x80 ≡ t → or t (is_within b (0xC2 to 0xDF)) ≡ true → eqb (length_of b) 0 ≡ false
      go true e o = rw e
      go false e o =
          let m : b ≤ 0xDF = within-most b (0xC2 to 0xDF) o in
          let k : 0xC2 ≤ b = within-least b (0xC2 to 0xDF) o in
          rw (e, le-ltb b 0xC2 k, le-ltb 0xF4 b (omega arith), lt-ltb b 0xE0 (omega arith))

  placed-of-two : (p3 p2 : ℕ) → p3 < 0xF0 → p2 < 0xE0 → p < 0xE0 → misplaced p3 p2 p b ≡ false
  unfolding misplaced second_of
  placed-of-two p3 p2 l m k = go (leb 0xC0 p) refl
    where
      go : (t : Bool) → leb 0xC0 p ≡ t → misplaced p3 p2 p b ≡ false
      go true e = rw (
        e,
        ne_eqb p 0xE0 (λ z. omega arith),
        ne_eqb p 0xED (λ z. omega arith),
        ne_eqb p 0xF0
            (λ z. omega arith),
        ne_eqb p 0xF4 (λ z. omega arith),
        behind-two (leb-true 0xC0 p e),
      )
      go false e = rw (e, lt-leb 0xE0 p2 m, lt-leb 0xF0 p3 l) (first-of-two (leb-false 0xC0 p e))

-- The n bytes behind the three from a on, in sequences of one byte and of two.
abbrev PlacedOfTwo : List ℕ → ℕ → ℕ → Type 0
PlacedOfTwo s a n = (k : ℕ) → k < n → misplaced_of_two (get_or s (a + k + 2) 0) (get_or s (a + k + 3) 0) ≡ false

module _ (s : List ℕ) (a n : ℕ) (q : Quiet s a) (p : PlacedOfTwo s a n) where
  near : (k : ℕ) → k ≤ n → get_or s (a + k + 2) 0 < 0xE0
  near zero h = let e : a + 2 ≡ a + 0 + 2 = omega arith in subst (λ j. get_or s j 0 < 0xE0) e (omega (arith, q.first))
  near (suc k) h = let e : a + k + 3 ≡ a + suc k + 2 = omega arith in subst (λ j. get_or s j 0 < 0xE0) e (two-less _ _ (p k (omega arith)))

  far : (k : ℕ) → k ≤ n → get_or s (a + k + 1) 0 < 0xE0
  far zero h = let e : a + 1 ≡ a + 0 + 1 = omega arith in subst (λ j. get_or s j 0 < 0xE0) e q.second
  far (suc k) h = let e : a + k + 2 ≡ a + suc k + 1 = omega arith in subst (λ j. get_or s j 0 < 0xE0) e (near k (omega arith))

  farthest : (k : ℕ) → k ≤ n → get_or s (a + k) 0 < 0xF0
  farthest zero h = let e : a ≡ a + 0 = omega arith in subst (λ j. get_or s j 0 < 0xF0) e q.third
  farthest (suc k) h =
      let e : a + k + 1 ≡ a + suc k = omega arith in subst (λ j. get_or s j 0 < 0xF0) e (omega (arith, far k (omega arith)))

  two-placed : Placed s a n
  two-placed k h = placed-of-two _ _ (p k h) _ _ (farthest k (omega arith)) (far k (omega arith)) (near k (omega arith))

-- READING A BLOCK

-- The n bytes from i on, each of them in place.
placed-reach : (s : List ℕ) (i n : ℕ) → 3 ≤ i → i + n ≤ length s → begun_at s (i - 3) ≡ 0 → Placed s (i - 3) n
    → Reach s i (i + n - begun_at s (i + n - 3))
placed-reach s i n h l e p =
    let x : i - 3 + 3 ≡ i = omega arith in
    let y : i - 3 + n ≡ i + n - 3 = omega arith in
    rw (← y) (subst (λ j. Reach s j (j + n - begun_at s (i - 3 + n))) x
    (blocks-reach n s (i - 3) n (omega arith) (omega arith) (quiet_at s (i - 3) e) p))

module _ (s : List ℕ) (i n : ℕ) (h : 3 ≤ i) (l : i + n ≤ length s) (e : begun_at s (i - 3) ≡ 0) where
  pub block-reach : misplaced_in s (i - 3) n ≡ false → Reach s i (i + n - begun_at s (i + n - 3))
  block-reach m = placed-reach s i n h l e (any_none n _ m)

  pub block-of-two-reach : misplaced_of_two_in s (i - 3) n ≡ false → Reach s i (i + n - begun_at s (i + n - 3))
  block-of-two-reach m = placed-reach s i n h l e (two-placed s (i - 3) n (quiet_at s (i - 3) e) (any_none n _ m))

-- All that is left, where the last m bytes are in place.
pub last-reach : (s : List ℕ) (i m : ℕ) → 3 ≤ i → i ≤ length s → m + 3 ≤ length s → length s ≤ i + m → begun_at s (i - 3) ≡ 0
    → misplaced_in s (length s - (m + 3)) m ≡ false
    → Reach s i (length s - begun_at s (length s - 3))
last-reach s i m h l o w e p =
    let x : i + (length s - i) ≡ length s = omega arith in
    let y : length s - (m + 3) + (i + m - length s) ≡ i - 3 = omega arith in
    subst (λ j. Reach s i (j - begun_at s (j - 3))) x
    (placed-reach s i (length s - i) h (omega arith) e
    (subst (λ j. Placed s j (length s - i)) y
    (placed-from s (length s - (m + 3)) m (i + m - length s) (length s - i) (omega arith) (any_none m _ p))))

-- At most three bytes are begun.
pub begun-most : (s : List ℕ) (a : ℕ) → begun_at s a ≤ 3
unfolding begun_by
begun-most s a = go (leb 0xC0 (get_or s (a + 2) 0)) (leb 0xE0 (get_or s (a + 1) 0)) (leb 0xF0 (get_or s a 0))
  where
    go : (t u v : Bool) → pick t (λ x. 1) (λ x. pick u (λ y. 2) (λ y. pick v (λ z. 3) (λ z. 0))) ≤ 3
    go true u v = omega arith
    go false true v = omega arith
    go false false true = omega arith
    go false false false = omega arith
