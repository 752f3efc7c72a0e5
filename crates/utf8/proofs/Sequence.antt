-- The rows of table 3-7, read by the first byte. Assumes nothing.
use mathlib.Core.Path.{◌≡◌, refl, sym, ap, ap₂, ◌∙◌, subst}
use mathlib.Core.List.{List, [], ◌∷◌, map}
use mathlib.Core.Bool.{Bool, true, false, not}
use mathlib.Core.Logic.{⊎_elim, inl, inr, ◌⊎◌}
use Prim.Native.Nat.{ℕ, zero, suc, ◌+◌, ◌-◌, ◌<◌, ◌≤◌}
use native.Mathlib.Omega.{arith}
use native.Mathlib.Numerals.{add-one}
use borrow.Author.Tests.{eqb-true, eqb-false, leb-true, ltb-true, ltb-false, ne_eqb, lt-ltb, le-ltb}
use lib.Dec.{eqb, leb, ltb}
use lib.Count.{count_leading_zeros}
use lib.ListN.{length, get_or, take, drop, length-drop, drop_of_length-le}
use lib.Seq.{drop-cons, drop-drop, length-take-le}
use Rattle.model.specs.Base.{pick, and, or}
use Rattle.model.specs.Utf8.{Range, ◌to◌, is_within, well_formed, begins, sequence_of, is_utf8, is_utf8_from}
use Rattle.utf8.specs.Lead.{length_of, second_of, rest_of}
use Rattle.utf8.proofs.Parts.{and_left, and_right}

-- A row, its first range apart.
record Row : Type 0 where
  pub lead : Range
  pub rest : List Range

infix 80 ◌then◌
abbrev ◌then◌ : Range → List Range → Row
r then rs = record { lead = r; rest = rs }

abbrev rows : List Row
rows =
    (0x00 to 0x7F then []) ∷
    (0xC2 to 0xDF then (0x80 to 0xBF ∷ [])) ∷
    (0xE0 to 0xE0 then (0xA0 to 0xBF ∷ 0x80 to 0xBF ∷ [])) ∷
    (0xE1 to 0xEC then (0x80 to 0xBF ∷ 0x80 to 0xBF ∷ [])) ∷
    (0xED to 0xED then (0x80 to 0x9F ∷ 0x80 to 0xBF ∷ [])) ∷
    (0xEE to 0xEF then (0x80 to 0xBF ∷ 0x80 to 0xBF ∷ [])) ∷
    (0xF0 to 0xF0 then (0x90 to 0xBF ∷ 0x80 to 0xBF ∷ 0x80 to 0xBF ∷ [])) ∷
    (0xF1 to 0xF3 then (0x80 to 0xBF ∷ 0x80 to 0xBF ∷ 0x80 to 0xBF ∷ [])) ∷
    (0xF4 to 0xF4 then (0x80 to 0x8F ∷ 0x80 to 0xBF ∷ 0x80 to 0xBF ∷ [])) ∷
    []

abbrev joined : List Row → List (List Range)
joined = map (λ r. r.lead ∷ r.rest)

-- What may follow a first byte, row by row.
abbrev behind : ℕ → List Row → List (List Range)
behind b [] = []
behind b (r ∷ rs) = pick (is_within b r.lead) (λ u. r.rest ∷ behind b rs) (λ u. behind b rs)

-- The sequence by what may follow.
abbrev further : List (List Range) → List ℕ → ℕ
further [] bs = 0
further (r ∷ rs) bs = pick (begins r bs) (λ u. suc (length r)) (λ u. further rs bs)

by_first : (b : ℕ) (bs : List ℕ) (rs : List Row) → sequence_of (joined rs) (b ∷ bs) ≡ further (behind b rs) bs
unfolding sequence_of begins
by_first b bs [] = refl
by_first b bs (r ∷ rs) = go (is_within b r.lead) (by_first b bs rs)
  where
    go : (t : Bool) → sequence_of (joined rs) (b ∷ bs) ≡ further (behind b rs) bs
        → pick (pick t (λ u. begins r.rest bs) (λ u. false)) (λ u. suc (length r.rest)) (λ u. sequence_of (joined rs) (b ∷ bs))
        ≡ further (pick t (λ u. r.rest ∷ behind b rs) (λ u. behind b rs)) bs
    go true e = ap (λ n. pick (begins r.rest bs) (λ u. suc (length r.rest)) (λ u. n)) e
    go false e = e

-- TESTS OVER ALL BYTES

-- Does the test hold of every number below n?
abbrev pub all_below : ℕ → (ℕ → Bool) → Bool
all_below zero p = true
all_below (suc n) p = and (p n) (all_below n p)

pub below : (n : ℕ) (p : ℕ → Bool) → all_below n p ≡ true → (k : ℕ) → k < n → p k ≡ true
below zero p e k h = absurd (omega arith)
below (suc n) p e k h = go (eqb k n) refl (below n p (and_right (p n) (all_below n p) e) k)
  where
    go : (t : Bool) → eqb k n ≡ t → (k < n → p k ≡ true) → p k ≡ true
    go true f g = ap p (eqb-true k n f) ∙ and_left (p n) (all_below n p) e
    go false f g = let d : k ≡ n → ⊥ = eqb-false k n f in g (omega arith)

same_range : Range → Range → Bool
same_range r q = and (eqb r.first q.first) (eqb r.last q.last)

same_row : List Range → List Range → Bool
same_row [] [] = true
same_row [] (q ∷ qs) = false
same_row (r ∷ rs) [] = false
same_row (r ∷ rs) (q ∷ qs) = and (same_range r q) (same_row rs qs)

same_rows : List (List Range) → List (List Range) → Bool
same_rows [] [] = true
same_rows [] (q ∷ qs) = false
same_rows (r ∷ rs) [] = false
same_rows (r ∷ rs) (q ∷ qs) = and (same_row r q) (same_rows rs qs)

no : {A : Type 0} → false ≡ true → A
no e = absurd (let z : ◌≡◌ {A = ℕ} 0 1 = cc in omega arith)

range-is : (r q : Range) → same_range r q ≡ true → r ≡ q
unfolding same_range
range-is r q e = ap₂ (λ a b. a to b) (eqb-true _ _ (and_left (eqb r.first q.first) _ e))
    (eqb-true _ _ (and_right (eqb r.first q.first) _ e))

row_is : (r q : List Range) → same_row r q ≡ true → r ≡ q
unfolding same_row
row_is [] [] e = refl
row_is [] (q ∷ qs) e = no e
row_is (r ∷ rs) [] e = no e
row_is (r ∷ rs) (q ∷ qs) e =
    ap₂ (λ a b. a ∷ b) (range-is r q (and_left (same_range r q) _ e)) (row_is rs qs (and_right (same_range r q) _ e))

rows_are : (r q : List (List Range)) → same_rows r q ≡ true → r ≡ q
unfolding same_rows
rows_are [] [] e = refl
rows_are [] (q ∷ qs) e = no e
rows_are (r ∷ rs) [] e = no e
rows_are (r ∷ rs) (q ∷ qs) e = ap₂ (λ a b. a ∷ b) (row_is r q (and_left (same_row r q) _ e)) (rows_are rs qs (and_right (same_row r q) _ e))

-- What the definitions of Lead say of what follows a byte.
abbrev following : ℕ → ℕ → List (List Range)
following zero b = []
following (suc n) b = rest_of (suc n) b ∷ []

right : ℕ → Bool
right b = same_rows (behind b rows) (following (length_of b) b)

sized : ℕ → Bool
sized b = leb (length_of b) 4

-- The length of a sequence by the leading ones of its first byte, where that is not ASCII.
by_ones : ℕ → ℕ → ℕ
by_ones n b =
    pick (eqb n 2) (λ u. pick (ltb b 0xC2) (λ v. 0) (λ v. 2))
    (λ u. pick (eqb n 3) (λ v. 3)
    (λ v. pick (eqb n 4) (λ w. pick (ltb 0xF4 b) (λ x. 0) (λ x. 4)) (λ w. 0)))

ones-right : ℕ → Bool
ones-right b = or (ltb b 0x80) (eqb (length_of b) (by_ones (count_leading_zeros 8 (255 - b)) b))

-- The second byte of two has the widest range.
two-right : ℕ → Bool
two-right b = or (not (eqb (length_of b) 2)) (same_range (second_of b) (0x80 to 0xBF))

all_right : all_below 256 right ≡ true
unfolding right same_rows same_row same_range length_of second_of rest_of
all_right = refl

all-sized : all_below 256 sized ≡ true
unfolding sized length_of
all-sized = refl

all_ones : all_below 256 ones-right ≡ true
unfolding ones-right by_ones count_leading_zeros length_of
all_ones = refl

all-two : all_below 256 two-right ≡ true
unfolding two-right same_range length_of second_of
all-two = refl

-- THE SEQUENCE AT A PLACE

length-is : (n b : ℕ) → n ≤ 3 → length (rest_of (suc n) b) ≡ n
unfolding rest_of
length-is n b h = length-take-le (suc n - 1) (second_of b ∷ 0x80 to 0xBF ∷ 0x80 to 0xBF ∷ []) (omega arith) ∙ omega arith

-- By the length that the first byte tells: the bytes behind it decide.
sequence-is : (b : ℕ) (bs : List ℕ) → b < 256
    → sequence_of well_formed (b ∷ bs) ≡ pick (begins (rest_of (length_of b) b) bs) (λ u. length_of b) (λ u. 0)
unfolding well_formed right sized rest_of begins
sequence-is b bs h =
    by_first b bs rows ∙ ap (λ l. further l bs) (rows_are (behind b rows) (following (length_of b) b) (below 256 right all_right b h))
    ∙ go (length_of b) (leb-true (length_of b) 4 (below 256 sized all-sized b h))
  where
    go : (n : ℕ) → n ≤ 4 → further (following n b) bs ≡ pick (begins (rest_of n b) bs) (λ u. n) (λ u. 0)
    go zero e = refl
    go (suc n) e = ap (λ m. pick (begins (rest_of (suc n) b) bs) (λ u. suc m) (λ u. 0)) (length-is n b (omega arith))

pub length_most : (b : ℕ) → b < 256 → length_of b ≤ 4
unfolding sized
length_most b h = leb-true (length_of b) 4 (below 256 sized all-sized b h)

-- What the leading ones of a byte say of the length, where it is not ASCII.
module _ (b : ℕ) (h : b < 256) (l : 0x80 ≤ b) where
  length-by-ones : length_of b ≡ by_ones (count_leading_zeros 8 (255 - b)) b
  unfolding ones-right
  length-by-ones = eqb-true (length_of b) (by_ones (count_leading_zeros 8 (255 - b)) b)
      (sym (simp (le-ltb b 0x80 l)) ∙ below 256 ones-right all_ones b h)

  pub ones-two : count_leading_zeros 8 (255 - b) ≡ 2 → 0xC2 ≤ b → length_of b ≡ 2
  unfolding by_ones
  ones-two e m = length-by-ones ∙ rw (e, le-ltb b 0xC2 m)

  pub ones-two-none : count_leading_zeros 8 (255 - b) ≡ 2 → b < 0xC2 → length_of b ≡ 0
  unfolding by_ones
  ones-two-none e m = length-by-ones ∙ rw (e, lt-ltb b 0xC2 m)

  pub ones-three : count_leading_zeros 8 (255 - b) ≡ 3 → length_of b ≡ 3
  unfolding by_ones
  ones-three e = length-by-ones ∙ rw e

  pub ones-four : count_leading_zeros 8 (255 - b) ≡ 4 → b ≤ 0xF4 → length_of b ≡ 4
  unfolding by_ones
  ones-four e m = length-by-ones ∙ rw (e, le-ltb 0xF4 b m)

  pub ones-four-none : count_leading_zeros 8 (255 - b) ≡ 4 → 0xF4 < b → length_of b ≡ 0
  unfolding by_ones
  ones-four-none e m = length-by-ones ∙ rw (e, lt-ltb 0xF4 b m)

  pub ones_none : (count_leading_zeros 8 (255 - b) ≡ 2 → ⊥) → (count_leading_zeros 8 (255 - b) ≡ 3 → ⊥)
      → (count_leading_zeros 8 (255 - b) ≡ 4 → ⊥)
      → length_of b ≡ 0
  unfolding by_ones
  ones_none x y z = length-by-ones ∙ rw (
    ne_eqb (count_leading_zeros 8 (255 - b)) 2 x,
    ne_eqb (count_leading_zeros 8 (255 - b)) 3 y,
    ne_eqb (count_leading_zeros 8 (255 - b)) 4 z,
  )

  -- Not two: none, three or four.
  ones-others : (count_leading_zeros 8 (255 - b) ≡ 2 → ⊥) → length_of b ≡ 0 ⊎ 3 ≤ length_of b
  unfolding by_ones
  ones-others x = go (eqb (count_leading_zeros 8 (255 - b)) 3) (eqb (count_leading_zeros 8 (255 - b)) 4) (ltb 0xF4 b)
      (length-by-ones ∙ rw (ne_eqb (count_leading_zeros 8 (255 - b)) 2 x))
    where
      go : (t u w : Bool) → length_of b ≡ pick t (λ a. 3) (λ a. pick u (λ c. pick w (λ d. 0) (λ d. 4)) (λ c. 0))
          → length_of b ≡ 0 ⊎ 3 ≤ length_of b
      go true u w e = inr (omega (arith, e))
      go false true true e = inl e
      go false true false e = inr (omega (arith, e))
      go false false w e = inl e

pub ascii-length : (b : ℕ) → b < 0x80 → length_of b ≡ 1
unfolding length_of
ascii-length b h = rw (lt-ltb b 0x80 h)

-- A first byte is a byte.
pub first-most : (b n : ℕ) → length_of b ≡ suc n → b < 256
unfolding length_of
first-most b n e = go (ltb 0xF4 b) refl
  where
    go : (t : Bool) → ltb 0xF4 b ≡ t → b < 256
    go true f = absurd (let m : 0xF4 < b = ltb-true 0xF4 b f in let z : 0
        ≡ suc n = sym (rw (le-ltb b 0x80 (omega arith), le-ltb b 0xC2 (omega arith), f)) ∙ e in omega arith)
    go false f = let m : b ≤ 0xF4 = ltb-false 0xF4 b f in omega arith

pub second-of-two : (b : ℕ) → length_of b ≡ 2 → second_of b ≡ 0x80 to 0xBF
unfolding two-right
second-of-two b e = range-is (second_of b) (0x80 to 0xBF) (sym (rw e) ∙ below 256 two-right all-two b (first-most b 1 e))

-- How far a sequence of n bytes is read: v is the sequence if the bytes from j on fit what is left of the ranges.
abbrev Stage : ℕ → ℕ → ℕ → List Range → List ℕ → ℕ → Type 0
Stage v n k rs s j = v ≡ pick (begins (take (n - k) rs) (drop j s)) (λ u. n) (λ u. 0)

first-stage : (s : List ℕ) (i n : ℕ) → i < length s → get_or s i 0 < 256 → n ≡ length_of (get_or s i 0)
    → Stage (sequence_of well_formed (drop i s)) n 1 (second_of (get_or s i 0) ∷ 0x80 to 0xBF ∷ 0x80 to 0xBF ∷ []) s (i + 1)
unfolding rest_of
first-stage s i n h f e = rw (drop-cons s i 0 h, add-one, e) (sequence-is (get_or s i 0) (drop (suc i) s) f)

module _ (v n k : ℕ) (q : Range) (rs : List Range) (s : List ℕ) (j : ℕ) (st : Stage v n k (q ∷ rs) s j) (more : k < n) where
  opened : v ≡ pick (begins (q ∷ take (n - (k + 1)) rs) (drop j s)) (λ u. n) (λ u. 0)
  opened = st ∙ ap (λ m. pick (begins (take m (q ∷ rs)) (drop j s)) (λ u. n) (λ u. 0))
      (let z : n - k ≡ suc (n - (k + 1)) = omega arith in z)

  good : j < length s → is_within (get_or s j 0) q ≡ true → Stage v n (k + 1) rs s (j + 1)
  unfolding begins
  good h a = opened ∙ rw (drop-cons s j 0 h, a, add-one j)

  bad : j < length s → is_within (get_or s j 0) q ≡ false → 0 ≡ v
  unfolding begins
  bad h a = sym (opened ∙ rw (drop-cons s j 0 h, a))

last-stage : (v n k : ℕ) (rs : List Range) (s : List ℕ) (j : ℕ) → Stage v n k rs s j → n ≤ k → n ≡ v
unfolding begins
last-stage v n k rs s j st h = sym
    (st ∙ ap (λ m. pick (begins (take m rs) (drop j s)) (λ u. n) (λ u. 0)) (let z : n - k ≡ 0 = omega arith in z))

begins-length : (rs : List Range) (bs : List ℕ) → begins rs bs ≡ true → length rs ≤ length bs
unfolding begins
begins-length [] bs e = omega arith
begins-length (r ∷ rs) [] e = no e
begins-length (r ∷ rs) (b ∷ bs) e = go (is_within b r) e (begins-length rs bs)
  where
    go : (t : Bool) → pick t (λ u. begins rs bs) (λ u. false) ≡ true → (begins rs bs ≡ true → length rs ≤ length bs)
        → suc (length rs) ≤ suc (length bs)
    go true e ih = omega (arith, ih e)
    go false e ih = no e

cut_off : (v n : ℕ) (rs : List Range) (s : List ℕ) (j : ℕ) → Stage v n 1 rs s j → n - 1 ≤ length rs → length s < j + (n - 1)
    → j ≤ length s → 0 ≡ v
cut_off v n rs s j st h l m = sym (st ∙ go (begins (take (n - 1) rs) (drop j s)) refl)
  where
    go : (t : Bool) → begins (take (n - 1) rs) (drop j s) ≡ t → pick t (λ u. n) (λ u. 0) ≡ 0
    go true e = absurd (omega (arith, begins-length (take (n - 1) rs) (drop j s) e, length-take-le (n - 1) rs h, length-drop j s))
    go false e = refl

abbrev tail : Range
tail = 0x80 to 0xBF

-- The bytes of a sequence whose first byte tells the length n, one after another.
module _ (s : List ℕ) (i n : ℕ) (h : i < length s) (f : get_or s i 0 < 256) (e : n ≡ length_of (get_or s i 0)) where
  v : ℕ
  v = sequence_of well_formed (drop i s)

  q : Range
  q = second_of (get_or s i 0)

  -- What is known behind the second byte, the third and the fourth.
  pub record Second : Type 0 where
    pub room : i + n ≤ length s
    pub size : 2 ≤ n
    pub fits : is_within (get_or s (i + 1) 0) (second_of (get_or s i 0)) ≡ true

  pub record Third : Type 0 where
    pub second : Second
    pub size : 3 ≤ n
    pub fits : is_within (get_or s (i + 2) 0) (0x80 to 0xBF) ≡ true

  pub record Fourth : Type 0 where
    pub third : Third
    pub size : 4 ≤ n
    pub fits : is_within (get_or s (i + 3) 0) (0x80 to 0xBF) ≡ true

  stage1 : Stage v n 1 (q ∷ tail ∷ tail ∷ []) s (i + 1)
  unfolding v q
  stage1 = first-stage s i n h f e

  stage2 : Second → Stage v n 2 (tail ∷ tail ∷ []) s (i + 2)
  unfolding q
  stage2 g = subst (λ j. Stage v n 2 (tail ∷ tail ∷ []) s j) (let z : i + 1 + 1 ≡ i + 2 = omega arith in z)
      (good v n 1 q (tail ∷ tail ∷ []) s (i + 1) stage1 (omega (arith, g.size)) (omega (arith, g.room, g.size)) g.fits)

  stage3 : Third → Stage v n 3 (tail ∷ []) s (i + 3)
  stage3 g = subst (λ j. Stage v n 3 (tail ∷ []) s j) (let z : i + 2 + 1 ≡ i + 3 = omega arith in z)
      (good v n 2 tail (tail ∷ []) s (i + 2) (stage2 g.second) (omega (arith, g.size)) (omega (arith, g.second.room, g.size))
      g.fits)

  stage4 : Fourth → Stage v n 4 [] s (i + 4)
  stage4 g = subst (λ j. Stage v n 4 [] s j) (let z : i + 3 + 1 ≡ i + 4 = omega arith in z)
      (good v n 3 tail [] s (i + 3) (stage3 g.third) (omega (arith, g.size)) (omega (arith, g.third.second.room, g.size)) g.fits)

  pub one : n < 2 → n ≡ sequence_of well_formed (drop i s)
  unfolding v
  one z = last-stage v n 1 (q ∷ tail ∷ tail ∷ []) s (i + 1) stage1 (omega arith)

  pub two : Second → n < 3 → n ≡ sequence_of well_formed (drop i s)
  unfolding v
  two g z = last-stage v n 2 (tail ∷ tail ∷ []) s (i + 2) (stage2 g) (omega arith)

  pub three : Third → n < 4 → n ≡ sequence_of well_formed (drop i s)
  unfolding v
  three g z = last-stage v n 3 (tail ∷ []) s (i + 3) (stage3 g) (omega arith)

  pub four : Fourth → n ≡ sequence_of well_formed (drop i s)
  unfolding v
  four g = last-stage v n 4 [] s (i + 4) (stage4 g) (omega (arith, length_most (get_or s i 0) f))

  pub cut : length s < i + n → 0 ≡ sequence_of well_formed (drop i s)
  unfolding v
  cut l = cut_off v n (q ∷ tail ∷ tail ∷ []) s (i + 1) stage1 (omega (arith, length_most (get_or s i 0) f)) (omega arith) (omega arith)

  -- Fewer than three bytes are left for a sequence of none, three or four.
  pub few : 0x80 ≤ get_or s i 0 → (count_leading_zeros 8 (255 - get_or s i 0) ≡ 2 → ⊥) → length s < i + 3
      → 0 ≡ sequence_of well_formed (drop i s)
  few l x m = ⊎_elim (λ z. sym (e ∙ z) ∙ one (omega (arith, e, z))) (λ z. cut (omega (arith, e, z))) (ones-others (get_or s i 0) f l x)

  pub bad-second : i + n ≤ length s → 2 ≤ n → is_within (get_or s (i + 1) 0) (second_of (get_or s i 0)) ≡ false
      → 0 ≡ sequence_of well_formed (drop i s)
  unfolding v q
  bad-second r m a = bad v n 1 q (tail ∷ tail ∷ []) s (i + 1) stage1 (omega arith) (omega arith) a

  pub bad-third : Second → 3 ≤ n → is_within (get_or s (i + 2) 0) (0x80 to 0xBF) ≡ false → 0 ≡ sequence_of well_formed (drop i s)
  unfolding v
  bad-third g m a = bad v n 2 tail (tail ∷ []) s (i + 2) (stage2 g) (omega arith) (omega (arith, g.room)) a

  pub bad-fourth : Third → 4 ≤ n → is_within (get_or s (i + 3) 0) (0x80 to 0xBF) ≡ false → 0 ≡ sequence_of well_formed (drop i s)
  unfolding v
  bad-fourth g m a = bad v n 3 tail [] s (i + 3) (stage3 g) (omega arith) (omega (arith, g.second.room)) a

-- What the first byte tells of the sequence.
pub ruleset first_byte = (one, few, ascii-length, ones-two, ones-two-none, ones-three, ones-four, ones-four-none, ones_none)

-- What the second byte tells of a sequence of two.
pub ruleset second_byte = (cut, bad-second, first-most, second-of-two)

-- THE WHOLE STRING

sequence-most : (rs : List (List Range)) (bs : List ℕ) → sequence_of rs bs ≤ length bs
unfolding sequence_of
sequence-most [] bs = omega arith
sequence-most (r ∷ rs) bs = go (begins r bs) refl (sequence-most rs bs)
  where
    go : (t : Bool) → begins r bs ≡ t → sequence_of rs bs ≤ length bs → pick t (λ u. length r) (λ u. sequence_of rs bs) ≤ length bs
    go true e h = begins-length r bs e
    go false e h = h

utf8_drop : (n : ℕ) (s : List ℕ) → is_utf8_from n s ≡ is_utf8_from 0 (drop n s)
unfolding is_utf8_from
utf8_drop zero [] = refl
utf8_drop (suc n) [] = refl
utf8_drop zero (b ∷ bs) = refl
utf8_drop (suc n) (b ∷ bs) = utf8_drop n bs

-- From i on the string is UTF-8 just if the whole is.
pub record Read (s : List ℕ) (i : ℕ) : Type 0 where
  pub within : i ≤ length s
  pub same : is_utf8_from 0 (drop i s) ≡ is_utf8 s

pub read_none : (s : List ℕ) → Read s 0
unfolding is_utf8
read_none s = record { within = omega arith; same = refl }

module _ (s : List ℕ) (i : ℕ) (h : i < length s) (r : Read s i) where
  open_up : is_utf8 s ≡ pick (eqb (sequence_of well_formed (drop i s)) 0) (λ u. false)
      (λ u. is_utf8_from (sequence_of well_formed (drop i s) - 1) (drop (suc i) s))
  unfolding is_utf8_from
  open_up = sym r.same ∙ rw (drop-cons s i 0 h)

  pub read-bad : (n : ℕ) → n ≡ sequence_of well_formed (drop i s) → n ≡ 0 → false ≡ is_utf8 s
  read-bad n e z = sym (open_up ∙ rw (← e, z))

  pub read-on : (n : ℕ) → n ≡ sequence_of well_formed (drop i s) → (n ≡ 0 → ⊥) → Read s (i + n)
  read-on n e z = record {
    within = omega (arith, e, sequence-most well_formed (drop i s), length-drop i s);
    same = ap (λ m. is_utf8_from 0 (drop m s)) (let q : i + n ≡ suc i + (n - 1) = omega arith in q)
        ∙ sym (ap (λ l. is_utf8_from 0 l) (drop-drop (n - 1) (suc i) s)) ∙ sym (utf8_drop (n - 1) (drop (suc i) s))
        ∙ sym (open_up ∙ rw (← e, ne_eqb n 0 z));
  }

  pub read-ascii : get_or s i 0 < 0x80 → Read s (i + 1)
  unfolding length_of rest_of begins
  read-ascii a =
      let w : sequence_of well_formed (drop i s)
      ≡ 1 = rw (drop-cons s i 0 h) (sequence-is (get_or s i 0) (drop (suc i) s) (omega arith) ∙ rw (lt-ltb (get_or s i 0) 0x80 a)) in
      read-on 1 (sym w) (λ e. omega arith)

pub read_all : (s : List ℕ) (i : ℕ) → Read s i → length s ≤ i → true ≡ is_utf8 s
unfolding is_utf8_from
read_all s i r h = sym (sym r.same ∙ rw (drop_of_length-le s h))
