-- What the bytes of a UTF-8 sequence say of each other: the rows of table 3-7, read by their first byte and by the bytes before one.
use Rattle.std.specs.Prelude.{ℕ, zero, suc, ◌+◌, ◌-◌, Bool, false, not, ◌&&◌, ◌||◌, List, [], ◌∷◌, eqb, leb, ltb, get_or, take}
use Rattle.model.specs.Base.{pick, or}
use Rattle.model.specs.Utf8.{Range, ◌to◌, is_within}

-- How many bytes the sequence has, 0 where no row begins with the byte.
unfoldable pub length_of : ℕ → ℕ
length_of b =
    pick (ltb b 0x80) (λ u. 1)
    (λ u. pick (ltb b 0xC2) (λ v. 0)
    (λ v. pick (ltb 0xF4 b) (λ w. 0)
    (λ w. pick (ltb b 0xE0) (λ x. 2) (λ x. pick (ltb b 0xF0) (λ y. 3) (λ y. 4)))))

-- The range of the second byte.
unfoldable pub second_of : ℕ → Range
second_of b =
    pick (eqb b 0xE0) (λ u. 0xA0) (λ u. pick (eqb b 0xF0) (λ v. 0x90) (λ v. 0x80))
    to pick (eqb b 0xED) (λ u. 0x9F) (λ u. pick (eqb b 0xF4) (λ v. 0x8F) (λ v. 0xBF))

-- The ranges of the bytes behind the first, in a sequence of n bytes.
unfoldable pub rest_of : ℕ → ℕ → List Range
rest_of n b = take (n - 1) (second_of b ∷ 0x80 to 0xBF ∷ 0x80 to 0xBF ∷ [])

-- A byte that stands in no row.
abbrev pub never : ℕ → Bool
never b = (eqb b 0xC0 || eqb b 0xC1) || ltb 0xF4 b

-- A second byte that the row of the first one leaves out: an overlong form, a surrogate, a number past U+10FFFF.
abbrev pub left_out : ℕ → ℕ → Bool
left_out first b =
    ((eqb first 0xE0 && ltb b 0xA0) || (eqb first 0xED && ltb 0x9F b)) || ((eqb first 0xF0 && ltb b 0x90) || (eqb first 0xF4 && ltb 0x8F b))

-- Is b out of place behind three bytes, of which p1 stands next to it? Behind a first byte of two or more stands a second one, behind a
-- second byte of three or a third byte of four a further one, and elsewhere a first.
unfoldable pub misplaced : ℕ → ℕ → ℕ → ℕ → Bool
misplaced p3 p2 p1 b =
    pick (leb 0xC0 p1) (λ u. not (is_within b (second_of p1)))
    (λ u. pick (or (leb 0xE0 p2) (leb 0xF0 p3)) (λ v. not (is_within b (0x80 to 0xBF))) (λ v. eqb (length_of b) 0))

-- Is b out of place behind p, where every sequence has one byte or two?
unfoldable pub misplaced_of_two : ℕ → ℕ → Bool
misplaced_of_two p b =
    pick (leb 0xC0 p) (λ u. not (is_within b (0x80 to 0xBF))) (λ u. not (or (ltb b 0x80) (is_within b (0xC2 to 0xDF))))

-- How many bytes of a sequence that goes on stand at the end of three bytes, of which p1 is the last.
unfoldable pub begun_by : ℕ → ℕ → ℕ → ℕ
begun_by p3 p2 p1 = pick (leb 0xC0 p1) (λ u. 1) (λ u. pick (leb 0xE0 p2) (λ v. 2) (λ v. pick (leb 0xF0 p3) (λ w. 3) (λ w. 0)))

-- IN A STRING

-- Does the test hold of one of the numbers below n?
unfoldable pub any_below : ℕ → (ℕ → Bool) → Bool
any_below zero p = false
any_below (suc n) p = any_below n p || p n

-- Is one of the n bytes from i on no ASCII?
abbrev pub beyond_in : List ℕ → ℕ → ℕ → Bool
beyond_in s i n = any_below n (λ k. leb 0x80 (get_or s (i + k) 0))

-- Is one of the n bytes behind the three from a on out of place?
abbrev pub misplaced_in : List ℕ → ℕ → ℕ → Bool
misplaced_in s a n =
    any_below n (λ k. misplaced (get_or s (a + k) 0) (get_or s (a + k + 1) 0) (get_or s (a + k + 2) 0) (get_or s (a + k + 3) 0))

-- The same where every sequence has one byte or two.
abbrev pub misplaced_of_two_in : List ℕ → ℕ → ℕ → Bool
misplaced_of_two_in s a n = any_below n (λ k. misplaced_of_two (get_or s (a + k + 2) 0) (get_or s (a + k + 3) 0))

-- How many bytes of a sequence that goes on stand at the end of the three from a on.
abbrev pub begun_at : List ℕ → ℕ → ℕ
begun_at s a = begun_by (get_or s a 0) (get_or s (a + 1) 0) (get_or s (a + 2) 0)
