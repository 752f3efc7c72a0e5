-- UTF-8 (document 01, section 4): well-formed strings, and texts that are blank.
use Rattle.std.specs.Prelude.{ℕ, zero, suc, ◌+◌, ◌-◌, ◌*◌, Bool, true, false, List, [], ◌∷◌, eqb, leb, length, get_or}
use Rattle.model.specs.Base.{pick, and}

-- Numbers from the first to the last, both included.
pub record Range : Type 0 where
  pub first : ℕ
  pub last : ℕ

infix 90 ◌to◌
-- A range, written as the tables show it.
abbrev pub ◌to◌ : ℕ → ℕ → Range
a to b = record { first = a; last = b }

-- Is the number in the range?
abbrev pub is_within : ℕ → Range → Bool
is_within b r = and (leb r.first b) (leb b r.last)

-- The Unicode Standard, table 3-7, well-formed UTF-8 byte sequences: a row has a range for each byte of the sequence.
unfoldable pub well_formed : List (List Range)
well_formed =
    (0x00 to 0x7F ∷ []) ∷
    (0xC2 to 0xDF ∷ 0x80 to 0xBF ∷ []) ∷
    (0xE0 to 0xE0 ∷ 0xA0 to 0xBF ∷ 0x80 to 0xBF ∷ []) ∷
    (0xE1 to 0xEC ∷ 0x80 to 0xBF ∷ 0x80 to 0xBF ∷ []) ∷
    (0xED to 0xED ∷ 0x80 to 0x9F ∷ 0x80 to 0xBF ∷ []) ∷
    (0xEE to 0xEF ∷ 0x80 to 0xBF ∷ 0x80 to 0xBF ∷ []) ∷
    (0xF0 to 0xF0 ∷ 0x90 to 0xBF ∷ 0x80 to 0xBF ∷ 0x80 to 0xBF ∷ []) ∷
    (0xF1 to 0xF3 ∷ 0x80 to 0xBF ∷ 0x80 to 0xBF ∷ 0x80 to 0xBF ∷ []) ∷
    (0xF4 to 0xF4 ∷ 0x80 to 0x8F ∷ 0x80 to 0xBF ∷ 0x80 to 0xBF ∷ []) ∷
    []

-- Do the bytes begin with a sequence of that row?
unfoldable pub begins : List Range → List ℕ → Bool
begins [] bs = true
begins (r ∷ rs) [] = false
begins (r ∷ rs) (b ∷ bs) = pick (is_within b r) (λ u. begins rs bs) (λ u. false)

-- How many bytes the sequence has that the bytes begin with; 0 where they begin with none of these rows.
unfoldable pub sequence_of : List (List Range) → List ℕ → ℕ
sequence_of [] bs = 0
sequence_of (r ∷ rs) bs = pick (begins r bs) (λ u. length r) (λ u. sequence_of rs bs)

-- Are the bytes behind the next n well-formed?
unfoldable pub is_utf8_from : ℕ → List ℕ → Bool
is_utf8_from n [] = true
is_utf8_from (suc n) (b ∷ bs) = is_utf8_from n bs
is_utf8_from zero (b ∷ bs) =
    let n : ℕ = sequence_of well_formed (b ∷ bs) in
    pick (eqb n 0) (λ u. false) (λ u. is_utf8_from (n - 1) bs)

-- Is a string UTF-8? Overlong forms, surrogates and what is past U+10FFFF are in no row.
unfoldable pub is_utf8 : List ℕ → Bool
is_utf8 bs = is_utf8_from 0 bs

-- The bits that a byte behind the first gives to a character's number.
abbrev pub trailing : List ℕ → ℕ → ℕ
trailing bs k = get_or bs k 0 - 0x80

-- The number of the character whose sequence of n bytes stands at the beginning.
unfoldable pub code_point : ℕ → List ℕ → ℕ
code_point n bs =
    pick (leb n 1) (λ u. get_or bs 0 0)
    (λ u. pick (eqb n 2) (λ v. (get_or bs 0 0 - 0xC0) * 64 + trailing bs 1)
    (λ v. pick (eqb n 3) (λ w. (get_or bs 0 0 - 0xE0) * 4096 + trailing bs 1 * 64 + trailing bs 2)
    (λ w. (get_or bs 0 0 - 0xF0) * 262144 + trailing bs 1 * 4096 + trailing bs 2 * 64 + trailing bs 3)))

-- The characters with the Unicode property White_Space.
unfoldable pub white_spaces : List Range
white_spaces =
    0x0009 to 0x000D ∷ 0x0020 to 0x0020 ∷ 0x0085 to 0x0085 ∷ 0x00A0 to 0x00A0 ∷ 0x1680 to 0x1680 ∷ 0x2000 to 0x200A ∷
    0x2028 to 0x2029 ∷ 0x202F to 0x202F ∷ 0x205F to 0x205F ∷ 0x3000 to 0x3000 ∷ []

-- Is it in one of the ranges?
unfoldable pub is_within_any : ℕ → List Range → Bool
is_within_any c [] = false
is_within_any c (r ∷ rs) = pick (is_within c r) (λ u. true) (λ u. is_within_any c rs)

-- Are the characters behind the next n bytes all White_Space?
unfoldable pub is_blank_from : ℕ → List ℕ → Bool
is_blank_from n [] = true
is_blank_from (suc n) (b ∷ bs) = is_blank_from n bs
is_blank_from zero (b ∷ bs) =
    let n : ℕ = sequence_of well_formed (b ∷ bs) in
    pick (is_within_any (code_point n (b ∷ bs)) white_spaces) (λ u. is_blank_from (n - 1) bs) (λ u. false)

-- `text.trim().is_empty()`: a text of White_Space alone.
unfoldable pub is_blank : List ℕ → Bool
is_blank bs = is_blank_from 0 bs
