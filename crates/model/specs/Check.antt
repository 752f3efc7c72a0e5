-- check (document 01, section 7): one number for a script and its characters, 0 if they are accepted.
use Rattle.std.specs.Prelude.{ℕ, ◌+◌, ◌-◌, Bool, true, false, not, List, [], ◌∷◌, eqb, leb, ltb, length}
use Rattle.std.proofs.Math.Seq.{slice}
use Rattle.model.specs.Base.{pick, and, or, among}
use Rattle.model.specs.Names.{is_element, is_attribute}
use Rattle.model.specs.Utf8.{is_utf8}
use Rattle.model.specs.Drawing.{Command, opening, attribute, declaration, reading, text, other, closing, broken, commands}

-- What may come inside the innermost open element: attributes and all else; declarations and children; children alone.
pub data Stage : Type 0 where
  attributes declarations children : Stage

-- The value that readings may follow: where it begins, its length, and the kinds of its readings so far.
pub data Last : Type 0 where
  nothing : Last
  value : ℕ → ℕ → List ℕ → Last

-- What check knows between two commands.
pub record State : Type 0 where
  pub depth : ℕ  -- how many elements are open
  pub stage : Stage
  pub begun : Bool  -- the top level has had its element
  pub at : ℕ  -- how many characters are taken
  pub last : Last

-- Before the first command.
unfoldable pub starting : State
starting = record { depth = 0; stage = children; begun = false; at = 0; last = nothing }

-- A test: the number that it gives, and whether it applies.
pub record Test : Type 0 where
  pub number : ℕ
  pub applies : Bool

infix 90 ◌if◌
-- A test, written as its number and its condition.
abbrev pub ◌if◌ : ℕ → Bool → Test
n if b = record { number = n; applies = b }

-- The number of the first test that applies, 0 for none.
unfoldable pub first_of : List Test → ℕ
first_of [] = 0
first_of (t ∷ ts) = pick t.applies (λ u. t.number) (λ u. first_of ts)

-- A value has one of the kinds 5 to 10 (the parts of a font) without both 9 and 10.
unfoldable pub is_half_font : Last → Bool
is_half_font nothing = false
is_half_font (value a n ks) = and (any_part ks) (not (and (among 9 ks) (among 10 ks)))
  where
    any_part : List ℕ → Bool
    any_part ks = or (among 5 ks) (or (among 6 ks) (or (among 7 ks) (or (among 8 ks) (or (among 9 ks) (among 10 ks)))))

-- Does an element name code stand in its list? 255 is a name in none.
abbrev pub is_element_code : ℕ → Bool
is_element_code c = or (is_element c) (eqb c 255)

-- The same for an attribute.
abbrev pub is_attribute_code : ℕ → Bool
is_attribute_code a = or (is_attribute a) (eqb a 255)

-- 254 is `marker`.
abbrev pub is_declaration_code : ℕ → Bool
is_declaration_code a = or (is_attribute_code a) (eqb a 254)

-- May an attribute come?
abbrev pub may_attribute : Stage → Bool
may_attribute attributes = true
may_attribute declarations = false
may_attribute children = false

-- May a declaration come?
abbrev pub may_declare : Stage → Bool
may_declare attributes = true
may_declare declarations = true
may_declare children = false

-- Is a reading out of place?
abbrev pub is_nothing : Last → Bool
is_nothing nothing = true
is_nothing (value a n ks) = false

-- Where the value begins.
abbrev pub value_start : Last → ℕ
value_start nothing = 0
value_start (value a n ks) = a

-- Its length.
abbrev pub value_size : Last → ℕ
value_size nothing = 0
value_size (value a n ks) = n

-- The kinds of its readings so far.
abbrev pub value_kinds : Last → List ℕ
value_kinds nothing = []
value_kinds (value a n ks) = ks

module _ (chars : List ℕ) (size : ℕ) where
  -- 6 and 9 for a string of l characters that begins at a.
  abbrev pub string_tests : ℕ → ℕ → List Test
  string_tests a l = 6 if ltb size (a + l) ∷ 9 if not (is_utf8 (slice a (a + l) chars)) ∷ []

  -- The tests of one command, in their order; `size` is the number of characters.
  unfoldable pub tests_of : State → Command → List Test
  tests_of s (opening c n) =
      7 if is_half_font s.last ∷ 3 if not (and (is_element_code c) (leb n 4)) ∷ 4 if and (eqb s.depth 0) s.begun ∷
      5 if leb 2048 s.depth ∷ []
  tests_of s (attribute a n l) =
      7 if is_half_font s.last ∷ 3 if not (and (is_attribute_code a) (leb n 4)) ∷ 4 if not (may_attribute s.stage) ∷ string_tests s.at l
  tests_of s (declaration a i l) =
      7 if is_half_font s.last ∷ 3 if not (and (is_declaration_code a) (leb i 1)) ∷ 4 if not (may_declare s.stage) ∷ string_tests s.at l
  tests_of s (reading k o l) =
      3 if not (and (leb 1 k) (leb k 10)) ∷ 4 if is_nothing s.last ∷ 6 if ltb (value_size s.last) (o + l)
      ∷ 7 if and (not (eqb k 4)) (among k (value_kinds s.last))
      ∷ 9 if not (is_utf8 (slice (value_start s.last + o) (value_start s.last + o + l) chars)) ∷ []
  tests_of s (text l) = 7 if is_half_font s.last ∷ 4 if eqb s.depth 0 ∷ string_tests s.at l
  tests_of s other = 7 if is_half_font s.last ∷ []
  tests_of s closing = 7 if is_half_font s.last ∷ 4 if eqb s.depth 0 ∷ []
  tests_of s (broken b) = 7 if and (not (eqb b 4)) (is_half_font s.last) ∷ 2 if true ∷ []

  -- At the end of the script.
  unfoldable pub tests_at_end : State → List Test
  tests_at_end s = 7 if is_half_font s.last ∷ 4 if or (leb 1 s.depth) (not s.begun) ∷ 8 if ltb s.at size ∷ []

  -- What check knows behind a command that passed.
  unfoldable pub stepped : State → Command → State
  stepped s (opening c n) = record { depth = s.depth + 1; stage = attributes; begun = true; at = s.at; last = nothing }
  stepped s (attribute a n l) = record { depth = s.depth; stage = attributes; begun = s.begun; at = s.at + l; last = value s.at l [] }
  stepped s (declaration a i l) = record {
    depth = s.depth;
    stage = declarations;
    begun = s.begun;
    at = s.at + l;
    last = value s.at l [];
  }
  stepped s (reading k o l) = record {
    depth = s.depth;
    stage = s.stage;
    begun = s.begun;
    at = s.at;
    last = value (value_start s.last) (value_size s.last) (k ∷ value_kinds s.last);
  }
  stepped s (text l) = record { depth = s.depth; stage = children; begun = s.begun; at = s.at + l; last = nothing }
  stepped s other = record { depth = s.depth; stage = children; begun = s.begun; at = s.at; last = nothing }
  stepped s closing = record { depth = s.depth - 1; stage = children; begun = s.begun; at = s.at; last = nothing }
  stepped s (broken b) = s

  -- The first failing command decides.
  unfoldable pub check_from : State → List Command → ℕ
  check_from s [] = first_of (tests_at_end s)
  check_from s (c ∷ cs) =
      let n : ℕ = first_of (tests_of s c) in
      pick (eqb n 0) (λ u. check_from (stepped s c) cs) (λ u. n)

-- The limit of the script and of the characters.
abbrev pub most_bytes : ℕ
most_bytes = 1048576

-- The operation check.
unfoldable pub check : List ℕ → List ℕ → ℕ
check script chars =
    pick (or (ltb most_bytes (length script)) (ltb most_bytes (length chars))) (λ u. 1)
    (λ u. check_from chars (length chars) starting (commands script))
