-- SVG 1.1 (second edition), section 10.15, "White space handling": what xml:space makes of the characters of a text.
use Rattle.std.specs.Prelude.{ℕ, suc, Bool, true, false, ◌≡◌, List, [], ◌∷◌, eqb}
use Rattle.std.proofs.Math.Option.{Option, none, some}
use Rattle.model.specs.Base.{pick, and}

-- The characters that the section names, by their codes. Each is one byte in UTF-8, and no byte of a longer sequence is one of them,
-- so that the same definitions serve for bytes.
abbrev pub NEWLINE : ℕ
NEWLINE = 10

-- The tab.
abbrev pub TAB : ℕ
TAB = 9

-- The space.
abbrev pub BLANK : ℕ
BLANK = 32

-- Carriage return: XML 1.0, section 2.11, hands it on as a newline. The section on white space does not name it.
abbrev pub RETURN : ℕ
RETURN = 13

-- The text with a character removed wherever it stands.
unfoldable pub without : ℕ → List ℕ → List ℕ
without c [] = []
without c (b ∷ bs) = pick (eqb b c) (λ u. without c bs) (λ u. b ∷ without c bs)

-- The text with a character converted to another wherever it stands.
unfoldable pub convert : ℕ → ℕ → List ℕ → List ℕ
convert c d [] = []
convert c d (b ∷ bs) = pick (eqb b c) (λ u. d) (λ u. b) ∷ convert c d bs

-- The text without its leading spaces.
unfoldable pub no_leading : List ℕ → List ℕ
no_leading [] = []
no_leading (b ∷ bs) = pick (eqb b BLANK) (λ u. no_leading bs) (λ u. b ∷ bs)

-- Is there nothing?
abbrev pub is_nothing : List ℕ → Bool
is_nothing [] = true
is_nothing (b ∷ bs) = false

-- The text without its trailing spaces: a space goes where nothing is left behind it.
unfoldable pub no_trailing : List ℕ → List ℕ
no_trailing [] = []
no_trailing (b ∷ bs) = pick (and (eqb b BLANK) (is_nothing (no_trailing bs))) (λ u. []) (λ u. b ∷ no_trailing bs)

-- Does a space come next?
abbrev pub is_blank_next : List ℕ → Bool
is_blank_next [] = false
is_blank_next (b ∷ bs) = eqb b BLANK

-- The text with its runs of spaces consolidated: a space goes where another comes next.
unfoldable pub consolidated : List ℕ → List ℕ
consolidated [] = []
consolidated (b ∷ bs) = pick (and (eqb b BLANK) (is_blank_next bs)) (λ u. consolidated bs) (λ u. b ∷ consolidated bs)

-- xml:space="default": newlines are removed, then tabs are converted to spaces, then leading and trailing spaces are stripped off, then
-- spaces in a row are consolidated.
unfoldable pub as_default : List ℕ → List ℕ
as_default bs = consolidated (no_trailing (no_leading (convert TAB BLANK (without NEWLINE bs))))

-- xml:space="preserve": newlines and tabs are converted to spaces; nothing else changes.
unfoldable pub as_preserve : List ℕ → List ℕ
as_preserve bs = convert TAB BLANK (convert NEWLINE BLANK bs)

-- Has the text no such character?
abbrev pub Free : ℕ → List ℕ → Type 0
Free c [] = Unit {0}
Free c (b ∷ bs) = (eqb b c ≡ false) × Free c bs

-- WHICH xml:space IS IN FORCE

-- XML 1.0, section 2.10, and SVG 1.1, section 10.15: what an element says holds for it and for all within it, unless one within says
-- otherwise; where none says anything it is the default. `said` is what an element and those around it say, the innermost first.
unfoldable pub in_force : {A : Type 0} → List (Option A) → A → A
in_force [] d = d
in_force (some w ∷ said) d = w
in_force (none ∷ said) d = in_force said d

-- THE SEAMS: where the two readings of a newline come apart

-- Where a reader of the text is: before its first visible character, in a word, behind a word and a space or a tab, or behind a word and
-- newlines alone. A character is visible if it is no newline, no tab and no space.
pub data Place : Type 0 where
  ahead in_word in_gap at_break : Place

-- What kind of character it is.
pub data Sort : Type 0 where
  newline blank visible : Sort

-- The kind of a character.
unfoldable pub sort_of : ℕ → Sort
sort_of b = pick (eqb b NEWLINE) (λ u. newline) (λ u. pick (eqb b TAB) (λ u. blank) (λ u. pick (eqb b BLANK) (λ u. blank) (λ u. visible)))

-- Where the reader is after a character.
abbrev pub next : Place → Sort → Place
next ahead newline = ahead
next ahead blank = ahead
next ahead visible = in_word
next in_word newline = at_break
next in_word blank = in_gap
next in_word visible = in_word
next in_gap newline = in_gap
next in_gap blank = in_gap
next in_gap visible = in_word
next at_break newline = at_break
next at_break blank = in_gap
next at_break visible = in_word

-- Does a seam end here: a visible character behind a word and newlines alone?
abbrev pub seams_here : Place → Sort → ℕ → ℕ
seams_here ahead s n = n
seams_here in_word s n = n
seams_here in_gap s n = n
seams_here at_break newline n = n
seams_here at_break blank n = n
seams_here at_break visible n = suc n

-- How many seams there are from that place on.
unfoldable pub seams_from : Place → List ℕ → ℕ
seams_from p [] = 0
seams_from p (b ∷ bs) = seams_here p (sort_of b) (seams_from (next p (sort_of b)) bs)

-- The seams of a text: the places where newlines alone stand between two visible characters.
unfoldable pub seams : List ℕ → ℕ
seams bs = seams_from ahead bs
