-- Small definitions that all the others are written with.
use Rattle.std.specs.Prelude.{ℕ, Bool, true, false, cond, List, [], ◌∷◌, eqb}
use Rattle.std.proofs.Math.Option.{Option, none, some}

-- If-then-else; only the branch that is taken is computed.
abbrev pub pick : {A : Type 0} → Bool → (Unit {0} → A) → (Unit {0} → A) → A
pick true f g = f tt
pick false f g = g tt

-- Both.
abbrev pub and : Bool → Bool → Bool
and a b = cond a b false

-- One of two, or both.
abbrev pub or : Bool → Bool → Bool
or a b = cond a true b

-- What to do with a value that may be absent.
abbrev pub given : {A B : Type 0} → Option A → (A → B) → (Unit {0} → B) → B
given (some a) f g = f a
given none f g = g tt

-- The first of two values that is there: Rust's `or_else`.
abbrev pub or_else : {A : Type 0} → Option A → Option A → Option A
or_else (some a) b = some a
or_else none b = b

-- From the left: what each element makes of the result so far.
abbrev pub folded : {A B : Type 0} → (B → A → B) → B → List A → B
folded f b [] = b
folded f b (x ∷ xs) = folded f (f b x) xs

-- Is the number one of these?
unfoldable pub among : ℕ → List ℕ → Bool
among a [] = false
among a (x ∷ xs) = pick (eqb a x) (λ u. true) (λ u. among a xs)

-- Are two strings of bytes the same?
unfoldable pub same_bytes : List ℕ → List ℕ → Bool
same_bytes [] [] = true
same_bytes [] (y ∷ ys) = false
same_bytes (x ∷ xs) [] = false
same_bytes (x ∷ xs) (y ∷ ys) = pick (eqb x y) (λ u. same_bytes xs ys) (λ u. false)

-- Is the string one of these?
unfoldable pub among_words : List ℕ → List (List ℕ) → Bool
among_words w [] = false
among_words w (x ∷ xs) = pick (same_bytes w x) (λ u. true) (λ u. among_words w xs)

-- A row of a table from numbers to numbers.
pub record Pair : Type 0 where
  pub key : ℕ
  pub value : ℕ

infix 90 ◌gives◌
-- A row, written as a table shows it.
abbrev pub ◌gives◌ : ℕ → ℕ → Pair
k gives v = record { key = k; value = v }

-- The value of a key, 0 where the table has no such key.
unfoldable pub paired_with : ℕ → List Pair → ℕ
paired_with k [] = 0
paired_with k (p ∷ ps) = pick (eqb k p.key) (λ u. p.value) (λ u. paired_with k ps)
