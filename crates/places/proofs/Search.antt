-- The search from node to node for a text by its number, and whether it stands inside style. Assumes nothing.
use mathlib.Core.Path.{◌≡◌, refl, sym, ap, ◌∙◌}
use mathlib.Core.List.{List, [], ◌∷◌}
use mathlib.Core.Bool.{Bool, true, false, not}
use mathlib.Core.Option.{Option, none, some}
use Prim.Native.Nat.{ℕ, zero, suc, ◌+◌, ◌-◌, ◌≤◌, ◌<◌}
use native.Mathlib.Numerals.{add-one}
use native.Mathlib.Omega.{arith}
use borrow.Author.Tests.{eq-eqb, ne_eqb}
use lib.Dec.{eqb, eqb-suc-zero}
use Rattle.model.specs.Base.{pick}
use Rattle.model.specs.EId
use Rattle.model.specs.Drawing as model
use Rattle.model.specs.Drawing.{Command, opening, attribute, declaration, reading, closing, broken, Mark, past}
use Rattle.model.specs.Drawing.{Source, Event, begin, close, events_from, text_numbered, is_in_style}
use Rattle.places.specs.Seeks.{style_level}

-- THE NUMBERS OF TEXTS RISE

-- Every text has a number above n, and above those of the texts before it.
abbrev pub Rising : ℕ → List Event → Type 0
Rising n [] = Unit {0}
Rising n (begin e ∷ xs) = Rising n xs
Rising n (model.Event.text a ∷ xs) = (n < a.number) × Rising a.number xs
Rising n (model.Event.other ∷ xs) = Rising n xs
Rising n (close ∷ xs) = Rising n xs

pub rising : (chars : List ℕ) (n : ℕ) (m : Mark) (cs : List Command) → n ≤ m.texts → Rising n (events_from chars m cs)
unfolding events_from
rising chars n m [] l = tt
rising chars n m (opening c s ∷ cs) l = rising chars n (past m (opening c s)) cs (omega arith)
rising chars n m (attribute a s k ∷ cs) l = rising chars n (past m (attribute a s k)) cs (omega arith)
rising chars n m (declaration a i k ∷ cs) l = rising chars n (past m (declaration a i k)) cs (omega arith)
rising chars n m (reading r o k ∷ cs) l = rising chars n (past m (reading r o k)) cs (omega arith)
rising chars n m (Command.text k ∷ cs) l = (omega arith, rising chars (m.texts + 1) (past m (Command.text k)) cs (omega arith))
rising chars n m (Command.other ∷ cs) l = rising chars n (past m Command.other) cs (omega arith)
rising chars n m (closing ∷ cs) l = rising chars n (past m closing) cs (omega arith)
rising chars n m (broken b ∷ cs) l = tt

-- So no later text has the number of one before.
never-again : (t n k : ℕ) (xs : List Event) → t ≤ n → Rising n xs → is_in_style t k xs ≡ false
unfolding is_in_style
never-again t n k [] l h = refl
never-again t n zero (begin e ∷ xs) l h = go (eqb e.code EId.Style) (never-again t n 1 xs l h) (never-again t n zero xs l h)
  where
    go : (p : Bool) → is_in_style t 1 xs ≡ false → is_in_style t zero xs ≡ false →
        pick p (λ u. is_in_style t 1 xs) (λ u. is_in_style t zero xs) ≡ false
    go true f g = f
    go false f g = g
never-again t n (suc k) (begin e ∷ xs) l h = never-again t n (suc (suc k)) xs l h
never-again t n zero (model.Event.text a ∷ xs) l h = never-again t a.number zero xs (omega (arith, h.0)) h.1
never-again t n (suc k) (model.Event.text a ∷ xs) l h =
    rw (ne_eqb a.number t (λ e. omega (arith, h.0))) (never-again t a.number (suc k) xs (omega (arith, h.0)) h.1)
never-again t n zero (model.Event.other ∷ xs) l h = never-again t n zero xs l h
never-again t n (suc k) (model.Event.other ∷ xs) l h = never-again t n (suc k) xs l h
never-again t n zero (close ∷ xs) l h = never-again t n zero xs l h
never-again t n (suc k) (close ∷ xs) l h = never-again t n k xs l h

-- THE SEARCH

-- The text with the number t, and whether it stands inside style; k counts the open elements from the outermost style on.
abbrev pub sought : ℕ → ℕ → List Event → Option Source × Bool
sought t k xs = (text_numbered t xs, is_in_style t k xs)

both : {a a' : Option Source} {b b' : Bool} → a ≡ a' → b ≡ b' → ◌≡◌ {A = Option Source × Bool} (a, b) (a', b')
both p q = λ i. (p i, q i)

module _ (t : ℕ) (xs : List Event) where
  at_open : (k : ℕ) (e : model.Element) → is_in_style t k (begin e ∷ xs) ≡ is_in_style t (style_level k e.code) xs
  unfolding is_in_style
  at_open zero e = go (eqb e.code EId.Style)
    where
      go : (p : Bool) → pick p (λ u. is_in_style t 1 xs) (λ u. is_in_style t zero xs) ≡ is_in_style t (pick p (λ u. 1) (λ u. 0)) xs
      go true = refl
      go false = refl
  at_open (suc k) e = rw (eqb-suc-zero k) (ap (λ n. is_in_style t n xs) (sym (add-one (suc k))))

  pub sought-begin : (k k' : ℕ) (e : model.Element) → k' ≡ style_level k e.code → sought t k (begin e ∷ xs) ≡ sought t k' xs
  unfolding text_numbered
  sought-begin k k' e h = both refl (at_open k e ∙ ap (λ n. is_in_style t n xs) (sym h))

  style-miss : (k : ℕ) (a : Source) → (a.number ≡ t → ⊥) → is_in_style t k (model.Event.text a ∷ xs) ≡ is_in_style t k xs
  unfolding is_in_style
  style-miss zero a h = refl
  style-miss (suc k) a h = rw (ne_eqb a.number t h)

  pub sought-miss : (k : ℕ) (a : Source) → (a.number ≡ t → ⊥) → sought t k (model.Event.text a ∷ xs) ≡ sought t k xs
  unfolding text_numbered
  sought-miss k a h = both (rw (ne_eqb a.number t h)) (style-miss k a h)

  style-hit : (k : ℕ) (a : Source) → a.number ≡ t → Rising a.number xs → is_in_style t k (model.Event.text a ∷ xs) ≡ not (eqb k 0)
  unfolding is_in_style
  style-hit zero a e r = never-again t a.number zero xs (omega arith) r
  style-hit (suc k) a e r = rw (eq-eqb a.number t e, eqb-suc-zero k)

  pub sought-hit : (n k : ℕ) (a : Source) → a.number ≡ t → Rising n (model.Event.text a ∷ xs) →
      sought t k (model.Event.text a ∷ xs) ≡ (some a, not (eqb k 0))
  unfolding text_numbered
  sought-hit n k a e r = both (rw (eq-eqb a.number t e)) (style-hit k a e r.1)

  style-other : (k : ℕ) → is_in_style t k (model.Event.other ∷ xs) ≡ is_in_style t k xs
  unfolding is_in_style
  style-other zero = refl
  style-other (suc k) = refl

  pub sought-other : (k : ℕ) → sought t k (model.Event.other ∷ xs) ≡ sought t k xs
  unfolding text_numbered
  sought-other k = both refl (style-other k)

  at-close : (k : ℕ) → is_in_style t k (close ∷ xs) ≡ is_in_style t (k - 1) xs
  unfolding is_in_style
  at-close zero = refl
  at-close (suc k) = ap (λ n. is_in_style t n xs) (let z : k ≡ suc k - 1 = omega arith in z)

  pub sought-close : (k k' : ℕ) → k' ≡ k - 1 → sought t k (close ∷ xs) ≡ sought t k' xs
  unfolding text_numbered
  sought-close k k' e = both refl (at-close k ∙ ap (λ n. is_in_style t n xs) (sym e))

pub sought-none : (t k : ℕ) → sought t k [] ≡ (none, false)
unfolding text_numbered is_in_style
sought-none t k = refl

pub style-low : (k a : ℕ) → style_level k a ≤ k + 1
style-low k a = go (eqb k 0) (eqb a EId.Style)
  where
    go : (p q : Bool) → pick p (λ u. pick q (λ v. 1) (λ v. 0)) (λ u. k + 1) ≤ k + 1
    go true true = omega arith
    go true false = omega arith
    go false true = omega arith
    go false false = omega arith
