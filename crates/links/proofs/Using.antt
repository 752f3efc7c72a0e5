-- The `use`s inside an element, by the next node. Assumes nothing.
use mathlib.Core.Path.{◌≡◌, refl, sym, ap}
use mathlib.Core.List.{List, [], ◌∷◌}
use mathlib.Core.Bool.{true, false}
use Prim.Native.Nat.{ℕ, ◌+◌, ◌-◌}
use native.Mathlib.Numerals.{add-one}
use Rattle.model.specs.Drawing as model
use Rattle.model.specs.Drawing.{Event, begin, close, is_use, uses_in}
use Rattle.walk.proofs.Along.{behind-close}

module _ (k : ℕ) (xs : List Event) where
  pub uses-hit : (e : model.Element) → is_use e ≡ true → uses_in k (begin e ∷ xs) ≡ e ∷ uses_in (k + 1) xs
  unfolding uses_in
  uses-hit e h = rw h (ap (λ m. e ∷ uses_in m xs) (sym (add-one k)))

  pub uses-miss : (e : model.Element) → is_use e ≡ false → uses_in k (begin e ∷ xs) ≡ uses_in (k + 1) xs
  unfolding uses_in
  uses-miss e h = rw h (ap (λ m. uses_in m xs) (sym (add-one k)))

  pub uses-text : (a : model.Source) → uses_in k (model.Event.text a ∷ xs) ≡ uses_in k xs
  unfolding uses_in
  uses-text a = refl

  pub uses-other : uses_in k (model.Event.other ∷ xs) ≡ uses_in k xs
  unfolding uses_in
  uses-other = refl

  pub uses-close : (k ≡ 0 → ⊥) → uses_in k (close ∷ xs) ≡ uses_in (k - 1) xs
  unfolding uses_in
  uses-close = behind-close (λ j. uses_in j (close ∷ xs)) (λ j. uses_in j xs) (λ j. refl) k

  pub uses-out : k ≡ 0 → uses_in k (close ∷ xs) ≡ []
  unfolding uses_in
  uses-out e = rw e

pub uses-end : (k : ℕ) → uses_in k [] ≡ []
unfolding uses_in
uses-end k = refl
