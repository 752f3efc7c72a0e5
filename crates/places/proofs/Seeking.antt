-- A command by its number, and the readings of its value. Assumes nothing.
use mathlib.Core.Path.{◌≡◌, refl, sym, ap, ◌∙◌, subst}
use mathlib.Core.List.{List, []}
use mathlib.Core.Logic.{◌⊎◌, inl, inr}
use mathlib.Core.Bool.{Bool, true, false}
use mathlib.Core.Option.{none}
use Prim.Native.Nat.{ℕ, zero, suc, ◌+◌, ◌-◌, ◌≤◌}
use native.Mathlib.Omega.{arith}
use borrow.Author.Tests.{leb-true}
use lib.Dec.{leb}
use Rattle.model.specs.Base.{pick}
use Rattle.model.specs.Drawing.{Reading, reading_of}
use Rattle.model.specs.Repair.{any_reading}
use Rattle.script.specs.declared.drawing.Drawing.{Drawing}
use Rattle.script.specs.declared.cursor.Cursor.{Cursor}
use Rattle.script.specs.declared.cursor.Step.{Step}
use Rattle.script.specs.declared.cursor.Step.TheVariants as step
use Rattle.script.specs.Step.{Fit, commands_at, mark_of, at_start, place_from, place_of, step_at}
use Rattle.script.proofs.Commands.{Told, told, place-behind, placed_first}
use Rattle.walk.specs.Values.{readings_in}
use Rattle.places.specs.Seeks.{readings_next, readings_here, Passed, IsLast}

-- A COMMAND BY ITS NUMBER

-- A place no later than the one that is looked for.
pub record Sought (drawing : Drawing) (n : ℕ) (c : Cursor) : Type 0 where
  pub fit : Fit drawing c
  pub low : c.number ≤ n

pub sought-first : (drawing : Drawing) (n : ℕ) (h c : Cursor) → c ≡ pick (leb h.number n) (λ u. h) (λ u. at_start) → Fit drawing h → Sought drawing n c
sought-first drawing n h c e f = go (leb h.number n) refl e
  where
    go : (t : Bool) → leb h.number n ≡ t → c ≡ pick t (λ u. h) (λ u. at_start) → Sought drawing n c
    go true l z = subst (Sought drawing n) (sym z) (record { fit = f; low = leb-true h.number n l })
    go false l z = subst (Sought drawing n) (sym z) (record { fit = placed_first drawing at_start refl f.size; low = omega arith })

module _ (drawing : Drawing) (n : ℕ) (c : Cursor) (w : Sought drawing n c) where
  pub sought-on : (k : Cursor) → Passed drawing c k → (c.number ≡ n → ⊥) → Sought drawing n k
  sought-on k p e = record { fit = p.fit; low = omega (arith, w.low, ap (λ (v : Cursor). v.number) p.here.next, e) }

  behind : place_of drawing n ≡ place_from (n - c.number) c (commands_at drawing c)
  behind = ap (place_of drawing) (let z : n ≡ c.number + (n - c.number) = omega (arith, w.low) in z) ∙ place-behind drawing (n - c.number) c w.fit

  -- Behind the last command there is nothing further.
  pub sought-last : IsLast drawing c → c ≡ place_of drawing n
  sought-last e = sym (behind ∙ e (n - c.number))

-- No whole command stands at c.
pub none-behind : (drawing : Drawing) (c : Cursor) (r : Step) → ((b : ℕ) × (r ≡ step.Broken b)) ⊎ (r ≡ step.End) → r ≡ step_at drawing c
    → IsLast drawing c
unfolding place_from
none-behind drawing c r (inl t) e zero = refl
none-behind drawing c r (inl t) e (suc j) = rw (told drawing c r (step.Broken t.0) t.1 e)
none-behind drawing c r (inr t) e zero = refl
none-behind drawing c r (inr t) e (suc j) = rw (told drawing c r step.End t e)

-- THE READINGS OF A VALUE

-- The readings of the value whose command is the step.
abbrev pub ReadHere : Drawing → Cursor → Step → Type 0
ReadHere drawing c (step.Attribute a b l n) = readings_in drawing c.chars n ≡ readings_here drawing c
ReadHere drawing c (step.Declaration a b l n) = readings_in drawing c.chars n ≡ readings_here drawing c
ReadHere drawing c (step.Open a b n) = [] ≡ readings_here drawing c
ReadHere drawing c (step.Reading k o l n) = [] ≡ readings_here drawing c
ReadHere drawing c (step.Text l n) = [] ≡ readings_here drawing c
ReadHere drawing c (step.Other n) = [] ≡ readings_here drawing c
ReadHere drawing c (step.Close n) = [] ≡ readings_here drawing c
ReadHere drawing c (step.Broken b) = [] ≡ readings_here drawing c
ReadHere drawing c step.End = [] ≡ readings_here drawing c

module _ (drawing : Drawing) (c : Cursor) where
  read_here : (x : Step) → Told drawing c x → ReadHere drawing c x
  unfolding readings_next
  read_here (step.Attribute a b l n) h = ap (readings_next drawing.characters.now (mark_of c)) (sym h.more)
  read_here (step.Declaration a b l n) h = ap (readings_next drawing.characters.now (mark_of c)) (sym h.more)
  read_here (step.Open a b n) h = ap (readings_next drawing.characters.now (mark_of c)) (sym h.more)
  read_here (step.Reading k o l n) h = ap (readings_next drawing.characters.now (mark_of c)) (sym h.more)
  read_here (step.Text l n) h = ap (readings_next drawing.characters.now (mark_of c)) (sym h.more)
  read_here (step.Other n) h = ap (readings_next drawing.characters.now (mark_of c)) (sym h.more)
  read_here (step.Close n) h = ap (readings_next drawing.characters.now (mark_of c)) (sym h.more)
  read_here (step.Broken b) h = ap (readings_next drawing.characters.now (mark_of c)) (sym h)
  read_here step.End h = ap (readings_next drawing.characters.now (mark_of c)) (sym h)

  pub reads : (p x : Step) → p ≡ x → p ≡ step_at drawing c → ReadHere drawing c x
  reads p x e h = read_here x (told drawing c p x e h)

  -- Neither an attribute nor a declaration: there is no value.
  pub none-here : (x : Step) → x ≡ step_at drawing c → ((a b l : ℕ) (n : Cursor) → x ≡ step.Attribute a b l n → ⊥)
      → ((a b l : ℕ) (n : Cursor) → x ≡ step.Declaration a b l n → ⊥) → readings_here drawing c ≡ []
  none-here (step.Attribute a b l n) h p q = absurd (p a b l n refl)
  none-here (step.Declaration a b l n) h p q = absurd (q a b l n refl)
  none-here (step.Open a b n) h p q = sym (reads _ _ refl h)
  none-here (step.Reading k o l n) h p q = sym (reads _ _ refl h)
  none-here (step.Text l n) h p q = sym (reads _ _ refl h)
  none-here (step.Other n) h p q = sym (reads _ _ refl h)
  none-here (step.Close n) h p q = sym (reads _ _ refl h)
  none-here (step.Broken b) h p q = sym (reads _ _ refl h)
  none-here step.End h p q = sym (reads _ _ refl h)

-- No value, no reading.
pub none_read : (k : ℕ) (rs : List Reading) → rs ≡ [] → none ≡ reading_of k rs
unfolding reading_of
none_read k rs e = ap (reading_of k) (sym e)

pub none_any : (k : ℕ) (id : List ℕ) (rs : List Reading) → rs ≡ [] → false ≡ any_reading k id rs
unfolding any_reading
none_any k id rs e = ap (any_reading k id) (sym e)
