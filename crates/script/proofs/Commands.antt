-- The commands at a cursor, and the step there. Assumes nothing.
use mathlib.Core.Path.{◌≡◌, refl, sym, ap, ◌∙◌, subst}
use mathlib.Core.List.{List, [], ◌∷◌}
use mathlib.Core.Bool.{Bool, true, false}
use Prim.Native.Nat.{ℕ, zero, suc, ◌+◌, ◌-◌, ◌^◌, ◌<◌, ◌≤◌}
use native.Mathlib.Nat.{zero-add, suc-add}
use native.Mathlib.Omega.{arith}
use borrow.Author.Tests.{le-leb, lt-leb, ne_eqb, leb-true, leb-false, eqb-true}
use lib.Dec.{eqb, leb}
use lib.ListN.{length, get_or, take, drop, length-take, length-drop, drop_of_length-le}
use lib.Seq.{drop-cons, drop-drop, get_or-drop}
use Rattle.model.specs.Base.{pick}
use Rattle.model.specs.Check.{most_bytes}
use Rattle.model.specs.Drawing.{Command, opening, attribute, declaration, reading, text, other, closing, broken, operands, word_at, whole}
use Rattle.model.specs.Drawing.{command, follow, commands, commands_from, taken, counted}
use Rattle.script.specs.declared.drawing.Drawing.{Drawing}
use Rattle.script.specs.declared.cursor.Cursor.{Cursor}
use Rattle.script.specs.declared.cursor.Step.{Step}
use Rattle.script.specs.declared.cursor.Step.TheVariants.{Open, Attribute, Declaration, Reading, Text, Other, Close, Broken, End}
use Rattle.script.specs.Step.{Fit, commands_at, bytes_of, moved, is_broken, place_from, place_of, at_start, Here, to_step, step_of, step_at}
use Rattle.script.specs.Step.{Going}

-- THE OPERANDS

pub no-operands : (b : ℕ) → (b ≡ 1 → ⊥) → (b ≡ 2 → ⊥) → (b ≡ 3 → ⊥) → (b ≡ 4 → ⊥) → (b ≡ 5 → ⊥) → 0 ≡ operands b
unfolding operands
no-operands zero h1 h2 h3 h4 h5 = refl
no-operands (suc zero) h1 h2 h3 h4 h5 = absurd (h1 refl)
no-operands (suc (suc zero)) h1 h2 h3 h4 h5 = absurd (h2 refl)
no-operands (suc (suc (suc zero))) h1 h2 h3 h4 h5 = absurd (h3 refl)
no-operands (suc (suc (suc (suc zero)))) h1 h2 h3 h4 h5 = absurd (h4 refl)
no-operands (suc (suc (suc (suc (suc zero))))) h1 h2 h3 h4 h5 = absurd (h5 refl)
no-operands (suc (suc (suc (suc (suc (suc zero)))))) h1 h2 h3 h4 h5 = refl
no-operands (suc (suc (suc (suc (suc (suc (suc zero))))))) h1 h2 h3 h4 h5 = refl
no-operands (suc (suc (suc (suc (suc (suc (suc (suc n)))))))) h1 h2 h3 h4 h5 = refl

byte : (s : List ℕ) (at i : ℕ) → get_or (drop (suc at) s) i 0 ≡ get_or s (at + 1 + i) 0
byte s at i = get_or-drop (suc at) s i 0 ∙ ap (λ n. get_or s n 0) (let z : suc at + i ≡ at + 1 + i = omega arith in z)

word-drop : (s : List ℕ) (n k : ℕ) → word_at (drop n s) k ≡ word_at s (n + k)
unfolding word_at
word-drop s n k = simp get_or-drop (simp (at1, at2, at3))
  where
    at1 : n + (k + 1) ≡ n + k + 1
    at1 = omega arith

    at2 : n + (k + 2) ≡ n + k + 2
    at2 = omega arith

    at3 : n + (k + 3) ≡ n + k + 3
    at3 = omega arith

-- THE STEP

follow-step : (x : Command) (r : Unit {0} → List Command) (c : Cursor) → step_of (follow x r) c ≡ to_step x (moved c x)
follow-step (opening a b) r c = refl
follow-step (attribute a n l) r c = refl
follow-step (declaration a i l) r c = refl
follow-step (reading k o l) r c = refl
follow-step (text l) r c = refl
follow-step other r c = refl
follow-step closing r c = refl
follow-step (broken b) r c = refl

module _ (drawing : Drawing) (c : Cursor) where
  pub ended : length drawing.script.now ≤ c.at → End ≡ step_at drawing c
  unfolding step_at commands_at commands commands_from
  ended h = rw (drop_of_length-le drawing.script.now h)

  module _ (h : c.at < length drawing.script.now) where
    here : to_step (command (get_or drawing.script.now c.at 0) (drop (suc c.at) drawing.script.now)) (moved c (command (get_or drawing.script.now c.at 0) (drop (suc c.at) drawing.script.now)))
        ≡ step_at drawing c
    unfolding step_at commands_at commands commands_from
    here = rw (drop-cons drawing.script.now c.at 0 h) (sym (follow-step (command (get_or drawing.script.now c.at 0) (drop (suc c.at) drawing.script.now)) _ c))

    stepped : (x : Command) (n : Cursor) → command (get_or drawing.script.now c.at 0) (drop (suc c.at) drawing.script.now) ≡ x → n ≡ moved c x → to_step x n ≡ step_at drawing c
    stepped x n e f = ap (to_step x) f ∙ ap (λ x. to_step x (moved c x)) (sym e) ∙ here

    pub cut : length drawing.script.now - c.at - 1 < operands (get_or drawing.script.now c.at 0) → Broken (get_or drawing.script.now c.at 0) ≡ step_at drawing c
    unfolding command
    cut l =
        let b : ℕ = get_or drawing.script.now c.at 0 in
        let t : List ℕ = drop (suc c.at) drawing.script.now in
        let z : length (take (operands b) t) < operands b = omega (arith, length-take (operands b) t, length-drop (suc c.at) drawing.script.now) in
        stepped (broken b) (moved c (broken b)) (rw (lt-leb (operands b) (length (take (operands b) t)) z)) refl

    all_there : (k : ℕ) (x : Command) → get_or drawing.script.now c.at 0 ≡ k → operands k ≤ length drawing.script.now - c.at - 1 → whole k (drop (suc c.at) drawing.script.now) ≡ x
        → command (get_or drawing.script.now c.at 0) (drop (suc c.at) drawing.script.now) ≡ x
    unfolding command
    all_there k x e l w =
        let t : List ℕ = drop (suc c.at) drawing.script.now in
        let z : operands k ≤ length (take (operands k) t) = omega (arith, length-take (operands k) t, length-drop (suc c.at) drawing.script.now) in
        rw (e, le-leb (operands k) (length (take (operands k) t)) z) w

    pub nothing : (b : ℕ) → b ≡ get_or drawing.script.now c.at 0 → operands b ≤ length drawing.script.now - c.at - 1
        → (b ≡ 1 → ⊥) → (b ≡ 2 → ⊥) → (b ≡ 3 → ⊥) → (b ≡ 4 → ⊥) → (b ≡ 5 → ⊥) → (b ≡ 6 → ⊥) → (b ≡ 7 → ⊥) → Broken b ≡ step_at drawing c
    unfolding whole
    nothing b e l h1 h2 h3 h4 h5 h6 h7 =
        stepped (broken b) (moved c (broken b))
        (all_there b (broken b) (sym e) l
        (simp (ne_eqb b 1 h1, ne_eqb b 2 h2, ne_eqb b 3 h3, ne_eqb b 4 h4, ne_eqb b 5 h5, ne_eqb b 6 h6, ne_eqb b 7 h7))) refl

    first : get_or (drop (suc c.at) drawing.script.now) 0 0 ≡ get_or drawing.script.now (c.at + 1) 0
    first = byte drawing.script.now c.at 0 ∙ ap (λ n. get_or drawing.script.now n 0) (let z : c.at + 1 + 0 ≡ c.at + 1 = omega arith in z)

    second : get_or (drop (suc c.at) drawing.script.now) 1 0 ≡ get_or drawing.script.now (c.at + 2) 0
    second = byte drawing.script.now c.at 1 ∙ ap (λ n. get_or drawing.script.now n 0) (let z : c.at + 1 + 1 ≡ c.at + 2 = omega arith in z)

    worded : (k l : ℕ) → l ≡ word_at drawing.script.now (c.at + 1 + k) → word_at (drop (suc c.at) drawing.script.now) k ≡ l
    worded k l e = word-drop drawing.script.now (suc c.at) k ∙ ap (word_at drawing.script.now) (let z : suc c.at + k ≡ c.at + 1 + k = omega arith in z) ∙ sym e

    pub open-here : get_or drawing.script.now c.at 0 ≡ 1 → 2 ≤ length drawing.script.now - c.at - 1 → (n : Cursor) → n ≡ moved c (opening 0 0)
        → Open (get_or drawing.script.now (c.at + 1) 0) (get_or drawing.script.now (c.at + 2) 0) n ≡ step_at drawing c
    unfolding whole operands
    open-here e l n f = stepped (opening (get_or drawing.script.now (c.at + 1) 0) (get_or drawing.script.now (c.at + 2) 0)) n (all_there 1 _ e l (rw (first, second))) f

    pub attribute-here : get_or drawing.script.now c.at 0 ≡ 2 → 6 ≤ length drawing.script.now - c.at - 1 → (k : ℕ) → k ≡ word_at drawing.script.now (c.at + 3) → (n : Cursor)
        → n ≡ moved c (attribute 0 0 k)
        → Attribute (get_or drawing.script.now (c.at + 1) 0) (get_or drawing.script.now (c.at + 2) 0) k n ≡ step_at drawing c
    unfolding whole operands
    attribute-here e l k g n f = stepped (attribute (get_or drawing.script.now (c.at + 1) 0) (get_or drawing.script.now (c.at + 2) 0) k) n
        (all_there 2 _ e l (rw (first, second, worded 2 k (g ∙ ap (word_at drawing.script.now) (let z : c.at + 3 ≡ c.at + 1 + 2 = omega arith in z))))) f

    pub declaration-here : get_or drawing.script.now c.at 0 ≡ 3 → 6 ≤ length drawing.script.now - c.at - 1 → (k : ℕ) → k ≡ word_at drawing.script.now (c.at + 3) → (n : Cursor)
        → n ≡ moved c (declaration 0 0 k)
        → Declaration (get_or drawing.script.now (c.at + 1) 0) (get_or drawing.script.now (c.at + 2) 0) k n ≡ step_at drawing c
    unfolding whole operands
    declaration-here e l k g n f = stepped (declaration (get_or drawing.script.now (c.at + 1) 0) (get_or drawing.script.now (c.at + 2) 0) k) n
        (all_there 3 _ e l (rw (first, second, worded 2 k (g ∙ ap (word_at drawing.script.now) (let z : c.at + 3 ≡ c.at + 1 + 2 = omega arith in z))))) f

    pub reading-here : get_or drawing.script.now c.at 0 ≡ 4 → 9 ≤ length drawing.script.now - c.at - 1 → (o k : ℕ) → o ≡ word_at drawing.script.now (c.at + 2) → k ≡ word_at drawing.script.now (c.at + 6)
        → (n : Cursor) → n ≡ moved c (reading 0 0 0) → Reading (get_or drawing.script.now (c.at + 1) 0) o k n ≡ step_at drawing c
    unfolding whole operands
    reading-here e l o k d g n f = stepped (reading (get_or drawing.script.now (c.at + 1) 0) o k) n
        (all_there 4 _ e l (rw (
          first,
          worded 1 o (d ∙ ap (word_at drawing.script.now) (let z : c.at + 2 ≡ c.at + 1 + 1 = omega arith in z)),
          worded 5 k (g ∙ ap (word_at drawing.script.now) (let z : c.at + 6 ≡ c.at + 1 + 5 = omega arith in z)),
        ))) f

    pub text-here : get_or drawing.script.now c.at 0 ≡ 5 → 4 ≤ length drawing.script.now - c.at - 1 → (k : ℕ) → k ≡ word_at drawing.script.now (c.at + 1) → (n : Cursor)
        → n ≡ moved c (text k) → Text k n ≡ step_at drawing c
    unfolding whole operands
    text-here e l k g n f = stepped (text k) n
        (all_there 5 _ e l (rw (worded 0 k (g ∙ ap (word_at drawing.script.now) (let z : c.at + 1 ≡ c.at + 1 + 0 = omega arith in z))))) f

    pub other-here : get_or drawing.script.now c.at 0 ≡ 6 → (n : Cursor) → n ≡ moved c other → Other n ≡ step_at drawing c
    unfolding whole operands
    other-here e n f = stepped other n (all_there 6 _ e (omega arith) refl) f

    pub close-here : get_or drawing.script.now c.at 0 ≡ 7 → (n : Cursor) → n ≡ moved c closing → Close n ≡ step_at drawing c
    unfolding whole operands
    close-here e n f = stepped closing n (all_there 7 _ e (omega arith) refl) f

-- WHAT A STEP TELLS

pick-cases : {A : Type 0} (P : A → Type 0) (t : Bool) (f g : Unit {0} → A) → (t ≡ true → P (f tt)) → (t ≡ false → P (g tt)) → P (pick t f g)
pick-cases P true f g a b = a refl
pick-cases P false f g a b = b refl

-- A command has its first byte and n bytes of operands.
abbrev Sized : ℕ → Command → Type 0
Sized n (opening c k) = suc n ≡ 3
Sized n (attribute a k l) = suc n ≡ 7
Sized n (declaration a i l) = suc n ≡ 7
Sized n (reading k o l) = suc n ≡ 10
Sized n (text l) = suc n ≡ 5
Sized n other = suc n ≡ 1
Sized n closing = suc n ≡ 1
Sized n (broken b) = Unit {0}

of : (b k : ℕ) → eqb b k ≡ true → operands b ≡ operands k
of b k e = ap operands (eqb-true b k e)

whole-sized : (b : ℕ) (t : List ℕ) → Sized (operands b) (whole b t)
unfolding whole operands
whole-sized b t =
    pick-cases (Sized (operands b)) (eqb b 1) _ _ (λ e. ap suc (of b 1 e)) (λ _.
    pick-cases (Sized (operands b)) (eqb b 2) _ _ (λ e. ap suc (of b 2 e)) (λ _.
    pick-cases (Sized (operands b)) (eqb b 3) _ _ (λ e. ap suc (of b 3 e)) (λ _.
    pick-cases (Sized (operands b)) (eqb b 4) _ _ (λ e. ap suc (of b 4 e)) (λ _.
    pick-cases (Sized (operands b)) (eqb b 5) _ _ (λ e. ap suc (of b 5 e)) (λ _.
    pick-cases (Sized (operands b)) (eqb b 6) _ _ (λ e. ap suc (of b 6 e)) (λ _.
    pick-cases (Sized (operands b)) (eqb b 7) _ _ (λ e. ap suc (of b 7 e)) (λ _. tt)))))))

command-sized : (b : ℕ) (t : List ℕ) → Sized (operands b) (command b t)
unfolding command
command-sized b t = pick-cases (Sized (operands b)) (leb (operands b) (length (take (operands b) t))) _ _ (λ _. whole-sized b t) (λ _. tt)

skipped : (n : ℕ) (s : List ℕ) → commands_from n s ≡ commands (drop n s)
unfolding commands_from commands
skipped zero [] = refl
skipped (suc n) [] = refl
skipped zero (b ∷ t) = refl
skipped (suc n) (b ∷ t) = skipped n t

abbrev pub Told : Drawing → Cursor → Step → Type 0
Told drawing c (Open a b n) = Here drawing c (opening a b) n
Told drawing c (Attribute a b l n) = Here drawing c (attribute a b l) n
Told drawing c (Declaration a b l n) = Here drawing c (declaration a b l) n
Told drawing c (Reading k o l n) = Here drawing c (reading k o l) n
Told drawing c (Text l n) = Here drawing c (text l) n
Told drawing c (Other n) = Here drawing c other n
Told drawing c (Close n) = Here drawing c closing n
Told drawing c (Broken b) = commands_at drawing c ≡ broken b ∷ []
Told drawing c End = commands_at drawing c ≡ []

module _ (drawing : Drawing) (c : Cursor) where
  behind : (b m : ℕ) → suc (operands b) ≡ m → commands_from (operands b) (drop (suc c.at) drawing.script.now) ≡ commands (drop (c.at + m) drawing.script.now)
  behind b m e =
      skipped (operands b) (drop (suc c.at) drawing.script.now)
      ∙ ap commands (drop-drop (operands b) (suc c.at) drawing.script.now
      ∙ ap (λ k. drop k drawing.script.now) (let z : suc c.at + operands b ≡ c.at + m = omega (arith, e) in z))

  at-command : (b : ℕ) (x : Command) → Sized (operands b) x
      → commands_at drawing c ≡ follow x (λ u. commands_from (operands b) (drop (suc c.at) drawing.script.now))
      → Told drawing c (to_step x (moved c x))
  unfolding commands_at
  at-command b (opening a k) z e = record { more = e ∙ ap (λ l. opening a k ∷ l) (behind b 3 z); next = refl; further = omega arith }
  at-command b (attribute a k l) z e = record {
    more = e
        ∙ ap (λ r. attribute a k l ∷ r) (behind b 7 z);
    next = refl;
    further = omega arith;
  }
  at-command b (declaration a k l) z e = record {
    more = e
        ∙ ap (λ r. declaration a k l ∷ r) (behind b 7 z);
    next = refl;
    further = omega arith;
  }
  at-command b (reading k o l) z e = record { more = e ∙ ap (λ r. reading k o l ∷ r) (behind b 10 z); next = refl; further = omega arith }
  at-command b (text l) z e = record { more = e ∙ ap (λ r. text l ∷ r) (behind b 5 z); next = refl; further = omega arith }
  at-command b other z e = record { more = e ∙ ap (λ r. other ∷ r) (behind b 1 z); next = refl; further = omega arith }
  at-command b closing z e = record { more = e ∙ ap (λ r. closing ∷ r) (behind b 1 z); next = refl; further = omega arith }
  at-command b (broken a) z e = e

  pub told_of : Told drawing c (step_at drawing c)
  unfolding step_at commands_at commands commands_from
  told_of = go (leb (length drawing.script.now) c.at) refl
    where
      go : (t : Bool) → leb (length drawing.script.now) c.at ≡ t → Told drawing c (step_at drawing c)
      go true e = subst (Told drawing c) (ended drawing c (leb-true (length drawing.script.now) c.at e))
          (ap commands (drop_of_length-le drawing.script.now (leb-true (length drawing.script.now) c.at e)))
      go false e =
          let h : c.at < length drawing.script.now = leb-false (length drawing.script.now) c.at e in
          let b : ℕ = get_or drawing.script.now c.at 0 in
          subst (Told drawing c) (here drawing c h)
          (at-command b (command b (drop (suc c.at) drawing.script.now)) (command-sized b (drop (suc c.at) drawing.script.now)) (ap commands (drop-cons drawing.script.now c.at 0 h)))

  pub told : (a b : Step) → a ≡ b → a ≡ step_at drawing c → Told drawing c b
  told a b f e = subst (Told drawing c) (sym e ∙ f) told_of

-- The cursor of a step is in range.
pub goes : (drawing : Drawing) (a b : Step) → a ≡ b → Going drawing a → Going drawing b
goes drawing a b e g = subst (Going drawing) e g

-- PLACES

-- What stands at a cursor.
pub data Stands (drawing : Drawing) (c : Cursor) : Type 0 where
  nothing-there : commands_at drawing c ≡ [] → Stands drawing c
  broken-there : (b : ℕ) → commands_at drawing c ≡ broken b ∷ [] → Stands drawing c
  there : (x : Command) (n : Cursor) → Here drawing c x n → Stands drawing c

module _ (drawing : Drawing) (c : Cursor) where
  stands_of : (x : Step) → Told drawing c x → Stands drawing c
  stands_of (Open a b n) h = there _ n h
  stands_of (Attribute a b l n) h = there _ n h
  stands_of (Declaration a b l n) h = there _ n h
  stands_of (Reading k o l n) h = there _ n h
  stands_of (Text l n) h = there _ n h
  stands_of (Other n) h = there _ n h
  stands_of (Close n) h = there _ n h
  stands_of (Broken b) h = broken-there b h
  stands_of End h = nothing-there h

  pub what-stands : Stands drawing c
  what-stands = stands_of (step_at drawing c) (told_of drawing c)

-- A command that stands at a cursor is whole.
pub unbroken : {drawing : Drawing} {c : Cursor} (x : Command) {n : Cursor} → Here drawing c x n → is_broken x ≡ false
unbroken (opening a b) h = refl
unbroken (attribute a n l) h = refl
unbroken (declaration a i l) h = refl
unbroken (reading k o l) h = refl
unbroken (text l) h = refl
unbroken other h = refl
unbroken closing h = refl
unbroken {drawing} {c} (broken b) {n} h = absurd
    (let z : n.at ≡ c.at + 0 = ap (λ (k : Cursor). k.at) h.next in omega (arith, h.further, z))

module _ (drawing : Drawing) where
  -- The place j commands behind c, which stands k commands behind d.
  place-add : (k j : ℕ) (d c : Cursor) → place_from k d (commands_at drawing d) ≡ c → c.number ≡ d.number + k
      → place_from (k + j) d (commands_at drawing d) ≡ place_from j c (commands_at drawing c)
  unfolding place_from
  place-add zero j d c e f = rw (e, zero-add)
  place-add (suc k) j d c e f = rw suc-add (go (what-stands drawing d) (λ m g z. place-add k j m c g z))
    where
      go : Stands drawing d
          → ((m : Cursor) → place_from k m (commands_at drawing m) ≡ c → c.number ≡ m.number + k
          → place_from (k + j) m (commands_at drawing m) ≡ place_from j c (commands_at drawing c))
          → place_from (suc (k + j)) d (commands_at drawing d) ≡ place_from j c (commands_at drawing c)
      go (nothing-there z) ih = absurd (let y : d ≡ c = rw z at e in omega (arith, ap (λ (w : Cursor). w.number) y, f))
      go (broken-there b z) ih = absurd (let y : d ≡ c = rw z at e in omega (arith, ap (λ (w : Cursor). w.number) y, f))
      go (there y m w) ih =
          rw (w.more, unbroken y w, ← w.next)
          (ih m (rw (w.more, unbroken y w, ← w.next) at e) (omega (arith, ap (λ (v : Cursor). v.number) w.next, f)))

  -- The same from the first command on.
  pub place-behind : (j : ℕ) (c : Cursor) → Fit drawing c → place_of drawing (c.number + j) ≡ place_from j c (commands_at drawing c)
  unfolding place_of commands_at
  place-behind j c f = place-add c.number j at_start c (sym f.placed) (let z : c.number ≡ 0 + c.number = omega arith in z)

  placed-next : (c : Cursor) (x : Command) (n : Cursor) → Fit drawing c → Here drawing c x n → n ≡ place_of drawing n.number
  unfolding place_from
  placed-next c x n f h =
      sym (place-behind 1 c f ∙ rw (h.more, unbroken x h) (sym h.next))
      ∙ ap (place_of drawing) (let z : c.number + 1 ≡ n.number = omega (arith, ap (λ (v : Cursor). v.number) h.next) in z)

  pub placed_first : (c : Cursor) → c ≡ at_start → length drawing.script.now ≤ most_bytes → Fit drawing c
  unfolding place_of place_from
  placed_first c e h = subst (Fit drawing) (sym e)
      (record { size = h; at = omega arith; chars = omega arith; number = omega arith; texts = omega arith; placed = refl })

-- THE CURSOR BEHIND A COMMAND

counts : (x : Command) → counted x ≤ 1
counts (opening a b) = omega arith
counts (attribute a n l) = omega arith
counts (declaration a i l) = omega arith
counts (reading k o l) = omega arith
counts (text l) = omega arith
counts other = omega arith
counts closing = omega arith
counts (broken b) = omega arith

here_of : (drawing : Drawing) (c : Cursor) (x : Command) (n : Cursor) → is_broken x ≡ false → Told drawing c (to_step x n) → Here drawing c x n
here_of drawing c (opening a b) n e h = h
here_of drawing c (attribute a k l) n e h = h
here_of drawing c (declaration a i l) n e h = h
here_of drawing c (reading k o l) n e h = h
here_of drawing c (text l) n e h = h
here_of drawing c other n e h = h
here_of drawing c closing n e h = h
here_of drawing c (broken b) n e h = absurd (let z : ◌≡◌ {A = ℕ} 0 1 = cc in omega arith)

going_of : (drawing : Drawing) (x : Command) (n : Cursor) → Fit drawing n → Going drawing (to_step x n)
going_of drawing (opening a b) n f = f
going_of drawing (attribute a k l) n f = f
going_of drawing (declaration a i l) n f = f
going_of drawing (reading k o l) n f = f
going_of drawing (text l) n f = f
going_of drawing other n f = f
going_of drawing closing n f = f
going_of drawing (broken b) n f = tt

fit_next : (drawing : Drawing) (c : Cursor) (x : Command) (n : Cursor) → Fit drawing c → Here drawing c x n → c.at + bytes_of x ≤ length drawing.script.now
    → taken x < 2 ^ 32 → Fit drawing n
fit_next drawing c x n f h b l = record {
  size = f.size;
  at = omega (arith, at, b);
  chars = omega (arith, at, ap (λ (v : Cursor). v.chars) h.next, f.chars, h.further);
  number = omega (arith, at, ap (λ (v : Cursor). v.number) h.next, f.number, h.further);
  texts = omega (arith, at, ap (λ (v : Cursor). v.texts) h.next, f.texts, h.further, counts x);
  placed = placed-next drawing c x n f h;
}
  where
    at : n.at ≡ c.at + bytes_of x
    at = ap (λ (v : Cursor). v.at) h.next

-- A step to a whole command, with a cursor in range behind it.
pub passing : (drawing : Drawing) (c : Cursor) (x : Command) (n : Cursor) → Fit drawing c → to_step x n ≡ step_at drawing c → is_broken x ≡ false
    → c.at + bytes_of x ≤ length drawing.script.now → taken x < 2 ^ 32
    → (to_step x n ≡ step_at drawing c) × (Going drawing (to_step x n))
passing drawing c x n f e w b l =
    (e, going_of drawing x n (fit_next drawing c x n f (here_of drawing c x n w (told drawing c (to_step x n) (to_step x n) refl e)) b l))
