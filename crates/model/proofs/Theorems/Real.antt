-- The texts that a note names are texts of the drawing.
use Rattle.std.specs.Prelude.{ℕ, ◌+◌, ◌≤◌, ◌<◌, ◌≡◌}
use Rattle.std.proofs.Math.Path.{refl}
use Rattle.std.proofs.Common.{ap, ◌∙◌, inl, inr, ne_eqb, eq-eqb}
use mathlib.Core.List.{List, [], ◌∷◌, map}
use Rattle.std.proofs.Math.Option.{Option, some}
use native.Mathlib.Omega.{arith}
use Rattle.model.specs.Drawing.{Command, opening, attribute, declaration, reading, closing, broken, commands, Source, Event, begin}
use Rattle.model.specs.Drawing.{text, other, close, Mark, past, events_from, events, text_numbered}
use Rattle.model.specs.Tables.{cleared}
use Rattle.model.specs.Parse.{plain}
use Rattle.model.specs.Noted.{Note, In, notes_of, noted_tree, notes}
use Rattle.model.proofs.Noted.{Any, texts-noted}
use Rattle.model.specs.Theorems.Sim.{Every, Events}

-- What follows of every text from two facts of it.
events-join : (H H' H'' : Source → Type 0) → ((a : Source) → H a → H' a → H'' a) → (xs : List Event) → Events Any H xs → Events Any H' xs →
    Events Any H'' xs
events-join H H' H'' f [] h g = tt
events-join H H' H'' f (begin e ∷ xs) h g = (tt, events-join H H' H'' f xs h.1 g.1)
events-join H H' H'' f (text a ∷ xs) h g = (f a h.0 g.0, events-join H H' H'' f xs h.1 g.1)
events-join H H' H'' f (other ∷ xs) h g = events-join H H' H'' f xs h g
events-join H H' H'' f (close ∷ xs) h g = events-join H H' H'' f xs h g

module _ (chars : List ℕ) where
  -- Texts count up.
  numbers-above : (n : ℕ) (m : Mark) → n ≤ m.texts → (cs : List Command) →
      Events Any (λ (a : Source). n < a.number) (events_from chars m cs)
  unfolding events_from
  numbers-above n m l [] = tt
  numbers-above n m l (opening c s ∷ cs) = (tt, numbers-above n (past m (opening c s)) (omega arith) cs)
  numbers-above n m l (attribute a s k ∷ cs) = numbers-above n (past m (attribute a s k)) (omega arith) cs
  numbers-above n m l (declaration a i k ∷ cs) = numbers-above n (past m (declaration a i k)) (omega arith) cs
  numbers-above n m l (reading k o i ∷ cs) = numbers-above n (past m (reading k o i)) (omega arith) cs
  numbers-above n m l (Command.text k ∷ cs) = (omega arith, numbers-above n (past m (Command.text k)) (omega arith) cs)
  numbers-above n m l (Command.other ∷ cs) = numbers-above n (past m Command.other) (omega arith) cs
  numbers-above n m l (closing ∷ cs) = numbers-above n (past m closing) (omega arith) cs
  numbers-above n m l (broken b ∷ cs) = tt

  -- So each is the text with its number.
  texts-real : (m : Mark) (cs : List Command) →
      Events Any (λ (a : Source). text_numbered a.number (events_from chars m cs) ≡ some a) (events_from chars m cs)
  unfolding events_from text_numbered
  texts-real m [] = tt
  texts-real m (opening c s ∷ cs) = (tt, texts-real (past m (opening c s)) cs)
  texts-real m (attribute a s k ∷ cs) = texts-real (past m (attribute a s k)) cs
  texts-real m (declaration a i k ∷ cs) = texts-real (past m (declaration a i k)) cs
  texts-real m (reading k o i ∷ cs) = texts-real (past m (reading k o i)) cs
  texts-real m (Command.text k ∷ cs) =
      let next = past m (Command.text k) in
      let xs = events_from chars next cs in (
        rw (eq-eqb (m.texts + 1) (m.texts + 1) refl) refl,
        events-join (λ (a : Source). text_numbered a.number xs ≡ some a) (λ (a : Source). m.texts + 1 < a.number) _
            (λ a h l. rw (ne_eqb (m.texts + 1) a.number (λ e. omega arith)) h) xs (texts-real next cs)
            (numbers-above (m.texts + 1) next (omega arith) cs),
      )
  texts-real m (Command.other ∷ cs) = texts-real (past m Command.other) cs
  texts-real m (closing ∷ cs) = texts-real (past m closing) cs
  texts-real m (broken b ∷ cs) = tt

every_in : (P : Note → Type 0) (ns : List Note) → Every P ns → (x : Note) → In x ns → P x
every_in P [] h x i = absurd i
every_in P (n ∷ ns) h x (inl e) = rw e h.0
every_in P (n ∷ ns) h x (inr i) = every_in P ns h.1 x i

listed : (f : Source → Option Source) (from : List Source) → Every (λ (a : Source). f a ≡ some a) from → map f from ≡ map some from
listed f [] h = refl
listed f (a ∷ more) h = ap (λ (o : Option Source). o ∷ map f more) h.0 ∙ ap (λ (l : List (Option Source)). some a ∷ l)
    (listed f more h.1)

pub notes-real : (script chars : List ℕ) (n m b : ℕ) (x : Note) → In x (notes script chars n m b) →
    map (λ (a : Source). text_numbered a.number (events script chars)) x.texts ≡ map some x.texts
unfolding notes events
notes-real script chars n m b x i =
    let all = events script chars in
    listed _ x.texts (every_in (λ (k : Note). Every (λ (a : Source). text_numbered a.number all ≡ some a) k.texts)
    (notes_of (noted_tree (plain chars) all (cleared n m b)))
    (texts-noted (λ (a : Source). text_numbered a.number all ≡ some a) (plain chars) all
    (texts-real chars (record { number = 0; at = 0; texts = 0 }) (commands script)) (cleared n m b)) x i)
