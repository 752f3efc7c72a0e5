-- Relations of what two builds make, and what holds of all that a drawing has. The simulation law is in proofs/Theorems/Sim.antt.
use Prim.Native.Nat.{ℕ}
use Rattle.std.specs.Prelude.{◌≡◌, true}
use mathlib.Core.List.{List, [], ◌∷◌}
use Rattle.model.specs.Names.{is_element}
use Rattle.model.specs.Drawing.{Element, Source, Event, begin, text, other, close}
use Rattle.model.specs.Tables.{Out, refused, done}

-- Both are refused with one number, or both are done and what they made is related.
pub data Rel {S T : Type 0} (R : S → T → Type 0) : Out S → Out T → Type 0 where
  both : (k : ℕ) → Rel R (refused k) (refused k)
  same : {s : S} {t : T} → R s t → Rel R (done s) (done t)

-- H holds of every element of a list.
abbrev pub Every : {A : Type 0} → (A → Type 0) → List A → Type 0
Every H [] = Unit {0}
Every H (x ∷ xs) = H x × Every H xs

-- G holds of every element of a document, and H of every text.
abbrev pub Events : (Element → Type 0) → (Source → Type 0) → List Event → Type 0
Events G H [] = Unit {0}
Events G H (begin e ∷ xs) = G e × Events G H xs
Events G H (text a ∷ xs) = H a × Events G H xs
Events G H (other ∷ xs) = Events G H xs
Events G H (close ∷ xs) = Events G H xs

-- A relation that speaks of a node under which more may be appended. What a step makes is related for every node that was so before it.
abbrev pub Carried : {S T : Type 0} → (ℕ → S → T → Type 0) → S → T → S → T → Type 0
Carried R s t s' t' = (p : ℕ) → R p s t → R p s' t'

-- The same, and for the new node too, whose index is n.
abbrev pub Grown : {S T : Type 0} → (ℕ → S → T → Type 0) → ℕ → S → T → S → T → Type 0
Grown R n s t s' t' = R n s' t' × Carried R s t s' t'

-- A code that an element of the tree may have.
abbrev pub IsCode : ℕ → Type 0
IsCode c = is_element c ≡ true
