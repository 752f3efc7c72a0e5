-- Every string of a script that check takes lies within the characters. The proofs are in proofs/Theorems/Inside.antt.
use Rattle.std.specs.Prelude.{ℕ, ◌+◌, ◌≤◌}
use mathlib.Core.List.{List, [], ◌∷◌}
use Rattle.model.specs.Drawing.{Command, opening, attribute, declaration, reading, closing, broken, Part, Reading, Value}
use Rattle.model.specs.Drawing.{Attribute, Declaration, Element, Source}
use Rattle.model.specs.Theorems.Sim.{Every}

-- Every reading lies within its value; n is the length of the value that stands before.
abbrev pub Bounded : ℕ → List Command → Type 0
Bounded n [] = Unit {0}
Bounded n (reading k o l ∷ cs) = (o + l ≤ n) × Bounded n cs
Bounded n (attribute a s l ∷ cs) = Bounded l cs
Bounded n (declaration a i l ∷ cs) = Bounded l cs
Bounded n (opening c s ∷ cs) = Bounded 0 cs
Bounded n (Command.text l ∷ cs) = Bounded 0 cs
Bounded n (Command.other ∷ cs) = Bounded 0 cs
Bounded n (closing ∷ cs) = Bounded 0 cs
Bounded n (broken b ∷ cs) = Unit {0}

-- A part lies within that many characters.
abbrev pub LiesPart : ℕ → Part → Type 0
LiesPart size v = v.start + v.size ≤ size

-- A value and its readings do; its command counts from 1.
abbrev pub LiesValue : ℕ → Value → Type 0
LiesValue size v = (1 ≤ v.command) × LiesPart size v.part × Every (λ (r : Reading). LiesPart size r.part) v.readings

-- All values of an element do.
abbrev pub LiesElement : ℕ → Element → Type 0
LiesElement size e =
    Every (λ (a : Attribute). LiesValue size a.value) e.attributes × Every (λ (d : Declaration). LiesValue size d.value)
    e.declarations

-- A text does.
abbrev pub LiesText : ℕ → Source → Type 0
LiesText size a = a.start + a.size ≤ size
