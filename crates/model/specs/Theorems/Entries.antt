-- What holds of all that an element is read from, and so of its entries. The law is in proofs/Theorems/Entries.antt.
use Prim.Native.Nat.{ℕ, ◌≤◌}
use Rattle.std.proofs.Math.Path.{◌≡◌}
use Rattle.std.proofs.Math.Bool.{true}
use Rattle.model.specs.Names.{is_attribute}
use Rattle.model.specs.Drawing.{Part, Reading, Value, Attribute, Declaration, Element}
use Rattle.model.specs.Tables.{Entry}
use Rattle.model.specs.Tables.{fixed_entry}
use Rattle.model.specs.Element.{with_value}
use Rattle.model.specs.Theorems.Sim.{Every}

-- A number of a fixed value, as a fact.
abbrev pub Fixed : ℕ → Type 0
Fixed n = (1 ≤ n) × (n ≤ 18)

-- What holds of every value and reading of an element, with the command that its entry would have.
abbrev pub ReadFrom : (Part → ℕ → Type 0) → Element → Type 0
ReadFrom Q e =
    Every (λ (a : Attribute). Q a.value.part a.value.command) e.attributes
    × Every (λ (d : Declaration). Q d.value.part d.value.command × Every (λ (r : Reading). Q r.part d.value.command)
    d.value.readings)
    e.declarations

-- P holds of an entry made from a value of which Q holds, of a fixed value, and of an entry with another such value.
pub record Closed (P : Entry → Type 0) (Q : Part → ℕ → Type 0) : Type 0 where
  pub made : (a i : ℕ) (v : Part) (c : ℕ) → is_attribute a ≡ true → Q v c →
      P (record { name = a; important = i; start = v.start; size = v.size; command = c })
  pub fixed : (a i n : ℕ) → is_attribute a ≡ true → Fixed n → P (fixed_entry a i n)
  pub over : (v : Value) (e : Entry) → Q v.part v.command → P e → P (with_value v e)
