-- Entries of an element whose values are spelled by two lists of characters alike have the same value by both.
use Rattle.std.specs.Prelude.{ℕ, ◌+◌, ◌*◌, ◌≤◌, ◌<◌, ◌≡◌, Bool, List, eqb, length}
use Rattle.std.proofs.Math.Path.{refl}
use Rattle.std.proofs.Math.Bool.{true, false}
use Rattle.std.proofs.Common.{arith}
use Rattle.std.proofs.Math.Decide.{dec_lt}
use Rattle.std.proofs.Math.Seq.{slice}
use Rattle.model.specs.Base.{pick}
use Rattle.model.specs.Names.{fixed_bytes}
use Rattle.model.specs.Drawing.{Part, Element}
use Rattle.model.specs.Tables.{Tree, Entry, entry_at, value_of, parent_of, add_element}
use Rattle.model.specs.Element.{entries_of}
use Rattle.model.specs.Theorems.Sim.{Every}
use Rattle.model.proofs.Theorems.SameRepair.{fixed-safe}
use Rattle.model.specs.Theorems.Entries.{ReadFrom, Closed}
use Rattle.model.proofs.Theorems.Entries.{every-entry, old-entry, new-entry}

module _ (one two : List ℕ) where
  -- An entry that has the same value by both.
  abbrev pub Safe : Entry → Type 0
  Safe e = value_of one e ≡ value_of two e

  -- A string that both spell alike.
  abbrev pub Spelled : Part → Type 0
  Spelled v = slice v.start (v.start + v.size) one ≡ slice v.start (v.start + v.size) two

  -- All values and readings of an element are.
  abbrev pub SpelledElement : Element → Type 0
  SpelledElement e = ReadFrom (λ v c. Spelled v) e

  part-safe : (a i : ℕ) (v : Part) (c : ℕ) → Spelled v →
      Safe (record { name = a; important = i; start = v.start; size = v.size; command = c })
  unfolding value_of
  part-safe a i v c h = go (eqb c 0)
    where
      go : (b : Bool) → pick b (λ u. fixed_bytes v.start) (λ u. slice v.start (v.start + v.size) one)
          ≡ pick b (λ u. fixed_bytes v.start) (λ u. slice v.start (v.start + v.size) two)
      go true = refl
      go false = h

  closed : Closed Safe (λ v c. Spelled v)
  closed = record {
    made = λ a i v c x h. part-safe a i v c h;
    fixed = λ a i n x f. fixed-safe one two _ refl;
    over = λ v e h s. part-safe e.name e.important v.part v.command h;
  }

  pub safe-entries : (t : Tree) (p tag : ℕ) → ((i : ℕ) → i ≤ p → parent_of t i ≤ i) → ((j : ℕ) → Safe (entry_at t j)) →
      (g : Bool) (e : Element) →
      SpelledElement e → Every Safe (entries_of t p tag g e)
  safe-entries t p tag falls safe g e h = every-entry Safe (λ v c. Spelled v) closed t p tag falls (λ i a l f. safe _) g e h

  -- All entries are safe after an element was added with safe ones.
  pub add-safe : (c : ℕ) (es : List Entry) (p : ℕ) (t : Tree) → 5 * (t.attribute_count + length es) ≤ length t.attributes →
      Every Safe es →
      ((j : ℕ) → Safe (entry_at t j)) → (j : ℕ) → Safe (entry_at (add_element c es p t) j)
  add-safe c es p t room h safe j = go (dec_lt j t.attribute_count) (dec_lt j (t.attribute_count + length es))
    where
      go : Dec (j < t.attribute_count) → Dec (j < t.attribute_count + length es) → Safe (entry_at (add_element c es p t) j)
      go (yes a) d = rw (old-entry c es p t j (λ x y. omega arith)) (safe j)
      go (no a) (yes b) = new-entry c es p t Safe h room j (omega arith) b
      go (no a) (no b) = rw (old-entry c es p t j (λ x y. omega arith)) (safe j)
