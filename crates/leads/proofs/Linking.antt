-- The link of an attribute, by the command of its entry. Assumes nothing.
use mathlib.Core.Path.{◌≡◌, refl, sym, ap, ◌∙◌}
use mathlib.Core.List.{[]}
use mathlib.Core.Option.{Option}
use native.Mathlib.Omega.{arith}
use Prim.Native.Nat.{ℕ, ◌+◌, ◌-◌}
use lib.ListN.{length}
use Rattle.model.specs.Drawing.{Part, reading_of, readings_of}
use Rattle.model.specs.Tables.{Tree, entry_word, entry_at, attribute_of}
use Rattle.model.specs.Repair.{readings_of_attribute, link_of}
use Rattle.model.proofs.Theorems.Inside.{all-inside}
use Rattle.model.proofs.Theorems.Images.{values-bare}
use Rattle.script.specs.declared.drawing.Drawing.{Drawing}
use Rattle.script.specs.declared.cursor.Cursor.{Cursor}
use Rattle.script.specs.Step.{place_of, Checked, document}
use Rattle.places.specs.Seeks.{readings_here}
use Rattle.places.proofs.Readings.{checked-readings}
use Rattle.tree.proofs.Entries.{taken, one-less}
use Rattle.leads.specs.Links.{values_of}

-- The attribute a of node i.
module _ (drawing : Drawing) (t : Tree) (a i : ℕ) where
  pub readings-absent : 0 ≡ attribute_of drawing.characters.now t i a → readings_of_attribute drawing.characters.now (values_of drawing) t a i ≡ []
  unfolding readings_of_attribute
  readings-absent e = rw (sym e)

  -- It is the entry j, and has the command n.
  module _ (j : ℕ) (e : j + 1 ≡ attribute_of drawing.characters.now t i a) (h : Checked drawing) (n : ℕ) (f : n ≡ entry_word t j 4) where
    by-command : readings_of_attribute drawing.characters.now (values_of drawing) t a i ≡ readings_of n (values_of drawing)
    unfolding readings_of_attribute entry_at
    by-command = rw (taken j e, one-less j e, ← f) refl

    pub readings-fixed : n ≡ 0 → readings_of_attribute drawing.characters.now (values_of drawing) t a i ≡ []
    readings-fixed z =
        by-command ∙ ap (λ (m : ℕ). readings_of m (values_of drawing)) z
        ∙ values-bare (length drawing.characters.now) (document drawing) (all-inside drawing.script.now drawing.characters.now h)

    pub readings-there : (m : ℕ) → n ≡ m + 1 → (c : Cursor) → c ≡ place_of drawing m
        → readings_here drawing c ≡ readings_of_attribute drawing.characters.now (values_of drawing) t a i
    readings-there m z c d =
        ap (readings_here drawing) d ∙ checked-readings drawing h m ∙ ap (λ (x : ℕ). readings_of x (values_of drawing)) (sym z)
        ∙ sym by-command

-- The link of that attribute, by the command n of its entry.
pub link-there : (drawing : Drawing) (t : Tree) (a i k j : ℕ) → j ≡ attribute_of drawing.characters.now t i a → Checked drawing → (j ≡ 0 → ⊥) →
    (n : ℕ) → n ≡ entry_word t (j - 1) 4 → (n ≡ 0 → ⊥) → (c : Cursor) → c ≡ place_of drawing (n - 1) → (p : Option Part) →
    p ≡ reading_of k (readings_here drawing c) → p ≡ link_of drawing.characters.now (values_of drawing) k t a i
link-there drawing t a i k j e h there n f z c d p q =
    let one : j - 1 + 1 ≡ attribute_of drawing.characters.now t i a = (let x : j - 1 + 1 ≡ j = omega arith in x) ∙ e in
    q ∙ ap (reading_of k) (readings-there drawing t a i (j - 1) one h n f (n - 1) (omega arith) c d)
