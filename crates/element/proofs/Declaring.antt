-- One declaration: what is stored for it. Assumes nothing.
use Prim.Native.Nat.{ℕ}
use mathlib.Core.Path.{◌≡◌}
use mathlib.Core.Bool.{Bool, true, false}
use mathlib.Core.List.{List, [], ◌∷◌}
use borrow.Author.Tests.{eq-eqb, ne_eqb}
use Rattle.script.specs.declared.drawing.Drawing.{Drawing}
use Rattle.std.proofs.Common.{Result, Ok}
use Rattle.refusal.specs.declared.Refusal.{Refusal}
use Rattle.model.specs.Base.{folded}
use Rattle.model.specs.AId
use Rattle.model.specs.Names.{font_resets, is_presentation}
use Rattle.model.specs.Drawing.{value_at}
use Rattle.model.specs.Element.{font_parts, is_read, write_declaration, marker}
use Rattle.walk.specs.declared.value.ValueAt.{ValueAt}
use Rattle.tree.specs.Lent.{read_of}
use Rattle.entries.specs.declared.Place.{Place}
use Rattle.entries.specs.declared.Value.{Value}
use Rattle.entries.specs.Space.{Space, Leaves, so_far, inserted}
use Rattle.element.specs.Font.{value_from, declaration_of, reset_as, parts_of, font_in, declared_in}
use Rattle.entries.proofs.Storing.{same_entries}

module _ (drawing : Drawing) (ns ats : List ℕ) (place : Place) (n important : ℕ) (v : ValueAt) where
  -- Is a kind read?
  abbrev pub read : ℕ → Bool
  read = is_read (read_of [] []) 0 0 (declaration_of drawing 0 0 v)

  module _ (s : Space ats place n) where
    pub no_size : read 9 ≡ false → Leaves ats place (font_in drawing ns place important v ats (so_far ats place n)) (Ok n) ats
    no_size e = rw e (same_entries ats place n s)

    pub no-family : read 9 ≡ true → read 10 ≡ false →
        Leaves ats place (font_in drawing ns place important v ats (so_far ats place n)) (Ok n) ats
    no-family e f = rw (e, f) (same_entries ats place n s)

  pub font-written : read 9 ≡ true → read 10 ≡ true → (r : Result ℕ Refusal) (m : List ℕ) →
      Leaves ats place
      (folded (parts_of drawing ns place important v ats)
      (folded (reset_as important) (so_far ats place n) font_resets) font_parts) r m →
      Leaves ats place (font_in drawing ns place important v ats (so_far ats place n)) r m
  font-written e f r m h = rw (e, f) h

  -- A declaration of that name.
  module _ (name : ℕ) where
    pub marker-written : name ≡ marker → (value : Value) → value ≡ value_from v → (r : Result ℕ Refusal) (m : List ℕ) →
        Leaves ats place
        (folded (inserted ns ats drawing.characters.now place important value) (so_far ats place n) (AId.MarkerStart ∷ AId.MarkerMid ∷ AId.MarkerEnd ∷ []))
        r m →
        Leaves ats place (declared_in ns place ats (so_far ats place n) (declaration_of drawing name important v)) r m
    unfolding write_declaration value_at
    marker-written e value same r m h = rw (eq-eqb name marker e) (rw same at h)

    pub as-font : (name ≡ marker → ⊥) → name ≡ AId.Font → (r : Result ℕ Refusal) (m : List ℕ) →
        Leaves ats place (font_in drawing ns place important v ats (so_far ats place n)) r m →
        Leaves ats place (declared_in ns place ats (so_far ats place n) (declaration_of drawing name important v)) r m
    unfolding write_declaration
    as-font o e r m h = rw (ne_eqb name marker o, eq-eqb name AId.Font e) h

    pub as-nothing : (name ≡ marker → ⊥) → (name ≡ AId.Font → ⊥) → is_presentation name ≡ false → Space ats place n →
        Leaves ats place (declared_in ns place ats (so_far ats place n) (declaration_of drawing name important v)) (Ok n) ats
    unfolding write_declaration
    as-nothing o f p s = rw (ne_eqb name marker o, ne_eqb name AId.Font f, p) (same_entries ats place n s)

    pub as-name : (name ≡ marker → ⊥) → (name ≡ AId.Font → ⊥) → is_presentation name ≡ true → (value : Value) → value ≡ value_from v →
        (r : Result ℕ Refusal) (m : List ℕ) → Leaves ats place (inserted ns ats drawing.characters.now place important value (so_far ats place n) name) r m →
        Leaves ats place (declared_in ns place ats (so_far ats place n) (declaration_of drawing name important v)) r m
    unfolding write_declaration value_at
    as-name o f p value same r m h = rw (ne_eqb name marker o, ne_eqb name AId.Font f, p) (rw same at h)
