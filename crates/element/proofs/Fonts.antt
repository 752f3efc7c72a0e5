-- The rows of a font declaration's tables, and its steps. Assumes nothing.
use Prim.Native.Nat.{ℕ, zero, suc, ◌+◌, ◌≤◌, ◌<◌}
use mathlib.Core.Path.{◌≡◌, refl, sym, ap, ◌∙◌}
use mathlib.Core.Bool.{Bool, true, false}
use mathlib.Core.List.{List, [], ◌∷◌, map}
use mathlib.Core.Option.{Option, none, some}
use native.Mathlib.Omega.{arith}
use Rattle.std.proofs.Common as std
use Rattle.std.proofs.Common.{Result, Ok, Some, None}
use Rattle.std.specs.Option.{is_some}
use Rattle.refusal.specs.declared.Refusal.{Refusal}
use lib.Dec.{eqb}
use lib.ListN.{length, get_or, drop}
use lib.Seq.{drop-nil}
use Rattle.model.specs.Base.{pick, given, Pair, ◌gives◌}
use Rattle.model.specs.Drawing.{Part, Reading, part_at, value_at, reading_of}
use Rattle.model.specs.Check.{most_bytes}
use Rattle.model.specs.Theorems.Sim.{Every}
use Rattle.model.specs.Theorems.Inside.{LiesPart}
use Rattle.script.specs.declared.drawing.Drawing.{Drawing}
use Rattle.walk.specs.declared.value.ValueAt.{ValueAt}
use Rattle.walk.specs.declared.value.Part as W
use Rattle.walk.specs.Values.{value_of, readings_in, part_of}
use Rattle.tree.specs.Lent.{read_of}
use Rattle.model.specs.Names.{font_resets}
use Rattle.model.specs.Tables.{Entry}
use Rattle.model.specs.Element.{font_parts, insert_entry, append_attribute, is_read}
use Rattle.entries.specs.declared.Place.{Place}
use Rattle.entries.specs.declared.Value.{Value}
use Rattle.entries.specs.Space.{Space, Leaves, so_far, Above, inserted}
use Rattle.element.specs.Font.{value_from, Held, declaration_of, reset_as, parts_of}
use Rattle.entries.proofs.Storing.{same_entries}
use Rattle.entries.proofs.Inserting.{inserts-more, append-on}
use Rattle.entries.proofs.Steps.{Steady}

-- The rows of a table as pairs.
abbrev pub pairs_of : List Pair → List (ℕ × ℕ)
pairs_of [] = []
pairs_of (r ∷ rows) = (r.key, r.value) ∷ pairs_of rows

-- Row k of a table, and what it is as a pair, whatever stands for a pair that is not there.
abbrev pub row_of : List Pair → ℕ → Pair
row_of rows k = get_or rows k (0 gives 0)

row-pair : (rows : List Pair) (k : ℕ) (d : ℕ × ℕ) → k < length (pairs_of rows) →
    row_of rows k ≡ ((get_or (pairs_of rows) k d).0 gives (get_or (pairs_of rows) k d).1)
row-pair [] k d h = absurd (omega arith)
row-pair (r ∷ rows) zero d h = refl
row-pair (r ∷ rows) (suc k) d h = row-pair rows k d (omega arith)

-- The rows from k on, the first of them as row k, and by its pair; behind the last there are none.
pub rows-at : (rows : List Pair) (k : ℕ) → k < length (pairs_of rows) → drop k rows ≡ row_of rows k ∷ drop (k + 1) rows
rows-at [] k h = absurd (omega arith)
rows-at (r ∷ rows) zero h = refl
rows-at (r ∷ rows) (suc k) h =
    let e : suc k + 1 ≡ suc (k + 1) = omega arith in
    rw e (rows-at rows k (omega arith))

pub rows-from : (rows : List Pair) (k : ℕ) (d : ℕ × ℕ) → k < length (pairs_of rows) →
    drop k rows ≡ ((get_or (pairs_of rows) k d).0 gives (get_or (pairs_of rows) k d).1) ∷ drop (k + 1) rows
rows-from rows k d h = rows-at rows k h ∙ ap (λ r. r ∷ drop (k + 1) rows) (row-pair rows k d h)

pub rows_end : (rows : List Pair) (k : ℕ) → length (pairs_of rows) ≤ k → drop k rows ≡ []
rows_end [] k h = drop-nil k
rows_end (r ∷ rows) zero h = absurd (omega arith)
rows_end (r ∷ rows) (suc k) h = rows_end rows k (omega arith)

-- Two tables beside each other as rows.
row-known : (keys values : List ℕ) (rows : List Pair) → map (λ r. r.key) rows ≡ keys → map (λ r. r.value) rows ≡ values → (k : ℕ) →
    record { key = get_or keys k 0; value = get_or values k 0 } ≡ row_of rows k
row-known keys values rows p q k = rw (← p, ← q) (go rows k)
  where
    go : (rows : List Pair) (k : ℕ) →
        record { key = get_or (map (λ r. r.key) rows) k 0; value = get_or (map (λ r. r.value) rows) k 0 } ≡ row_of rows k
    go [] k = refl
    go (r ∷ rows) zero = refl
    go (r ∷ rows) (suc k) = go rows k

-- Row k of the resets, and of the parts.
pub reset-row : (k : ℕ) → record {
  key = get_or (46 ∷ 48 ∷ 55 ∷ 45 ∷ 83 ∷ 44 ∷ 41 ∷ 49 ∷ 51 ∷ 52 ∷ 50 ∷ 53 ∷ []) k 0;
  value = get_or (3 ∷ 3 ∷ 3 ∷ 3 ∷ 3 ∷ 1 ∷ 2 ∷ 3 ∷ 3 ∷ 3 ∷ 3 ∷ 3 ∷ []) k 0;
} ≡ row_of font_resets k
unfolding font_resets
reset-row k = row-known _ _ font_resets refl refl k

pub part-row : (k : ℕ) → record {
  key = get_or (5 ∷ 6 ∷ 7 ∷ 8 ∷ 9 ∷ 10 ∷ []) k 0;
  value = get_or (45 ∷ 55 ∷ 48 ∷ 46 ∷ 43 ∷ 39 ∷ []) k 0;
} ≡ row_of font_parts k
unfolding font_parts
part-row k = row-known _ _ font_parts refl refl k

-- Pair k of a list, by the lists of what its pairs have.
pair-at : (ps : List (ℕ × ℕ)) (k : ℕ) → ((get_or ps k (0, 0)).0 gives (get_or ps k (0, 0)).1)
    ≡ record { key = get_or (map (λ p. p.0) ps) k 0; value = get_or (map (λ p. p.1) ps) k 0 }
pair-at [] k = refl
pair-at (p ∷ ps) zero = refl
pair-at (p ∷ ps) (suc k) = pair-at ps k

-- The rows from k on, the first of them by the pair that the code has: row k of the resets, and of the parts.
pub resets-from : (k : ℕ) → k < length (pairs_of font_resets) → drop k font_resets
    ≡ ((get_or (pairs_of font_resets) k (0, 0)).0 gives (get_or (pairs_of font_resets) k (0, 0)).1) ∷ drop (k + 1) font_resets
unfolding font_resets
resets-from k h =
    rows-at font_resets k h ∙ ap (λ r. r ∷ drop (k + 1) font_resets) (sym (pair-at (pairs_of font_resets) k ∙ reset-row k))

pub parts-from : (k : ℕ) → k < length (pairs_of font_parts) → drop k font_parts
    ≡ ((get_or (pairs_of font_parts) k (0, 0)).0 gives (get_or (pairs_of font_parts) k (0, 0)).1) ∷ drop (k + 1) font_parts
unfolding font_parts
parts-from k h =
    rows-at font_parts k h ∙ ap (λ r. r ∷ drop (k + 1) font_parts) (sym (pair-at (pairs_of font_parts) k ∙ part-row k))

-- A reset does not hang on the table.
pub resets-steady : (ats : List ℕ) (place : Place) (important : ℕ) → Steady (λ m. reset_as important) ats place
resets-steady ats place important = record {
  grows = λ m es x. inserts-more x.key es _;
  same = λ new n m o es x. refl;
}

-- A part of the font does not hang on what the element has.
pub parts-steady : (drawing : Drawing) (ns ats : List ℕ) (place : Place) (above : Above ns place) (important : ℕ) (v : ValueAt) →
    Steady (parts_of drawing ns place important v) ats place
parts-steady drawing ns ats place above important v = record {
  grows = λ m es row. grow m es row (reading_of row.key (value_of drawing v).readings);
  same = λ new n m o es row.
      ap (λ (f : ℕ → ℕ → ℕ → Part → ℕ → Option Entry). given (reading_of row.key (value_of drawing v).readings)
      (λ x. insert_entry row.value es (f place.tag row.value important x (value_of drawing v).command)) (λ u. es))
      (append-on ns ats drawing.characters.now place above new n m o);
}
  where
    grow : (m : List ℕ) (es : List Entry) (row : Pair) (o : Option Part) →
        length es ≤ length (given o (λ x. insert_entry row.value es
        (append_attribute (read_of ns m) place.parent place.tag row.value important x (value_of drawing v).command)) (λ u. es))
    grow m es row none = omega arith
    grow m es row (some x) = inserts-more row.value es _

-- A VALUE OF THE DRAWING

-- A reading that was found among readings that lie within so many characters.
among : (size k : ℕ) (rs : List Reading) → Every (λ (r : Reading). LiesPart size r.part) rs → (p : Part) → reading_of k rs ≡ some p →
    LiesPart size p
unfolding reading_of
among size k [] h p e = let z : ◌≡◌ {A = ℕ} 0 1 = cc in absurd (omega arith)
among size k (r ∷ rs) h p e = go (eqb r.kind k) e (among size k rs h.1 p)
  where
    go : (b : Bool) → pick b (λ u. some r.part) (λ u. reading_of k rs) ≡ some p → (reading_of k rs ≡ some p → LiesPart size p) →
        LiesPart size p
    go true q f = let same : r.part ≡ p = cc in rw (← same) h.0
    go false q f = f q

module _ (drawing : Drawing) (v : ValueAt) (h : Held drawing v) where
  pub held_whole : v.own.chars + v.len ≤ length drawing.characters.now
  unfolding value_at part_at
  held_whole = h.lies.1

  pub held_place : (v.own.chars ≤ most_bytes) × (v.own.number ≤ most_bytes)
  held_place = (omega (arith, held_whole, h.small), omega (arith, h.own.number, h.own.at, h.own.size))

  -- A part that was read lies within the characters.
  pub held-part : (k : ℕ) (x : W.Part) →
      some (part_at drawing.characters.now x.start x.len) ≡ reading_of k (readings_in drawing v.own.chars v.behind) →
      x.start + x.len ≤ length drawing.characters.now
  unfolding value_at part_at
  held-part k x e =
      among (length drawing.characters.now) k (readings_in drawing v.own.chars v.behind) h.lies.2
      (part_at drawing.characters.now x.start x.len) (sym e)

  -- The parts are read under the value's command.
  module _ (ns ats : List ℕ) (place : Place) (n important : ℕ) (row : Pair) where
    pub part-inserted : (x : W.Part) →
        some (part_at drawing.characters.now x.start x.len) ≡ reading_of row.key (readings_in drawing v.own.chars v.behind) →
        (whole : Value) → whole ≡ value_from v → (o : Result ℕ Refusal) (m : List ℕ) →
        Leaves ats place
        (inserted ns ats drawing.characters.now place important (record { start = x.start; size = x.len; command = whole.command })
        (so_far ats place n) row.value) o m →
        Leaves ats place (parts_of drawing ns place important v ats (so_far ats place n) row) o m
    unfolding value_at
    part-inserted x e whole w o m g =
        let command : whole.command ≡ v.own.number + 1 = ap (λ (y : Value). y.command) w in rw (← e, ← command) g

    pub part-passed : none ≡ reading_of row.key (readings_in drawing v.own.chars v.behind) → Space ats place n →
        Leaves ats place (parts_of drawing ns place important v ats (so_far ats place n) row) (Ok n) ats
    unfolding value_at
    part-passed e s = rw (← e) (same_entries ats place n s)

-- Is a kind read?
pub is-read : (drawing : Drawing) (v : ValueAt) (k : ℕ) (r : std.Option W.Part) →
    part_of drawing.characters.now r ≡ reading_of k (readings_in drawing v.own.chars v.behind) →
    is_some r ≡ is_read (read_of [] []) 0 0 (declaration_of drawing 0 0 v) k
unfolding value_at
is-read drawing v k (Some x) e = rw (← e) refl
is-read drawing v k None e = rw (← e) refl
