-- A value of the drawing as it stands in the script, and the steps of a font declaration.
use Rattle.std.specs.Prelude.{ℕ, ◌+◌, ◌≤◌, Bool, List, [], length}
use Rattle.std.proofs.Math.Option.{some}
use Rattle.model.specs.Base.{pick, and, folded, Pair}
use Rattle.model.specs.Names.{font_resets}
use Rattle.model.specs.Drawing.{Declaration}
use Rattle.model.specs.Tables.{Entry, fixed_entry}
use Rattle.model.specs.Check.{most_bytes}
use Rattle.model.specs.Element.{insert_entry, insert_part, font_parts, is_read, write_declaration}
use Rattle.model.specs.Theorems.Inside.{LiesValue}
use Rattle.script.specs.declared.drawing.Drawing.{Drawing}
use Rattle.script.specs.Step.{Fit}
use Rattle.walk.specs.declared.value.ValueAt.{ValueAt}
use Rattle.walk.specs.Values.{value_of}
use Rattle.tree.specs.Lent.{read_of}
use Rattle.entries.specs.declared.Place.{Place}
use Rattle.entries.specs.declared.Value.{Value}

-- The place, the length and the command of a value.
abbrev pub value_from : ValueAt → Value
value_from v = record { start = v.own.chars; size = v.len; command = v.own.number + 1 }

-- A value that can be taken: its cursors are in range, and with its readings it lies within the characters, which are at most 1,048,576.
pub record Held (drawing : Drawing) (v : ValueAt) : Type 0 where
  pub own : Fit drawing v.own
  pub behind : Fit drawing v.behind
  pub lies : LiesValue (length drawing.characters.now) (value_of drawing v)
  pub small : length drawing.characters.now ≤ most_bytes

-- The declaration of a value.
abbrev pub declaration_of : Drawing → ℕ → ℕ → ValueAt → Declaration
declaration_of drawing name important v = record { name = name; important = important; value = value_of drawing v }

-- One of the resets of a font declaration of that importance.
abbrev pub reset_as : ℕ → List Entry → Pair → List Entry
reset_as important es r = insert_entry r.key es (some (fixed_entry r.key important r.value))

-- A part of a font declaration, where nodes and attributes are lent.
abbrev pub parts_of : Drawing → List ℕ → Place → ℕ → ValueAt → List ℕ → List Entry → Pair → List Entry
parts_of drawing ns place important v ats =
    insert_part (read_of ns ats) place.parent place.tag (declaration_of drawing 0 important v)

-- What a font declaration makes of the element's entries.
abbrev pub font_in : Drawing → List ℕ → Place → ℕ → ValueAt → List ℕ → List Entry → List Entry
font_in drawing ns place important v ats es =
    let read : ℕ → Bool = is_read (read_of [] []) 0 0 (declaration_of drawing 0 0 v) in
    pick (and (read 9) (read 10))
    (λ w. folded (parts_of drawing ns place important v ats) (folded (reset_as important) es font_resets) font_parts) (λ w. es)

-- What a declaration makes of the element's entries.
abbrev pub declared_in : List ℕ → Place → List ℕ → List Entry → Declaration → List Entry
declared_in ns place ats es d = write_declaration (read_of ns ats) place.parent place.tag d es
