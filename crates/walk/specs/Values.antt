-- The attributes, declarations and readings from a cursor on, and what the walks over them answer, as the model has it.
use Rattle.std.specs.Prelude.{◌≡◌, ℕ, ◌<◌, ◌≤◌, List, [], ◌∷◌, Option, Some, None, Result, Ok, Err}
use Rattle.std.proofs.Math.Option as math
use Rattle.std.proofs.Math.Option.{none, some}
use Rattle.model.specs.Drawing as model
use Rattle.model.specs.Drawing.{Attribute, Declaration, Reading, Value, Event}
use Rattle.model.specs.Drawing.{value_at, attributes_at, declarations_at, readings_at, part_at, events_from}
use Rattle.script.specs.declared.drawing.Drawing.{Drawing}
use Rattle.script.specs.declared.cursor.Cursor.{Cursor}
use Rattle.script.specs.Step.{Fit, commands_at, mark_of, most_start}
use Rattle.walk.specs.declared.value.ValueAt.{ValueAt}
use Rattle.walk.specs.declared.value.Named.{Named}
use Rattle.walk.specs.declared.value.Part.{Part}
use Rattle.walk.specs.declared.value.ReadingAt.{ReadingAt}

-- FROM A CURSOR ON

-- The attributes of the element in which the cursor stands.
abbrev pub attributes_in : Drawing → Cursor → List Attribute
attributes_in drawing c = attributes_at drawing.characters.now (mark_of c) (commands_at drawing c)

-- Its declarations.
abbrev pub declarations_in : Drawing → Cursor → List Declaration
declarations_in drawing c = declarations_at drawing.characters.now (mark_of c) (commands_at drawing c)

-- The readings of a value that begins at a.
abbrev pub readings_in : Drawing → ℕ → Cursor → List Reading
readings_in drawing a c = readings_at drawing.characters.now a (commands_at drawing c)

-- The nodes of the document.
abbrev pub events_at : Drawing → Cursor → List Event
events_at drawing c = events_from drawing.characters.now (mark_of c) (commands_at drawing c)

-- A cursor c no nearer than another, with the same nodes from it on.
pub record SameNodes (drawing : Drawing) (from c : Cursor) : Type 0 where
  pub fit : Fit drawing c
  pub later : from.at ≤ c.at
  pub events : events_at drawing c ≡ events_at drawing from

-- The same declarations too.
pub record SameRest (drawing : Drawing) (from c : Cursor) : Type 0 where
  pub nodes : SameNodes drawing from c
  pub declarations : declarations_in drawing c ≡ declarations_in drawing from

-- ATTRIBUTES

-- The value of an attribute or of a declaration.
abbrev pub value_of : Drawing → ValueAt → Value
value_of drawing v = value_at drawing.characters.now (mark_of v.own) v.len (commands_at drawing v.behind)

-- The attributes from the next one on.
abbrev pub attributes_of : Drawing → Result Named Cursor → List Attribute
attributes_of drawing (Ok x) =
    record { name = x.name; namespace = x.qualifier; value = value_of drawing x.value } ∷ attributes_in drawing x.value.behind
attributes_of drawing (Err c) = []

-- The value of an attribute: behind it stand the other attributes, all declarations and all children.
pub record Attributed (drawing : Drawing) (from : Cursor) (v : ValueAt) : Type 0 where
  pub own : Fit drawing v.own
  pub rest : SameRest drawing from v.behind
  pub further : from.at < v.behind.at

-- Behind the last attribute: all declarations and all children.
pub record Unattributed (drawing : Drawing) (from c : Cursor) : Type 0 where
  pub rest : SameRest drawing from c
  pub none_left : attributes_in drawing c ≡ []

abbrev pub AttributeFit : Drawing → Cursor → Result Named Cursor → Type 0
AttributeFit drawing from (Ok x) = Attributed drawing from x.value
AttributeFit drawing from (Err c) = Unattributed drawing from c

-- An attribute that was looked for.
abbrev pub value_in : Drawing → Result ValueAt Cursor → math.Option Value
value_in drawing (Ok v) = some (value_of drawing v)
value_in drawing (Err c) = none

abbrev pub ValueFit : Drawing → Cursor → Result ValueAt Cursor → Type 0
ValueFit drawing from (Ok v) = Attributed drawing from v
ValueFit drawing from (Err c) = Unattributed drawing from c

-- Its readings can be asked for.
abbrev pub Readable : Drawing → Result ValueAt Cursor → Type 0
Readable drawing (Ok v) = Fit drawing v.own × Fit drawing v.behind
Readable drawing (Err c) = Unit {0}

-- DECLARATIONS

-- The declarations from the next one on.
abbrev pub declarations_of : Drawing → Result Named Cursor → List Declaration
declarations_of drawing (Ok x) =
    record { name = x.name; important = x.qualifier; value = value_of drawing x.value } ∷ declarations_in drawing x.value.behind
declarations_of drawing (Err c) = []

-- The value of a declaration: behind it stand the other declarations and all children.
pub record Declared (drawing : Drawing) (from : Cursor) (v : ValueAt) : Type 0 where
  pub own : Fit drawing v.own
  pub nodes : SameNodes drawing from v.behind
  pub further : from.at < v.behind.at

-- Behind the last declaration: all children.
pub record Undeclared (drawing : Drawing) (from c : Cursor) : Type 0 where
  pub nodes : SameNodes drawing from c
  pub none_left : declarations_in drawing c ≡ []

abbrev pub DeclarationFit : Drawing → Cursor → Result Named Cursor → Type 0
DeclarationFit drawing from (Ok x) = Declared drawing from x.value
DeclarationFit drawing from (Err c) = Undeclared drawing from c

-- READINGS

-- The readings of a value that begins at a, from the next one on.
abbrev pub readings_of : Drawing → ℕ → Option ReadingAt → List Reading
readings_of drawing a (Some x) =
    record { kind = x.kind; part = part_at drawing.characters.now x.part.start x.part.len } ∷ readings_in drawing a x.behind
readings_of drawing a None = []

-- Behind a reading that begins at o: all attributes, declarations and children that stood behind what was before it.
pub record Behind (drawing : Drawing) (from : Cursor) (o : ℕ) (n : Cursor) : Type 0 where
  pub rest : SameRest drawing from n
  pub attributes : attributes_in drawing n ≡ attributes_in drawing from
  pub further : from.at < n.at
  pub small : o ≤ most_start

abbrev pub ReadingFit : Drawing → Cursor → Option ReadingAt → Type 0
ReadingFit drawing from (Some x) = Behind drawing from x.part.start x.behind
ReadingFit drawing from None = Unit {0}

-- A part of the characters that was looked for.
abbrev pub part_of : List ℕ → Option Part → math.Option model.Part
part_of chars (Some p) = some (part_at chars p.start p.len)
part_of chars None = none

abbrev pub PartFit : Option Part → Type 0
PartFit (Some p) = p.start ≤ most_start
PartFit None = Unit {0}
