-- What the searches for elements answer, as the model has it.
use Rattle.script.specs.declared.drawing.Drawing.{Drawing}
use Rattle.std.specs.Prelude.{ℕ, zero, Bool, false, List, [], Option, Some, None, eqb}
use Rattle.std.proofs.Math.Option as math
use Rattle.std.proofs.Math.Option.{none, some}
use Rattle.model.specs.Base.{pick, given, same_bytes}
use Rattle.model.specs.AId
use Rattle.model.specs.Drawing.{Part, Element, Event, Source, texts_in, attribute_in, first_with_id, number_of}
use Rattle.walk.specs.declared.node.Opened.{Opened}
use Rattle.walk.specs.Values.{events_at}

-- The texts inside an element that was looked for, at any depth.
abbrev pub texts_of : Drawing → Option Opened → List Source
texts_of drawing (Some e) = texts_in zero (events_at drawing e.inside)
texts_of drawing None = []

-- Are both parts there, with the same bytes?
abbrev pub same_parts : math.Option Part → math.Option Part → Bool
same_parts p q = given p (λ a. given q (λ b. same_bytes a.bytes b.bytes) (λ u. false)) (λ u. false)

-- The id by which links lead to the element: its first unprefixed one, if it is the first element with it.
unfoldable pub leading_id : List Event → Element → math.Option Part
leading_id all e =
    given (attribute_in 0 AId.Id e.attributes)
    (λ v. pick (eqb (number_of (first_with_id v.part.bytes all)) e.number) (λ u. some v.part) (λ u. none))
    (λ u. none)
