-- The model's answers in the structs of this crate, and what reading a text asks.
use Rattle.std.specs.Prelude.{ℕ, ◌+◌, ◌*◌, ◌<◌, ◌≤◌, ◌≡◌, true, false, List, length, Option, Some, None, Result, Ok, Err}
use Rattle.std.specs.Option.{unwrap_or}
use Rattle.std.proofs.Math.Seq.{slice}
use Rattle.model.specs.Base.{pick}
use Rattle.model.specs.Tables.{Tree, TEXT, kind_of, from_of, to_of}
use Rattle.model.specs.Questions as Q
use Rattle.refusal.specs.declared.Refusal.{Refusal}
use Rattle.refusal.specs.Number.{number_of}
use Rattle.questions.specs.declared.Answer.{Answer}
use Rattle.questions.specs.declared.Part.{Part}

-- The model's answer: a refusal's number, or an index if there is one.
abbrev pub answer_of : Result (Option ℕ) Refusal → Q.Answer
answer_of (Err r) = record { number = number_of r; found = false; index = 0 }
answer_of (Ok None) = record { number = 0; found = false; index = 0 }
answer_of (Ok (Some i)) = record { number = 0; found = true; index = i }

-- An answer of the model for C; `found` is 0 or 1.
abbrev pub answered : Q.Answer → Answer
answered a = record { number = a.number; found = pick a.found (λ u. 1) (λ u. 0); index = a.index }

-- A part of the text table.
abbrev pub parted : Q.TextPart → Part
parted p = record { start = p.start; size = p.size }

-- A part that may not be there: nothing is empty.
abbrev pub part_or_empty : Option Part → Part
part_or_empty o = unwrap_or o (record { start = 0; size = 0 })

-- The bytes of that part.
abbrev pub bytes_of : Q.TextPart → List ℕ → List ℕ
bytes_of p bs = slice p.start (p.start + p.size) bs

-- Node i stands in the table, and a text's range is in order.
pub record TextReadable (t : Tree) (i : ℕ) : Type 0 where
  pub inside : 8 * i + 7 < length t.nodes
  pub order : kind_of t i ≡ TEXT → from_of t i ≤ to_of t i
