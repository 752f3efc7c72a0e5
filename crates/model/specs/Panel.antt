-- WHAT THE SEALED PANEL RELIES ON, in its own words: three statements that follow from the definitions and from demand 3.
-- They are proved as `every-exchange-accepted`, `answers_stay` and `built-passes` in proofs/Theorems/Sealed.antt.
use Rattle.std.specs.Prelude.{ℕ, zero, ◌+◌, ◌*◌, ◌≤◌, ◌≡◌, true, false, List, [], ◌∷◌, length, get_or, replicate}
use Rattle.std.proofs.Math.Option.{some}
use Rattle.std.proofs.Math.Seq.{slice}
use Rattle.model.specs.Utf8.{is_utf8}
use Rattle.model.specs.Drawing.{Source, events, text_numbered, is_in_style}
use Rattle.model.specs.Tables.{Tree}
use Rattle.model.specs.Build.{Result, build, changed, exchange}
use Rattle.model.specs.Questions.{is_sound, attribute_question, find_attribute_question, element_by_id_question, TextPart, text_question}
use Rattle.model.specs.Noted.{notes}
use Rattle.model.specs.Demand3.{Spared}

-- WHAT IT TOOK AT ACCEPTANCE IT MUST TAKE UNTIL THE CELL IS SCRAPPED

-- An exchange that is asked for: the number of a text, and its new bytes.
pub record Request : Type 0 where
  pub number : ℕ
  pub bytes : List ℕ

-- It is valid in a drawing: there is such a text, outside any element named style, and the bytes are UTF-8 of the text's length.
pub record Valid (script chars : List ℕ) (q : Request) : Type 0 where
  pub place : Source
  pub text : text_numbered q.number (events script chars) ≡ some place
  pub outside : is_in_style q.number zero (events script chars) ≡ false
  pub size : length q.bytes ≡ place.size
  pub utf8 : is_utf8 q.bytes ≡ true

-- All requests of a sequence are valid in the drawing as it was built.
abbrev pub AllValid : List ℕ → List ℕ → List Request → Type 0
AllValid script chars [] = Unit {0}
AllValid script chars (q ∷ qs) = Valid script chars q × AllValid script chars qs

-- One exchange in the characters and tables that a call before it left.
abbrev pub asked : List ℕ → Result → Request → Result
asked script r q = exchange script r.characters q.number q.bytes r.tree.nodes r.tree.attributes r.tree.text

-- What a sequence of exchanges leaves, each made in what the one before it left.
unfoldable pub performed : List ℕ → Result → List Request → Result
performed script r [] = r
performed script r (q ∷ qs) = performed script (asked script r q) qs

-- The numbers that they give.
unfoldable pub numbers_given : List ℕ → Result → List Request → List ℕ
numbers_given script r [] = []
numbers_given script r (q ∷ qs) = (asked script r q).number ∷ numbers_given script (asked script r q) qs

-- The characters with all of them made.
unfoldable pub changed_by : List ℕ → List ℕ → List Request → List ℕ
changed_by script chars [] = chars
changed_by script chars (q ∷ qs) = changed_by script (changed script chars q.number q.bytes) qs

-- Whatever sequence of valid exchanges is made in a drawing that was built, each is accepted, and what stands at the end (number,
-- counts, characters, three tables) is the build of the drawing with all of them made.
abbrev pub EveryExchangeAccepted : Type 0
EveryExchangeAccepted =
    (script chars : List ℕ) (n m b : ℕ) → (build script chars n m b).number ≡ 0 → (qs : List Request) → AllValid script chars qs →
    (numbers_given script (build script chars n m b) qs ≡ replicate (length qs) 0)
    × (performed script (build script chars n m b) qs ≡ build script (changed_by script chars qs) n m b)

-- A FIGURE BESIDE ANOTHER GRIPPER

-- The bytes of a part of the text table.
abbrev pub part_bytes : Tree → TextPart → List ℕ
part_bytes t p = slice p.start (p.start + p.size) t.text

-- The answers about the tree s by the characters one are those about the tree r by the characters two: for every node, name and id,
-- and for the text of every node that stands under no text element which holds or quotes text t.
pub record SameAnswers (t : ℕ) (script one two : List ℕ) (n m b : ℕ) (s r : Tree) : Type 0 where
  pub attribute : (i a : ℕ) → attribute_question one s i a ≡ attribute_question two r i a
  pub find_attribute : (i a : ℕ) → find_attribute_question one s i a ≡ find_attribute_question two r i a
  pub element_by_id : (id : List ℕ) → element_by_id_question one s id ≡ element_by_id_question two r id
  pub text : (i : ℕ) → Spared (notes script one n m b) s t i →
      (text_question one s i ≡ text_question two r i) × (part_bytes s (text_question one s i) ≡ part_bytes r (text_question two r i))

-- TABLES THAT BUILD LEFT PASS THE QUESTIONS' TEST

-- What a build or an exchange that is accepted leaves: tables that pass the 40 test with the counts of the answer, all zero past
-- the counts.
pub record Passes (r : Result) : Type 0 where
  pub sound : is_sound r.characters r.tree ≡ true
  pub nodes : (q : ℕ) → 8 * r.tree.node_count ≤ q → get_or r.tree.nodes q 0 ≡ 0
  pub attributes : (q : ℕ) → 5 * r.tree.attribute_count ≤ q → get_or r.tree.attributes q 0 ≡ 0
  pub text : (q : ℕ) → r.tree.text_count ≤ q → get_or r.tree.text q 0 ≡ 0

-- So 40 comes only from tables that something else changed.
pub record BuiltPasses : Type 0 where
  pub build : (script chars : List ℕ) (n m b : ℕ) → (build script chars n m b).number ≡ 0 → Passes (build script chars n m b)
  pub exchange : (script chars : List ℕ) (t : ℕ) (new ns ats ts : List ℕ) → (exchange script chars t new ns ats ts).number ≡ 0 →
      Passes (exchange script chars t new ns ats ts)
