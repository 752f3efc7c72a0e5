-- What the code of check knows, as the model has it. The code keeps the kinds of a value's readings as bits; the model has them as a list.
use Rattle.std.specs.Prelude.{◌≡◌, ℕ, ◌+◌, ◌/◌, ◌%◌, ◌^◌, ◌<◌, ◌≤◌, Bool, List, eqb, length, Option, Some, None, Result, Ok, Err}
use Rattle.model.specs.Base.{among}
use Rattle.model.specs.Check as model
use Rattle.model.specs.Check.{check_from, first_of, tests_of, stepped}
use Rattle.model.specs.Drawing.{Command, taken}
use Rattle.script.specs.declared.drawing.Drawing.{Drawing}
use Rattle.script.specs.declared.cursor.Cursor.{Cursor}
use Rattle.script.specs.declared.check.Stage.{Stage}
use Rattle.script.specs.declared.check.Stage.TheVariants.{Attributes, Declarations, Children}
use Rattle.script.specs.declared.check.LastValue.{LastValue}
use Rattle.script.specs.declared.check.State.{State}
use Rattle.refusal.specs.declared.Refusal.{Refusal}
use Rattle.refusal.specs.Number.{number_of}
use Rattle.script.specs.Step.{Fit, commands_at}

abbrev pub stage_of : Stage → model.Stage
stage_of Attributes = model.attributes
stage_of Declarations = model.declarations
stage_of Children = model.children

-- Is the bit k of m set?
abbrev pub bit : ℕ → ℕ → Bool
bit m k = eqb (m / 2 ^ k % 2) 1

-- The bits of m are the kinds of the list.
pub record Kinds (m : ℕ) (ks : List ℕ) : Type 0 where
  pub small : m < 2048
  pub same : (k : ℕ) → k ≤ 10 → bit m k ≡ among k ks

abbrev pub last_of : Option LastValue → List ℕ → model.Last
last_of None ks = model.nothing
last_of (Some v) ks = model.value v.start v.size ks

abbrev pub Held : Option LastValue → List ℕ → Type 0
Held None ks = Unit {0}
Held (Some v) ks = Kinds v.kinds ks

-- The value lies inside the characters.
abbrev pub Inside : List ℕ → Option LastValue → Type 0
Inside chars None = Unit {0}
Inside chars (Some v) = v.start + v.size ≤ length chars

-- The model's state, for that many characters taken and kinds in that order.
abbrev pub state_of : State → ℕ → List ℕ → model.State
state_of s at ks = record { depth = s.depth; stage = stage_of s.stage; begun = s.begun; at = at; last = last_of s.last ks }

-- What the model's tests say of a command.
abbrev pub test_of : List ℕ → State → ℕ → List ℕ → Command → ℕ
test_of chars s at ks x = first_of (tests_of chars (length chars) (state_of s at ks) x)

-- A command that passed, with what is known behind it.
pub record Passing (chars : List ℕ) (s : State) (at : ℕ) (ks : List ℕ) (x : Command) (s' : State) : Type 0 where
  pub kinds : List ℕ
  pub held : Held s'.last kinds
  pub inside : Inside chars s'.last
  pub none : test_of chars s at ks x ≡ 0
  pub state : state_of s' (at + taken x) kinds ≡ stepped chars (length chars) (state_of s at ks) x

-- A command, rightly judged.
abbrev pub Judged : List ℕ → State → ℕ → List ℕ → Command → Result State Refusal → Type 0
Judged chars s at ks x (Ok s') = Passing chars s at ks x s'
Judged chars s at ks x (Err r) = number_of r ≡ test_of chars s at ks x

-- What a command that was judged leads to, with the cursor behind it.
abbrev pub onward_of : Result State Refusal → Cursor → Result (Option (State × Cursor)) Refusal
onward_of (Ok s) c = Ok (Some (s, c))
onward_of (Err r) c = Err r

-- What check gives from the cursor on.
abbrev pub check_at : Drawing → State → Cursor → List ℕ → ℕ
check_at drawing s c ks = check_from drawing.characters.now (length drawing.characters.now) (state_of s c.chars ks) (commands_at drawing c)

-- A turn that goes on.
pub record Onward (drawing : Drawing) (s : State) (c : Cursor) (ks : List ℕ) (s' : State) (c' : Cursor) : Type 0 where
  pub kinds : List ℕ
  pub held : Held s'.last kinds
  pub inside : Inside drawing.characters.now s'.last
  pub fit : Fit drawing c'
  pub further : c.at < c'.at
  pub same : check_at drawing s' c' kinds ≡ check_at drawing s c ks

-- A turn, rightly taken.
abbrev pub Turned : Drawing → State → Cursor → List ℕ → Result (Option (State × Cursor)) Refusal → Type 0
Turned drawing s c ks (Ok (Some x)) = Onward drawing s c ks x.0 x.1
Turned drawing s c ks (Ok None) = 0 ≡ check_at drawing s c ks
Turned drawing s c ks (Err r) = number_of r ≡ check_at drawing s c ks
