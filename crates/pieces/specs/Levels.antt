-- The spaces of the open levels as they are kept in words, a bit for each.
use Rattle.std.specs.Prelude.{ℕ, zero, suc, ◌+◌, ◌*◌, ◌-◌, ◌≤◌, ◌≡◌, List, length, get_or, Option, Some, None}
use Rattle.model.specs.Tables.{Tree, parent_of}
use Rattle.model.specs.Text.{XmlSpace, default, preserve, space_of}
use Rattle.text.specs.Spaces.{space_in}
use Rattle.pieces.specs.declared.Levels.{Levels}
use Rattle.text.specs.declared.XmlSpace as declared

-- WORDS

abbrev pub bit_of : XmlSpace → ℕ
bit_of default = 0
bit_of preserve = 1

-- Spaces from the second on.
abbrev pub behind : (ℕ → XmlSpace) → ℕ → XmlSpace
behind f j = f (suc j)

-- The first n of the spaces f, from the lowest bit on; the bit above them is 1.
abbrev pub word_of : ℕ → (ℕ → XmlSpace) → ℕ
word_of zero f = 1
word_of (suc n) f = 2 * word_of n (behind f) + bit_of (f 0)

-- The spaces behind the first n.
abbrev pub past : ℕ → (ℕ → XmlSpace) → ℕ → XmlSpace
past zero f = f
past (suc n) f = past n (behind f)

-- The first k words have spaces from the first of f on, the last of them the nearest.
abbrev pub Stored : List ℕ → ℕ → (ℕ → XmlSpace) → Type 0
Stored ws zero f = Unit {0}
Stored ws (suc k) f = (n : ℕ) × (get_or ws k 0 ≡ word_of n f) × Stored ws k (past n f)

-- What is remembered are the first of the spaces f; there are 32 words.
pub record Told (v : Levels) (f : ℕ → XmlSpace) : Type 0 where
  pub long : length v.words ≡ 32
  pub few : v.full ≤ 32
  pub many : ℕ
  pub top : v.top ≡ word_of many f
  pub stored : Stored v.words v.full (past many f)

-- Nothing is remembered, of any spaces.
abbrev pub Fresh : Levels → Type 0
Fresh v = (f : ℕ → XmlSpace) → Told v f

-- One space more.
abbrev pub Pushed : Levels → XmlSpace → Levels → Type 0
Pushed v s r = (f : ℕ → XmlSpace) → s ≡ f 0 → Told v (behind f) → Told r f

-- The lowest bit of a word with n spaces or more, and the others.
abbrev pub SplitFit : ℕ → declared.XmlSpace × ℕ → Type 0
SplitFit top x = (n : ℕ) (f : ℕ → XmlSpace) → top ≡ word_of (suc n) f → (space_in x.0 ≡ f 0) × (x.1 ≡ word_of n (behind f))

-- One space less.
abbrev pub AboveFit : Levels → Option declared.XmlSpace → Levels → Type 0
AboveFit v (Some s) r = (f : ℕ → XmlSpace) → Told v f → (space_in s ≡ f 0) × Told r (behind f)
AboveFit v None r = Unit {0}

-- THE NODES ABOVE

-- The node j steps above the parent of p.
abbrev pub node_above : Tree → ℕ → ℕ → ℕ
node_above t p zero = parent_of t p - 1
node_above t p (suc j) = node_above t (parent_of t p - 1) j

abbrev pub space_above : List ℕ → Tree → ℕ → ℕ → XmlSpace
space_above chars t p j = space_of chars t (node_above t p j)

-- What is remembered are the spaces of the nodes above p.
abbrev pub Recalled : List ℕ → Tree → ℕ → Levels → Type 0
Recalled chars t p v = Told v (space_above chars t p)
