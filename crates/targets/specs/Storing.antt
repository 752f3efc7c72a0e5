-- What storing a mark changes.
use Rattle.std.specs.Prelude.{◌≡◌, ℕ, ◌+◌, ◌-◌, ◌*◌, ◌/◌, ◌%◌, ◌<◌, List, length, get_or}
use Rattle.model.specs.Drawing.{Value}
use Rattle.model.specs.Tables.{Tree, attribute_id}
use Rattle.model.specs.Repair.{cut_name}
use Rattle.tree.specs.Lent.{read_of}
use Rattle.ids.specs.Chains.{next_set}
use Rattle.targets.specs.Targets.{mark_of, stored_mark}

-- What a turn at node m leaves: nothing is changed where it has no attribute a; else the mark x stands behind its importance.
pub record Stored (ns es : List ℕ) (a m x : ℕ) (es' : List ℕ) : Type 0 where
  pub none : attribute_id (read_of ns es) m a ≡ 0 → es' ≡ es
  pub some : (attribute_id (read_of ns es) m a ≡ 0 → ⊥) → es' ≡ next_set es (attribute_id (read_of ns es) m a - 1) x

-- The marks of the nodes before node m in pass k are stored.
pub record StoredBefore (chars : List ℕ) (values : List Value) (k : ℕ) (t : Tree) (m : ℕ) : Type 0 where
  pub marks : (i : ℕ) → i < m → stored_mark t (cut_name k) i ≡ mark_of chars values k t i

-- TWINS

-- The slot of a command's number, one of 512.
abbrev pub slot_of : ℕ → ℕ
slot_of number = number * 2654435769 % 4294967296 / 8388608

-- Two entries have the same value, of the same command.
pub record SameValue (es : List ℕ) (j l : ℕ) : Type 0 where
  pub command : get_or es (5 * j + 4) 0 ≡ get_or es (5 * l + 4) 0
  pub start : get_or es (5 * j + 2) 0 ≡ get_or es (5 * l + 2) 0
  pub size : get_or es (5 * j + 3) 0 ≡ get_or es (5 * l + 3) 0

-- Entry l has the value of entry j, which is no fixed one, and is the attribute a of a node before node m.
pub record Twin (ns es : List ℕ) (a m j l : ℕ) : Type 0 where
  pub node : ℕ
  pub before : node < m
  pub own : l + 1 ≡ attribute_id (read_of ns es) node a
  pub value : SameValue es l j
  pub drawn : get_or es (5 * j + 4) 0 ≡ 0 → ⊥
  pub inside : 5 * l + 4 < length es
