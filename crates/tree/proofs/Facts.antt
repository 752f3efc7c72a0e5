-- What reading tables asks, of tables with what a build keeps true (Kept), as those that pass the 40 test. Assumes nothing.
use Prim.Native.Nat.{ℕ, ◌+◌, ◌*◌, ◌<◌, ◌≤◌}
use native.Mathlib.Omega.{arith}
use lib.ListN.{length}
use Rattle.model.specs.Tables.{Tree, entry_at}
use Rattle.model.specs.Theorems.Kept.{Kept}
use Rattle.tree.specs.Lent.{read_of, Readable, ReadableIn, Climbable}

module _ (size : ℕ) (t : Tree) (s : Kept size t) (i : ℕ) (l : i < t.node_count) where
  inside : 8 * i + 7 < length t.nodes
  inside = omega (arith, s.fits.nodes)

  pub readable : Readable (read_of t.nodes t.attributes) i
  readable = record { inside = inside; range = λ k. omega (arith, s.fits.entries, ((s.nodes i l).range k).1) }

  pub readable-in : ReadableIn size (read_of t.nodes t.attributes) i
  unfolding entry_at
  readable-in = record { readable = readable; values = λ k j m. (s.entries j (omega (arith, ((s.nodes i l).range k).1))).inside }

pub climbable : (size : ℕ) (t : Tree) → Kept size t → (i : ℕ) → i < t.node_count → t.node_count ≤ 4294967295
    → Climbable (read_of t.nodes t.attributes) i
climbable size t s i l m = record {
  small = omega arith;
  placed = λ k h. record { inside = (readable size t s k (omega arith)).inside; falls = (s.nodes k (omega arith)).falls };
  readable = λ k h. readable size t s k (omega arith);
}
