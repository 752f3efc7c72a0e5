-- Tables that differ in words of importance alone: what is read in them is the same. Assumes nothing.
use mathlib.Core.Path.{◌≡◌, refl, sym, ap, ◌∙◌}
use mathlib.Core.List.{List}
use Prim.Native.Nat.{ℕ, zero, suc, ◌+◌, ◌-◌, ◌*◌, ◌%◌, ◌<◌, ◌≤◌}
use native.Mathlib.Omega.{arith}
use native.Mathlib.Decide.{ℕ_discrete}
use lib.ListN.{length, get_or, length-set}
use lib.Seq.{get_or-set_same, get_or-set_other}
use Rattle.model.specs.AId
use Rattle.model.specs.Tables.{Tree, from_of, to_of, entry_at, value_of, find_entry, attribute_id}
use Rattle.model.specs.Repair.{element_id}
use Rattle.model.specs.Theorems.Kept.{KeptNode, KeptEntry, Tidy}
use Rattle.tree.specs.declared.Counts.{Counts}
use Rattle.tree.specs.Lent.{tree_of}
use Rattle.ids.specs.Chains.{next_set, Like}

pub like-itself : (n : ℕ) (es : List ℕ) → Like n es es
like-itself n es = record { long = refl; words = λ j k l d. refl; important = λ j. refl; behind = λ q l. refl }

-- One more entry has something behind its importance.
pub like-next : (n : ℕ) (es₀ es : List ℕ) → Like n es₀ es → (j x : ℕ) → j < n → 5 * n ≤ length es₀ → Like n es₀ (next_set es j x)
like-next n es₀ es w j x l h = record {
  long = length-set es (5 * j + 1) v ∙ w.long;
  words = λ i k a d. get_or-set_other es (5 * j + 1) (5 * i + k) v 0 (λ e. omega arith) ∙ w.words i k a d;
  important = λ i. go i (ℕ_discrete i j);
  behind = λ q a. get_or-set_other es (5 * j + 1) q v 0 (λ e. omega arith) ∙ w.behind q a;
}
  where
    v : ℕ
    v = get_or es (5 * j + 1) 0 % 2 + 2 * x

    even : (y : ℕ) → (y % 2 + 2 * x) % 2 ≡ y % 2
    even y = omega arith

    go : (i : ℕ) → Dec (i ≡ j) → get_or (next_set es j x) (5 * i + 1) 0 % 2 ≡ get_or es₀ (5 * i + 1) 0 % 2
    go i (yes e) =
        rw e
        (ap (λ (y : ℕ). y % 2) (get_or-set_same es (5 * j + 1) v 0 (omega (arith, w.long))) ∙ even (get_or es (5 * j + 1) 0)
        ∙ w.important j)
    go i (no d) = ap (λ (y : ℕ). y % 2) (get_or-set_other es (5 * j + 1) (5 * i + 1) v 0 (λ e. d (omega arith))) ∙ w.important i

module _ (n : ℕ) (es₀ es : List ℕ) (w : Like n es₀ es) (ns bs : List ℕ) (c : Counts) where
  -- The two trees.
  abbrev t : Tree
  t = tree_of ns es₀ bs c

  abbrev u : Tree
  u = tree_of ns es bs c

  like-find : (a j m : ℕ) → find_entry u a j m ≡ find_entry t a j m
  unfolding find_entry
  like-find a j zero = refl
  like-find a j (suc m) = rw (w.words j 0 (omega arith) (λ e. omega arith), like-find a (j + 1) m) refl

  pub like-id : (i a : ℕ) → attribute_id u i a ≡ attribute_id t i a
  unfolding attribute_id
  like-id i a = rw (like-find a (from_of t i) (to_of t i - from_of t i)) refl

  pub like-value : (chars : List ℕ) (j : ℕ) → value_of chars (entry_at u j) ≡ value_of chars (entry_at t j)
  unfolding value_of entry_at
  like-value chars j =
      rw (
        w.words j 2 (omega arith) (λ e. omega arith),
        w.words j 3 (omega arith) (λ e. omega arith),
        w.words j 4 (omega arith) (λ e. omega arith),
      ) refl

  pub like-element : (chars : List ℕ) (i : ℕ) → element_id chars u i ≡ element_id chars t i
  unfolding element_id
  like-element chars i = rw (like-id i AId.Id, like-value chars (attribute_id t i AId.Id - 1)) refl

-- What a build keeps true says nothing of importance.
module _ (size : ℕ) (es₀ es ns bs : List ℕ) (c : Counts) (w : Like c.attributes es₀ es) (g : Tidy size (tree_of ns es₀ bs c)) where
  like-entry : (j : ℕ) → KeptEntry size (entry_at (tree_of ns es₀ bs c) j) → KeptEntry size (entry_at (tree_of ns es bs c) j)
  unfolding entry_at
  like-entry j k =
      let name = w.words j 0 (omega arith) (λ e. omega arith) in
      let start = w.words j 2 (omega arith) (λ e. omega arith) in
      let size = w.words j 3 (omega arith) (λ e. omega arith) in
      let command = w.words j 4 (omega arith) (λ e. omega arith) in
      record {
        name = rw name k.name;
        fixed = λ e. rw (start, size) (k.fixed (sym command ∙ e));
        inside = λ e. rw (start, size) (k.inside (λ z. e (command ∙ z)));
      }

  like-node : (i : ℕ) → KeptNode (tree_of ns es₀ bs c) i → KeptNode (tree_of ns es bs c) i
  like-node i k = record {
    root = k.root;
    kind = k.kind;
    below = k.below;
    falls = k.falls;
    next = k.next;
    first = k.first;
    last = k.last;
    none = k.none;
    some = k.some;
    code = k.code;
    range = k.range;
    bytes = k.bytes;
  }

  pub like-tidy : Tidy size (tree_of ns es bs c)
  like-tidy = record {
    kept = record {
      fits = record {
        one = g.kept.fits.one;
        nodes = g.kept.fits.nodes;
        entries = omega (arith, g.kept.fits.entries, w.long);
        bytes = g.kept.fits.bytes;
      };
      nodes = λ i l. like-node i (g.kept.nodes i l);
      entries = λ j l. like-entry j (g.kept.entries j l);
    };
    coherent = g.coherent;
    ordered = g.ordered;
    unused = record {
      nodes = g.unused.nodes;
      attributes = λ q l. w.behind q l ∙ g.unused.attributes q l;
      text = g.unused.text;
    };
  }
