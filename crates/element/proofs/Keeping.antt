-- What an element leaves of the facts that a build keeps: whoever appends one below another cites these. Assumes nothing.
use Prim.Native.Nat.{ℕ, ◌+◌, ◌≤◌, ◌<◌}
use mathlib.Core.Path.{◌≡◌, refl}
use mathlib.Core.Bool.{Bool, true, false}
use mathlib.Core.List.{List}
use native.Mathlib.Omega.{arith}
use borrow.Author.Tests.{leb-true, ltb-true}
use lib.Dec.{leb, ltb}
use lib.ListN.{length}
use Rattle.model.specs.Base.{pick}
use Rattle.model.specs.Names.{is_element}
use Rattle.model.specs.Drawing.{Element}
use Rattle.model.specs.Tables.{Tree, Entry, refused, done, most, node_room, attribute_room, add_element}
use Rattle.model.specs.Element.{entries_of, most_nodes, parse_svg_element}
use Rattle.model.specs.Theorems.Sim.{Every}
use Rattle.model.specs.Theorems.Entries.{Closed}
use Rattle.model.proofs.Theorems.Entries.{every-entry}
use Rattle.model.specs.Theorems.Inside.{LiesPart, LiesElement}
use Rattle.model.proofs.Theorems.Inside.{lies-read}
use Rattle.model.specs.Theorems.Kept.{KeptEntry, Kept, Tidy}
use Rattle.model.proofs.Theorems.Kept.{kept-attribute, last_within, tidy-element}
use Rattle.tree.specs.declared.Counts.{Counts}
use Rattle.tree.specs.Lent.{tree_of}
use Rattle.element.specs.Runs.{Ready}

-- The counts are words.
abbrev pub Few : Tree → Type 0
Few t = (t.node_count ≤ most) × (t.attribute_count ≤ most)

-- An element can be appended below any node that is there.
pub kept-ready : (size : ℕ) (ns ats bs : List ℕ) (c : Counts) → Kept size (tree_of ns ats bs c) → Few (tree_of ns ats bs c) → (p : ℕ) →
    p < c.nodes → Ready ns ats c p
kept-ready size ns ats bs c k few p l = record {
  below = l;
  few = few;
  nodes = k.fits.nodes;
  entries = k.fits.entries;
  falls = λ i b. (k.nodes i (omega arith)).falls;
  range = λ i b. (k.nodes i (omega arith)).range;
  last = last_within size (tree_of ns ats bs c) k p l;
}

kept-closed : (size : ℕ) → Closed (KeptEntry size) (λ v c. (c ≡ 0 → ⊥) × LiesPart size v)
kept-closed size = record {
  made = λ a i v c x h. record { name = x; fixed = λ z. absurd (h.0 z); inside = λ z. h.1 };
  fixed = λ a i n x f. record { name = x; fixed = λ z. (f.0, f.1, refl); inside = λ z. absurd (z refl) };
  over = λ v e h k. record { name = k.name; fixed = λ z. absurd (h.0 z); inside = λ z. h.1 };
}

-- What an element that was done leaves.
pub record Grown (size : ℕ) (t u : Tree) : Type 0 where
  pub tidy : Tidy size u
  pub few : Few u
  pub one : u.node_count ≡ t.node_count + 1

module _ (size : ℕ) (t : Tree) (g : Tidy size t) (tag : ℕ) (is : is_element tag ≡ true) (p : ℕ) (below : p < t.node_count) (i : Bool)
    (x : Element) (lies : LiesElement size x) where
  abbrev es : List Entry
  es = entries_of t p tag i x

  kept : Every (KeptEntry size) es
  kept =
      every-entry (KeptEntry size) _ (kept-closed size) t p tag (λ j b. (g.kept.nodes j (omega arith)).falls)
      (λ j a b z. kept-attribute size t g.kept j a (omega arith) z) i x (lies-read size x lies)

  grown : t.attribute_count + length es ≤ attribute_room t → t.node_count < node_room t → Grown size t (add_element tag es p t)
  unfolding attribute_room node_room add_element
  grown a b = record {
    tidy = tidy-element size t g tag es p is below (omega arith) (omega arith) kept;
    few = (omega arith, omega arith);
    one = refl;
  }

  pub element-grown : (u : Tree) → done u ≡ parse_svg_element x tag i p t → Grown size t u
  unfolding parse_svg_element
  element-grown u e =
      go (leb (t.attribute_count + length es) (attribute_room t)) (leb t.node_count most_nodes) (ltb t.node_count (node_room t)) refl
      refl e
    where
      go : (a b c : Bool) → leb (t.attribute_count + length es) (attribute_room t) ≡ a → ltb t.node_count (node_room t) ≡ c →
          done u ≡ pick a (λ v. pick b (λ v. pick c (λ w. done (add_element tag es p t)) (λ w. refused 22)) (λ v. refused 20)) (λ v.
          refused 23) →
          Grown size t u
      go true true true q r h =
          let same : u ≡ add_element tag es p t = cc in
          rw same (grown (leb-true _ _ q) (ltb-true _ _ r))
      go true true false q r h = let z : ◌≡◌ {A = ℕ} 0 1 = cc in absurd (omega arith)
      go true false c q r h = let z : ◌≡◌ {A = ℕ} 0 1 = cc in absurd (omega arith)
      go false b c q r h = let z : ◌≡◌ {A = ℕ} 0 1 = cc in absurd (omega arith)
