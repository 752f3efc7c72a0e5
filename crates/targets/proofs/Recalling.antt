-- The mark of a link with the same value as one before it. Assumes nothing.
use mathlib.Core.Path.{◌≡◌, refl, sym, ap, ◌∙◌, subst}
use mathlib.Core.Bool.{Bool, true, false}
use mathlib.Core.List.{List, []}
use Prim.Native.Nat.{ℕ, ◌+◌, ◌-◌, ◌*◌, ◌/◌}
use native.Mathlib.Omega.{arith}
use borrow.Author.Tests.{ne_eqb}
use lib.Dec.{eqb}
use lib.ListN.{get_or}
use Rattle.model.specs.Base.{pick, and, given, same_bytes}
use Rattle.model.specs.Drawing.{Reading, Value, readings_of, reading_of}
use Rattle.model.specs.Names.{is_possible_none, fixed_bytes}
use Rattle.model.specs.Tables.{Tree, entry_at, entry_word, value_of, value_at_entry, attribute_id, attribute_of}
use Rattle.model.specs.Repair.{readings_of_attribute, cut_name}
use Rattle.tree.specs.declared.Counts.{Counts}
use Rattle.tree.specs.Lent.{read_of}
use Rattle.tree.proofs.Alike.{id_same}
use Rattle.tree.proofs.Entries.{one-less}
use Rattle.targets.specs.Targets.{seen_of, pass_kind, mark_for, mark_of, stored_mark}
use Rattle.targets.specs.Storing.{StoredBefore, SameValue, Twin}

-- THE SAME MARK

module _ (chars : List ℕ) (values : List Value) (k : ℕ) (t : Tree) where
  -- The readings of an attribute that is there, by whether its value counts as absent.
  read-there : (x : ℕ) → (x ≡ 0 → ⊥) → (b : Bool)
      → let j : ℕ = pick (eqb x 0) (λ u. 0) (λ u. pick b (λ v. 0) (λ v. x)) in
      pick (eqb j 0) (λ u. []) (λ u. readings_of (entry_word t (j - 1) 4) values)
      ≡ pick b (λ u. []) (λ u. readings_of (entry_word t (x - 1) 4) values)
  read-there x h true = rw (ne_eqb x 0 h) refl
  read-there x h false = rw (ne_eqb x 0 h) (rw (ne_eqb x 0 h) refl)

  -- Does the value of the entry whose number plus 1 is x count as absent?
  abbrev absent : ℕ → Bool
  absent x = and (is_possible_none (cut_name k)) (same_bytes (value_at_entry chars t x) (fixed_bytes 1))

  value_same : (x y : ℕ) → SameValue t.attributes (x - 1) (y - 1) → value_at_entry chars t x ≡ value_at_entry chars t y
  unfolding value_of entry_at
  value_same x y v = rw (v.command, v.start, v.size) refl

  readings-same : (i m : ℕ) → (attribute_id t i (cut_name k) ≡ 0 → ⊥) → (attribute_id t m (cut_name k) ≡ 0 → ⊥)
      → SameValue t.attributes (attribute_id t i (cut_name k) - 1) (attribute_id t m (cut_name k) - 1)
      → readings_of_attribute chars values t (cut_name k) i ≡ readings_of_attribute chars values t (cut_name k) m
  unfolding readings_of_attribute attribute_of entry_at
  readings-same i m h g v =
      let x = attribute_id t i (cut_name k) in
      let y = attribute_id t m (cut_name k) in
      read-there x h (absent x)
      ∙ ap (λ (bs : List ℕ). pick (and (is_possible_none (cut_name k)) (same_bytes bs (fixed_bytes 1))) (λ u. [])
      (λ u. readings_of (entry_word t (x - 1) 4) values)) (value_same x y v)
      ∙ ap (λ (n : ℕ). pick (absent y) (λ u. []) (λ u. readings_of n values)) v.command
      ∙ sym (read-there y g (absent y))

  mark-same : (i m : ℕ) → (attribute_id t i (cut_name k) ≡ 0 → ⊥) → (attribute_id t m (cut_name k) ≡ 0 → ⊥)
      → SameValue t.attributes (attribute_id t i (cut_name k) - 1) (attribute_id t m (cut_name k) - 1)
      → mark_of chars values k t i ≡ mark_of chars values k t m
  unfolding mark_of
  mark-same i m h g v =
      ap (λ (rs : List Reading). given (reading_of (pass_kind k) rs) (λ p. mark_for chars t p.bytes) (λ u. 0)) (readings-same i m h g v)

-- What is stored for a value that is no fixed one.
stored_there : (t : Tree) (a i : ℕ) → (attribute_id t i a ≡ 0 → ⊥) → (entry_word t (attribute_id t i a - 1) 4 ≡ 0 → ⊥)
    → stored_mark t a i ≡ entry_word t (attribute_id t i a - 1) 1 / 2
unfolding stored_mark
stored_there t a i h g = rw (ne_eqb (attribute_id t i a) 0 h, ne_eqb (entry_word t (attribute_id t i a - 1) 4) 0 g) refl

-- Node m's mark in pass k is the one that is stored at a twin of its entry.
pub twin-mark : (chars : List ℕ) (values : List Value) (ns es : List ℕ) (c : Counts) (k m j name r x : ℕ) → name ≡ cut_name k
    → j + 1 ≡ attribute_id (read_of ns es) m name → Twin ns es name m j r
    → StoredBefore chars values k (seen_of ns es c) m → x ≡ get_or es (5 * r + 1) 0
    → x / 2 ≡ mark_of chars values k (seen_of ns es c) m
twin-mark chars values ns es c k m j name r x a e w s q =
    let t = seen_of ns es c in
    let i : ℕ = w.node in
    let own : r + 1 ≡ attribute_id t i (cut_name k) = w.own ∙ ap (attribute_id (read_of ns es) i) a ∙ id_same t i (cut_name k) in
    let mine : j + 1 ≡ attribute_id t m (cut_name k) = e ∙ ap (attribute_id (read_of ns es) m) a ∙ id_same t m (cut_name k) in
    let there : attribute_id t i (cut_name k) ≡ 0 → ⊥ = λ o. let z : r + 1 ≡ 0 = own ∙ o in omega (arith, z) in
    let here : attribute_id t m (cut_name k) ≡ 0 → ⊥ = λ o. let z : j + 1 ≡ 0 = mine ∙ o in omega (arith, z) in
    let l : attribute_id t i (cut_name k) - 1 ≡ r = one-less r own in
    let n : attribute_id t m (cut_name k) - 1 ≡ j = one-less j mine in
    let value : SameValue es (attribute_id t i (cut_name k) - 1) (attribute_id t m (cut_name k) - 1) =
    subst (SameValue es (attribute_id t i (cut_name k) - 1)) (sym n) (subst (λ (y : ℕ). SameValue es y j) (sym l) w.value) in
    ap (λ (y : ℕ). y / 2) (q ∙ ap (λ (y : ℕ). get_or es (5 * y + 1) 0) (sym l))
    ∙ sym (stored_there t (cut_name k) i there (λ o. w.drawn (ap (λ (y : ℕ). get_or es (5 * y + 4) 0) (sym n) ∙ sym value.command ∙ o)))
    ∙ s.marks i w.before
    ∙ mark-same chars values k t i m there here value
