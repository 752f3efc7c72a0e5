-- A mark as it is found, and as it is read where it is stored. Assumes nothing.
use mathlib.Core.Path.{◌≡◌, refl, sym, ap, ◌∙◌}
use mathlib.Core.Bool.{Bool, true, false}
use mathlib.Core.List.{List, []}
use mathlib.Core.Option.{Option, none, some}
use Prim.Native.Nat.{ℕ, ◌+◌, ◌-◌, ◌/◌, ◌<◌, ◌≤◌}
use native.Mathlib.Omega.{arith}
use borrow.Author.Tests.{ne_eqb, ltb-false}
use lib.Dec.{eqb, ltb}
use mir.Val.{bool_byte}
use lib.ListN.{length}
use Rattle.model.specs.Base.{pick, or, given}
use Rattle.model.specs.Check.{check, check_from, starting, most_bytes}
use Rattle.model.specs.Drawing.{Part, Value, commands, reading_of, readings_of}
use Rattle.model.specs.Tables.{Tree, entry_at, entry_word, attribute_id, last_with_id, element_by_id}
use Rattle.model.specs.Repair.{readings_of_attribute, link_of, cut_name}
use Rattle.script.specs.declared.drawing.Drawing.{Drawing}
use Rattle.script.specs.declared.cursor.Cursor.{Cursor}
use Rattle.script.specs.Step.{Fit, at_start, Checked}
use Rattle.script.proofs.Commands.{placed_first}
use Rattle.tree.specs.declared.Counts.{Counts}
use Rattle.tree.specs.Lent.{read_of}
use Rattle.tree.proofs.Entries.{taken, one-less}
use Rattle.tree.proofs.Alike.{id_same, attribute-same, last-same}
use Rattle.targets.specs.Targets.{seen_of, pass_kind, mark_for, mark_of, stored_mark, Targeted}
use Rattle.targets.proofs.Marks.{for_some}

-- THE START

-- What check says of the script's length.
pub small : (drawing : Drawing) → Checked drawing → length drawing.script.now ≤ most_bytes
unfolding check
small drawing h = go (ltb most_bytes (length drawing.script.now)) refl h
  where
    go : (b : Bool) → ltb most_bytes (length drawing.script.now) ≡ b
        → pick (or b (ltb most_bytes (length drawing.characters.now))) (λ u. 1) (λ u. check_from drawing.characters.now (length drawing.characters.now) starting (commands drawing.script.now)) ≡ 0
        → length drawing.script.now ≤ most_bytes
    go true p q = let z : ◌≡◌ {A = ℕ} 1 0 = q in absurd (omega arith)
    go false p q = ltb-false _ _ p

-- The cursor at the start of a script that check takes.
pub start-fit : (drawing : Drawing) → Checked drawing → (c : Cursor) → c ≡ at_start → Fit drawing c
start-fit drawing h c e = placed_first drawing c e (small drawing h)

-- THE MARK OF AN ID

-- The element that was found, as its index plus 1, 0 for none.
module _ (chars ns es : List ℕ) (c : Counts) (id : List ℕ) where
  -- The tree.
  abbrev own : Tree
  own = seen_of ns es c

  -- It is the tree's.
  by-id : (w : ℕ) → w ≡ last_with_id chars (read_of ns es) id c.nodes → w ≡ element_by_id chars own id
  unfolding element_by_id
  by-id w e = e ∙ last-same own chars id c.nodes

  -- The mark is that of an element.
  pub found_some : (i : ℕ) → i + 1 ≡ last_with_id chars (read_of ns es) id c.nodes → i + 2 ≡ mark_for chars own id
  found_some i e =
      let d : i + 1 ≡ element_by_id chars own id = by-id (i + 1) e in
      omega (arith, d, for_some chars own id (λ z. omega (arith, d, z)))

  -- There is none: the mark is 1 for an empty id.
  pub found_none : 0 ≡ last_with_id chars (read_of ns es) id c.nodes → bool_byte (eqb (length id) 0) ≡ mark_for chars own id
  unfolding mark_for
  found_none e = rw (sym (by-id 0 e)) (as_number (eqb (length id) 0))
    where
      as_number : (b : Bool) → bool_byte b ≡ pick b (λ u. 1) (λ u. 0)
      as_number true = refl
      as_number false = refl

-- THE MARK OF A LINK

-- The tables' link is that of the tree.
pub link-seen : (chars : List ℕ) (values : List Value) (t : Tree) (k a i : ℕ)
    → link_of chars values k (read_of t.nodes t.attributes) a i ≡ link_of chars values k t a i
unfolding readings_of_attribute entry_at
link-seen chars values t k a i =
    ap (λ (j : ℕ). reading_of k (pick (eqb j 0) (λ u. []) (λ u. readings_of (entry_word t (j - 1) 4) values))) (attribute-same t chars i a)

-- The link of node m that was read, by the name and the kind of pass k.
module _ (chars : List ℕ) (values : List Value) (ns es : List ℕ) (c : Counts) (k m name kind : ℕ) (a : name ≡ cut_name k)
    (b : kind ≡ pass_kind k) where
  -- The mark of a link, if there is one.
  abbrev mark : Option Part → ℕ
  mark o = given o (λ v. mark_for chars (seen_of ns es c) v.bytes) (λ u. 0)

  -- It is the mark of the node.
  by-link : (o : Option Part) → o ≡ link_of chars values kind (read_of ns es) name m → mark o ≡ mark_of chars values k (seen_of ns es c) m
  unfolding mark_of
  by-link o e =
      ap mark
      (e ∙ link-seen chars values (seen_of ns es c) kind name m
      ∙ ap (λ (x : ℕ). link_of chars values x (seen_of ns es c) name m) b
      ∙ ap (λ (x : ℕ). link_of chars values (pass_kind k) (seen_of ns es c) x m) a)

  -- There is a link, and its id was looked for.
  pub mark-there : (v : Part) → some v ≡ link_of chars values kind (read_of ns es) name m → (p : List ℕ) → p ≡ v.bytes
      → (x : ℕ) → x ≡ mark_for chars (seen_of ns es c) p → x ≡ mark_of chars values k (seen_of ns es c) m
  mark-there v e p q x h = h ∙ ap (mark_for chars (seen_of ns es c)) q ∙ by-link (some v) e

  -- There is none.
  pub mark-nowhere : none ≡ link_of chars values kind (read_of ns es) name m → 0 ≡ mark_of chars values k (seen_of ns es c) m
  mark-nowhere e = by-link none e

-- A MARK THAT IS STORED

-- Node m's attribute a, looked for.
module _ (t : Tree) (a m : ℕ) where
  -- It is not there.
  pub stored-absent : 0 ≡ attribute_id t m a → 0 ≡ stored_mark t a m
  unfolding stored_mark
  stored-absent e = rw (sym e)

  module _ (j : ℕ) (e : j + 1 ≡ attribute_id t m a) (n : ℕ) (d : n ≡ entry_word t j 4) where
    -- It is a fixed value.
    pub stored-fixed : n ≡ 0 → 0 ≡ stored_mark t a m
    unfolding stored_mark
    stored-fixed y = rw (taken j e, one-less j e, ← d, y) refl

    -- It is neither, and the word of its importance was read.
    pub stored_there : (n ≡ 0 → ⊥) → (x : ℕ) → x ≡ entry_word t j 1 → x / 2 ≡ stored_mark t a m
    unfolding stored_mark
    stored_there y x q = rw (taken j e, one-less j e, ← d, ne_eqb n 0 y, q) refl

-- What is stored in the tables is what is stored in the tree.
pub stored-seen : (t : Tree) (a m : ℕ) → stored_mark (read_of t.nodes t.attributes) a m ≡ stored_mark t a m
unfolding stored_mark
stored-seen t a m =
    ap (λ (j : ℕ). pick (eqb j 0) (λ u. 0) (λ u. pick (eqb (entry_word t (j - 1) 4) 0) (λ v. 0) (λ v. entry_word t (j - 1) 1 / 2)))
    (id_same t m a)

-- It is the mark of the link.
pub stored-mark : (chars : List ℕ) (values : List Value) (ns es : List ℕ) (c : Counts) (k m name : ℕ) → name ≡ cut_name k → m < c.nodes
    → Targeted chars values k (seen_of ns es c) → (x : ℕ) → x ≡ stored_mark (read_of ns es) name m
    → x ≡ mark_of chars values k (seen_of ns es c) m
stored-mark chars values ns es c k m name a l w x e =
    e ∙ ap (λ (b : ℕ). stored_mark (read_of ns es) b m) a ∙ stored-seen (seen_of ns es c) (cut_name k) m ∙ w.marks m l
