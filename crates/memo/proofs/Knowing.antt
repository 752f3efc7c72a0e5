-- What the table of ids says, from element to element. Assumes nothing.
use mathlib.Core.Path.{◌≡◌, refl, sym, ap, ◌∙◌, subst}
use mathlib.Core.List.{List, [], ◌∷◌}
use mathlib.Core.Bool.{Bool, true, false, not, false≢true}
use Prim.Native.Nat.{ℕ, ◌+◌, ◌*◌, ◌<◌, ◌≤◌}
use native.Mathlib.Decide.{ℕ_discrete}
use native.Mathlib.Omega.{arith}
use borrow.Author.Tests.{eqb-true, eq-eqb, ne_eqb, leb-true}
use lib.Dec.{eqb, leb}
use lib.ListN.{length}
use Rattle.model.specs.Base.{pick, and, same_bytes}
use Rattle.model.specs.Drawing.{Event, has_id, first_with_id}
use Rattle.script.specs.declared.drawing.Drawing.{Drawing}
use Rattle.script.specs.Step.{Fit, document}
use Rattle.walk.specs.declared.node.Opened.{Opened}
use Rattle.walk.specs.Values.{events_at}
use Rattle.walk.specs.Nodes.{element_of, node_at}
use Rattle.script.specs.declared.cursor.Cursor.{Cursor}
use Rattle.std.specs.Prelude.{Option}
use Rattle.memo.specs.declared.table.Look.{Look}
use Rattle.memo.specs.declared.table.Probe.{Probe}
use Rattle.memo.specs.Plain.{node_of, NodeFit}
use Rattle.memo.specs.Words.{unit, spacing, mark_in, slot_in, mark_of, print_in, print_of, probes, start_of, step_of, next_slot}
use Rattle.memo.specs.Words.{is_wanted, is_open, key_of, SlotPut}
use Rattle.memo.specs.Table.{within, Seen, another, empty, seen_nodes, seen_by, Outcome, found, free, over, probing, sees, probed_from}
use Rattle.memo.specs.Table.{probed}
use Rattle.memo.specs.Table.{seen_as, LookFit, outcome_as, ProbeFit, Placed, Held, Ahead, Told, Known, Memo}
use Rattle.memo.proofs.Ids.{id-miss}
use Rattle.memo.proofs.Parts.{unit-some, same-unit, same-mark, same-slot, same-spacing, same-open}
use Rattle.memo.proofs.Within.{Some, within_first}
use Rattle.memo.proofs.Probing.{OnThis, OnFound, found-holds, IsFree, IsEmpty, stable}

-- BYTES

pub same-eq : (a b : List ℕ) → same_bytes a b ≡ true → a ≡ b
unfolding same_bytes
same-eq [] [] h = refl
same-eq [] (y ∷ b) h = absurd (false≢true h)
same-eq (x ∷ a) [] h = absurd (false≢true h)
same-eq (x ∷ a) (y ∷ b) h = go (eqb x y) refl h (same-eq a b)
  where
    go : (t : Bool) → eqb x y ≡ t → pick t (λ u. same_bytes a b) (λ u. false) ≡ true → (same_bytes a b ≡ true → a ≡ b) → x ∷ a ≡ y ∷ b
    go true e k r = let p : x ≡ y = eqb-true x y e in let q : a ≡ b = r k in cc
    go false e k r = absurd (false≢true k)

pub same-itself : (a : List ℕ) → same_bytes a a ≡ true
unfolding same_bytes
same-itself [] = refl
same-itself (x ∷ a) = rw (eq-eqb x x refl) (same-itself a)

-- A TABLE THAT TELLS NOTHING

pub open-closed : (slots : List ℕ) (key : ℕ) → spacing slots ≡ 0 → is_open slots key ≡ false
unfolding is_open
open-closed slots key e =
    ap (λ b. and (leb 16 (length slots)) (and (not b) (is_wanted slots key))) (eq-eqb (spacing slots) 0 e)
    ∙ no (leb 16 (length slots))
  where
    no : (b : Bool) → and b false ≡ false
    no true = refl
    no false = refl

pub open-long : (slots : List ℕ) (key : ℕ) → is_open slots key ≡ true → 16 ≤ length slots
unfolding is_open
open-long slots key h = go (leb 16 (length slots)) refl h
  where
    go : (b : Bool) → leb 16 (length slots) ≡ b → and b (and (not (eqb (spacing slots) 0)) (is_wanted slots key)) ≡ true → 16 ≤ length slots
    go true q e = leb-true 16 (length slots) q
    go false q e = absurd (false≢true e)

pub open-some : (slots : List ℕ) (key : ℕ) → is_open slots key ≡ true → 0 < spacing slots
open-some slots key h = go (ℕ_discrete (spacing slots) 0)
  where
    go : Dec (spacing slots ≡ 0) → 0 < spacing slots
    go (yes e) = absurd (false≢true (sym (open-closed slots key e) ∙ h))
    go (no n) = omega (arith, n)

pub probed-shut : (drawing : Drawing) (slots id : List ℕ) → is_open slots (key_of id) ≡ false → probed drawing slots id ≡ over
probed-shut drawing slots id e = ap (λ b. pick b (λ u. probed_from (sees drawing slots id) (unit slots) (key_of id)) (λ u. over)) e

pub probed-open : (drawing : Drawing) (slots id : List ℕ) → is_open slots (key_of id) ≡ true
    → probed drawing slots id ≡ probed_from (sees drawing slots id) (unit slots) (key_of id)
probed-open drawing slots id e = ap (λ b. pick b (λ u. probed_from (sees drawing slots id) (unit slots) (key_of id)) (λ u. over)) e

pub known-closed : (drawing : Drawing) (slots : List ℕ) (next : ℕ) (xs ys : List Event) → spacing slots ≡ 0 → Known drawing slots next xs
    → Known drawing slots next ys
known-closed drawing slots next xs ys e h = record {
  marks = h.marks;
  used = h.used;
  told = λ id. subst (Told drawing slots next ys id) (sym (probed-shut drawing slots id (open-closed slots (key_of id) e))) tt;
}

-- WHAT IS SEEN

module _ (drawing : Drawing) (slots id : List ℕ) (i : ℕ) where
  pub seen-empty : slot_in slots i ≡ 0 → sees drawing slots id i ≡ empty
  seen-empty e = go (slot_in slots i) e
    where
      go : (v : ℕ) → v ≡ 0 → seen_by drawing slots id (key_of id) v ≡ empty
      go v e = rw (eq-eqb v 0 e) refl

  pub seen-print : (slot_in slots i ≡ 0 → ⊥) → (print_in (slot_in slots i) ≡ print_of (key_of id) → ⊥) → sees drawing slots id i ≡ another
  seen-print n m = go (slot_in slots i) n m
    where
      go : (v : ℕ) → (v ≡ 0 → ⊥) → (print_in v ≡ print_of (key_of id) → ⊥) → seen_by drawing slots id (key_of id) v ≡ another
      go v n m = rw (ne_eqb v 0 n, ne_eqb (print_in v) (print_of (key_of id)) m) refl

  pub seen-within : (slot_in slots i ≡ 0 → ⊥) → print_in (slot_in slots i) ≡ print_of (key_of id)
      → sees drawing slots id i
      ≡ seen_nodes (within (spacing slots) id (events_at drawing (mark_in slots (mark_of (slot_in slots i)))))
  seen-within n m = go (slot_in slots i) n m
    where
      go : (v : ℕ) → (v ≡ 0 → ⊥) → print_in v ≡ print_of (key_of id)
          → seen_by drawing slots id (key_of id) v ≡ seen_nodes (within (spacing slots) id (events_at drawing (mark_in slots (mark_of v))))
      go v n m = rw (ne_eqb v 0 n, eq-eqb (print_in v) (print_of (key_of id)) m) refl

  -- A slot with a mark is not empty.
  pub seen-taken : (slot_in slots i ≡ 0 → ⊥) → IsEmpty (sees drawing slots id i) → ⊥
  seen-taken n = go (ℕ_discrete (print_in (slot_in slots i)) (print_of (key_of id)))
    where
      nodes : (xs : List Event) → IsEmpty (seen_nodes xs) → ⊥
      nodes [] h = h
      nodes (x ∷ xs) h = h

      go : Dec (print_in (slot_in slots i) ≡ print_of (key_of id)) → IsEmpty (sees drawing slots id i) → ⊥
      go (yes m) h =
          nodes (within (spacing slots) id (events_at drawing (mark_in slots (mark_of (slot_in slots i)))))
          (subst IsEmpty (seen-within n m) h)
      go (no m) h = subst IsEmpty (seen-print n m) h

  not-empty : (IsEmpty (sees drawing slots id i) → ⊥) → slot_in slots i ≡ 0 → ⊥
  not-empty h e = h (subst IsEmpty (sym (seen-empty e)) tt)

  -- Whatever is seen of an id that is ahead of all marks is the first element with it.
  seen_first : (next : ℕ) → ((j : ℕ) → (slot_in slots j ≡ 0 → ⊥) → mark_of (slot_in slots j) < next)
      → ((m : ℕ) → m < next → first_with_id id (events_at drawing (mark_in slots m)) ≡ first_with_id id (document drawing))
      → OnThis (λ ys. ys ≡ first_with_id id (document drawing)) (sees drawing slots id i)
  seen_first next used ahead = go (ℕ_discrete (slot_in slots i) 0)
    where
      nodes : (xs : List Event) → (Some xs → xs ≡ first_with_id id (document drawing))
          → OnThis (λ ys. ys ≡ first_with_id id (document drawing)) (seen_nodes xs)
      nodes [] h = tt
      nodes (x ∷ xs) h = h tt

      more : (slot_in slots i ≡ 0 → ⊥) → Dec (print_in (slot_in slots i) ≡ print_of (key_of id))
          → OnThis (λ ys. ys ≡ first_with_id id (document drawing)) (sees drawing slots id i)
      more n (yes m) =
          subst (OnThis (λ ys. ys ≡ first_with_id id (document drawing))) (sym (seen-within n m))
          (nodes (within (spacing slots) id (events_at drawing (mark_in slots (mark_of (slot_in slots i)))))
          (λ w. within_first id (spacing slots) (events_at drawing (mark_in slots (mark_of (slot_in slots i)))) w
          ∙ ahead (mark_of (slot_in slots i)) (used i n)))
      more n (no m) = subst (OnThis (λ ys. ys ≡ first_with_id id (document drawing))) (sym (seen-print n m)) tt

      go : Dec (slot_in slots i ≡ 0) → OnThis (λ ys. ys ≡ first_with_id id (document drawing)) (sees drawing slots id i)
      go (yes e) = subst (OnThis (λ ys. ys ≡ first_with_id id (document drawing))) (sym (seen-empty e)) tt
      go (no n) = more n (ℕ_discrete (print_in (slot_in slots i)) (print_of (key_of id)))

-- WHAT THE TABLE SAYS

pub known-held : (drawing : Drawing) (slots : List ℕ) (next : ℕ) (xs : List Event) → Known drawing slots next xs → Held drawing slots
known-held drawing slots next xs h i n = h.marks (mark_of (slot_in slots i)) (h.used i n)

-- Other nodes are still to come: of an id whose search ends at a free slot they say the same.
pub known_on : (drawing : Drawing) (slots : List ℕ) (next : ℕ) (xs ys : List Event) → Known drawing slots next xs
    → ((id : List ℕ) → IsFree (probed drawing slots id) → first_with_id id ys ≡ first_with_id id xs) → Known drawing slots next ys
known_on drawing slots next xs ys h g =
    record { marks = h.marks; used = h.used; told = λ id. go id (probed drawing slots id) refl (h.told id) }
  where
    go : (id : List ℕ) (o : Outcome) → probed drawing slots id ≡ o → Told drawing slots next xs id o → Told drawing slots next ys id o
    go id (found zs) q t = t
    go id free q t = record { rest = g id (subst IsFree (sym q) tt) ∙ t.rest; marks = t.marks }
    go id over q t = tt

-- An element is passed: an id of its own is not looked for in vain.
pub known_past : (drawing : Drawing) (slots : List ℕ) (next : ℕ) (e : Opened) → Known drawing slots next (node_at drawing e)
    → ((id : List ℕ) → has_id id (element_of drawing e) ≡ true → IsFree (probed drawing slots id) → ⊥)
    → Known drawing slots next (events_at drawing e.inside)
known_past drawing slots next e h g = known_on drawing slots next _ _ h (λ id f. go id f (has_id id (element_of drawing e)) refl)
  where
    go : (id : List ℕ) → IsFree (probed drawing slots id) → (b : Bool) → has_id id (element_of drawing e) ≡ b
        → first_with_id id (events_at drawing e.inside) ≡ first_with_id id (node_at drawing e)
    go id f true q = absurd (g id q f)
    go id f false q = sym (id-miss id (events_at drawing e.inside) (element_of drawing e) q)

-- A SLOT TAKEN

-- The search for an id in a table with as many words and the same bits, by what is seen there.
same-path : (drawing : Drawing) (slots slots' id : List ℕ) → unit slots' ≡ unit slots → is_open slots' (key_of id) ≡ is_open slots (key_of id)
    → probed drawing slots' id
    ≡ pick (is_open slots (key_of id)) (λ u. probed_from (sees drawing slots' id) (unit slots) (key_of id)) (λ u. over)
same-path drawing slots slots' id l o =
    ap (λ b. pick b (λ u. probed_from (sees drawing slots' id) (unit slots') (key_of id)) (λ u. over)) o
    ∙ ap (λ n. pick (is_open slots (key_of id)) (λ u. probed_from (sees drawing slots' id) n (key_of id)) (λ u. over)) l

-- The same marks and the same slot: the same is seen.
pub same_seen : (drawing : Drawing) (slots slots' id : List ℕ) (i : ℕ) → spacing slots' ≡ spacing slots → slot_in slots' i ≡ slot_in slots i
    → ((slot_in slots i ≡ 0 → ⊥) → mark_in slots' (mark_of (slot_in slots i)) ≡ mark_in slots (mark_of (slot_in slots i)))
    → sees drawing slots' id i ≡ sees drawing slots id i
same_seen drawing slots slots' id i p v m = go (ℕ_discrete (slot_in slots i) 0)
  where
    more : (slot_in slots i ≡ 0 → ⊥) → Dec (print_in (slot_in slots i) ≡ print_of (key_of id))
        → sees drawing slots' id i ≡ sees drawing slots id i
    more n (yes q) =
        seen-within drawing slots' id i (λ e. n (sym v ∙ e)) (ap print_in v ∙ q)
        ∙ ap (λ w. seen_nodes (within (spacing slots') id (events_at drawing (mark_in slots' (mark_of w))))) v
        ∙ ap (λ c. seen_nodes (within (spacing slots') id (events_at drawing c))) (m n)
        ∙ ap (λ k. seen_nodes (within k id (events_at drawing (mark_in slots (mark_of (slot_in slots i)))))) p
        ∙ sym (seen-within drawing slots id i n q)
    more n (no q) =
        seen-print drawing slots' id i (λ e. n (sym v ∙ e)) (λ e. q (sym (ap print_in v) ∙ e)) ∙ sym (seen-print drawing slots id i n q)

    go : Dec (slot_in slots i ≡ 0) → sees drawing slots' id i ≡ sees drawing slots id i
    go (yes e) = seen-empty drawing slots' id i (v ∙ e) ∙ sym (seen-empty drawing slots id i e)
    go (no n) = more n (ℕ_discrete (print_in (slot_in slots i)) (print_of (key_of id)))

-- Marks that are set stay placed.
pub same-placed : (drawing : Drawing) (slots slots' : List ℕ) (m : ℕ) → unit slots' ≡ unit slots → mark_in slots' m ≡ mark_in slots m → Placed drawing slots m
    → Placed drawing slots' m
same-placed drawing slots slots' m u e h = record { low = omega (arith, u, h.low); fit = subst (Fit drawing) (sym e) h.fit }

-- An id that is ahead stays so.
pub same_ahead : (drawing : Drawing) (slots slots' : List ℕ) (next : ℕ) (xs : List Event) (id : List ℕ)
    → ((m : ℕ) → m < next → mark_in slots' m ≡ mark_in slots m) → Ahead drawing slots next xs id → Ahead drawing slots' next xs id
same_ahead drawing slots slots' next xs id e h = record {
  rest = h.rest;
  marks = λ m l. ap (λ c. first_with_id id (events_at drawing c)) (e m l) ∙ h.marks m l;
}

module _ (drawing : Drawing) (slots : List ℕ) (next : ℕ) (xs : List Event) (h : Known drawing slots next xs) (long : 16 ≤ length slots)
    (i v : ℕ) (slots' : List ℕ) (p : SlotPut slots i v slots') (z : slot_in slots i ≡ 0) (q : mark_of v < next) where
  some_words : 0 < unit slots
  some_words = unit-some slots long

  words : unit slots' ≡ unit slots
  words = same-unit _ _ _ _ p.apart

  pub put-spacing : spacing slots' ≡ spacing slots
  put-spacing = same-spacing _ _ _ _ p.apart (λ a b. omega (arith, a, some_words))

  pub put-marks : (m : ℕ) → 5 * m + 6 ≤ 3 * unit slots → mark_in slots' m ≡ mark_in slots m
  put-marks m l = same-mark _ _ _ _ p.apart m (λ a b. omega (arith, a, l))

  set-marks : (m : ℕ) → m < next → mark_in slots' m ≡ mark_in slots m
  set-marks m l = put-marks m (h.marks m l).low

  put-open : (key : ℕ) → is_open slots' key ≡ is_open slots key
  put-open key = same-open _ _ _ _ p.apart some_words (omega (arith, some_words)) key

  others : (j : ℕ) → (j ≡ i → ⊥) → slot_in slots' j ≡ slot_in slots j
  others j n = same-slot _ _ _ _ p.apart j (λ a b. n (omega (arith, a, b)))

  taken-apart : (j : ℕ) → (slot_in slots j ≡ 0 → ⊥) → j ≡ i → ⊥
  taken-apart j n e = n (ap (slot_in slots) e ∙ z)

  pub put-seen : (id : List ℕ) (j : ℕ) → (slot_in slots j ≡ 0 → ⊥) → sees drawing slots' id j ≡ sees drawing slots id j
  put-seen id j n =
      same_seen drawing slots slots' id j put-spacing (others j (taken-apart j n)) (λ m. set-marks _ (h.used j m))

  used' : (j : ℕ) → (slot_in slots' j ≡ 0 → ⊥) → mark_of (slot_in slots' j) < next
  used' j n = go (ℕ_discrete j i)
    where
      go : Dec (j ≡ i) → mark_of (slot_in slots' j) < next
      go (yes e) = subst (λ w. mark_of w < next) (sym (ap (slot_in slots') e ∙ p.here)) q
      go (no m) = subst (λ w. mark_of w < next) (sym (others j m)) (h.used j (λ e. n (others j m ∙ e)))

  -- What the searches say now.
  told' : (id : List ℕ) → Told drawing slots' next xs id (probed drawing slots' id)
  told' id = go (is_open slots (key_of id)) refl
    where
      -- The id is ahead of all marks.
      ahead : Ahead drawing slots next xs id → (o : Outcome) → OnFound (λ ys. ys ≡ first_with_id id (document drawing)) o
          → Told drawing slots' next xs id o
      ahead a (found ys) t = t
      ahead a free t = same_ahead drawing slots slots' next xs id set-marks a
      ahead a over t = tt

      stays : (IsFree (probed_from (sees drawing slots id) (unit slots) (key_of id)) → ⊥)
          → probed_from (sees drawing slots' id) (unit slots) (key_of id) ≡ probed_from (sees drawing slots id) (unit slots) (key_of id)
      stays n =
          stable (sees drawing slots id) (sees drawing slots' id) (next_slot (unit slots) (step_of (unit slots) (key_of id)))
          (λ m k. put-seen id m (not-empty drawing slots id m k)) probes (start_of (unit slots) (key_of id)) n

      by : (o : Outcome) → probed_from (sees drawing slots id) (unit slots) (key_of id) ≡ o → Told drawing slots next xs id o
          → Told drawing slots' next xs id (probed_from (sees drawing slots' id) (unit slots) (key_of id))
      by free e a =
          ahead a (probed_from (sees drawing slots' id) (unit slots) (key_of id))
          (found-holds (λ ys. ys ≡ first_with_id id (document drawing)) (sees drawing slots' id)
          (next_slot (unit slots) (step_of (unit slots) (key_of id)))
          (λ m. seen_first drawing slots' id m next used'
          (λ k l. ap (λ c. first_with_id id (events_at drawing c)) (set-marks k l) ∙ a.marks k l)) probes
          (start_of (unit slots) (key_of id)))
      by (found ys) e t = subst (Told drawing slots' next xs id) (sym (stays (λ f. subst IsFree e f) ∙ e)) t
      by over e t = subst (Told drawing slots' next xs id) (sym (stays (λ f. subst IsFree e f) ∙ e)) t

      go : (b : Bool) → is_open slots (key_of id) ≡ b → Told drawing slots' next xs id (probed drawing slots' id)
      go true e =
          subst (Told drawing slots' next xs id) (sym (probed-open drawing slots' id (put-open (key_of id) ∙ e)
          ∙ ap (λ u. probed_from (sees drawing slots' id) u (key_of id)) words))
          (by (probed_from (sees drawing slots id) (unit slots) (key_of id)) refl
          (subst (Told drawing slots next xs id) (probed-open drawing slots id e) (h.told id)))
      go false e = subst (Told drawing slots' next xs id) (sym (probed-shut drawing slots' id (put-open (key_of id) ∙ e))) tt

  pub known-put : Known drawing slots' next xs
  known-put = record { marks = λ m l. same-placed drawing slots slots' m words (set-marks m l) (h.marks m l); used = used'; told = told' }

-- ONE LOOK, AND THE SEARCH

-- What the code finds, told.
pub found-told : (drawing : Drawing) (v : List Event) (r x : Option Opened) → r ≡ x → (node_of drawing r ≡ v) × NodeFit drawing r
    → (node_of drawing x ≡ v) × NodeFit drawing x
found-told drawing v r x t h = subst (λ y. (node_of drawing y ≡ v) × NodeFit drawing y) t h

module _ (drawing : Drawing) (slots id : List ℕ) (i v key : ℕ) (q : v ≡ slot_in slots i) (k : key ≡ key_of id) where
  pub look-empty : v ≡ 0 → empty ≡ sees drawing slots id i
  look-empty e = sym (seen-empty drawing slots id i (sym q ∙ e))

  pub look-print : (v ≡ 0 → ⊥) → (print_in v ≡ print_of key → ⊥) → another ≡ sees drawing slots id i
  look-print n m =
      sym (seen-print drawing slots id i (λ e. n (q ∙ e)) (λ e. m (ap print_in q ∙ e ∙ sym (ap print_of k))))

  pub look-nodes : (v ≡ 0 → ⊥) → print_in v ≡ print_of key → (c : Cursor) → c ≡ mark_in slots (mark_of v) → (n : ℕ) → n ≡ spacing slots
      → (ys : List Event) → ys ≡ within n id (events_at drawing c) → seen_nodes ys ≡ sees drawing slots id i
  look-nodes z m c e n l ys w =
      ap seen_nodes (w ∙ ap (λ d. within n id (events_at drawing d)) (e ∙ ap (λ a. mark_in slots (mark_of a)) q)
      ∙ ap (λ a. within a id (events_at drawing (mark_in slots (mark_of (slot_in slots i))))) l)
      ∙ sym (seen-within drawing slots id i (λ e. z (q ∙ e)) (sym (ap print_in q) ∙ m ∙ ap print_of k))

  -- The mark in the slot.
  pub look-placed : Held drawing slots → (v ≡ 0 → ⊥) → Placed drawing slots (mark_of v)
  look-placed h n = subst (λ a. Placed drawing slots (mark_of a)) (sym q) (h i (λ e. n (q ∙ e)))

-- One look, told.
pub look-told : (drawing : Drawing) (v : Seen) (r x : Look) → r ≡ x → (seen_as drawing r ≡ v) × LookFit drawing r
    → (seen_as drawing x ≡ v) × LookFit drawing x
look-told drawing v r x t h = subst (λ y. (seen_as drawing y ≡ v) × LookFit drawing y) t h

pub probe-told : (drawing : Drawing) (v : Outcome) (r x : Probe) → r ≡ x → (outcome_as drawing r ≡ v) × ProbeFit drawing r
    → (outcome_as drawing x ≡ v) × ProbeFit drawing x
probe-told drawing v r x t h = subst (λ y. (outcome_as drawing y ≡ v) × ProbeFit drawing y) t h

-- The search from its first slot on.
pub probe-first : (drawing : Drawing) (slots id : List ℕ) (key step i : ℕ) → key ≡ key_of id → is_open slots key ≡ true
    → step ≡ step_of (unit slots) key → i ≡ start_of (unit slots) key
    → probing (sees drawing slots id) (next_slot (unit slots) step) i probes ≡ probed drawing slots id
probe-first drawing slots id key step i k o e f =
    ap (λ n. probing (sees drawing slots id) (next_slot (unit slots) n) i probes) (e ∙ ap (step_of (unit slots)) k)
    ∙ ap (λ n. probing (sees drawing slots id) (next_slot (unit slots) (step_of (unit slots) (key_of id))) n probes)
    (f ∙ ap (start_of (unit slots)) k)
    ∙ sym (probed-open drawing slots id (sym (ap (is_open slots) k) ∙ o))

-- What the search in the table of a whole drawing says.
module _ (drawing : Drawing) (slots id : List ℕ) (m : Memo drawing slots) (o : Outcome) (q : o ≡ probed drawing slots id) where
  told_here : Told drawing slots m.next [] id o
  told_here = subst (Told drawing slots m.next [] id) (sym q) (m.known.told id)

  pub memo-found : (ys : List Event) → o ≡ found ys → ys ≡ first_with_id id (document drawing)
  memo-found ys e = subst (Told drawing slots m.next [] id) e told_here

  pub memo-free : o ≡ free → first_with_id id [] ≡ first_with_id id (document drawing)
  memo-free e = (subst (Told drawing slots m.next [] id) e told_here).rest
