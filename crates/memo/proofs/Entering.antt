-- The table of ids as it is filled: elements entered, marks set. Assumes nothing.
use mathlib.Core.Path.{◌≡◌, refl, sym, ap, ◌∙◌, subst}
use mathlib.Core.List.{List, [], ◌∷◌}
use mathlib.Core.Bool.{Bool, true, false, false≢true}
use Prim.Native.Nat.{ℕ, ◌+◌, ◌*◌, ◌<◌, ◌≤◌}
use Rattle.std.specs.Prelude.{Option, Some, None, Result, Ok, Err}
use native.Mathlib.Omega.{arith}
use lib.ListN.{length}
use lib.Seq.{slice}
use Rattle.model.specs.Base.{same_bytes}
use Rattle.model.specs.Drawing.{Event, has_id}
use Rattle.script.specs.declared.drawing.Drawing.{Drawing}
use Rattle.script.specs.declared.cursor.Cursor.{Cursor}
use Rattle.walk.specs.declared.node.Opened.{Opened}
use Rattle.walk.specs.declared.value.ValueAt.{ValueAt}
use Rattle.walk.specs.declared.value.Part.{Part}
use Rattle.walk.specs.Values.{events_at, SameNodes, PartFit}
use Rattle.walk.specs.Nodes.{element_of, node_at}
use Rattle.memo.specs.Words.{unit, spacing, mark_in, slot_in, mark_of, print_in, print_of, probes, start_of, step_of, next_slot}
use Rattle.memo.specs.Words.{is_open, key_of, SlotPut}
use Rattle.memo.specs.Table.{within, seen_nodes, sees, probed_from, probed, free_for}
use Rattle.memo.specs.Table.{Known, Named, Ready, Kept, Entered, IdEntered}
use Rattle.memo.proofs.Ids.{IdIs, compared, has-none, value-fit}
use Rattle.memo.proofs.Parts.{unit-some, same-unit, same-open}
use Rattle.memo.proofs.Probing.{IsFree, IsThis, free-zero, none_free, now-found}
use Rattle.memo.proofs.Knowing.{same-eq, same-itself, open-long, open-some, probed-shut, probed-open}
use Rattle.memo.proofs.Knowing.{seen-within, seen-taken, known_past}
use Rattle.memo.proofs.Knowing.{put-spacing, put-marks, put-seen, known-put}

-- MARKS THAT STAY

pub kept_same : (slots : List ℕ) → Kept slots slots
kept_same slots = record { long = refl; spaced = refl; marks = λ m l. refl }

-- AN ID ENTERED

-- The word of a slot has its two parts.
mark-back : (m p : ℕ) → m < 2047 → mark_of (m + 2048 * p + 1) ≡ m
mark-back m p h = omega (arith, h)

print-back : (m p : ℕ) → m < 2047 → print_in (m + 2048 * p + 1) ≡ p
print-back m p h = omega (arith, h)

module _ (drawing : Drawing) (slots : List ℕ) (next m : ℕ) (e : Opened) (r : Ready drawing slots next m e) (few : m < 2047) (id : List ℕ)
    (w : Named drawing e id) (slots' : List ℕ) (h : IdEntered slots m id slots') where
  long : is_open slots (key_of id) ≡ true → 16 ≤ length slots
  long o = open-long slots (key_of id) o

  own-id : has_id id (element_of drawing e) ≡ true
  own-id = w id ∙ same-itself id

  -- Any id of the element is this one.
  is-named : (x : List ℕ) → has_id x (element_of drawing e) ≡ true → id ≡ x
  is-named x q = same-eq id x (sym (w x) ∙ q)

  -- The search for it does not end at a free slot: then the element is passed.
  past : (slots'' : List ℕ) → Known drawing slots'' next (node_at drawing e) → (IsFree (probed drawing slots'' id) → ⊥)
      → Known drawing slots'' next (events_at drawing e.inside)
  past slots'' k n =
      known_past drawing slots'' next e k (λ x q f. n (subst (λ y. IsFree (probed drawing slots'' y)) (sym (is-named x q)) f))

  -- Nothing is stored.
  stays : slots' ≡ slots → (IsFree (probed drawing slots id) → ⊥)
      → Kept slots slots' × Known drawing slots' next (events_at drawing e.inside)
  stays q n = (
    subst (Kept slots) (sym q) (kept_same slots),
    subst (λ t. Known drawing t next (events_at drawing e.inside)) (sym q) (past slots r.known n),
  )

  -- A slot is taken.
  module _ (i : ℕ) (o : is_open slots (key_of id) ≡ true) (q : free_for slots (key_of id) ≡ Some i) where
    v : ℕ
    v = m + 2048 * print_of (key_of id) + 1

    p : SlotPut slots i (m + 2048 * print_of (key_of id) + 1) slots'
    p = h.put i o q

    z : slot_in slots i ≡ 0
    z = free-zero (slot_in slots) _ i probes _ q

    low : mark_of (m + 2048 * print_of (key_of id) + 1) < next
    low = subst (λ n. n < next) (sym (mark-back m (print_of (key_of id)) few)) (r.set (open-some slots (key_of id) o))

    put-known : Known drawing slots' next (node_at drawing e)
    put-known = known-put drawing slots next (node_at drawing e) r.known (long o) i _ slots' p z low

    marks : (n : ℕ) → 5 * n + 6 ≤ 3 * unit slots → mark_in slots' n ≡ mark_in slots n
    marks = put-marks drawing slots next (node_at drawing e) r.known (long o) i _ slots' p z low

    spaced : spacing slots' ≡ spacing slots
    spaced = put-spacing drawing slots next (node_at drawing e) r.known (long o) i _ slots' p z low

    same-last : mark_in slots' m ≡ mark_in slots m
    same-last = marks m (r.known.marks m (r.set (open-some slots (key_of id) o))).low

    -- In that slot the element is seen.
    nodes-this : (xs : List Event) → (xs ≡ [] → ⊥) → IsThis (seen_nodes xs)
    nodes-this [] n = absurd (n refl)
    nodes-this (x ∷ xs) n = tt

    seen_here : IsThis (sees drawing slots' id i)
    seen_here =
        subst IsThis (sym
        (seen-within drawing slots' id i (λ a. let b : m + 2048 * print_of (key_of id) + 1 ≡ 0 = sym p.here ∙ a in omega (arith, b))
        (ap print_in p.here ∙ print-back m (print_of (key_of id)) few)
        ∙ ap (λ c. seen_nodes (within (spacing slots') id (events_at drawing c)))
        (ap (λ a. mark_in slots' (mark_of a)) p.here ∙ ap (mark_in slots') (mark-back m (print_of (key_of id)) few) ∙ same-last)
        ∙ ap (λ k. seen_nodes (within k id (events_at drawing (mark_in slots m)))) spaced))
        (nodes-this _ (r.seeing (open-some slots (key_of id) o) id own-id))

    not_free : IsFree (probed drawing slots' id) → ⊥
    not_free f =
        now-found (slot_in slots) (next_slot (unit slots) (step_of (unit slots) (key_of id))) (sees drawing slots id)
        (λ n k. seen-taken drawing slots id n k) (sees drawing slots' id) i
        (λ n k. put-seen drawing slots next (node_at drawing e) r.known (long o) i _ slots' p z low id n k) seen_here probes
        (start_of (unit slots) (key_of id)) q (subst IsFree same-search f)
      where
        same-search : probed drawing slots' id ≡ probed_from (sees drawing slots' id) (unit slots) (key_of id)
        same-search =
            probed-open drawing slots' id
            (same-open slots slots' _ _ p.apart (unit-some slots (long o)) (omega (arith, unit-some slots (long o))) (key_of id) ∙ o)
            ∙ ap (λ u. probed_from (sees drawing slots' id) u (key_of id)) (same-unit slots slots' _ _ p.apart)

    taken : Kept slots slots' × Known drawing slots' next (events_at drawing e.inside)
    taken = (record { long = p.apart.long; spaced = spaced; marks = marks }, past slots' put-known not_free)

  pub id-entered : Kept slots slots' × Known drawing slots' next (events_at drawing e.inside)
  id-entered = go (is_open slots (key_of id)) refl (free_for slots (key_of id)) refl
    where
      go : (b : Bool) → is_open slots (key_of id) ≡ b → (n : Option ℕ) → free_for slots (key_of id) ≡ n
          → Kept slots slots' × Known drawing slots' next (events_at drawing e.inside)
      go false o n q = stays (h.shut o) (λ f. subst IsFree (probed-shut drawing slots id o) f)
      go true o None q =
          stays (h.full o q)
          (λ f. none_free (slot_in slots) (next_slot (unit slots) (step_of (unit slots) (key_of id))) (sees drawing slots id)
          (λ n k. seen-taken drawing slots id n k) probes (start_of (unit slots) (key_of id)) q
          (subst IsFree (probed-open drawing slots id o) f))
      go true o (Some n) q = taken n o q

-- AN ELEMENT ENTERED

module _ (drawing : Drawing) (e : Opened) (r : Result ValueAt Cursor) (h : IdIs drawing e r) (slots : List ℕ) (next m : ℕ)
    (y : Ready drawing slots next m e) where
  -- One with an id.
  module _ (v : ValueAt) (t : r ≡ Ok v) (p : List ℕ) (g : p ≡ slice v.own.chars (v.own.chars + v.len) drawing.characters.now)
      (few : m < 2047) (slots' : List ℕ) (i : IdEntered slots m p slots') where
    named : Named drawing e p
    named x = sym (compared drawing x e r h v t p g (same_bytes p x) refl)

    pub entered-id : Entered drawing slots next e slots' v.behind
    entered-id =
        let w : Kept slots slots' × Known drawing slots' next (events_at drawing e.inside) =
        id-entered drawing slots next m e y few p named slots' i in
        let a : SameNodes drawing e.inside v.behind = (value-fit drawing e.inside r v t h.1).rest.nodes in
        record {
          nodes = a;
          kept = w.0;
          known = subst (Known drawing slots' next) (sym a.events) w.1;
        }

  -- One without.
  pub entered-none : (n : Cursor) → r ≡ Err n → Entered drawing slots next e slots n
  entered-none n t =
      let a : SameNodes drawing e.inside n = (has-none drawing [] e r h n t).nodes in
      record {
        nodes = a;
        kept = kept_same slots;
        known = subst (Known drawing slots next) (sym a.events)
            (known_past drawing slots next e y.known (λ x q f. no x q (has-none drawing x e r h n t).has-not));
      }
    where
      no : (x : List ℕ) → has_id x (element_of drawing e) ≡ true → has_id x (element_of drawing e) ≡ false → ⊥
      no x q f = false≢true (sym f ∙ q)

-- HOW AN ID IS ENTERED

module _ (slots : List ℕ) (m key : ℕ) (id : List ℕ) (k : key ≡ key_of id) where
  pub id-shut : is_open slots key ≡ false → IdEntered slots m id slots
  id-shut o =
      let f : is_open slots (key_of id) ≡ false = sym (ap (is_open slots) k) ∙ o in
      record { shut = λ a. refl; full = λ a b. refl; put = λ i a b. absurd (false≢true (sym f ∙ a)) }

  module _ (o : is_open slots key ≡ true) where
    free-by : (n : Option ℕ) → n ≡ free_for slots key → free_for slots (key_of id) ≡ n
    free-by n q = sym (ap (free_for slots) k) ∙ sym q

    pub id-full : None ≡ free_for slots key → IdEntered slots m id slots
    id-full q = record {
      shut = λ a. refl;
      full = λ a b. refl;
      put = λ i a b. let c : free_for slots (key_of id) ≡ None = free-by None q in absurd (cc);
    }

    pub id-put : (n : ℕ) → Some n ≡ free_for slots key → (slots' : List ℕ) → SlotPut slots n (m + 2048 * print_of key + 1) slots'
        → IdEntered slots m id slots'
    id-put n q slots' p = record {
      shut = λ a. absurd (false≢true (sym a ∙ sym (ap (is_open slots) k) ∙ o));
      full = λ a b. let c : free_for slots (key_of id) ≡ Some n = free-by (Some n) q in absurd (cc);
      put = λ i a b. subst (λ j. SlotPut slots j (m + 2048 * print_of (key_of id) + 1) slots')
          (let c : free_for slots (key_of id) ≡ Some n = free-by (Some n) q in let d : n ≡ i = cc in d)
          (subst (λ x. SlotPut slots n (m + 2048 * print_of x + 1) slots') k p);
    }

pub part-told : (r x : Option Part) → r ≡ x → PartFit r → PartFit x
part-told r x t h = subst PartFit t h
