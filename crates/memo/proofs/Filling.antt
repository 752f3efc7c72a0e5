-- The filling of the table, from element to element. Assumes nothing.
use mathlib.Core.Path.{◌≡◌, refl, sym, ap, ◌∙◌, subst}
use mathlib.Core.List.{List, [], ◌∷◌}
use mathlib.Core.Bool.{Bool, true, false, false≢true}
use Prim.Native.Nat.{ℕ, zero, suc, ◌+◌, ◌-◌, ◌*◌, ◌<◌, ◌≤◌}
use native.Mathlib.Decide.{ℕ_discrete}
use native.Mathlib.Omega.{arith}
use lib.ListN.{length, get_or, set, replicate, length-set}
use lib.Seq.{get_or-set_same}
use Rattle.model.specs.Base.{pick}
use Rattle.model.specs.Check.{most_bytes}
use Rattle.model.specs.Drawing.{Event, begin, events, events_from, element_at, attributes_at, declarations_at, has_id, first_with_id}
use Rattle.script.specs.declared.drawing.Drawing.{Drawing}
use Rattle.script.specs.declared.cursor.Cursor.{Cursor}
use Rattle.script.specs.Step.{Fit, at_start, commands_at, document}
use Rattle.script.proofs.Commands.{placed_first}
use Rattle.std.specs.Prelude.{Result, Err}
use Rattle.walk.specs.declared.node.Opened.{Opened}
use Rattle.walk.specs.declared.value.ValueAt.{ValueAt}
use Rattle.walk.specs.Values.{events_at, SameNodes}
use Rattle.walk.specs.Nodes.{element_of, node_at, Standing}
use Rattle.walk.proofs.Walks.{stepped}
use Rattle.memo.specs.Words.{unit, spacing, mark_in, slot_in, mark_of, probes, start_of, step_of, next_slot}
use Rattle.memo.specs.Words.{is_open, key_of, Apart, RoomFor, MarkPut}
use Rattle.memo.specs.Table.{within, Outcome, sees, probed_from, probed}
use Rattle.memo.specs.Table as table
use Rattle.memo.specs.Table.{Placed, Ahead, Told, Known, Memo, Seeing, Ready, Kept, Entered, Follows, Filling, Blank}
use Rattle.memo.proofs.Ids.{IdIs, has-none}
use Rattle.memo.proofs.Parts.{unit-some, unit-low, same-unit, same-mark, same-slot, same-spacing, same-open, apart-set, apart-join}
use Rattle.memo.proofs.Within.{Some, within-hit, within-less}
use Rattle.memo.proofs.Probing.{OnThis, OnFound, found-holds, probing-same}
use Rattle.memo.proofs.Knowing.{
  open-closed,
  probed-shut,
  probed-open,
  known-closed,
  seen-empty,
  known_on,
  known_past,
  same_seen,
  same-placed,
}

-- THE LAST MARK

-- From mark m on a search meets the element that comes next.
seeing-next : (drawing : Drawing) (slots : List ℕ) (m left : ℕ) (e : Opened) → 0 < left → Follows drawing slots m left (node_at drawing e)
    → Seeing drawing slots m e
seeing-next drawing slots m left e z f id q n =
    subst Some (sym (within-hit id (events_at drawing e.inside) left (element_of drawing e) z q) ∙ f id n) tt

-- The same marks, and an element less.
follows-less : (drawing : Drawing) (slots slots' : List ℕ) (m left : ℕ) (e : Opened) (n : Cursor) → spacing slots' ≡ spacing slots
    → mark_in slots' m ≡ mark_in slots m → events_at drawing n ≡ events_at drawing e.inside → 0 < left
    → Follows drawing slots m left (node_at drawing e) → Follows drawing slots' m (left - 1) (events_at drawing n)
follows-less drawing slots slots' m left e n p q v z f id h =
    ap (within (left - 1) id) v
    ∙ within-less id (events_at drawing e.inside) left (element_of drawing e) z
    (f id (ap (λ c. within (spacing slots) id (events_at drawing c)) (sym q)
    ∙ ap (λ k. within k id (events_at drawing (mark_in slots' m))) (sym p) ∙ h))

-- AN ELEMENT PASSED, NEAR A MARK

module _ (drawing : Drawing) (slots : List ℕ) (next left : ℕ) (e : Opened) (h : Filling drawing slots next left (node_at drawing e)) (z : 0 < left)
  where
    last_set : next - 1 < next
    last_set = omega (arith, h.some z)

    pub ready-near : Standing drawing e → Ready drawing slots next (next - 1) e
    ready-near st = record {
      stands = st;
      known = h.known;
      set = λ p. last_set;
      seeing = λ p. seeing-next drawing slots (next - 1) left e z (h.follows z);
    }

    pub passed-near : (slots' : List ℕ) (n : Cursor) → Entered drawing slots next e slots' n
        → Filling drawing slots' next (left - 1) (events_at drawing n)
    passed-near slots' n w = record {
      long = omega (arith, h.long, w.kept.long);
      few = h.few;
      some = λ l. h.some z;
      known = w.known;
      follows = λ l. follows-less drawing slots slots' (next - 1) left e n w.kept.spaced
          (w.kept.marks (next - 1) (h.known.marks (next - 1) last_set).low) w.nodes.events z (h.follows z);
    }

-- AN ELEMENT WITHOUT AN ID

pub passed-bare : (drawing : Drawing) (slots : List ℕ) (next left : ℕ) (e : Opened) → Filling drawing slots next left (node_at drawing e)
    → (r : Result ValueAt Cursor)
    → IdIs drawing e r → (n : Cursor) → r ≡ Err n → Filling drawing slots next (left - 1) (events_at drawing n)
passed-bare drawing slots next left e h r i n t = record {
  long = h.long;
  few = h.few;
  some = λ l. h.some (omega (arith, l));
  known = subst (Known drawing slots next) (sym same.events) (known_past drawing slots next e h.known (λ x q f. no x q));
  follows = λ l. let z : 0 < left = omega (arith, l) in
      follows-less drawing slots slots (next - 1) left e n refl refl same.events z (h.follows z);
}
  where
    same : SameNodes drawing e.inside n
    same = (has-none drawing [] e r i n t).nodes

    no : (x : List ℕ) → has_id x (element_of drawing e) ≡ true → ⊥
    no x q = false≢true (sym (has-none drawing x e r i n t).has-not ∙ q)

-- A TABLE THAT TELLS NOTHING MORE

pub passed-closed : (drawing : Drawing) (slots : List ℕ) (next left : ℕ) (xs ys : List Event) → Filling drawing slots next left xs
    → spacing slots ≡ 0 → Filling drawing slots next 0 ys
passed-closed drawing slots next left xs ys h e = record {
  long = h.long;
  few = h.few;
  some = λ l. absurd (omega (arith, l));
  known = known-closed drawing slots next xs ys e h.known;
  follows = λ l. absurd (omega (arith, l));
}

module _ (drawing : Drawing) (slots : List ℕ) (next left : ℕ) (xs : List Event) (h : Filling drawing slots next left xs) (slots' : List ℕ)
    (q : slots' ≡ set slots (unit slots) 0) where
  apart : Apart slots (unit slots) 1 slots'
  apart = subst (Apart slots (unit slots) 1) (sym q) (apart-set slots (unit slots) 0)

  some_words : 0 < unit slots
  some_words = unit-some slots h.long

  closed : spacing slots' ≡ 0
  closed =
      ap (λ u. get_or slots' u 0) (same-unit slots slots' (unit slots) 1 apart) ∙ ap (λ l. get_or l (unit slots) 0) q
      ∙ get_or-set_same slots (unit slots) 0 0 (omega (arith, unit-low slots, some_words))

  same-marks : (m : ℕ) → mark_in slots' m ≡ mark_in slots m
  same-marks m = same-mark slots slots' (unit slots) 1 apart m (λ a b. omega (arith, b))

  same-slots : (i : ℕ) → slot_in slots' i ≡ slot_in slots i
  same-slots i = same-slot slots slots' (unit slots) 1 apart i (λ a b. omega (arith, b, some_words))

  pub filling-closed : (ys : List Event) → Filling drawing slots' next 0 ys
  filling-closed ys = record {
    long = omega (arith, h.long, apart.long);
    few = h.few;
    some = λ l. absurd (omega (arith, l));
    known = record {
      marks = λ m l. same-placed drawing slots slots' m (same-unit slots slots' (unit slots) 1 apart) (same-marks m) (h.known.marks m l);
      used = λ i n. subst (λ w. mark_of w < next) (sym (same-slots i)) (h.known.used i (λ e. n (same-slots i ∙ e)));
      told = λ id. subst (Told drawing slots' next ys id) (sym (probed-shut drawing slots' id (open-closed slots' (key_of id) closed))) tt;
    };
    follows = λ l. absurd (omega (arith, l));
  }

-- A MARK SET

-- The nodes from an element's own place on begin with it.
pub own-nodes : (drawing : Drawing) (e : Opened) → Standing drawing e → node_at drawing e ≡ events_at drawing e.own
unfolding events_from element_at
own-nodes drawing e w =
    stepped (events_from drawing.characters.now) w.here
    (λ m. begin (record {
      number = e.own.number + 1;
      code = e.name;
      namespace = e.space;
      attributes = attributes_at drawing.characters.now m (commands_at drawing e.inside);
      declarations = declarations_at drawing.characters.now m (commands_at drawing e.inside);
    }) ∷ events_from drawing.characters.now m (commands_at drawing e.inside)) refl

module _ (drawing : Drawing) (slots : List ℕ) (next : ℕ) (e : Opened)
    (h : Filling drawing slots next 0 (node_at drawing e)) (st : Standing drawing e) (room : RoomFor slots next e.own) (slots' : List ℕ)
    (p : MarkPut slots next e.own slots') where
  put-words : unit slots' ≡ unit slots
  put-words = same-unit slots slots' _ _ p.apart

  enough : 0 < unit slots
  enough = unit-some slots h.long

  put-spaced : spacing slots' ≡ spacing slots
  put-spaced = same-spacing slots slots' _ _ p.apart (λ a b. omega (arith, a))

  put-slots : (i : ℕ) → slot_in slots' i ≡ slot_in slots i
  put-slots i = same-slot slots slots' _ _ p.apart i (λ a b. omega (arith, b, room.low))

  before : (m : ℕ) → m < next → mark_in slots' m ≡ mark_in slots m
  before m l = same-mark slots slots' _ _ p.apart m (λ a b. omega (arith, a, l))

  put-open : (key : ℕ) → is_open slots' key ≡ is_open slots key
  put-open key = same-open slots slots' _ _ p.apart enough (omega (arith, enough)) key

  here-nodes : events_at drawing (mark_in slots' next) ≡ node_at drawing e
  here-nodes = ap (events_at drawing) p.here ∙ sym (own-nodes drawing e st)

  same-search : (id : List ℕ) → probed drawing slots' id ≡ probed drawing slots id
  same-search id =
      ap (λ b. pick b (λ u. probed_from (sees drawing slots' id) (unit slots') (key_of id)) (λ u. table.over)) (put-open (key_of id))
      ∙ ap (λ n. pick (is_open slots (key_of id)) (λ u. probed_from (sees drawing slots' id) n (key_of id)) (λ u. table.over)) put-words
      ∙ ap (λ o. pick (is_open slots (key_of id)) (λ u. o) (λ u. table.over))
      (probing-same (sees drawing slots id) (sees drawing slots' id) (next_slot (unit slots) (step_of (unit slots) (key_of id)))
      (λ i. same_seen drawing slots slots' id i put-spaced (put-slots i) (λ n. before _ (h.known.used i n))) probes
      (start_of (unit slots) (key_of id)))

  marks' : (m : ℕ) → m < next + 1 → Placed drawing slots' m
  marks' m l = go (ℕ_discrete m next)
    where
      go : Dec (m ≡ next) → Placed drawing slots' m
      go (yes q) = subst (Placed drawing slots') (sym q)
          (record { low = omega (arith, put-words, room.low); fit = subst (Fit drawing) (sym p.here) st.own })
      go (no n) =
          let k : m < next = omega (arith, l, n) in same-placed drawing slots slots' m put-words (before m k) (h.known.marks m k)

  told' : (id : List ℕ) (o : Outcome) → Told drawing slots next (node_at drawing e) id o
      → Told drawing slots' (next + 1) (node_at drawing e) id o
  told' id (table.found ys) t = t
  told' id table.free t = record { rest = t.rest; marks = λ m l. go m l (ℕ_discrete m next) }
    where
      go : (m : ℕ) → m < next + 1 → Dec (m ≡ next)
          → first_with_id id (events_at drawing (mark_in slots' m)) ≡ first_with_id id (document drawing)
      go m l (yes q) =
          ap (λ k. first_with_id id (events_at drawing (mark_in slots' k))) q ∙ ap (first_with_id id) here-nodes ∙ t.rest
      go m l (no n) =
          let k : m < next = omega (arith, l, n) in
          ap (λ c. first_with_id id (events_at drawing c)) (before m k) ∙ t.marks m k
  told' id table.over t = tt

  put-known : Known drawing slots' (next + 1) (node_at drawing e)
  put-known = record {
    marks = marks';
    used = λ i n. let l : mark_of (slot_in slots i) < next = h.known.used i (λ z. n (put-slots i ∙ z)) in
        subst (λ w. mark_of w < next + 1) (sym (put-slots i)) (omega (arith, l));
    told = λ id. subst (Told drawing slots' (next + 1) (node_at drawing e) id) (sym (same-search id))
        (told' id (probed drawing slots id) (h.known.told id));
  }

  -- From it on a search meets what comes next.
  follows-new : Follows drawing slots' next (spacing slots') (node_at drawing e)
  follows-new id q = ap (within (spacing slots') id) (sym here-nodes) ∙ q

  pub ready-new : Ready drawing slots' (next + 1) next e
  ready-new = record {
    stands = st;
    known = put-known;
    set = λ z. omega arith;
    seeing = λ z. seeing-next drawing slots' next (spacing slots') e z follows-new;
  }

  pub passed-new : (most : ℕ) → most ≡ spacing slots' → 0 < most → (slots'' : List ℕ) (n : Cursor)
      → Entered drawing slots' (next + 1) e slots'' n → Filling drawing slots'' (next + 1) (most - 1) (events_at drawing n)
  passed-new most q z slots'' n w = record {
    long = omega (arith, h.long, p.apart.long, w.kept.long);
    few = omega (arith, room.few);
    some = λ l. omega arith;
    known = w.known;
    follows = λ l.
        subst (λ m. Follows drawing slots'' m (most - 1) (events_at drawing n)) (let a : next ≡ next + 1 - 1 = omega arith in a)
        (subst (λ k. Follows drawing slots'' next (k - 1) (events_at drawing n)) (sym q)
        (follows-less drawing slots' slots'' next (spacing slots') e n w.kept.spaced
        (w.kept.marks next (omega (arith, put-words, room.low))) w.nodes.events (omega (arith, q, z)) follows-new));
  }

-- FROM ITEM TO ITEM

-- The walk goes on behind an item that is no element.
pub filling-past : (drawing : Drawing) (slots : List ℕ) (next left : ℕ) (xs ys : List Event) → Filling drawing slots next left xs
    → ((id : List ℕ) → first_with_id id xs ≡ first_with_id id ys) → ((id : List ℕ) → within left id xs ≡ within left id ys)
    → Filling drawing slots next left ys
filling-past drawing slots next left xs ys h f g = record {
  long = h.long;
  few = h.few;
  some = h.some;
  known = known_on drawing slots next xs ys h.known (λ id o. sym (f id));
  follows = λ z id q. sym (g id) ∙ h.follows z id q;
}

-- THE BEGINNING

pub known-first : (drawing : Drawing) (slots : List ℕ) (xs : List Event) → Blank slots
    → ((id : List ℕ) → first_with_id id xs ≡ first_with_id id (document drawing))
    → Known drawing slots 0 xs
known-first drawing slots xs b f = record {
  marks = λ m l. absurd (omega (arith, l));
  used = λ i n. absurd (n (b.none i));
  told = λ id. told id (is_open slots (key_of id)) refl;
}
  where
    by : (id : List ℕ) (o : Outcome) → OnFound (λ ys. ⊥) o → Told drawing slots 0 xs id o
    by id (table.found ys) t = absurd t
    by id table.free t = record { rest = f id; marks = λ m l. absurd (omega (arith, l)) }
    by id table.over t = tt

    told : (id : List ℕ) (o : Bool) → is_open slots (key_of id) ≡ o → Told drawing slots 0 xs id (probed drawing slots id)
    told id true o =
        subst (Told drawing slots 0 xs id) (sym (probed-open drawing slots id o))
        (by id (probed_from (sees drawing slots id) (unit slots) (key_of id))
        (found-holds (λ ys. ⊥) (sees drawing slots id) (next_slot (unit slots) (step_of (unit slots) (key_of id)))
        (λ i. subst (OnThis (λ ys. ⊥)) (sym (seen-empty drawing slots id i (b.none i))) tt) probes (start_of (unit slots) (key_of id))))
    told id false o = subst (Told drawing slots 0 xs id) (sym (probed-shut drawing slots id o)) tt

pub filling-first : (drawing : Drawing) (slots : List ℕ) (c : Cursor) → Blank slots → c ≡ at_start → Filling drawing slots 0 0 (events_at drawing c)
unfolding events commands_at
filling-first drawing slots c b e = record {
  long = b.long;
  few = omega arith;
  some = λ l. l;
  known = subst (λ d. Known drawing slots 0 (events_at drawing d)) (sym e) (known-first drawing slots (document drawing) b (λ id. refl));
  follows = λ l. absurd (omega (arith, l));
}

-- THE WHOLE TABLE

-- Words that are all zero.
abbrev all_zero : ℕ → List ℕ
all_zero n = replicate n 0

zeros : (n i : ℕ) → get_or (all_zero n) i 0 ≡ 0
zeros zero i = refl
zeros (suc n) zero = refl
zeros (suc n) (suc i) = zeros n i

-- The table that tells nothing, whatever its length.
pub memo-none : (drawing : Drawing) (slots : List ℕ) → slots ≡ replicate (length slots) 0 → Memo drawing slots
memo-none drawing slots z = record {
  next = 0;
  known = record {
    marks = λ m l. absurd (omega (arith, l));
    used = λ i n. absurd (n (word (4 * unit slots + i)));
    told = λ id. subst (Told drawing slots 0 [] id)
        (sym (probed-shut drawing slots id (open-closed slots (key_of id) (word (unit slots))))) tt;
  };
}
  where
    word : (i : ℕ) → get_or slots i 0 ≡ 0
    word i = ap (λ l. get_or l i 0) z ∙ zeros (length slots) i

-- Bits are set, and the spacing of the marks: no slot is taken.
pub blank-first : (s t u : List ℕ) (n : ℕ) → s ≡ replicate (length s) 0 → 256 ≤ length s → Apart s 0 (unit s) t → u ≡ set t (unit t) n
    → Blank u
blank-first s t u n z l a e = record {
  long = omega (arith, l, a.long, apart.long);
  none = λ i. same-slot t u (unit t) 1 apart i (λ b c. omega (arith, c, words, some))
      ∙ same-slot s t 0 (unit s) a i (λ b c. omega (arith, c)) ∙ ap (λ x. get_or x (4 * unit s + i) 0) z
      ∙ zeros (length s) (4 * unit s + i);
}
  where
    apart : Apart t (unit t) 1 u
    apart = subst (Apart t (unit t) 1) (sym e) (apart-set t (unit t) n)

    words : unit t ≡ unit s
    words = same-unit s t 0 (unit s) a

    some : 0 < unit s
    some = unit-some s (omega (arith, l))

-- More bits are set.
pub wanted-on : (s t u : List ℕ) → Apart s 0 (unit s) t → Apart t 0 (unit t) u → Apart s 0 (unit s) u
wanted-on s t u a b =
    apart-join s t u 0 (unit s) 0 (unit s) 0 (unit s) a (subst (λ n. Apart t 0 n u) (same-unit s t 0 (unit s) a) b) (omega arith)
    (omega arith) (omega arith) (omega arith)

pub nodes-inside : (drawing : Drawing) (e : Opened) → Standing drawing e → SameNodes drawing e.inside e.inside
nodes-inside drawing e w = record { fit = w.fit; later = omega arith; events = refl }

pub set_long : (slots slots' : List ℕ) → slots' ≡ set slots (unit slots) 0 → length slots' ≡ length slots
set_long slots slots' e = ap length e ∙ length-set slots (unit slots) 0

pub at_left : (drawing : Drawing) (slots : List ℕ) (next left : ℕ) (xs : List Event) → Filling drawing slots next left xs → left ≤ 0
    → Filling drawing slots next 0 xs
at_left drawing slots next left xs h l = subst (λ n. Filling drawing slots next n xs) (let z : left ≡ 0 = omega (arith, l) in z) h

-- The spacing of the marks is not 0, and a mark leaves it.
pub spaced-still : (slots slots' : List ℕ) (m : ℕ) (c : Cursor) → MarkPut slots m c slots' → (spacing slots ≡ 0 → ⊥) → 0 < spacing slots'
spaced-still slots slots' m c p n =
    let e : spacing slots' ≡ spacing slots = same-spacing slots slots' _ _ p.apart (λ a b. omega (arith, a)) in omega (arith, e, n)

-- FROM ITEM TO ITEM, AS THE CODE HAS IT

pub start-fit : (drawing : Drawing) (c : Cursor) → length drawing.script.now ≤ most_bytes → c ≡ at_start → Fit drawing c
start-fit drawing c l e = subst (Fit drawing) (sym e) (placed_first drawing at_start refl l)

pub filling-at : (drawing : Drawing) (slots : List ℕ) (next left : ℕ) (xs ys : List Event) → xs ≡ ys → Filling drawing slots next left ys
    → Filling drawing slots next left xs
filling-at drawing slots next left xs ys e h = subst (Filling drawing slots next left) (sym e) h

pub bare-nodes : (drawing : Drawing) (e : Opened) (r : Result ValueAt Cursor) → IdIs drawing e r → (n : Cursor) → r ≡ Err n
    → SameNodes drawing e.inside n
bare-nodes drawing e r i n t = (has-none drawing [] e r i n t).nodes

pub at_less : (drawing : Drawing) (slots : List ℕ) (next left n : ℕ) (xs : List Event) → n ≡ left → Filling drawing slots next left xs
    → Filling drawing slots next n xs
at_less drawing slots next left n xs e h = subst (λ m. Filling drawing slots next m xs) (sym e) h
