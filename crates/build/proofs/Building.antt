-- The steps of a build one after another. Assumes nothing.
use mathlib.Core.Path.{◌≡◌, refl, sym, ap, ◌∙◌, subst}
use mathlib.Core.List.{List}
use mathlib.Core.Bool.{Bool, true, false}
use Prim.Native.Nat.{ℕ, zero, ◌*◌, ◌≤◌, ◌<◌}
use native.Mathlib.Omega.{arith}
use borrow.Author.Tests.{eqb-true, eqb-false, ne_eqb, ltb-false, lt-ltb, le-ltb}
use lib.Dec.{eqb, ltb}
use lib.ListN.{length, length-set, length-replicate}
use Rattle.model.specs.Base.{pick, or}
use Rattle.model.specs.Check.{check, check_from, starting, most_bytes}
use Rattle.model.specs.Drawing.{Event, commands, events, values_in, children_from}
use Rattle.model.specs.Tables.{Tree, Out, refused, done, then, word, set_word, node_room, cleared, rooted}
use Rattle.model.specs.Parse.{each, node, plain}
use Rattle.model.specs.Repair.{repaired}
use Rattle.model.specs.Build.{with_root, parsed, first_is_svg, tested, parse_tree, with_repairs, answered, build}
use Rattle.model.proofs.Theorems.Inside.{all-inside}
use Rattle.model.proofs.Theorems.Kept.{tidy-root}
use Rattle.script.specs.declared.drawing.Drawing.{Drawing}
use Rattle.script.specs.declared.cursor.Cursor.{Cursor}
use Rattle.script.specs.Step.{at_start, commands_at, Checked, document}
use Rattle.script.proofs.Commands.{placed_first}
use Rattle.walk.specs.Values.{events_at}
use Rattle.tree.specs.declared.Counts.{Counts}
use Rattle.tree.specs.Lent.{tree_of, nodes_read}
use Rattle.label.specs.Walk.{Lies}
use Rattle.label.specs.Whole.{Underway}
use Rattle.std.specs.Prelude.{Result, Ok, Err, OnOk}
use Rattle.refusal.specs.declared.Refusal.{Refusal}
use Rattle.refusal.specs.Number.{number_of, answer_of}
use Rattle.refusal.proofs.Number.{number_nonzero}
use Rattle.parse.specs.declared.State.{State}
use Rattle.parse.specs.Met.{level_built, outcome_of, Reached}
use Rattle.parse.specs.Unbuilt.{Skipped}
use Rattle.build.specs.Results.{result_of, nothing, root_alone, cleared_as, Tended, Rooted}

-- The sizes of a drawing that check takes.
pub both_small : (drawing : Drawing) → Checked drawing → (length drawing.script.now ≤ most_bytes) × (length drawing.characters.now ≤ most_bytes)
unfolding check
both_small drawing h = go (ltb most_bytes (length drawing.script.now)) (ltb most_bytes (length drawing.characters.now)) refl refl h
  where
    go : (a b : Bool) → ltb most_bytes (length drawing.script.now) ≡ a → ltb most_bytes (length drawing.characters.now) ≡ b →
        pick (or a b) (λ u. 1) (λ u. check_from drawing.characters.now (length drawing.characters.now) starting (commands drawing.script.now)) ≡ 0 →
        (length drawing.script.now ≤ most_bytes) × (length drawing.characters.now ≤ most_bytes)
    go true b p q g = absurd (omega arith)
    go false true p q g = absurd (omega arith)
    go false false p q g = (ltb-false _ _ p, ltb-false _ _ q)

-- BEHIND ALL NODES

module _ (drawing : Drawing) (ns es bs : List ℕ) (c : Counts) (h : Tended drawing (tree_of ns es bs c)) where
  -- The root stands in the table, and so does its first child, if it has one.
  pub first-there : (7 < length ns) × (8 * word ns 0 3 ≤ length ns)
  first-there =
      let f = h.tidy.kept.fits in
      (omega (arith, f.one, f.nodes), go (eqb (word ns 0 3) 0) refl)
    where
      go : (b : Bool) → eqb (word ns 0 3) 0 ≡ b → 8 * word ns 0 3 ≤ length ns
      go true e = omega (arith, eqb-true (word ns 0 3) 0 e)
      go false e =
          let f = h.tidy.kept.fits in
          omega (arith, ((h.tidy.kept.nodes 0 f.one).first (eqb-false (word ns 0 3) 0 e)).1, f.nodes)

  module _ (r : Bool) (e : r ≡ first_is_svg (nodes_read ns)) (empty : Tree) where
    is-tested : (b : Bool) → r ≡ b → tested (tree_of ns es bs c) ≡ pick b (λ u. done (tree_of ns es bs c)) (λ u. refused 21)
    unfolding tested first_is_svg
    is-tested b f = ap (λ (x : Bool). pick x (λ u. done (tree_of ns es bs c)) (λ u. refused 21)) (sym e ∙ f)

    pub finish-refused : r ≡ false →
        answered drawing.characters.now empty (refused 21) ≡ answered drawing.characters.now empty (with_repairs drawing.characters.now (document drawing) (tested (tree_of ns es bs c)))
    finish-refused f = ap (λ (o : Out Tree). answered drawing.characters.now empty (with_repairs drawing.characters.now (document drawing) o)) (sym (is-tested false f))

    pub finish-done : r ≡ true → (es' : List ℕ) →
        tree_of ns es' bs c ≡ repaired drawing.characters.now (values_in (document drawing)) (tree_of ns es bs c) →
        result_of drawing.characters.now ns es' bs (record { number = 0; nodes = c.nodes; attributes = c.attributes; text = c.text })
        ≡ answered drawing.characters.now empty (with_repairs drawing.characters.now (document drawing) (tested (tree_of ns es bs c)))
    finish-done f es' g =
        ap (λ (t : Tree). answered drawing.characters.now empty (done t)) g
        ∙ ap (λ (o : Out Tree). answered drawing.characters.now empty (with_repairs drawing.characters.now (document drawing) o)) (sym (is-tested true f))

-- BEHIND THE ROOT

-- Tables of the same lengths.
pub cleared-same : (ns es bs ns' es' bs' : List ℕ) → length ns' ≡ length ns → length es' ≡ length es → length bs' ≡ length bs →
    cleared_as ns' es' bs' ≡ cleared_as ns es bs
cleared-same ns es bs ns' es' bs' p q r = λ i. cleared (p i) (q i) (r i)

module _ (drawing : Drawing) (ns es bs : List ℕ) (h : Rooted drawing (tree_of ns es bs root_alone)) (from : Cursor)
    (e : from ≡ at_start) where
  abbrev first : Tree
  first = tree_of ns es bs root_alone

  all-still : events_at drawing from ≡ document drawing
  unfolding events commands_at
  all-still = ap (λ (c : Cursor). events_at drawing c) e

  pub begins : Underway drawing first 0 from
  begins =
      let small = both_small drawing h.checked in
      record {
        fit = placed_first drawing from e small.0;
        all = all-inside drawing.script.now drawing.characters.now h.checked;
        lies = rw all-still (all-inside drawing.script.now drawing.characters.now h.checked);
        small = small.1;
        tidy = rw h.root (tidy-root (length drawing.characters.now) (length ns) (length es) (length bs) h.room);
        few = (omega arith, omega arith, omega arith);
        below = omega arith;
      }

  -- Behind what stands before the first element.
  module _ (s s' : State) (k : Skipped drawing 1025 s s') (p : s.cursor ≡ from) (z : s.origin ≡ 0)
      (w : s.counts ≡ root_alone) where
    counts-are : s'.counts ≡ root_alone
    counts-are = ap (λ (y : State). y.counts) k.stood ∙ w

    origin-is : s'.origin ≡ 0
    origin-is = ap (λ (y : State). y.origin) k.stood ∙ z

    pub begins-behind : Underway drawing (tree_of ns es bs s'.counts) 0 s'.cursor
    begins-behind =
        let u = begins in
        subst (λ (c : Counts). Underway drawing (tree_of ns es bs c) 0 s'.cursor) (sym counts-are) record {
          fit = k.fit;
          all = u.all;
          lies = k.lies (subst (λ (c : Cursor). Lies drawing.characters.now (events_at drawing c)) (sym p) u.lies);
          small = u.small;
          tidy = u.tidy;
          few = u.few;
          below = u.below;
        }

    pub all-behind : level_built drawing 1025 s'.origin 0 s'.cursor (tree_of ns es bs s'.counts)
        ≡ each (node (plain drawing.characters.now) (document drawing) 1025) (children_from zero (events_at drawing from)) 0 false 0 first
    all-behind =
        ap (λ (c : Counts). level_built drawing 1025 s'.origin 0 s'.cursor (tree_of ns es bs c)) counts-are
        ∙ ap (λ x. level_built drawing 1025 x 0 s'.cursor first) origin-is ∙ k.same 0 0 first
        ∙ ap (λ (c : Cursor). level_built drawing 1025 0 0 c first) p

  -- The recursion's answer, and what it leaves.
  module _ (ns' es' bs' : List ℕ) (k : Counts) (r : Result (Unit {0}) Refusal)
      (o : outcome_of (tree_of ns' es' bs' k) r
      ≡ each (node (plain drawing.characters.now) (document drawing) 1025) (children_from zero (events_at drawing from)) 0 false 0 first) where
    is-parsed : (x : Out Tree) → outcome_of (tree_of ns' es' bs' k) r ≡ x → parsed (plain drawing.characters.now) (document drawing) first ≡ x
    unfolding parsed
    is-parsed x f = sym (rw all-still at o) ∙ f

    abbrev whole : Out Tree → Out Tree
    whole x = with_repairs drawing.characters.now (document drawing) (then x tested)

    module _ (p : length ns' ≡ length ns) (q : length es' ≡ length es) (s : length bs' ≡ length bs) where
      same_answer : (x : Out Tree) → parsed (plain drawing.characters.now) (document drawing) first ≡ x →
          answered drawing.characters.now (cleared_as ns' es' bs') (whole x)
          ≡ answered drawing.characters.now (cleared_as ns es bs) (whole (parsed (plain drawing.characters.now) (document drawing) first))
      same_answer x f = ap (λ (t : Tree). answered drawing.characters.now t (whole x)) (cleared-same ns es bs ns' es' bs' p q s)
          ∙ ap (λ (y : Out Tree). answered drawing.characters.now (cleared_as ns es bs) (whole y)) (sym f)

      pub fill-refused : (j : Refusal) → r ≡ Err j → answered drawing.characters.now (cleared_as ns' es' bs') (refused (number_of j))
          ≡ answered drawing.characters.now (cleared_as ns es bs) (whole (parsed (plain drawing.characters.now) (document drawing) first))
      fill-refused j z = same_answer (refused (number_of j)) (is-parsed _ (ap (outcome_of (tree_of ns' es' bs' k)) z))

      pub fill_done : r ≡ Ok tt →
          answered drawing.characters.now (cleared_as ns' es' bs') (with_repairs drawing.characters.now (document drawing) (tested (tree_of ns' es' bs' k)))
          ≡ answered drawing.characters.now (cleared_as ns es bs) (whole (parsed (plain drawing.characters.now) (document drawing) first))
      fill_done z = same_answer (done (tree_of ns' es' bs' k)) (is-parsed _ (ap (outcome_of (tree_of ns' es' bs' k)) z))

    pub fill-tended : (xs : List Event) (low n origin : ℕ) (s' : State) →
        OnOk r (Reached drawing origin xs low n s' (tree_of ns' es' bs' k)) → r ≡ Ok tt →
        Tended drawing (tree_of ns' es' bs' k)
    fill-tended xs low n origin s' g z =
        let at-ok : Reached drawing origin xs low n s' (tree_of ns' es' bs' k) =
        subst (λ (y : Result (Unit {0}) Refusal). OnOk y (Reached drawing origin xs low n s' (tree_of ns' es' bs' k))) z g in
        record { checked = h.checked; tidy = at-ok.tidy }

-- FROM THE BEGINNING

module _ (drawing : Drawing) (ns es bs ns₁ es₁ bs₁ : List ℕ) (checked : Checked drawing)
    (clear : tree_of ns₁ es₁ bs₁ nothing ≡ cleared_as ns es bs) (room : ℕ) (e : room ≡ node_room (nodes_read ns₁)) where
  abbrev empty : Tree
  empty = cleared_as ns es bs

  -- A build of what check takes.
  is-built : build drawing.script.now drawing.characters.now (length ns) (length es) (length bs)
      ≡ answered drawing.characters.now empty (with_repairs drawing.characters.now (document drawing) (parse_tree (plain drawing.characters.now) (document drawing) empty))
  unfolding build
  is-built = rw checked refl

  same-room : node_room empty ≡ room
  unfolding node_room
  same-room = ap node_room (sym clear) ∙ sym e

  root-of : (b : Bool) → ltb 0 room ≡ b → with_root empty ≡ pick b (λ u. done (rooted empty)) (λ u. refused 22)
  unfolding with_root
  root-of b f = rw (same-room, f) refl

  abbrev behind : Out Tree → Out Tree
  behind o = with_repairs drawing.characters.now (document drawing) (then o (λ r. then (parsed (plain drawing.characters.now) (document drawing) r) tested))

  built-from : (b : Bool) → ltb 0 room ≡ b → answered drawing.characters.now empty (behind (pick b (λ u. done (rooted empty)) (λ u. refused 22)))
      ≡ build drawing.script.now drawing.characters.now (length ns) (length es) (length bs)
  unfolding parse_tree
  built-from b f = ap (λ (o : Out Tree). answered drawing.characters.now empty (behind o)) (sym (root-of b f)) ∙ sym is-built

  pub no-root : room ≡ 0 → answered drawing.characters.now empty (refused 22) ≡ build drawing.script.now drawing.characters.now (length ns) (length es) (length bs)
  no-root z = built-from false (le-ltb 0 room (omega arith))

  module _ (some : room ≡ 0 → ⊥) where
    pub root-room : 8 ≤ length ns₁
    unfolding node_room
    root-room = omega arith

    lengths : (length ns₁ ≡ length ns) × (length es₁ ≡ length es) × (length bs₁ ≡ length bs)
    unfolding cleared
    lengths = (
      ap (λ (t : Tree). length t.nodes) clear ∙ length-replicate {A = ℕ} (length ns) 0,
      ap (λ (t : Tree). length t.attributes) clear ∙ length-replicate {A = ℕ} (length es) 0,
      ap (λ (t : Tree). length t.text) clear ∙ length-replicate {A = ℕ} (length bs) 0,
    )

    module _ (ns₂ : List ℕ) (put : ns₂ ≡ set_word ns₁ 0 0 1) where
      long : length ns₂ ≡ length ns
      long = ap length put ∙ length-set ns₁ 0 1 ∙ lengths.0

      is-root : tree_of ns₂ es₁ bs₁ root_alone ≡ rooted empty
      unfolding rooted
      is-root = ap (λ (xs : List ℕ). tree_of xs es₁ bs₁ root_alone) put
          ∙ ap (λ (t : Tree). tree_of (set_word t.nodes 0 0 1) t.attributes t.text root_alone) clear

      pub same-empty : cleared_as ns₂ es₁ bs₁ ≡ empty
      same-empty = cleared-same ns es bs ns₂ es₁ bs₁ long lengths.1 lengths.2

      pub root-alone : Rooted drawing (tree_of ns₂ es₁ bs₁ root_alone)
      root-alone = record {
        checked = checked;
        room = omega (arith, root-room, long, lengths.0);
        root = is-root ∙ ap rooted (sym same-empty);
      }

      pub with-root : answered drawing.characters.now (cleared_as ns₂ es₁ bs₁) (with_repairs drawing.characters.now (document drawing)
          (then (parsed (plain drawing.characters.now) (document drawing) (tree_of ns₂ es₁ bs₁ root_alone)) tested))
          ≡ build drawing.script.now drawing.characters.now (length ns) (length es) (length bs)
      with-root = rw (same-empty, is-root) (built-from true (lt-ltb 0 room (omega arith)))

-- check's number first.
pub check-refused : (drawing : Drawing) (n m b : ℕ) (r : Result (Unit {0}) Refusal) (j : Refusal) → answer_of r ≡ check drawing.script.now drawing.characters.now →
    r ≡ Err j → answered drawing.characters.now (cleared n m b) (refused (number_of j)) ≡ build drawing.script.now drawing.characters.now n m b
unfolding build
check-refused drawing n m b r j e z =
    let h : number_of j ≡ check drawing.script.now drawing.characters.now = sym (ap answer_of z) ∙ e in
    rw (← h, ne_eqb (number_of j) 0 (number_nonzero j)) refl
