-- The functions of the recursion, by what they are told. Assumes nothing.
use Prim.Native.Nat.{ℕ, zero, ◌+◌, ◌-◌, ◌≤◌}
use Rattle.std.specs.Prelude.{Result, Ok, Err, OnOk}
use mathlib.Core.Path.{◌≡◌, refl, ap, sym, ◌∙◌, subst}
use mathlib.Core.List.{List}
use native.Mathlib.Omega.{arith}
use Rattle.refusal.specs.declared.Refusal.{Refusal}
use Rattle.refusal.specs.Number.{number_of}
use Rattle.model.specs.Drawing.{Event, children_from}
use Rattle.model.specs.Tables.{Tree, Out, refused, done, then}
use Rattle.model.specs.Parse.{each, node, plain}
use Rattle.script.specs.declared.drawing.Drawing.{Drawing}
use Rattle.script.specs.declared.cursor.Cursor.{Cursor}
use Rattle.script.specs.Step.{document}
use Rattle.walk.specs.Nodes.{leave}
use Rattle.walk.specs.Values.{events_at}
use Rattle.tree.specs.declared.Counts.{Counts}
use Rattle.tree.specs.Lent.{tree_of}
use Rattle.label.specs.Whole.{Underway}
use Rattle.parse.specs.declared.State.{State}
use Rattle.parse.specs.declared.met.Met.{Met}
use Rattle.parse.specs.declared.met.Met.TheVariants.{Passed, Children, Copy, End}
use Rattle.parse.specs.Met.{is_copied, next_of, Opens, first_of, level_built, outcome_of, rest_built, rest_nodes, rest_at}
use Rattle.parse.specs.Met.{Reached, Copying, RestFit, MetNode, MetOr, MetFirst, MetEnd, MetFit, PastFit}
use Rattle.parse.specs.Unbuilt.{Skipped}
use Rattle.parse.proofs.Following.{each_first, leave-next, lies-next, then-refused, then-done}

-- What is left behind a node that was met, or its refusal.
abbrev rest_or : Drawing → ℕ → ℕ → State → Tree → Result Met Refusal → Out Tree
rest_or drawing left i s u (Ok met) = rest_built drawing left i s u met
rest_or drawing left i s u (Err j) = refused (number_of j)

-- A node met, and what is left of it, built or refused, make the node.
pub whole-node : (drawing : Drawing) (left origin p : ℕ) (xs : List Event) (low : ℕ) (t : Tree) (s' : State) (u : Tree)
    (met : Result Met Refusal) → MetOr drawing left origin p xs low t s' u met → (v : Tree) (r : Result (Unit {0}) Refusal)
    → outcome_of v r ≡ rest_or drawing left t.node_count s' u met → outcome_of v r ≡ first_of drawing left origin p xs t
whole-node drawing left origin p xs low t s' u (Ok met) m v r told = told ∙ m.built
whole-node drawing left origin p xs low t s' u (Err j) m v r told = told ∙ m

module _ (drawing : Drawing) (left origin p : ℕ) (xs : List Event) (low : ℕ) (t : Tree) (s' : State) (u : Tree) (met : Met)
    (m : MetNode drawing left origin p xs low t s' u met) where
  pub whole-refused : (j : Refusal) → refused (number_of j) ≡ rest_built drawing left t.node_count s' u met
      → refused (number_of j) ≡ first_of drawing left origin p xs t
  whole-refused j told = whole-node drawing left origin p xs low t s' u (Ok met) m t (Err j) told

  module _ (s'' : State) (v : Tree) (told : done v ≡ rest_built drawing left t.node_count s' u met)
      (behind : Reached drawing s'.origin (rest_nodes drawing s' met) (rest_at s' met) u.node_count s'' v) where
    pub whole-behind : Reached drawing origin (next_of xs) low t.node_count s'' v
    whole-behind = record {
      by = behind.by ∙ m.by;
      fit = behind.fit;
      later = omega (arith, m.later, behind.later);
      behind = behind.behind ∙ m.behind;
      tidy = behind.tidy;
      few = behind.few;
      more = omega (arith, m.more, behind.more);
    }

-- ALL CHILDREN

-- The loop goes on in the tables t, from the cursor in s, and comes to `all`, as it did from the cursor `from` on.
pub record Goes (drawing : Drawing) (left origin p : ℕ) (from : Cursor) (n : ℕ) (all : Out Tree) (s : State) (t : Tree)
    : Type 0 where
  pub by : s.origin ≡ origin
  pub under : Underway drawing t p s.cursor
  pub later : from.at ≤ s.cursor.at
  pub behind : leave 0 (events_at drawing s.cursor) ≡ leave 0 (events_at drawing from)
  pub more : n ≤ t.node_count
  pub same : level_built drawing left origin p s.cursor t ≡ all

pub goes_none : (drawing : Drawing) (left p : ℕ) (s : State) (t : Tree) → Underway drawing t p s.cursor →
    Goes drawing left s.origin p s.cursor t.node_count (level_built drawing left s.origin p s.cursor t) s t
goes_none drawing left p s t u =
    record { by = refl; under = u; later = omega arith; behind = refl; more = omega arith; same = refl }

-- The loop goes on behind nodes of which nothing is built.
pub goes-skipped : (drawing : Drawing) (left origin p : ℕ) (from : Cursor) (n : ℕ) (all : Out Tree) (s : State) (ns ats bs : List ℕ) →
    Goes drawing left origin p from n all s (tree_of ns ats bs s.counts) → (s' : State) → Skipped drawing left s s' →
    Goes drawing left origin p from n all s' (tree_of ns ats bs s'.counts)
goes-skipped drawing left origin p from n all s ns ats bs g s' h =
    subst (λ (k : Counts). Goes drawing left origin p from n all s' (tree_of ns ats bs k)) (sym (ap (λ (y : State). y.counts) h.stood))
    (record {
      by = ap (λ (y : State). y.origin) h.stood ∙ g.by;
      under = record {
        fit = h.fit;
        all = g.under.all;
        lies = h.lies g.under.lies;
        small = g.under.small;
        tidy = g.under.tidy;
        few = g.under.few;
        below = g.under.below;
      };
      later = omega (arith, g.later, h.later);
      behind = h.behind ∙ g.behind;
      more = g.more;
      same = h.same origin p (tree_of ns ats bs s.counts) ∙ g.same;
    })

-- What was met and is no end is a node.
met-first : (drawing : Drawing) (left origin p : ℕ) (from : Cursor) (t : Tree) (s : State) (u : Tree) (met : Met)
    → (met ≡ End → ⊥) → MetFit drawing left origin p from t s u (Ok met) → MetFirst drawing left origin p from t s u (Ok met)
met-first drawing left origin p from t s u Passed z h = h
met-first drawing left origin p from t s u Children z h = h
met-first drawing left origin p from t s u Copy z h = h
met-first drawing left origin p from t s u End z h = absurd (z refl)

module _ (drawing : Drawing) (left origin p : ℕ) (from : Cursor) (n : ℕ) (all : Out Tree) (s : State) (t : Tree)
    (g : Goes drawing left origin p from n all s t) (s' : State) (u : Tree) where
  abbrev c : Cursor
  c = s.cursor

  abbrev xs : List Event
  xs = events_at drawing c

  -- The end.
  module _ (ended : MetEnd drawing left s.origin p c t s' u) where
    pub ends-all : done u ≡ all
    ends-all = ended.built ∙ ap (λ x. level_built drawing left x p c t) g.by ∙ g.same

    pub ends-reached : Reached drawing origin (leave 0 (events_at drawing from)) from.at n s' u
    ends-reached =
        let h = ended.reached in
        record {
          by = h.by ∙ g.by;
          fit = h.fit;
          later = omega (arith, g.later, h.later);
          behind = h.behind ∙ g.behind;
          tidy = h.tidy;
          few = h.few;
          more = omega (arith, g.more, h.more);
        }

  -- The other nodes.
  abbrev others : Tree → Out Tree
  others w =
      each (node (plain drawing.characters.now) (document drawing) left) (children_from zero (next_of xs)) s.origin (is_copied s.origin) p w

  whole : Opens xs → then (first_of drawing left s.origin p xs t) others ≡ all
  whole opens =
      each_first (node (plain drawing.characters.now) (document drawing) left) s.origin (is_copied s.origin) p t xs opens
      ∙ ap (λ x. level_built drawing left x p c t) g.by
      ∙ g.same

  first-refused : Opens xs → (j : Refusal) → refused (number_of j) ≡ first_of drawing left s.origin p xs t
      → refused (number_of j) ≡ all
  first-refused opens j h = then-refused (number_of j) (first_of drawing left s.origin p xs t) others h ∙ whole opens

  module _ (r : Result Met Refusal) (fit : MetFit drawing left s.origin p c t s' u r) where
    told : (x : Result Met Refusal) → r ≡ x → MetFit drawing left s.origin p c t s' u x
    told x q = subst (MetFit drawing left s.origin p c t s' u) q fit

    -- It is refused where it is met.
    pub met-refused : (j : Refusal) → r ≡ Err j → refused (number_of j) ≡ all
    met-refused j q = let h = told (Err j) q in first-refused h.opens j h.node

    -- A node, and the answer r' on what is left of it.
    module _ (met : Met) (is : r ≡ Ok met) (some : met ≡ End → ⊥) (v : Tree) (r' : Result (Unit {0}) Refusal)
        (rest : outcome_of v r' ≡ rest_built drawing left t.node_count s' u met) where
      first : MetFirst drawing left s.origin p c t s' u (Ok met)
      first = met-first drawing left s.origin p c t s' u met some (told (Ok met) is)

      pub goes-refused : (j : Refusal) → r' ≡ Err j → refused (number_of j) ≡ all
      goes-refused j e =
          first-refused first.opens j
          (whole-refused drawing left s.origin p xs (c.at + 1) t s' u met first.node j (sym (ap (outcome_of v) e) ∙ rest))

      module _ (s'' : State)
          (behind : OnOk r' (Reached drawing s'.origin (rest_nodes drawing s' met) (rest_at s' met) u.node_count s'' v))
          (ok : r' ≡ Ok tt) where
        built : done v ≡ rest_built drawing left t.node_count s' u met
        built = sym (ap (outcome_of v) ok) ∙ rest

        reached : Reached drawing s'.origin (rest_nodes drawing s' met) (rest_at s' met) u.node_count s'' v
        reached =
            subst (λ (y : Result (Unit {0}) Refusal). OnOk y (Reached drawing s'.origin (rest_nodes drawing s' met)
            (rest_at s' met) u.node_count s'' v)) ok behind

        after : Reached drawing s.origin (next_of xs) (c.at + 1) t.node_count s'' v
        after = whole-behind drawing left s.origin p xs (c.at + 1) t s' u met first.node s'' v built reached

        pub goes_on : Goes drawing left origin p from n all s'' v
        goes_on = record {
          by = after.by ∙ g.by;
          under = record {
            fit = after.fit;
            all = g.under.all;
            lies = rw after.behind (lies-next drawing.characters.now xs first.opens g.under.lies);
            small = g.under.small;
            tidy = after.tidy;
            few = after.few;
            below = omega (arith, g.under.below, after.more);
          };
          later = omega (arith, g.later, after.later);
          behind = ap (leave 0) after.behind ∙ leave-next xs first.opens ∙ g.behind;
          more = omega (arith, g.more, after.more);
          same = ap (λ x. level_built drawing left x p s''.cursor v) (sym g.by)
              ∙ ap (λ zs. each (node (plain drawing.characters.now) (document drawing) left) (children_from zero zs) s.origin (is_copied s.origin) p v)
              after.behind
              ∙ then-done v (first_of drawing left s.origin p xs t) others
              (whole-node drawing left s.origin p xs (c.at + 1) t s' u (Ok met) first.node v (Ok tt) built)
              ∙ whole first.opens;
        }

-- WHAT A USE COPIES

module _ (drawing : Drawing) (left p : ℕ) (s : State) (t : Tree) (h : Copying drawing left p s t) where
  abbrev s₁ : State
  s₁ = record s { origin = s.copier }

  abbrev ys : List Event
  ys = events_at drawing s.cursor

  copy-met : (less : ℕ) (s₂ : State) (u : Tree) (met : Met) → MetFit drawing less s.copier p s.cursor t s₂ u (Ok met)
      → MetFirst drawing less s.copier p s.cursor t s₂ u (Ok met)
  copy-met less s₂ u Passed m = m
  copy-met less s₂ u Children m = m
  copy-met less s₂ u Copy m = m
  copy-met less s₂ u End m = absurd (m.none h.opens)

  module _ (less : ℕ) (is : less ≡ left - 2) (s₂ : State) (u : Tree) where
    at-less : first_of drawing less s.copier p ys t ≡ first_of drawing (left - 2) s.copier p ys t
    at-less = ap (λ x. first_of drawing x s.copier p ys t) is

    pub copy-refused : (j : Refusal) → MetFit drawing less s.copier p s.cursor t s₂ u (Err j)
        → refused (number_of j) ≡ first_of drawing (left - 2) s.copier p ys t
    copy-refused j m = m.node ∙ at-less

    pub copy-built : (met : Result Met Refusal) → MetFit drawing less s.copier p s.cursor t s₂ u met
        → (v : Tree) (r : Result (Unit {0}) Refusal) → outcome_of v r ≡ rest_or drawing less t.node_count s₂ u met
        → outcome_of v r ≡ first_of drawing (left - 2) s.copier p ys t
    copy-built (Ok met) found v r told = told ∙ (copy-met less s₂ u met found).node.built ∙ at-less
    copy-built (Err j) found v r told = told ∙ found.node ∙ at-less

    module _ (met : Met) (found : MetFit drawing less s.copier p s.cursor t s₂ u (Ok met)) where
      copied : MetFirst drawing less s.copier p s.cursor t s₂ u (Ok met)
      copied = copy-met less s₂ u met found

      pub copy_rest : RestFit drawing less t.node_count s₂ u met
      copy_rest = copied.node.rest

      pub copy-left : (j : Refusal) → refused (number_of j) ≡ rest_built drawing less t.node_count s₂ u met
          → refused (number_of j) ≡ first_of drawing (left - 2) s.copier p ys t
      copy-left j told = copy-built (Ok met) found t (Err j) told

      module _ (s₃ : State) (v : Tree) (told : done v ≡ rest_built drawing less t.node_count s₂ u met)
          (behind : Reached drawing s₂.origin (rest_nodes drawing s₂ met) (rest_at s₂ met) u.node_count s₃ v) where
        pub copy_done : done v ≡ first_of drawing (left - 2) s.copier p ys t
        copy_done = copy-built (Ok met) found v (Ok tt) told

        pub copy-reached : (s₄ : State) → PastFit drawing s.children s₃ s₄ →
            Reached drawing s.origin (leave 0 (events_at drawing s.children)) s.children.at t.node_count
            (record s₄ { origin = s.origin }) v
        copy-reached s₄ past =
            let copied = whole-behind drawing less s.copier p ys (s.cursor.at + 1) t s₂ u met copied.node s₃ v told behind in
            record {
              by = refl;
              fit = past.fit;
              later = past.later;
              behind = past.behind;
              tidy = copied.tidy;
              few = copied.few;
              more = copied.more;
            }
