-- An element and the nodes below it, pair by pair. Assumes nothing.
use mathlib.Core.Path.{◌≡◌, refl, sym, ap, ◌∙◌, subst}
use mathlib.Core.Bool.{Bool, true, false, true≢false}
use mathlib.Core.List.{List, [], ◌∷◌}
use mathlib.Core.Option.{Option, none, some}
use Rattle.ids.specs.declared.heads.Heads.{Heads}
use Rattle.script.specs.Step.{document}
use Rattle.script.specs.declared.drawing.Drawing.{Drawing}
use Rattle.std.proofs.Common as common
use Rattle.std.proofs.Common.{Some, None}
use Prim.Native.Nat.{ℕ, zero, suc, ◌+◌, ◌-◌, ◌<◌, ◌≤◌}
use native.Mathlib.Omega.{arith}
use native.Mathlib.Decide.{ℕ_discrete}
use borrow.Author.Tests.{eq-eqb, ne_eqb, le-leb, lt-leb}
use lib.Dec.{eqb, leb}
use lib.ListN.{length}
use Rattle.model.specs.Base.{pick, given, Pair}
use Rattle.model.specs.AId
use Rattle.model.specs.Drawing.{Part, Value, reading_of, readings_of}
use Rattle.model.specs.Tables.{Tree, attribute_id, attribute_of, has_id_bytes, last_with_id, element_by_id}
use Rattle.model.specs.Repair.{up_from, descendants, readings_of_attribute, link_of, node_attribute}
use Rattle.model.specs.Repair.{Cut, cut_name, cut_at, apply_cut, applied}
use Rattle.model.proofs.Theorems.Inside.{all-inside}
use Rattle.model.proofs.Theorems.Images.{values-bare}
use Rattle.model.specs.Theorems.Kept.{Tidy}
use Rattle.model.specs.Theorems.GoingOn.{passing, leads_to, target_of, nodes_at, cuts_along, with_each, going_on}
use Rattle.tree.specs.declared.Counts.{Counts}
use Rattle.tree.specs.Lent.{read_of}
use Rattle.tree.proofs.Alike.{id_same}
use Rattle.leads.specs.Links.{values_of}
use Rattle.targets.specs.Targets.{seen_of, pass_kind, mark_for, mark_of}
use Rattle.targets.proofs.Passes.{no-id}
use Rattle.targets.proofs.Marks.{mark-target}
use Rattle.targets.specs.Pass.{pass_number}
use Rattle.places.specs.declared.marks.Marks.{Marks}
use Rattle.cuts.specs.declared.Aim.{Aim}
use Rattle.cuts.specs.Seen.{any_with, has_links, Cuttable, key_of, Aimed, cut_back, cut_nodes, cut_pairs}
use Rattle.cuts.specs.Seen.{Range, Quiet, Covered, Known, Settled}
use Rattle.cuts.proofs.Writing.{applied-more, cuttable-on, long-on}
use Rattle.cuts.proofs.Turning.{leads-marked, never-led, leads-entry, cut-tidy, cut-aimed}
use Rattle.cuts.proofs.Descending.{up_step, up_none, range_same}
use Rattle.cuts.proofs.Quieting.{quiet-first, covered_none, nodes-quiet}

-- No mark is larger than the count of nodes, and 1.
last-most : (chars : List ℕ) (t : Tree) (id : List ℕ) (n : ℕ) → last_with_id chars t id n ≤ n
unfolding last_with_id
last-most chars t id zero = omega arith
last-most chars t id (suc n) = go (has_id_bytes chars t id n) (last-most chars t id n)
  where
    go : (b : Bool) → last_with_id chars t id n ≤ n → pick b (λ u. n + 1) (λ u. last_with_id chars t id n) ≤ suc n
    go true h = omega arith
    go false h = omega arith

mark-low : (chars : List ℕ) (values : List Value) (k : ℕ) (t : Tree) (m : ℕ) → mark_of chars values k t m ≤ t.node_count + 1
unfolding mark_of mark_for element_by_id
mark-low chars values k t m = go (link_of chars values (pass_kind k) t (cut_name k) m)
  where
    at : (w : ℕ) → w ≤ t.node_count → (a b : Bool) → pick a (λ u. pick b (λ v. 1) (λ v. 0)) (λ u. w + 1) ≤ t.node_count + 1
    at w l true true = omega arith
    at w l true false = omega arith
    at w l false b = omega arith

    go : (o : Option Part) → given o (λ v. mark_for chars t v.bytes) (λ u. 0) ≤ t.node_count + 1
    go none = omega arith
    go (some v) =
        at _ (last-most chars t v.bytes t.node_count) (eqb (last_with_id chars t v.bytes t.node_count) 0)
        (eqb (length v.bytes) 0)

module _ (drawing : Drawing) (ns es : List ℕ) (c : Counts) (aim : Aim) (w : Aimed drawing.characters.now (seen_of ns es c) aim) (m : ℕ) where
  abbrev values : List Value
  values = values_of drawing

  abbrev t : Tree
  t = seen_of ns es c

  -- Where its link leads, by its mark.
  pub target-nowhere : (n : ℕ) → n ≡ mark_of drawing.characters.now values (pass_number aim.pass) t m → n < 2 → target_of drawing.characters.now values
      (pass_number aim.pass) t m ≡ 0
  target-nowhere n e l = mark-target drawing.characters.now values (pass_number aim.pass) w.first w.last t m ∙ rw (← e, lt-leb 2 n l) refl

  pub target-on : (n : ℕ) → n ≡ mark_of drawing.characters.now values (pass_number aim.pass) t m → 2 ≤ n → n - 2 + 1 ≡ target_of drawing.characters.now values
      (pass_number aim.pass) t m
  target-on n e l =
      let z : n - 2 + 1 ≡ n - 1 = omega arith in
      z ∙ sym (mark-target drawing.characters.now values (pass_number aim.pass) w.first w.last t m ∙ rw (← e, le-leb 2 n l) refl)

  -- It leads to a node of the tree.
  pub target-inside : (n : ℕ) → n ≡ mark_of drawing.characters.now values (pass_number aim.pass) t m → 2 ≤ n → n - 2 < c.nodes
  target-inside n e l = omega (arith, mark-low drawing.characters.now values (pass_number aim.pass) t m, e)

  -- What the pair leaves.
  pub pair-back : leads_to drawing.characters.now values (pass_number aim.pass) t aim.element m ≡ true
      → cut_back drawing.characters.now values (pass_number aim.pass) aim.element t m
      ≡ cut_nodes drawing.characters.now values (pass_number aim.pass) t (nodes_at drawing.characters.now values (pass_number aim.pass) t aim.element m)
  unfolding nodes_at cuts_along applied
  pair-back e = rw e refl

  pub pair-nowhere : leads_to drawing.characters.now values (pass_number aim.pass) t aim.element m ≡ false → target_of drawing.characters.now values
      (pass_number aim.pass) t m ≡ 0
      → t ≡ cut_nodes drawing.characters.now values (pass_number aim.pass) t (nodes_at drawing.characters.now values (pass_number aim.pass) t aim.element m)
  unfolding nodes_at cuts_along applied
  pair-nowhere e z = rw (e, z) refl

  pub pair-below : leads_to drawing.characters.now values (pass_number aim.pass) t aim.element m ≡ false → (n : ℕ) → n + 1 ≡ target_of drawing.characters.now values
      (pass_number aim.pass) t m
      → cut_nodes drawing.characters.now values (pass_number aim.pass) t (passing (leads_to drawing.characters.now values (pass_number aim.pass) t aim.element)
      (descendants t n))
      ≡ cut_nodes drawing.characters.now values (pass_number aim.pass) t (nodes_at drawing.characters.now values (pass_number aim.pass) t aim.element m)
  unfolding nodes_at
  pair-below e n q = let z : n + 1 - 1 ≡ n = omega arith in rw (e, ← q, ne_eqb (n + 1) 0 (λ o. omega arith), z) refl

-- ONE PAIR AFTER ANOTHER

module _ (size : ℕ) (chars : List ℕ) (values : List Value) (bare : readings_of 0 values ≡ []) (k : ℕ)
    (other : cut_name k ≡ AId.Id → ⊥) where
  pub nodes-aimed : (aim : Aim) (ms : List ℕ) (t : Tree) → Tidy size t → Aimed chars t aim → Aimed chars (cut_nodes chars values k t ms) aim
  unfolding cuts_along applied
  nodes-aimed aim [] t g w = w
  nodes-aimed aim (m ∷ ms) t g w =
      nodes-aimed aim ms (apply_cut t (cut_at t k m)) (cut-tidy size chars values bare k other t g m)
      (cut-aimed size chars values bare k other t g m aim w)

module _ (chars : List ℕ) (values : List Value) (k i : ℕ) where
  -- The first pair, and the others in the tree that it leaves.
  pub pair-first : (t : Tree) (j : ℕ) (js : List ℕ) (more : List Pair)
      → cut_pairs chars values k t (with_each i (j ∷ js) more)
      ≡ cut_pairs chars values k (cut_nodes chars values k t (nodes_at chars values k t i j)) (with_each i js more)
  unfolding going_on with_each
  pair-first t j js more =
      applied-more t (cuts_along chars values k t (nodes_at chars values k t i j))
      (going_on chars values k (cut_nodes chars values k t (nodes_at chars values k t i j)) (with_each i js more))

  -- The pairs of one element, and the others in the tree that they leave.
  pub pairs_first : (js : List ℕ) (t : Tree) (more : List Pair)
      → cut_pairs chars values k t (with_each i js more) ≡ cut_pairs chars values k (cut_pairs chars values k t (with_each i js [])) more
  unfolding going_on with_each applied
  pairs_first [] t more = refl
  pairs_first (j ∷ js) t more =
      pair-first t j js more ∙ pairs_first js (cut_nodes chars values k t (nodes_at chars values k t i j)) more
      ∙ ap (λ (u : Tree). cut_pairs chars values k u more) (sym (pair-first t j js []))

-- WHAT IS PASSED OVER

module _ (chars : List ℕ) (values : List Value) (k i : ℕ) (t : Tree) where
  -- A node that gives nothing.
  pair-quiet : (j : ℕ) (js : List ℕ) → nodes_at chars values k t i j ≡ []
      → cut_pairs chars values k t (with_each i js []) ≡ cut_pairs chars values k t (with_each i (j ∷ js) [])
  unfolding cuts_along applied
  pair-quiet j js e =
      sym (ap (λ (ms : List ℕ). cut_pairs chars values k (cut_nodes chars values k t ms) (with_each i js [])) e)
      ∙ sym (pair-first chars values k i t j js [])

  all_quiet : ((j : ℕ) → nodes_at chars values k t i j ≡ []) → (js : List ℕ) → t ≡ cut_pairs chars values k t (with_each i js [])
  unfolding with_each going_on applied
  all_quiet h [] = refl
  all_quiet h (j ∷ js) = all_quiet h js ∙ pair-quiet j js (h j)

  -- A node without the attribute gives nothing.
  unlinked : (j : ℕ) → attribute_id t j (cut_name k) ≡ 0 → nodes_at chars values k t i j ≡ []
  unfolding nodes_at target_of node_attribute readings_of_attribute attribute_of reading_of
  unlinked j z = go (leads_to chars values k t i j) refl
    where
      nowhere : (b : Bool) → eqb (pick b (λ u. 0) (λ u. 0)) 0 ≡ true
      nowhere true = refl
      nowhere false = refl

      go : (b : Bool) → leads_to chars values k t i j ≡ b → nodes_at chars values k t i j ≡ []
      go true e = absurd (leads-entry chars values k t i j e z)
      go false e = rw (e, eq-eqb (attribute_id t j (cut_name k)) 0 z, nowhere (leb k 2)) refl

  skipped : (n a end : ℕ) → a + n ≤ end → ((m : ℕ) → a ≤ m → m < a + n → attribute_id t m (cut_name k) ≡ 0)
      → cut_pairs chars values k t (with_each i (up_from (a + n) (end - (a + n))) [])
      ≡ cut_pairs chars values k t (with_each i (up_from a (end - a)) [])
  skipped zero a end l h =
      let e : a + 0 ≡ a = omega arith in ap (λ (x : ℕ). cut_pairs chars values k t (with_each i (up_from x (end - x)) [])) e
  skipped (suc n) a end l h =
      let e : a + suc n ≡ a + 1 + n = omega arith in
      ap (λ (x : ℕ). cut_pairs chars values k t (with_each i (up_from x (end - x)) [])) e
      ∙ skipped n (a + 1) end (omega arith) (λ m x y. h m (omega arith) (omega arith))
      ∙ pair-quiet a (up_from (a + 1) (end - (a + 1))) (unlinked a (h a (omega arith) (omega arith)))
      ∙ ap (λ (xs : List ℕ). cut_pairs chars values k t (with_each i xs [])) (sym (up_step a end (omega arith)))

  -- None of the nodes has the attribute.
  with-pairs : (js : List ℕ) → any_with t (cut_name k) js ≡ false → t ≡ cut_pairs chars values k t (with_each i js [])
  unfolding any_with with_each going_on applied
  with-pairs [] e = refl
  with-pairs (j ∷ js) e = go (ℕ_discrete (attribute_id t j (cut_name k)) 0) e (with-pairs js)
    where
      go : Dec (attribute_id t j (cut_name k) ≡ 0)
          → pick (eqb (attribute_id t j (cut_name k)) 0) (λ u. any_with t (cut_name k) js) (λ u. true) ≡ false
          → (any_with t (cut_name k) js ≡ false → t ≡ cut_pairs chars values k t (with_each i js []))
          → t ≡ cut_pairs chars values k t (with_each i (j ∷ js) [])
      go (yes z) h r = r (rw (eq-eqb (attribute_id t j (cut_name k)) 0 z) at h) ∙ pair-quiet j js (unlinked j z)
      go (no z) h r = absurd (true≢false (rw (ne_eqb (attribute_id t j (cut_name k)) 0 z) at h))

  pub linkless-pairs : has_links t (cut_name k) i ≡ false → t ≡ cut_pairs chars values k t (with_each i (descendants t i) [])
  unfolding has_links
  linkless-pairs e = with-pairs (descendants t i) e

-- An element to which no link leads.
none-passing : (f : ℕ → Bool) → ((x : ℕ) → f x ≡ false) → (xs : List ℕ) → passing f xs ≡ []
unfolding passing
none-passing f h [] = refl
none-passing f h (x ∷ xs) = rw (h x) (none-passing f h xs)

unled-nodes : (chars : List ℕ) (values : List Value) (k : ℕ) → 1 ≤ k → k ≤ 5 → (t : Tree) (i : ℕ) → key_of chars k t i ≡ 0 → (j : ℕ)
    → nodes_at chars values k t i j ≡ []
unfolding nodes_at
unled-nodes chars values k f l t i h j = rw (never j) (go (eqb (target_of chars values k t j) 0))
  where
    never : (m : ℕ) → leads_to chars values k t i m ≡ false
    never = never-led chars values k f l t i h

    go : (b : Bool) → pick b (λ u. []) (λ u. passing (leads_to chars values k t i) (descendants t (target_of chars values k t j - 1))) ≡ []
    go true = refl
    go false = none-passing (leads_to chars values k t i) never (descendants t (target_of chars values k t j - 1))

-- FROM ONE ELEMENT TO THE NEXT

-- Whether a node leads to an element that is aimed at is told by the key.
leads-key : (chars : List ℕ) (values : List Value) (k : ℕ) (t : Tree) (aim : Aim) → Aimed chars t aim → (pass_number aim.pass) ≡ k → (m : ℕ)
    → leads_to chars values k t aim.element m ≡ eqb (mark_of chars values k t m) aim.key
leads-key chars values k t aim w p m =
    subst (λ (j : ℕ). leads_to chars values j t aim.element m ≡ eqb (mark_of chars values j t m) aim.key) p
    (leads-marked chars values t aim w m)

-- The words for an element that is aimed at, by what is known of one before it: the same links lead to two with the same key.
pub settled-quiet : (chars : List ℕ) (values : List Value) (k : ℕ) (t : Tree) (known : common.Option Aim) (aim : Aim) (ws ws' : List ℕ)
    → Aimed chars t aim → pass_number aim.pass ≡ k → Known chars values k t known ws → Settled t.node_count known aim ws ws'
    → Quiet chars values k t aim.element ws'
settled-quiet chars values k t None aim ws ws' w p g s = quiet-first chars values k t aim.element ws' (s.none refl)
settled-quiet chars values k t (Some known) aim ws ws' w p g s = go (ℕ_discrete known.key aim.key)
  where
    go : Dec (known.key ≡ aim.key) → Quiet chars values k t aim.element ws'
    go (no d) = quiet-first chars values k t aim.element ws' (s.none (ne_eqb known.key aim.key d))
    go (yes d) =
        subst (Quiet chars values k t aim.element) (sym (s.same (eq-eqb known.key aim.key d))) (record {
          ranges = g.quiet.ranges;
          silent = λ b l m. record {
            none = λ x y z. leads-key chars values k t aim w p x ∙ ap (eqb (mark_of chars values k t x)) (sym d)
                ∙ sym (leads-key chars values k t known g.aimed g.pass x) ∙ (g.quiet.silent b l m).none x y z;
          };
        })

-- The words hold for the element that was aimed at last.
pub known-aim : (chars : List ℕ) (values : List Value) (t : Tree) (aim : Aim) (ws : List ℕ) → Aimed chars t aim
    → Quiet chars values (pass_number aim.pass) t aim.element ws → Known chars values (pass_number aim.pass) t (Some aim) ws
known-aim chars vs t aim ws w q = record { pass = refl; aimed = w; quiet = q }

-- THE LOOP

-- In the middle of the nodes from `first` up to the node `end`: j is next, the words tell ranges of nodes that do not lead back, and
-- what is still to do leaves what all of it leaves.
pub record Pairs (drawing : Drawing) (marks : Marks) (heads : Heads) (ns : List ℕ) (c : Counts) (aim : Aim) (first end : ℕ)
    (es₀ es ws : List ℕ) (j : ℕ) : Type 0 where
  pub cuttable : Cuttable drawing marks heads ns es c (pass_number aim.pass)
  pub aimed : Aimed drawing.characters.now (seen_of ns es c) aim
  pub inside : end ≤ c.nodes
  pub long : length es ≡ length es₀
  pub quiet : Quiet drawing.characters.now (values_of drawing) (pass_number aim.pass) (seen_of ns es c) aim.element ws
  pub same : cut_pairs drawing.characters.now (values_of drawing) (pass_number aim.pass) (seen_of ns es c) (with_each aim.element (up_from j
      (end - j)) [])
      ≡ cut_pairs drawing.characters.now (values_of drawing) (pass_number aim.pass) (seen_of ns es₀ c) (with_each aim.element (up_from first
      (end - first)) [])

pub pairs_start : (drawing : Drawing) (marks : Marks) (heads : Heads) (ns : List ℕ) (c : Counts) (aim : Aim) (first end : ℕ) (es ws : List ℕ)
    → Cuttable drawing marks heads ns es c (pass_number aim.pass) → Aimed drawing.characters.now (seen_of ns es c) aim → end ≤ c.nodes
    → Quiet drawing.characters.now (values_of drawing) (pass_number aim.pass) (seen_of ns es c) aim.element ws
    → Pairs drawing marks heads ns c aim first end es es ws first
pairs_start drawing marks heads ns c aim first end es ws g a h z = record {
  cuttable = g;
  aimed = a;
  inside = h;
  long = refl;
  quiet = z;
  same = refl;
}

module _ (drawing : Drawing) (marks : Marks) (heads : Heads) (ns : List ℕ) (c : Counts) (aim : Aim) (first end : ℕ) (es₀ es ws : List ℕ) (j : ℕ)
    (q : Pairs drawing marks heads ns c aim first end es₀ es ws j) where
  pub pairs-turn : j < end → (es' ws' : List ℕ)
      → seen_of ns es' c ≡ cut_nodes drawing.characters.now (values_of drawing) (pass_number aim.pass) (seen_of ns es c)
      (nodes_at drawing.characters.now (values_of drawing) (pass_number aim.pass) (seen_of ns es c) aim.element j)
      → Quiet drawing.characters.now (values_of drawing) (pass_number aim.pass) (seen_of ns es' c) aim.element ws'
      → Pairs drawing marks heads ns c aim first end es₀ es' ws' (j + 1)
  pairs-turn l es' ws' e still =
      let t : Tree = seen_of ns es c in
      let vs : List Value = values_of drawing in
      let bare = values-bare (length drawing.characters.now) (document drawing) (all-inside drawing.script.now drawing.characters.now q.cuttable.mendable.drawn.checked) in
      let other = no-id (pass_number aim.pass) in
      let ms : List ℕ = nodes_at drawing.characters.now vs (pass_number aim.pass) t aim.element j in
      let cs : List Cut = cuts_along drawing.characters.now vs (pass_number aim.pass) t ms in
      record {
        cuttable = cuttable-on drawing marks heads ns es c cs es' e (pass_number aim.pass) q.aimed.first q.aimed.last q.cuttable;
        aimed = subst (λ (u : Tree). Aimed drawing.characters.now u aim) (sym e)
            (nodes-aimed (length drawing.characters.now) drawing.characters.now vs bare (pass_number aim.pass) other aim ms t q.cuttable.mendable.tidy q.aimed);
        inside = q.inside;
        long = long-on drawing marks heads ns es c cs es' e ∙ q.long;
        quiet = still;
        same =
            ap (λ (u : Tree). cut_pairs drawing.characters.now vs (pass_number aim.pass) u (with_each aim.element (up_from (j + 1) (end - (j + 1))) [])) e
            ∙ sym (pair-first drawing.characters.now vs (pass_number aim.pass) aim.element t j (up_from (j + 1) (end - (j + 1))) [])
            ∙ ap (λ (xs : List ℕ). cut_pairs drawing.characters.now vs (pass_number aim.pass) t (with_each aim.element xs [])) (sym (up_step j end l))
            ∙ q.same;
      }

  pub pairs-done : end ≤ j
      → seen_of ns es c
      ≡ cut_pairs drawing.characters.now (values_of drawing) (pass_number aim.pass) (seen_of ns es₀ c) (with_each aim.element (up_from first
      (end - first)) [])
  unfolding with_each going_on applied
  pairs-done l =
      sym (ap (λ (xs : List ℕ). cut_pairs drawing.characters.now (values_of drawing) (pass_number aim.pass) (seen_of ns es c)
      (with_each aim.element xs []))
      (up_none j end l))
      ∙ q.same

-- THE ELEMENT

module _ (drawing : Drawing) (ns es : List ℕ) (c : Counts) (k i end first n : ℕ) (d : Range ns c.nodes i end) (e : n ≡ cut_name k)
    (low : i ≤ first) (high : first ≤ end)
    (h : (m : ℕ) → i ≤ m → m < first → attribute_id (read_of ns es) m n ≡ 0) where
  abbrev own : Tree
  own = seen_of ns es c

  -- The nodes before the first with a link leave everything as it is.
  from_first : cut_pairs drawing.characters.now (values_of drawing) k own (with_each i (up_from first (end - first)) [])
      ≡ cut_pairs drawing.characters.now (values_of drawing) k own (with_each i (descendants own i) [])
  from_first =
      let z : first ≡ i + (first - i) = omega arith in
      ap (λ (x : ℕ). cut_pairs drawing.characters.now (values_of drawing) k own (with_each i (up_from x (end - x)) [])) z
      ∙ skipped drawing.characters.now (values_of drawing) k i own (first - i) i end (omega arith)
      (λ m x y. sym (id_same own m (cut_name k)) ∙ sym (ap (attribute_id (read_of ns es) m) e) ∙ h m x (omega arith))
      ∙ ap (λ (xs : List ℕ). cut_pairs drawing.characters.now (values_of drawing) k own (with_each i xs []))
      (sym (range_same own i end d))

  -- None has a link.
  pub element-bare : first ≡ end → own ≡ cut_pairs drawing.characters.now (values_of drawing) k own (with_each i (descendants own i) [])
  unfolding with_each going_on applied
  element-bare z =
      sym (ap (λ (xs : List ℕ). cut_pairs drawing.characters.now (values_of drawing) k own (with_each i xs [])) (up_none first end (omega arith)))
      ∙ from_first

  -- No link leads to it.
  pub element-unled : 1 ≤ k → k ≤ 5 → key_of drawing.characters.now k own i ≡ 0
      → own ≡ cut_pairs drawing.characters.now (values_of drawing) k own (with_each i (descendants own i) [])
  element-unled f l z =
      all_quiet drawing.characters.now (values_of drawing) k i own (unled-nodes drawing.characters.now (values_of drawing) k f l own i z) (descendants own i)

  pub element-pairs : (u : Tree) → u ≡ cut_pairs drawing.characters.now (values_of drawing) k own (with_each i (up_from first (end - first)) [])
      → u ≡ cut_pairs drawing.characters.now (values_of drawing) k own (with_each i (descendants own i) [])
  element-pairs u q = q ∙ from_first

-- WHAT A TARGET AND A PAIR LEAVE

module _ (drawing : Drawing) (marks : Marks) (heads : Heads) (ns es : List ℕ) (c : Counts) (aim : Aim)
    (g : Cuttable drawing marks heads ns es c (pass_number aim.pass))
    (ws : List ℕ) (q : Quiet drawing.characters.now (values_of drawing) (pass_number aim.pass) (seen_of ns es c) aim.element ws) where
  -- A node that is covered: nothing is cut.
  pub covered-kept : (w : ℕ) → w < c.nodes → Covered ws w
      → seen_of ns es c ≡ cut_nodes drawing.characters.now (values_of drawing) (pass_number aim.pass) (seen_of ns es c)
      (passing (leads_to drawing.characters.now (values_of drawing) (pass_number aim.pass) (seen_of ns es c) aim.element) (descendants
      (seen_of ns es c) w))
  unfolding cuts_along applied
  covered-kept w l h =
      let e = covered_none drawing.characters.now (values_of drawing) (pass_number aim.pass) (seen_of ns es c) aim.element ws q w l h in
      rw e refl

  -- What is remembered is still behind cuts.
  pub quiet-on : (ms es' : List ℕ) → seen_of ns es' c ≡ cut_nodes drawing.characters.now (values_of drawing) (pass_number aim.pass) (seen_of ns es c) ms
      → Quiet drawing.characters.now (values_of drawing) (pass_number aim.pass) (seen_of ns es' c) aim.element ws
  quiet-on ms es' e =
      let bare = values-bare (length drawing.characters.now) (document drawing) (all-inside drawing.script.now drawing.characters.now g.mendable.drawn.checked) in
      subst (λ (u : Tree). Quiet drawing.characters.now (values_of drawing) (pass_number aim.pass) u aim.element ws) (sym e)
      (nodes-quiet (length drawing.characters.now) drawing.characters.now (values_of drawing) bare (pass_number aim.pass) aim.element (no-id
      (pass_number aim.pass)) ms (seen_of ns es c)
      g.mendable.tidy ws q)

-- Nothing is known before an element was aimed at.
pub known-none : (chars : List ℕ) (values : List Value) (k : ℕ) (t : Tree) (ws : List ℕ) → Known chars values k t None ws
known-none chars vs k t ws = tt
