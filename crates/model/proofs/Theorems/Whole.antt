-- The proof of demand 3: two builds of one drawing that differ in one text, and the exchange between them.
use Rattle.std.specs.Prelude.{ℕ, ◌+◌, ◌-◌, ◌*◌, ◌≤◌, ◌<◌, ◌≡◌, ◌⊎◌, Bool, eqb, ltb, take, set, replicate}
use Rattle.std.proofs.Math.Path.{refl, sym, ap}
use Rattle.std.proofs.Common.{◌∙◌, subst, inl, inr, ext_get_or, get_or-drop, get_or-take}
use Rattle.std.proofs.Math.Bool.{true, false}
use mathlib.Core.List.{List, [], ◌∷◌}
use native.Mathlib.Omega.{arith}
use Rattle.std.proofs.Math.Decide.{ℕ_discrete}
use borrow.Author.Tests.{eqb-true, eqb-false, eq-eqb, ne_eqb}
use Rattle.std.proofs.Math.ListN.{length, get_or}
use Rattle.std.proofs.lemmas.List.{length-replicate}
use Rattle.std.proofs.lemmas.List.Edits.{sets}
use Rattle.std.proofs.Math.Seq.{slice, length-sets, sets-eq, length-slice}
use Rattle.model.specs.Base.{pick, and, or, among}
use Rattle.model.specs.Utf8.{is_utf8}
use Rattle.model.specs.Drawing.{Element, Source, Event, begin, text, other, close, Value, Mark, commands, events, values_in}
use Rattle.model.specs.Check.{first_of, starting, check_from, most_bytes, check}
use Rattle.model.specs.Tables.{Tree, Out, refused, done, then, ROOT, TEXT, kind_of, from_of, to_of, entry_at, value_of, text_of, node_room}
use Rattle.model.specs.Tables.{cleared, rooted, set_none}
use Rattle.model.specs.Parse.{plain}
use Rattle.model.specs.Repair.{Cut, cut_name, cut_entry, apply_cut, applied, repairs, repaired}
use Rattle.model.specs.Build.{with_root, first_is_svg, tested, parse_tree, with_repairs, Result, answered, build, exchanged, exchange_fault}
use Rattle.model.specs.Build.{changed, settled, exchange}
use Rattle.model.specs.Theorems.Sim.{Rel, both, same, Events, Carried}
use Rattle.model.proofs.Theorems.Sim.{then-rel}
use Rattle.model.specs.Noted.{Note, size, sources, Noted, with_notes, noted_parsed, stripped, notes_of, noted_tree, In}
use Rattle.model.proofs.Noted.{notes-forgotten}
use Rattle.model.specs.Noted.{notes}
use Rattle.model.specs.Theorems.Agree.{Agree}
use Rattle.model.proofs.Theorems.Agree.{agree_refl, agree-sym, agree-outs, agree-slice, set_cases, sets-in}
use Rattle.model.specs.Theorems.Same.{Same}
use Rattle.model.proofs.Theorems.SameRepair.{fixed-safe, repaired-same}
use Rattle.model.specs.Under.{Under}
use Rattle.model.proofs.Theorems.Laws.{room_fits}
use Rattle.model.proofs.Theorems.Unused.{replicate-zero}
use Rattle.model.proofs.Theorems.Entries.{absurd-bool}
use Rattle.model.specs.Theorems.Kept.{Tidy, with_attributes}
use Rattle.model.proofs.Theorems.Kept.{tidy-root, tidy-none, attribute-any}
use Rattle.model.specs.Theorems.Inside.{LiesElement, LiesText}
use Rattle.model.proofs.Theorems.Inside.{bounded, check-walk, all-inside}
use Rattle.model.specs.Theorems.Good.{Apart, Good}
use Rattle.model.proofs.Theorems.Good.{text-nodes-keep}
use Rattle.model.proofs.Theorems.Spelled.{Safe, SpelledElement}
use Rattle.model.proofs.Theorems.Related.{holds, Stable, Steady, Outer, Open, outer_same, Fine, Harmless, top-related}
use Rattle.model.proofs.Theorems.Real.{notes-real}
use Rattle.model.proofs.Theorems.Places.{Outside, Ahead, ahead, within, events-same, check-same}
use Rattle.model.specs.Demand3.{text_nodes_down, Pinned, Spared, Alike, Exchangeable, Demand3}

holds-out : (t e : ℕ) (ns : List Note) → holds t e ns ≡ true → (x : Note) × In x ns × (x.elem ≡ e) × (among t (sources x) ≡ true)
unfolding holds
holds-out t e [] h = absurd-bool (sym h)
holds-out t e (n ∷ ns) h = go (λ g. holds-out t e ns g) (eqb n.elem e) refl (among t (sources n)) refl h
  where
    go : (holds t e ns ≡ true → (x : Note) × In x ns × (x.elem ≡ e) × (among t (sources x) ≡ true)) →
        (a : Bool) → eqb n.elem e ≡ a → (b : Bool) → among t (sources n) ≡ b → or (and a b) (holds t e ns) ≡ true →
        (x : Note) × In x (n ∷ ns) × (x.elem ≡ e) × (among t (sources x) ≡ true)
    go f true x true y g = (n, inl refl, eqb-true _ _ x, y)
    go f true x false y g = let r = f g in (r.0, inr r.1, r.2, r.3)
    go f false x b y g = let r = f g in (r.0, inr r.1, r.2, r.3)

-- Two notes with a byte in common are one note.
apart-same : (ns : List Note) → Apart ns → (m n : Note) → In m ns → In n ns → (q : ℕ) → m.start ≤ q → q < m.start + size m →
    n.start ≤ q → q < n.start + size n →
    m.elem ≡ n.elem
apart-same [] a m n x y q b c d e = absurd x
apart-same (k ∷ ns) a m n (inl x) (inl y) q b c d e = ap (λ (o : Note). o.elem) (x ∙ sym y)
apart-same (k ∷ ns) a m n (inl x) (inr y) q b c d e =
    let s : m.start ≡ k.start = ap (λ (o : Note). o.start) x in absurd (omega (arith, (a.0 n y).1))
apart-same (k ∷ ns) a m n (inr x) (inl y) q b c d e =
    let s : n.start ≡ k.start = ap (λ (o : Note). o.start) y in absurd (omega (arith, (a.0 m x).1))
apart-same (k ∷ ns) a m n (inr x) (inr y) q b c d e = apart-same ns a.1 m n x y q b c d e

-- What the build keeps of its notes is what demand 3 says of them.
pinned : (n : ℕ) (ns : List Note) (t : Tree) → Good n ns t → Pinned ns t
pinned n ns t g = record {
  each = g.each;
  under = g.placed;
  tiles = g.tiles;
  within = λ x h. let f = g.fits x h in (f.low, f.mid, f.high);
}

module _ (t : ℕ) (one two : List ℕ) (s r : Noted) (o : Outer t one two s r) where
  -- A note of a spared node: its element holds nothing of t.
  spared : (n : Note) → In n s.notes → Spared s.notes s.tree t n.node → holds t n.elem s.notes ≡ true → ⊥
  spared n x h d =
      let p = o.left.placed n x in
      let m = holds-out t n.elem s.notes d in
      let q = o.left.placed m.0 m.1 in
      let f = o.left.fits m.0 m.1 in
      let u : Under s.tree.nodes n.elem m.0.node = rw m.2 at q.2 in
      h n.elem p.0 p.1 p.2 (m.0.node, (o.left.below m.0 m.1).0, f.kind, u, (m.0, m.1, refl, m.3))

  stable-bound : (i k : ℕ) → Spared s.notes s.tree t i → 6 ≤ k → k ≤ 7 → Stable t s.notes (8 * i + k)
  stable-bound i k h a b n x d =
      (λ e. let g : n.node ≡ i = omega arith in spared n x (rw g h) d, λ e. let g : n.node ≡ i = omega arith in spared n x (rw g h) d)

  steady-text : (i : ℕ) → i < s.tree.node_count → kind_of s.tree i ≡ TEXT → Spared s.notes s.tree t i →
      (q : ℕ) → from_of s.tree i ≤ q → q < to_of s.tree i → Steady t s.notes q
  steady-text i l k h q a b m x d y z =
      let n = o.left.noted i l k in
      let f = o.left.fits n.0 n.1 in
      let e6 : from_of s.tree n.0.node ≡ from_of s.tree i = ap (λ j. from_of s.tree j) n.2 in
      let e7 : to_of s.tree n.0.node ≡ to_of s.tree i = ap (λ j. to_of s.tree j) n.2 in
      let g : m.elem ≡ n.0.elem = apart-same s.notes o.left.apart m n.0 x n.1 q y z (omega (arith, f.low))
      (omega (arith, f.high)) in
      spared n.0 n.1 (rw n.2 h) (rw (← g) d)

  alike : Alike t s.notes one two s.tree r.tree
  unfolding text_of entry_at
  alike = record {
    node_count = o.node_count;
    attribute_count = o.attribute_count;
    text_count = o.text_count;
    nodes_length = o.nodes.long;
    text_length = o.text.long;
    words = λ i k b f. o.nodes.at (8 * i + k) (λ n x d. (
      λ e. bound i k f n x (omega arith) (omega arith),
      λ e. bound i k f n x (omega arith) (omega arith),
    ));
    attributes = o.attributes;
    values = λ j. o.safe j
        ∙ ap (λ (l : List ℕ). value_of two (entry_at (record {
          nodes = [];
          attributes = l;
          text = [];
          node_count = 0;
          attribute_count = 0;
          text_count = 0;
        }) j)) o.attributes;
    texts = λ i l k h.
        let e6 = o.nodes.at (8 * i + 6) (stable-bound i 6 h (omega arith) (omega arith)) in
        let e7 = o.nodes.at (8 * i + 7) (stable-bound i 7 h (omega arith) (omega arith)) in
        (e6, e7, rw (← e6, ← e7) (agree-slice (from_of s.tree i) (to_of s.tree i) (λ q a b. steady-text i l k h q a b) o.text));
    pinned = pinned (length one) s.notes s.tree o.left;
  }
    where
      bound : (i k : ℕ) → (kind_of s.tree i ≡ TEXT → k < 6) → (n : Note) → In n s.notes → n.node ≡ i → 6 ≤ k → ⊥
      bound i k f n x e g = let h : kind_of s.tree i ≡ TEXT = rw e at (o.left.fits n x).kind in let z = f h in omega arith

-- THE REPAIRS CHANGE ATTRIBUTES ALONE

cut-form : (t : Tree) (c : Cut) (ats : List ℕ) → with_attributes ats (apply_cut t c) ≡ with_attributes ats t
unfolding apply_cut set_none
cut-form t c ats = go (eqb (cut_entry t c.pass c.node) 0)
  where
    go : (b : Bool) → with_attributes ats (pick b (λ u. t) (λ u. set_none (cut_entry t c.pass c.node - 1) t)) ≡ with_attributes ats t
    go true = refl
    go false = refl

cuts-form : (t : Tree) (cs : List Cut) → applied t cs ≡ with_attributes (applied t cs).attributes t
unfolding applied
cuts-form t [] = refl
cuts-form t (c ∷ cs) = cuts-form (apply_cut t c) cs ∙ cut-form t c _

repaired-form : (chars : List ℕ) (values : List Value) (t : Tree) →
    repaired chars values t ≡ with_attributes (repaired chars values t).attributes t
unfolding repaired
repaired-form chars values t = cuts-form t (repairs chars values t)

-- They keep all that a build keeps.
cut-tidy : (size : ℕ) (t : Tree) (c : Cut) → Tidy size t → Tidy size (apply_cut t c)
unfolding apply_cut
cut-tidy size t c k = go (eqb j 0) refl
  where
    j : ℕ
    j = cut_entry t c.pass c.node

    go : (b : Bool) → eqb j 0 ≡ b → Tidy size (pick b (λ u. t) (λ u. set_none (j - 1) t))
    go true e = k
    go false e =
        let z : (j ≡ 0 → ⊥) = eqb-false j 0 e in
        tidy-none size t k (j - 1) (omega (arith, attribute-any size t k.kept k.unused c.node (cut_name c.pass) z))

pub cuts-tidy : (size : ℕ) (t : Tree) (cs : List Cut) → Tidy size t → Tidy size (applied t cs)
unfolding applied
cuts-tidy size t [] k = k
cuts-tidy size t (c ∷ cs) k = cuts-tidy size (apply_cut t c) cs (cut-tidy size t c k)

pub repaired-tidy : (size : ℕ) (chars : List ℕ) (values : List Value) (t : Tree) → Tidy size t → Tidy size (repaired chars values t)
unfolding repaired
repaired-tidy size chars values t k = cuts-tidy size t (repairs chars values t) k

good-with : (n : ℕ) (ns : List Note) (t : Tree) (ats : List ℕ) → Tidy n (with_attributes ats t) → Good n ns t →
    Good n ns (with_attributes ats t)
good-with n ns t ats k g = record {
  tidy = k;
  tiles = g.tiles;
  each = g.each ∙ sym (text-nodes-keep (with_attributes ats t) t t.node_count (λ j l. refl));
  fits = λ n h. let f = g.fits n h in record { kind = f.kind; low = f.low; mid = f.mid; high = f.high };
  below = g.below;
  apart = g.apart;
  placed = g.placed;
  noted = g.noted;
}

good-repaired : (n : ℕ) (ns : List Note) (chars : List ℕ) (values : List Value) (t : Tree) → Good n ns t →
    Good n ns (with_attributes (repaired chars values t).attributes t)
good-repaired n ns chars values t g =
    good-with n ns t _ (subst (λ (x : Tree). Tidy n x) (repaired-form chars values t) (repaired-tidy n chars values t g.tidy)) g

one-text : (t : Tree) → (kind_of t 0 ≡ TEXT → ⊥) → text_nodes_down t 1 ≡ []
unfolding text_nodes_down
one-text t e = rw (ne_eqb (kind_of t 0) TEXT e) refl

-- There is room for the root.
root-room : (n m b : ℕ) → ltb 0 (node_room (cleared n m b)) ≡ true → 8 ≤ n
unfolding cleared
root-room n m b h = omega (arith, room_fits (cleared n m b) h, length-replicate {A = ℕ} n 0)

outer-path : (t : ℕ) (one two : List ℕ) (a a' b b' : Noted) → a ≡ a' → b ≡ b' → Outer t one two a' b' → Outer t one two a b
outer-path t one two a a' b b' p q o = rw (p, q) o

-- A noted tree with its repairs.
abbrev pub mended : List ℕ → List Value → Noted → Noted
mended chars values s = record { tree = repaired chars values s.tree; notes = s.notes }

module _ (t : ℕ) (one two : List ℕ) where
  outer-with : (s r : Noted) (ats : List ℕ) → Outer t one two s r → ((j : ℕ) → Safe one two (entry_at (with_attributes ats s.tree) j)) →
      Good (length one) s.notes (with_attributes ats s.tree) → Good (length one) s.notes (with_attributes ats r.tree) →
      Outer t one two (record { tree = with_attributes ats s.tree; notes = s.notes })
      (record { tree = with_attributes ats r.tree; notes = r.notes })
  outer-with s r ats o f left right = record {
    notes = o.notes;
    node_count = o.node_count;
    attribute_count = o.attribute_count;
    text_count = o.text_count;
    attributes = refl;
    nodes = o.nodes;
    text = o.text;
    safe = f;
    left = left;
    right = right;
  }

  pub outer-repaired : (values : List Value) (s r : Noted) → Outer t one two s r →
      Outer t one two (mended one values s) (mended two values r)
  unfolding entry_at
  outer-repaired values s r o =
      let h = repaired-same one two values s.tree r.tree (outer_same t one two s r o) in
      outer-path t one two _ _ _ _
      (ap (λ (x : Tree). record { tree = x; notes = s.notes }) (repaired-form one values s.tree))
      (ap (λ (x : Tree). record { tree = x; notes = r.notes })
      (repaired-form two values r.tree ∙ ap (λ (l : List ℕ). with_attributes l r.tree) (sym h.attributes)))
      (outer-with s r (repaired one values s.tree).attributes o h.safe (good-repaired (length one) s.notes one values s.tree
      o.left)
      (subst (λ (l : List ℕ). Good (length one) s.notes (with_attributes l r.tree)) (sym h.attributes)
      (good-repaired (length one) s.notes two values r.tree o.right)))

  -- THE WHOLE BUILD

  cleared-safe : (n m b j : ℕ) → Safe one two (entry_at (cleared n m b) j)
  unfolding cleared entry_at
  cleared-safe n m b j = fixed-safe one two (entry_at (cleared n m b) j) (replicate-zero m (5 * j + 4))

  start : (n m b : ℕ) → 8 ≤ n →
      Open t one two 0 (record { tree = rooted (cleared n m b); notes = [] }) (record { tree = rooted (cleared n m b); notes = [] })
  unfolding rooted cleared entry_at
  start n m b room = record {
    outer = record {
      notes = refl;
      node_count = refl;
      attribute_count = refl;
      text_count = refl;
      attributes = refl;
      nodes = agree_refl _ _;
      text = agree_refl _ _;
      safe = λ j. cleared-safe n m b j;
      left = good;
      right = good;
    };
    opened = omega arith;
  }
    where
      root : (j : ℕ) → get_or {A = ℕ} (set (replicate n 0) (8 * 0 + 0) ROOT) j 0 ≡ TEXT → ⊥
      root j k = go (set_cases (replicate n 0) (8 * 0 + 0) ROOT j)
        where
          go : (get_or {A = ℕ} (set (replicate n 0) (8 * 0 + 0) ROOT) j 0 ≡ get_or {A = ℕ} (replicate n 0) j 0)
              ⊎ ((j ≡ 8 * 0 + 0) × (get_or {A = ℕ} (set (replicate n 0) (8 * 0 + 0) ROOT) j 0 ≡ ROOT)) → ⊥
          go (inl e) = omega (arith, replicate-zero n j)
          go (inr e) = omega arith

      good : Good (length one) [] (rooted (cleared n m b))
      good = record {
        tidy = tidy-root (length one) n m b room;
        tiles = refl;
        each = sym (no_text (ℕ_discrete (kind_of (rooted (cleared n m b)) 0) TEXT));
        fits = λ x h. absurd h;
        below = λ x h. absurd h;
        apart = tt;
        placed = λ x h. absurd h;
        noted = λ i h k. absurd (root (8 * i + 0) k);
      }
        where
          no_text : Dec (kind_of (rooted (cleared n m b)) 0 ≡ TEXT) → text_nodes_down (rooted (cleared n m b)) 1 ≡ []
          no_text (yes e) = absurd (root (8 * 0 + 0) e)
          no_text (no e) = one-text (rooted (cleared n m b)) e

  svg-same : (s r : Tree) → Same one two s r → first_is_svg s ≡ first_is_svg r
  unfolding first_is_svg
  svg-same s r h = rw (
    h.child 0,
    h.kind (Rattle.model.specs.Tables.first_child_of r 0 - 1),
    h.code (Rattle.model.specs.Tables.first_child_of r 0 - 1),
  )

  pub trees-related : (all : List Event) → Events (Fine t one two) (Harmless t one two) all → (n m b : ℕ) →
      Rel (Outer t one two) (noted_tree (plain one) all (cleared n m b)) (noted_tree (plain two) all (cleared n m b))
  unfolding noted_tree with_root noted_parsed tested
  trees-related all ok n m b = pick-root (ltb 0 (node_room (cleared n m b))) refl
    where
      end : (s r : Noted) → Outer t one two s r →
          Rel (Outer t one two) (with_notes s.notes (tested s.tree)) (with_notes r.notes (tested r.tree))
      end s r o = rw (← svg-same s.tree r.tree (outer_same t one two s r o)) (go (first_is_svg s.tree))
        where
          go : (c : Bool) → Rel (Outer t one two) (with_notes s.notes (pick c (λ u. done s.tree) (λ u. refused 21)))
              (with_notes r.notes (pick c (λ u. done r.tree) (λ u. refused 21)))
          go true = same o
          go false = both 21

      pick-root : (c : Bool) → ltb 0 (node_room (cleared n m b)) ≡ c → Rel (Outer t one two)
          (then (pick c (λ u. done (rooted (cleared n m b))) (λ u. refused 22)) (λ r. then (noted_parsed (plain one) all r)
          (λ s. with_notes s.notes (tested s.tree))))
          (then (pick c (λ u. done (rooted (cleared n m b))) (λ u. refused 22)) (λ r. then (noted_parsed (plain two) all r)
          (λ s. with_notes s.notes (tested s.tree))))
      pick-root true e =
          let o = start n m b (root-room n m b e) in
          then-rel (Carried (Open t one two) (record { tree = rooted (cleared n m b); notes = [] })
          (record { tree = rooted (cleared n m b); notes = [] })) (Outer t one two) _ _
          (top-related t one two all ok _ _ o) (λ s r k. end s r (k 0 o).outer)
      pick-root false e = both 22

  -- What two related builds answer.
  pub record Answers (all : List Event) (x y : Out Noted) (empty : Tree) : Type 0 where
    pub number : (answered one empty (with_repairs one all (stripped x))).number
        ≡ (answered two empty (with_repairs two all (stripped y))).number
    pub notes : notes_of x ≡ notes_of y
    pub trees : Alike t (notes_of x) one two (answered one empty (with_repairs one all (stripped x))).tree
        (answered two empty (with_repairs two all (stripped y))).tree

  answers : (all : List Event) (n m b : ℕ) (x y : Out Noted) → Rel (Outer t one two) x y → Answers all x y (cleared n m b)
  unfolding stripped notes_of cleared text_nodes_down
  answers all n m b x y (both k) = record {
    number = refl;
    notes = refl;
    trees = record {
      node_count = refl;
      attribute_count = refl;
      text_count = refl;
      nodes_length = refl;
      text_length = refl;
      words = λ i k b f. refl;
      attributes = refl;
      values = cleared-safe n m b;
      texts = λ i l k h. (refl, refl, refl);
      pinned = record { each = refl; under = λ x h. absurd h; tiles = refl; within = λ x h. absurd h };
    };
  }
  answers all n m b x y (same {s = s} {t = r} o) =
      record { number = refl; notes = o.notes; trees = alike t one two _ _ (outer-repaired (values_in all) s r o) }

-- THE EXCHANGE

-- Two things that hold of all elements.
both-events : (G G' : Element → Type 0) (H H' : Source → Type 0) (xs : List Event) → Events G H xs → Events G' H' xs →
    Events (λ x. G x × G' x) H xs
both-events G G' H H' [] h k = tt
both-events G G' H H' (begin e ∷ xs) h k = ((h.0, k.0), both-events G G' H H' xs h.1 k.1)
both-events G G' H H' (text a ∷ xs) h k = (h.0, both-events G G' H H' xs h.1 k.1)
both-events G G' H H' (other ∷ xs) h k = both-events G G' H H' xs h k
both-events G G' H H' (close ∷ xs) h k = both-events G G' H H' xs h k

-- A build that gives 0 was checked; check's number is build's.
pub build-checked : (script chars : List ℕ) (n m b : ℕ) → (build script chars n m b).number ≡ 0 → check script chars ≡ 0
unfolding build
build-checked script chars n m b h = go (eqb (check script chars) 0) refl h
  where
    go : (c : Bool) → eqb (check script chars) 0 ≡ c →
        (answered chars (cleared n m b)
        (pick c (λ u. with_repairs chars (events script chars) (parse_tree (plain chars) (events script chars) (cleared n m b)))
        (λ u. refused (check script chars)))).number ≡ 0 → check script chars ≡ 0
    go true e g = eqb-true _ _ e
    go false e g = g

-- A build of what check takes is the parse with the tables cleared, and its repairs.
build-parsed : (script chars : List ℕ) (n m b : ℕ) → check script chars ≡ 0 →
    build script chars n m b ≡ answered chars (cleared n m b)
    (with_repairs chars (events script chars) (parse_tree (plain chars) (events script chars) (cleared n m b)))
unfolding build
build-parsed script chars n m b h = rw h refl

-- The same by the build with notes.
pub build-noted : (script chars : List ℕ) (n m b : ℕ) → check script chars ≡ 0 →
    build script chars n m b ≡ answered chars (cleared n m b)
    (with_repairs chars (events script chars) (stripped (noted_tree (plain chars) (events script chars) (cleared n m b))))
build-noted script chars n m b h = build-parsed script chars n m b h
    ∙ ap (λ (o : Out Tree). answered chars (cleared n m b) (with_repairs chars (events script chars) o))
    (sym (notes-forgotten (plain chars) (events script chars) (cleared n m b)))

pub answered-chars : (chars : List ℕ) (t : Tree) (o : Out Tree) → (answered chars t o).characters ≡ chars
answered-chars chars t (refused k) = refl
answered-chars chars t (done u) = refl

-- What a run of stores leaves in its place.
slice-sets : (vs xs : List ℕ) (p : ℕ) → p + length vs ≤ length xs → slice p (p + length vs) (sets xs p vs) ≡ vs
slice-sets vs xs p h =
    let long : length (slice p (p + length vs) (sets xs p vs)) ≡ length vs =
    length-slice p (p + length vs) (sets xs p vs) (rw (length-sets xs p vs) h) ∙ (let z : p + length vs - p ≡ length vs = omega arith in
    z) in
    ext_get_or 0 _ _ long (λ i l.
    let b : i < length vs = rw long at l in
    rw (get_or-drop p (take (p + length vs) (sets xs p vs)) i 0, get_or-take (p + length vs) (sets xs p vs) (p + i) 0 (omega arith))
    (sets-in vs xs p i h b))

-- check of other characters as long.
check-other : (script one two : List ℕ) → check script one ≡ 0 → length two ≡ length one →
    check_from two (length one) starting (commands script) ≡ 0 → check script two ≡ 0
unfolding check
check-other script one two h e k = rw e (go (or (ltb most_bytes (length script)) (ltb most_bytes (length one))) h)
  where
    go : (c : Bool) → pick c (λ u. 1) (λ u. check_from one (length one) starting (commands script)) ≡ 0 →
        pick c (λ u. 1) (λ u. check_from two (length one) starting (commands script)) ≡ 0
    go true g = absurd (omega arith)
    go false g = k

-- An exchange with no fault gives what the build of the changed drawing gives, if that is 0.
exchange-done : (script chars : List ℕ) (t : ℕ) (new two ns ats ts : List ℕ) → exchange_fault script chars t new ≡ 0 →
    changed script chars t new ≡ two →
    (build script two (length ns) (length ats) (length ts)).number ≡ 0 →
    exchange script chars t new ns ats ts ≡ build script two (length ns) (length ats) (length ts)
unfolding exchange
exchange-done script chars t new two ns ats ts e f g = rw (e, f) (settle (build script two (length ns) (length ats) (length ts)) g)
  where
    settle : (r : Result) → r.number ≡ 0 → settled chars r ≡ r
    settle r k = go (eqb r.number 0) (eq-eqb r.number 0 k)
      where
        go : (c : Bool) → c ≡ true → pick c (λ u. r) (λ u. record { number = r.number; characters = chars; tree = r.tree }) ≡ r
        go true x = refl
        go false x = absurd-bool (sym x)

module _ (script chars : List ℕ) (n m b t : ℕ) (a : Source) (new : List ℕ) (h : Exchangeable script chars n m b t a new) where
  abbrev two : List ℕ
  two = exchanged a new chars

  abbrev first : Mark
  first = record { number = 0; at = 0; texts = 0 }

  checked-one : check script chars ≡ 0
  checked-one = build-checked script chars n m b h.built

  walk-one : check_from chars (length chars) starting (commands script) ≡ 0
  walk-one = check-walk script chars checked-one

  text-ahead : Ahead t a first (commands script)
  unfolding events
  text-ahead = ahead t a chars first (commands script) h.text

  text-within : a.start + a.size ≤ length chars
  unfolding events starting
  text-within = within t a chars (length chars) starting first (commands script) refl walk-one h.text

  two-long : length two ≡ length chars
  unfolding exchanged
  two-long = length-sets chars a.start new

  agree : Agree (Outside a) chars two
  unfolding exchanged
  agree = agree-sym (agree-outs new chars a.start (λ j x y w. out j x y w))
    where
      out : (j : ℕ) → a.start ≤ j → j < a.start + length new → Outside a j → ⊥
      out j x y (inl w) = omega arith
      out j x y (inr w) = omega (arith, h.size)

  new-spelled : is_utf8 (slice a.start (a.start + a.size) two) ≡ true
  unfolding exchanged
  new-spelled = rw (← h.size, slice-sets new chars a.start (omega (arith, text-within, h.size))) h.utf8

  checked-two : check script two ≡ 0
  unfolding starting
  checked-two = check-other script chars two checked-one two-long
      (check-same t a chars two agree (length chars) new-spelled starting first (commands script) refl tt text-ahead.clear walk-one)

  abbrev all : List Event
  all = events script chars

  same-events : (all ≡ events script two) × Events (SpelledElement chars two) (Harmless t chars two) all
  unfolding events starting
  same-events = events-same t a chars two agree first 0 (commands script) text-ahead.clear
      (bounded chars (length chars) starting (commands script) walk-one)

  fine-events : Events (Fine t chars two) (Harmless t chars two) all
  fine-events = both-events (SpelledElement chars two) (LiesElement (length chars)) (Harmless t chars two) (LiesText (length chars)) all
      same-events.1 (all-inside script chars checked-one)

  related : Rel (Outer t chars two) (noted_tree (plain chars) all (cleared n m b)) (noted_tree (plain two) all (cleared n m b))
  related = trees-related t chars two all fine-events n m b

  ends : Answers t chars two all (noted_tree (plain chars) all (cleared n m b)) (noted_tree (plain two) all (cleared n m b)) (cleared n m b)
  ends = answers t chars two all n m b _ _ related

  build-one : build script chars n m b ≡ answered chars (cleared n m b)
      (with_repairs chars all (stripped (noted_tree (plain chars) all (cleared n m b))))
  build-one = build-noted script chars n m b checked-one

  build-two : build script two n m b ≡ answered two (cleared n m b)
      (with_repairs two all (stripped (noted_tree (plain two) all (cleared n m b))))
  build-two = build-noted script two n m b checked-two
      ∙ ap (λ (xs : List Event). answered two (cleared n m b) (with_repairs two xs (stripped (noted_tree (plain two) xs (cleared n m b)))))
      (sym same-events.0)

  number-two : (build script two n m b).number ≡ 0
  number-two = ap (λ (r : Result). r.number) build-two ∙ sym ends.number ∙ sym (ap (λ (r : Result). r.number) build-one) ∙ h.built

  no-fault : exchange_fault script chars t new ≡ 0
  unfolding exchange_fault first_of
  no-fault = rw (checked-one, h.text, text-ahead.number, h.outside, eq-eqb (length new) a.size h.size, h.utf8)

  changed-two : changed script chars t new ≡ two
  unfolding changed
  changed-two = rw h.text

  alike-two : Alike t (notes script chars n m b) chars two (build script chars n m b).tree (build script two n m b).tree
  unfolding notes
  alike-two = rw (build-one, build-two) ends.trees

  same-notes : notes script two n m b ≡ notes script chars n m b
  unfolding notes
  same-notes = ap (λ (xs : List Event). notes_of (noted_tree (plain two) xs (cleared n m b))) (sym same-events.0) ∙ sym ends.notes

  pub demand3 : Demand3 script chars n m b t a new
  unfolding exchanged
  demand3 = record {
    accepted = λ ns ats ts x y z.
        let e : build script two (length ns) (length ats) (length ts) ≡ build script two n m b = λ i. build script two (x i) (y i) (z i) in
        exchange-done script chars t new two ns ats ts no-fault changed-two (ap (λ (r : Result). r.number) e ∙ number-two) ∙ e;
    number = number-two;
    characters = ap (λ (r : Result). r.characters) build-two
        ∙ answered-chars two (cleared n m b) (with_repairs two all (stripped (noted_tree (plain two) all (cleared n m b))))
        ∙ (let z = sets-eq new chars a.start (omega (arith, text-within, h.size)) in rw (← h.size) z);
    checked = checked-two;
    same_events = sym same-events.0;
    same_notes = same-notes;
    real = notes-real script chars n m b;
    alike = alike-two;
  }
