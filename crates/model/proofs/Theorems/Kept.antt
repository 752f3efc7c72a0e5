-- What a build keeps true of its tables: the 40 test as facts (`Kept`), that each way of writing keeps it, and that it is that test.
use Prim.Native.Nat.{ℕ, zero, suc, ◌+◌, ◌-◌, ◌*◌, ◌≤◌, ◌<◌}
use Rattle.std.proofs.Math.Path.{◌≡◌, refl, sym, ap}
use Rattle.std.proofs.Common.{◌∙◌, eqb-true, eq-eqb, ne_eqb, length-set}
use Rattle.std.specs.Prelude.{◌⊎◌, Bool, true, false, eqb, get_or, set, replicate}
use Rattle.std.proofs.Math.Logic.{inl, inr}
use mathlib.Core.List.{List, [], ◌∷◌}
use native.Mathlib.Omega.{arith}
use Rattle.std.proofs.Math.Decide.{ℕ_discrete, dec_lt}
use Rattle.std.proofs.lemmas.Bool.{eqb-false}
use Rattle.std.proofs.Math.ListN.{length}
use Rattle.std.proofs.lemmas.List.{length-replicate}
use Rattle.std.proofs.lemmas.List.Edits.{sets}
use Rattle.std.proofs.Math.Seq.{get_or-set_same, get_or-set_other, length-sets}
use Rattle.model.specs.Base.{pick}
use Rattle.model.specs.Names.{is_element}
use Rattle.model.specs.Tables.{Tree, ROOT, ELEMENT, TEXT, word, set_word, kind_of, last_child_of}
use Rattle.model.specs.Tables.{from_of, to_of, next_linked, first_linked, linked, appended, Entry, entry_word, entry_at, find_entry}
use Rattle.model.specs.Tables.{attribute_id, cleared, rooted, add_element, add_text, set_text, set_none}
use Rattle.model.proofs.Theorems.Agree.{set_cases, sets-in, sets-out}
use Rattle.model.proofs.Theorems.Laws.{appended-old, appended-new}
use Rattle.model.specs.Theorems.Unused.{Unused}
use Rattle.model.proofs.Theorems.Unused.{next-long, element-lengths, text-lengths, bounds-lengths, replicate-zero, unused-root}
use Rattle.model.proofs.Theorems.Unused.{unused-element, unused-text, unused-bounds, unused-none}
use Rattle.model.specs.Theorems.Sim.{Every}
use Rattle.model.proofs.Theorems.Entries.{old-entry, new-entry, none-entry, none-others}
use Rattle.model.specs.Theorems.Kept.{Later, InOrder, KeptNode, KeptEntry, Kept, Coherent, with_attributes, Ordered, Tidy}

-- THE LINKS AFTER A NEW NODE

-- Every word of ys is that of xs, or it is v and stands at a place of P.
abbrev Stored : ℕ → (ℕ → Type 0) → List ℕ → List ℕ → Type 0
Stored v P xs ys = (q : ℕ) → (get_or ys q 0 ≡ get_or xs q 0) ⊎ (P q × (get_or ys q 0 ≡ v))

stored-set : (v : ℕ) (P : ℕ → Type 0) (xs : List ℕ) (n : ℕ) → P n → Stored v P xs (set xs n v)
stored-set v P xs n h q = go (set_cases xs n v q)
  where
    go : (get_or (set xs n v) q 0 ≡ get_or xs q 0) ⊎ ((q ≡ n) × (get_or (set xs n v) q 0 ≡ v)) →
        (get_or (set xs n v) q 0 ≡ get_or xs q 0) ⊎ (P q × (get_or (set xs n v) q 0 ≡ v))
    go (inl e) = inl e
    go (inr e) = inr (rw e.0 h, e.1)

stored-pick : (v : ℕ) (P : ℕ → Type 0) (xs ys zs : List ℕ) (b : Bool) → Stored v P xs ys → Stored v P xs zs →
    Stored v P xs (pick b (λ u. ys) (λ u. zs))
stored-pick v P xs ys zs true f g = f
stored-pick v P xs ys zs false f g = g

stored-then : (v : ℕ) (P : ℕ → Type 0) (xs ys zs : List ℕ) → Stored v P xs ys → Stored v P ys zs → Stored v P xs zs
stored-then v P xs ys zs f g q = go (f q) (g q)
  where
    go : (get_or ys q 0 ≡ get_or xs q 0) ⊎ (P q × (get_or ys q 0 ≡ v)) → (get_or zs q 0 ≡ get_or ys q 0) ⊎ (P q × (get_or zs q 0 ≡ v)) →
        (get_or zs q 0 ≡ get_or xs q 0) ⊎ (P q × (get_or zs q 0 ≡ v))
    go a (inr b) = inr b
    go (inl a) (inl b) = inl (b ∙ a)
    go (inr a) (inl b) = inr (a.0, b ∙ a.1)

module _ (p i : ℕ) where
  -- The places of links to a new node below p, whose last child was the one before.
  abbrev Links : ℕ → ℕ → Type 0
  Links j q = (q ≡ 8 * (j - 1) + 2) ⊎ ((q ≡ 8 * p + 3) ⊎ (q ≡ 8 * p + 4))

  linked-stored : (xs : List ℕ) → Stored (i + 1) (Links (word xs p 4)) xs (linked xs p i)
  unfolding linked first_linked next_linked
  linked-stored xs =
      stored-then v P xs first (set_word first p 4 v)
      (stored-then v P xs next first
      (stored-pick v P xs xs (set_word xs (j - 1) 2 v) (eqb j 0) (λ q. inl refl) (stored-set v P xs (8 * (j - 1) + 2) (inl refl)))
      (stored-pick v P next (set_word next p 3 v) next (eqb (word next p 3) 0) (stored-set v P next (8 * p + 3) (inr (inl refl)))
      (λ q. inl refl)))
      (stored-set v P first (8 * p + 4) (inr (inr refl)))
    where
      v : ℕ
      v = i + 1

      j : ℕ
      j = word xs p 4

      P : ℕ → Type 0
      P = Links j

      next : List ℕ
      next = pick (eqb j 0) (λ u. xs) (λ u. set_word xs (j - 1) 2 v)

      first : List ℕ
      first = pick (eqb (word next p 3) 0) (λ u. set_word next p 3 v) (λ u. next)

  linked-parts : (xs : List ℕ) → 8 * p + 4 < length xs → (word (linked xs p i) p 4 ≡ i + 1) × (word (linked xs p i) p 3 ≡ 0 → ⊥)
  unfolding linked first_linked
  linked-parts xs room = (
    get_or-set_same first (8 * p + 4) (i + 1) 0 (omega (arith, long (eqb (word next p 3) 0), next-long xs (word xs p 4) i)),
    λ e. given-first (eqb (word next p 3) 0) refl e,
  )
    where
      next : List ℕ
      next = next_linked xs (word xs p 4) i

      first_of : Bool → List ℕ
      first_of b = pick b (λ u. set_word next p 3 (i + 1)) (λ u. next)

      first : List ℕ
      first = first_of (eqb (word next p 3) 0)

      long : (b : Bool) → length (first_of b) ≡ length next
      long true = length-set next (8 * p + 3) (i + 1)
      long false = refl

      given-first : (b : Bool) → eqb (word next p 3) 0 ≡ b → word (set_word (first_of b) p 4 (i + 1)) p 3 ≡ 0 → ⊥
      given-first true x e =
          omega (
            arith,
            get_or-set_other (set next (8 * p + 3) (i + 1)) (8 * p + 4) (8 * p + 3) (i + 1) 0 (λ z. omega arith),
            get_or-set_same next (8 * p + 3) (i + 1) 0 (omega (arith, next-long xs (word xs p 4) i)),
          )
      given-first false x e = eqb-false _ 0 x (sym (get_or-set_other next (8 * p + 4) (8 * p + 3) (i + 1) 0 (λ z. omega arith)) ∙ e)

module _ (kind code from to : ℕ) (ns : List ℕ) (p i : ℕ) (below : p < i) (last : word ns p 4 ≤ i) (room : 8 * i + 8 ≤ length ns) where
  abbrev own : List ℕ
  own = kind ∷ (p + 1) ∷ 0 ∷ 0 ∷ 0 ∷ code ∷ from ∷ to ∷ []

  abbrev mid : List ℕ
  mid = sets ns (8 * i) own

  abbrev after : List ℕ
  after = appended kind code from to ns p i

  mid-old : (k w : ℕ) → k < i → w < 8 → word mid k w ≡ word ns k w
  mid-old k w l b = sets-out own ns (8 * i) (8 * k + w) (λ x y. omega arith)

  mid-new : (w : ℕ) → w < 8 → word mid i w ≡ get_or own w 0
  mid-new w b = sets-in own ns (8 * i) w room b

  -- A word of a node before the new one: as it was, or a link to the new one.
  old-word : (k w : ℕ) → k < i → w < 8 → (word after k w ≡ word ns k w) ⊎ (Links p i (word mid p 4) (8 * k + w) × (word after k w ≡ i + 1))
  unfolding appended
  old-word k w l b = go (linked-stored p i mid (8 * k + w))
    where
      go : (get_or (linked mid p i) (8 * k + w) 0 ≡ word mid k w) ⊎ (Links p i (word mid p 4) (8 * k + w)
          × (get_or (linked mid p i) (8 * k + w) 0 ≡ i + 1)) →
          (get_or (linked mid p i) (8 * k + w) 0 ≡ word ns k w) ⊎ (Links p i (word mid p 4) (8 * k + w)
          × (get_or (linked mid p i) (8 * k + w) 0 ≡ i + 1))
      go (inl e) = inl (e ∙ mid-old k w l b)
      go (inr e) = inr e

  -- The links to a later sibling or child.
  pub old-later : (k w n : ℕ) → k < i → w < 8 → n ≤ i → Later n k (word ns k w) → Later (i + 1) k (word after k w)
  old-later k w n l b m h z = go (old-word k w l b)
    where
      go : (word after k w ≡ word ns k w) ⊎ (Links p i (word mid p 4) (8 * k + w) × (word after k w ≡ i + 1)) →
          (k + 2 ≤ word after k w) × (word after k w ≤ i + 1)
      go (inl e) = let f = h (λ y. z (e ∙ y)) in (omega (arith, e, f.0), omega (arith, e, f.1))
      go (inr e) = (omega (arith, e.1), omega (arith, e.1))

  -- The children of a node that is not the parent.
  pub old-child : (k w : ℕ) → k < i → (k ≡ p → ⊥) → 3 ≤ w → w ≤ 4 → word after k w ≡ word ns k w
  old-child k w l d a b = go (old-word k w l (omega arith))
    where
      off : Links p i (word mid p 4) (8 * k + w) → ⊥
      off (inl e) = omega arith
      off (inr (inl e)) = d (omega arith)
      off (inr (inr e)) = d (omega arith)

      go : (word after k w ≡ word ns k w) ⊎ (Links p i (word mid p 4) (8 * k + w) × (word after k w ≡ i + 1)) → word after k w ≡ word ns k w
      go (inl e) = e
      go (inr e) = absurd (off e.0)

  pub parent-last : word after p 4 ≡ i + 1
  unfolding appended
  parent-last = (linked-parts p i mid (omega (arith, length-sets ns (8 * i) own))).0

  pub parent-first : word after p 3 ≡ 0 → ⊥
  unfolding appended
  parent-first = (linked-parts p i mid (omega (arith, length-sets ns (8 * i) own))).1

  -- The first child: as it was, or the new node below its parent.
  pub first-child : (k : ℕ) → k < i → (word after k 3 ≡ word ns k 3) ⊎ ((k ≡ p) × (word after k 3 ≡ i + 1))
  first-child k l = go (old-word k 3 l (omega arith))
    where
      at : Links p i (word mid p 4) (8 * k + 3) → k ≡ p
      at (inl e) = absurd (omega arith)
      at (inr (inl e)) = omega arith
      at (inr (inr e)) = absurd (omega arith)

      go : (word after k 3 ≡ word ns k 3) ⊎ (Links p i (word mid p 4) (8 * k + 3) × (word after k 3 ≡ i + 1)) →
          (word after k 3 ≡ word ns k 3) ⊎ ((k ≡ p) × (word after k 3 ≡ i + 1))
      go (inl e) = inl e
      go (inr e) = inr (at e.0, e.1)

  -- The new node has no links but its parent.
  pub new-links : (w : ℕ) → 2 ≤ w → w ≤ 4 → word after i w ≡ 0
  unfolding appended
  new-links w a b = go (linked-stored p i mid (8 * i + w))
    where
      low : word mid p 4 ≤ i
      low = omega (arith, mid-old p 4 below (omega arith))

      off : Links p i (word mid p 4) (8 * i + w) → ⊥
      off (inl e) = omega (arith, low)
      off (inr (inl e)) = omega arith
      off (inr (inr e)) = omega arith

      zero_word : (w : ℕ) → 2 ≤ w → w ≤ 4 → get_or own w 0 ≡ 0
      zero_word zero a b = absurd (omega arith)
      zero_word (suc zero) a b = absurd (omega arith)
      zero_word (suc (suc zero)) a b = refl
      zero_word (suc (suc (suc zero))) a b = refl
      zero_word (suc (suc (suc (suc zero)))) a b = refl
      zero_word (suc (suc (suc (suc (suc w))))) a b = absurd (omega arith)

      go : (get_or (linked mid p i) (8 * i + w) 0 ≡ word mid i w) ⊎ (Links p i (word mid p 4) (8 * i + w)
          × (get_or (linked mid p i) (8 * i + w) 0 ≡ i + 1)) →
          get_or (linked mid p i) (8 * i + w) 0 ≡ 0
      go (inl e) = e ∙ mid-new w (omega arith) ∙ zero_word w a b
      go (inr e) = absurd (off e.0)

-- A NEW NODE KEEPS THE FACTS

-- What is asked of a new node: its kind, its code and its range.
pub record Fresh (kind code from to n b : ℕ) : Type 0 where
  pub kinds : (kind ≡ ELEMENT) ⊎ (kind ≡ TEXT)
  pub codes : kind ≡ ELEMENT → is_element code ≡ true
  pub range : kind ≡ ELEMENT → InOrder from to n
  pub bytes : kind ≡ TEXT → InOrder from to b

-- The last child of a node stands within the count.
pub last_within : (size : ℕ) (t : Tree) → Kept size t → (p : ℕ) → p < t.node_count → last_child_of t p ≤ t.node_count
last_within size t k p l = go (eqb (last_child_of t p) 0) refl
  where
    go : (b : Bool) → eqb (last_child_of t p) 0 ≡ b → last_child_of t p ≤ t.node_count
    go true e = omega (arith, eqb-true (last_child_of t p) 0 e)
    go false e = ((k.nodes p l).last (eqb-false _ 0 e)).1

-- In a tree u that has one node more than t, and at least as much taken of the other tables.
module _ (size : ℕ) (t u : Tree) (s : Kept size t) (kind code from to p : ℕ) (below : p < t.node_count)
    (room : 8 * t.node_count + 8 ≤ length t.nodes)
    (nodes : u.nodes ≡ appended kind code from to t.nodes p t.node_count) (count : u.node_count ≡ t.node_count + 1)
    (more : t.attribute_count ≤ u.attribute_count) (longer : t.text_count ≤ u.text_count)
    (new : Fresh kind code from to u.attribute_count u.text_count) where
  abbrev i : ℕ
  i = t.node_count

  low : word t.nodes p 4 ≤ i
  low = last_within size t s p below

  at : (k w : ℕ) → word u.nodes k w ≡ word (appended kind code from to t.nodes p i) k w
  at k w = ap (λ (l : List ℕ). word l k w) nodes

  was : (k w : ℕ) → k < i → w < 8 → (2 ≤ w → w ≤ 4 → ⊥) → word u.nodes k w ≡ word t.nodes k w
  was k w l b h = at k w ∙ appended-old kind code from to t.nodes p i k w l b h

  its : (w : ℕ) → w < 8 → (2 ≤ w → w ≤ 4 → ⊥) → word u.nodes i w ≡ get_or (kind ∷ (p + 1) ∷ 0 ∷ 0 ∷ 0 ∷ code ∷ from ∷ to ∷ []) w 0
  its w b h = at i w ∙ appended-new kind code from to t.nodes p i w room b h

  later : (k w : ℕ) → k < i → w < 8 → Later i k (word t.nodes k w) → Later u.node_count k (word u.nodes k w)
  later k w l b h = rw (count, at k w) (old-later kind code from to t.nodes p i below low room k w i l b (omega arith) h)

  bare : (w : ℕ) → 2 ≤ w → w ≤ 4 → word u.nodes i w ≡ 0
  bare w a b = at i w ∙ new-links kind code from to t.nodes p i below low room w a b

  kept-old : (k : ℕ) → k < i → KeptNode u k
  kept-old k l =
      let n = s.nodes k l in
      let e0 = was k 0 l (omega arith) (λ x y. omega arith) in
      let e1 = was k 1 l (omega arith) (λ x y. omega arith) in
      let e5 = was k 5 l (omega arith) (λ x y. omega arith) in
      let e6 = was k 6 l (omega arith) (λ x y. omega arith) in
      let e7 = was k 7 l (omega arith) (λ x y. omega arith) in
      record {
        root = λ z. (e0 ∙ (n.root z).0, e1 ∙ (n.root z).1);
        kind = λ z. rw e0 (n.kind z);
        below = λ z. rw e1 (n.below z);
        falls = rw e1 n.falls;
        next = later k 2 l (omega arith) n.next;
        first = later k 3 l (omega arith) n.first;
        last = later k 4 l (omega arith) n.last;
        none = λ z. (same-children (ℕ_discrete k p)).0 z;
        some = λ z. (same-children (ℕ_discrete k p)).1 z;
        code = λ q. rw e5 (n.code (sym e0 ∙ q));
        range = λ q. let m = n.range (sym e0 ∙ q) in rw (e6, e7) (m.0, omega (arith, m.1));
        bytes = λ q. let m = n.bytes (sym e0 ∙ q) in rw (e6, e7) (m.0, omega (arith, m.1));
      }
    where
      same-children : Dec (k ≡ p) → (word u.nodes k 3 ≡ 0 → word u.nodes k 4 ≡ 0) × (word u.nodes k 4 ≡ 0 →
          word u.nodes k 3 ≡ 0)
      same-children (yes d) = (
        λ z. absurd (parent-first kind code from to t.nodes p i below low room
            (ap (λ j. word (appended kind code from to t.nodes p i) j 3) (sym d) ∙ sym (at k 3) ∙ z)),
        λ z. let f = parent-last kind code from to t.nodes p i below low room in
            let g : word u.nodes k 4 ≡ word (appended kind code from to t.nodes p i) p 4 = at k 4
            ∙ ap (λ j. word (appended kind code from to t.nodes p i) j 4) d in
            absurd (omega arith),
      )
      same-children (no d) =
          let e3 = at k 3 ∙ old-child kind code from to t.nodes p i below low room k 3 l d (omega arith) (omega arith) in
          let e4 = at k 4 ∙ old-child kind code from to t.nodes p i below low room k 4 l d (omega arith) (omega arith) in
          (λ z. e4 ∙ (s.nodes k l).none (sym e3 ∙ z), λ z. e3 ∙ (s.nodes k l).some (sym e4 ∙ z))

  kept_new : KeptNode u i
  kept_new =
      let e0 = its 0 (omega arith) (λ x y. omega arith) in
      let e1 = its 1 (omega arith) (λ x y. omega arith) in
      let e5 = its 5 (omega arith) (λ x y. omega arith) in
      let e6 = its 6 (omega arith) (λ x y. omega arith) in
      let e7 = its 7 (omega arith) (λ x y. omega arith) in
      record {
        root = λ z. absurd (omega arith);
        kind = λ z. rw e0 new.kinds;
        below = λ z. omega (arith, e1);
        falls = omega (arith, e1);
        next = λ z. absurd (z (bare 2 (omega arith) (omega arith)));
        first = λ z. absurd (z (bare 3 (omega arith) (omega arith)));
        last = λ z. absurd (z (bare 4 (omega arith) (omega arith)));
        none = λ z. bare 4 (omega arith) (omega arith);
        some = λ z. bare 3 (omega arith) (omega arith);
        code = λ q. rw e5 (new.codes (sym e0 ∙ q));
        range = λ q. rw (e6, e7) (new.range (sym e0 ∙ q));
        bytes = λ q. rw (e6, e7) (new.bytes (sym e0 ∙ q));
      }

  pub grown : (k : ℕ) → k < u.node_count → KeptNode u k
  grown k l = go (dec_lt k i)
    where
      go : Dec (k < i) → KeptNode u k
      go (yes d) = kept-old k d
      go (no d) = let e : k ≡ i = omega (arith, count) in rw e kept_new

  pub coherent : Coherent t → Coherent u
  coherent h k l z = go (dec_lt k i)
    where
      new-parent : word u.nodes i 1 ≡ p + 1
      new-parent = its 1 (omega arith) (λ x y. omega arith)

      cases : k < i → (word (appended kind code from to t.nodes p i) k 3 ≡ word t.nodes k 3)
          ⊎ ((k ≡ p) × (word (appended kind code from to t.nodes p i) k 3 ≡ i + 1)) →
          word u.nodes (word u.nodes k 3 - 1) 1 ≡ k + 1
      cases d (inl e) =
          let f : word u.nodes k 3 ≡ word t.nodes k 3 = at k 3 ∙ e in
          let y = (s.nodes k d).first (λ q. z (f ∙ q)) in
          ap (λ j. word u.nodes (j - 1) 1) f ∙ was (word t.nodes k 3 - 1) 1 (omega (arith, y.0, y.1)) (omega arith)
          (λ a b. omega arith) ∙ h k d (λ q. z (f ∙ q))
      cases d (inr e) =
          let f : word u.nodes k 3 - 1 ≡ i = omega (arith, at k 3, e.1) in
          ap (λ j. word u.nodes j 1) f ∙ new-parent ∙ ap (λ j. j + 1) (sym e.0)

      go : Dec (k < i) → word u.nodes (word u.nodes k 3 - 1) 1 ≡ k + 1
      go (yes d) = cases d (first-child kind code from to t.nodes p i below low room k d)
      go (no d) = let e : k ≡ i = omega (arith, count) in absurd (z (ap (λ j. word u.nodes j 3) e ∙ bare 3 (omega arith) (omega arith)))

-- EACH WAY OF WRITING KEEPS THEM

-- The root alone, in tables that are cleared.
pub kept-root : (size n m b : ℕ) → 8 ≤ n → Kept size (rooted (cleared n m b)) × Coherent (rooted (cleared n m b))
unfolding rooted cleared
kept-root size n m b room = (
  record {
    fits = record {
      one = omega arith;
      nodes = omega (arith, length-set {A = ℕ} (replicate n 0) (8 * 0 + 0) ROOT, length-replicate {A = ℕ} n 0);
      entries = omega arith;
      bytes = omega arith;
    };
    nodes = λ i l. let q : i ≡ 0 = omega arith in rw q root;
    entries = λ j l. absurd (let z : j < 0 = l in omega arith);
  },
  λ i l z. let q : i ≡ 0 = omega arith in absurd (z (ap (λ j. word ns j 3) q ∙ bare 3 (omega arith))),
)
  where
    ns : List ℕ
    ns = set_word (replicate n 0) 0 0 ROOT

    bare : (w : ℕ) → 0 < w → word ns 0 w ≡ 0
    bare w h = get_or-set_other (replicate n 0) (8 * 0 + 0) (8 * 0 + w) ROOT 0 (λ e. omega arith) ∙ replicate-zero n (8 * 0 + w)

    kind : word ns 0 0 ≡ ROOT
    kind = get_or-set_same (replicate n 0) (8 * 0 + 0) ROOT 0 (omega (arith, length-replicate {A = ℕ} n 0))

    root : KeptNode (rooted (cleared n m b)) 0
    root = record {
      root = λ z. (kind, bare 1 (omega arith));
      kind = λ z. absurd (z refl);
      below = λ z. absurd (z refl);
      falls = omega (arith, bare 1 (omega arith));
      next = λ z. absurd (z (bare 2 (omega arith)));
      first = λ z. absurd (z (bare 3 (omega arith)));
      last = λ z. absurd (z (bare 4 (omega arith)));
      none = λ z. bare 4 (omega arith);
      some = λ z. bare 3 (omega arith);
      code = λ q. absurd (let z : ◌≡◌ {A = ℕ} 1 2 = sym kind ∙ q in omega arith);
      range = λ q. absurd (let z : ◌≡◌ {A = ℕ} 1 2 = sym kind ∙ q in omega arith);
      bytes = λ q. absurd (let z : ◌≡◌ {A = ℕ} 1 3 = sym kind ∙ q in omega arith);
    }

-- A new element.
module _ (size : ℕ) (t : Tree) (k : Kept size t) (code : ℕ) (es : List Entry) (p : ℕ) (is : is_element code ≡ true)
    (below : p < t.node_count)
    (room : 8 * t.node_count + 8 ≤ length t.nodes) (space : 5 * (t.attribute_count + length es) ≤ length t.attributes) where
  fresh-element : Fresh ELEMENT code t.attribute_count (t.attribute_count + length es) (t.attribute_count + length es) t.text_count
  fresh-element = record {
    kinds = inl refl;
    codes = λ q. is;
    range = λ q. (omega arith, omega arith);
    bytes = λ q. absurd (let z : ◌≡◌ {A = ℕ} 2 3 = q in omega arith);
  }

  pub kept-element : Every (KeptEntry size) es → Kept size (add_element code es p t)
  unfolding add_element
  kept-element h =
      let long = element-lengths code es p t in
      record {
        fits = record {
          one = omega arith;
          nodes = omega (arith, long.nodes);
          entries = omega (arith, long.attributes);
          bytes = k.fits.bytes;
        };
        nodes = grown size t (add_element code es p t) k ELEMENT code t.attribute_count (t.attribute_count + length es) p below room refl
            refl
            (omega arith) (omega arith) fresh-element;
        entries = λ j l. entry j l (dec_lt j t.attribute_count);
      }
    where
      entry : (j : ℕ) → j < t.attribute_count + length es → Dec (j < t.attribute_count) →
          KeptEntry size (entry_at (add_element code es p t) j)
      entry j l (yes d) = rw (old-entry code es p t j (λ x y. omega arith)) (k.entries j d)
      entry j l (no d) = new-entry code es p t (KeptEntry size) h space j (omega arith) l

  pub coherent-element : Coherent t → Coherent (add_element code es p t)
  unfolding add_element
  coherent-element = coherent size t (add_element code es p t) k ELEMENT code t.attribute_count (t.attribute_count + length es)
      p below room refl refl
      (omega arith) (omega arith) fresh-element

-- A new text node, its bytes within a place of that size.
module _ (size : ℕ) (t : Tree) (k : Kept size t) (bs : List ℕ) (place p : ℕ) (below : p < t.node_count)
    (room : 8 * t.node_count + 8 ≤ length t.nodes) (fits : length bs ≤ place) (space : t.text_count + place ≤ length t.text) where
  fresh-text : Fresh TEXT 0 t.text_count (t.text_count + length bs) t.attribute_count (t.text_count + place)
  fresh-text = record {
    kinds = inr refl;
    codes = λ q. absurd (let z : ◌≡◌ {A = ℕ} 3 2 = q in omega arith);
    range = λ q. absurd (let z : ◌≡◌ {A = ℕ} 3 2 = q in omega arith);
    bytes = λ q. (omega arith, omega arith);
  }

  pub kept-text : Kept size (add_text bs place p t)
  unfolding add_text entry_at
  kept-text =
      let long = text-lengths bs place p t in
      record {
        fits = record {
          one = omega arith;
          nodes = omega (arith, long.nodes);
          entries = k.fits.entries;
          bytes = omega (arith, long.text);
        };
        nodes = grown size t (add_text bs place p t) k TEXT 0 t.text_count (t.text_count + length bs) p below room refl refl
            (omega arith) (omega arith) fresh-text;
        entries = k.entries;
      }

  pub coherent-text : Coherent t → Coherent (add_text bs place p t)
  unfolding add_text
  coherent-text = coherent size t (add_text bs place p t) k TEXT 0 t.text_count (t.text_count + length bs) p below room refl refl
      (omega arith) (omega arith) fresh-text

-- Other bounds for a text node, within the bytes taken.
module _ (size : ℕ) (t : Tree) (k : Kept size t) (i from to : ℕ) where
  low_word : (j w : ℕ) → w < 6 → word (set_text i from to t).nodes j w ≡ word t.nodes j w
  unfolding set_text
  low_word j w h =
      get_or-set_other (set_word t.nodes i 6 from) (8 * i + 7) (8 * j + w) to 0 (λ e. omega arith)
      ∙ get_or-set_other t.nodes (8 * i + 6) (8 * j + w) from 0 (λ e. omega arith)

  high_word : (j w : ℕ) → (j ≡ i → ⊥) → w < 8 → word (set_text i from to t).nodes j w ≡ word t.nodes j w
  unfolding set_text
  high_word j w d h =
      get_or-set_other (set_word t.nodes i 6 from) (8 * i + 7) (8 * j + w) to 0 (λ e. d (omega arith))
      ∙ get_or-set_other t.nodes (8 * i + 6) (8 * j + w) from 0 (λ e. d (omega arith))

  pub coherent-bounds : Coherent t → Coherent (set_text i from to t)
  unfolding set_text
  coherent-bounds h j l z =
      let e = low_word j 3 (omega arith) in
      ap (λ q. word (set_text i from to t).nodes (q - 1) 1) e ∙ low_word (word t.nodes j 3 - 1) 1 (omega arith) ∙ h j l (λ q. z (e ∙ q))

  pub kept-bounds : (i < t.node_count → kind_of t i ≡ TEXT) → from ≤ to → to ≤ t.text_count → Kept size (set_text i from to t)
  unfolding set_text entry_at
  kept-bounds kind order within =
      let long = bounds-lengths i from to t in
      record {
        fits = record {
          one = k.fits.one;
          nodes = omega (arith, k.fits.nodes, long.nodes);
          entries = k.fits.entries;
          bytes = omega (arith, k.fits.bytes, long.text);
        };
        nodes = λ j l. node j l (ℕ_discrete j i);
        entries = k.entries;
      }
    where
      six : 8 * i + 8 ≤ length t.nodes → word (set_text i from to t).nodes i 6 ≡ from
      six r = get_or-set_other (set_word t.nodes i 6 from) (8 * i + 7) (8 * i + 6) to 0 (λ e. omega arith)
          ∙ get_or-set_same t.nodes (8 * i + 6) from 0 (omega arith)

      seven : 8 * i + 8 ≤ length t.nodes → word (set_text i from to t).nodes i 7 ≡ to
      seven r = get_or-set_same (set_word t.nodes i 6 from) (8 * i + 7) to 0 (omega (arith, length-set t.nodes (8 * i + 6) from))

      ranges : (j : ℕ) → j < t.node_count → Dec (j ≡ i) →
          (kind_of t j ≡ ELEMENT → InOrder (word (set_text i from to t).nodes j 6) (word (set_text i from to t).nodes j 7)
          t.attribute_count)
          × (kind_of t j ≡ TEXT → InOrder (word (set_text i from to t).nodes j 6) (word (set_text i from to t).nodes j 7) t.text_count)
      ranges j l (yes e) =
          let r : 8 * i + 8 ≤ length t.nodes = omega (arith, k.fits.nodes) in
          let x = ap (λ q. word (set_text i from to t).nodes q 6) e ∙ six r in
          let y = ap (λ q. word (set_text i from to t).nodes q 7) e ∙ seven r in (
            λ q. absurd (let z : ◌≡◌ {A = ℕ} 3 2 = sym (ap (λ m. kind_of t m) e ∙ kind (omega arith)) ∙ q in
                omega arith),
            λ q. rw (x, y) (order, within),
          )
      ranges j l (no d) =
          let x = high_word j 6 d (omega arith) in
          let y = high_word j 7 d (omega arith) in
          (λ q. rw (x, y) ((k.nodes j l).range q), λ q. rw (x, y) ((k.nodes j l).bytes q))

      node : (j : ℕ) → j < t.node_count → Dec (j ≡ i) → KeptNode (set_text i from to t) j
      node j l d =
          let n = k.nodes j l in
          let e0 = low_word j 0 (omega arith) in
          let e1 = low_word j 1 (omega arith) in
          let e2 = low_word j 2 (omega arith) in
          let e3 = low_word j 3 (omega arith) in
          let e4 = low_word j 4 (omega arith) in
          let e5 = low_word j 5 (omega arith) in
          let r = ranges j l d in
          record {
            root = λ z. (e0 ∙ (n.root z).0, e1 ∙ (n.root z).1);
            kind = λ z. rw e0 (n.kind z);
            below = λ z. rw e1 (n.below z);
            falls = rw e1 n.falls;
            next = rw e2 n.next;
            first = rw e3 n.first;
            last = rw e4 n.last;
            none = λ z. e4 ∙ n.none (sym e3 ∙ z);
            some = λ z. e3 ∙ n.some (sym e4 ∙ z);
            code = λ q. rw e5 (n.code (sym e0 ∙ q));
            range = λ q. r.0 (sym e0 ∙ q);
            bytes = λ q. r.1 (sym e0 ∙ q);
          }

-- Tables with the same nodes and counts, and attributes of the same length that are all kept.
pub kept-attributes : (size : ℕ) (t : Tree) (ats : List ℕ) → Kept size t → length ats ≡ length t.attributes →
    ((j : ℕ) → j < t.attribute_count → KeptEntry size (entry_at (with_attributes ats t) j)) → Kept size (with_attributes ats t)
kept-attributes size t ats k long h = record {
  fits = record { one = k.fits.one; nodes = k.fits.nodes; entries = omega (arith, k.fits.entries, long); bytes = k.fits.bytes };
  nodes = λ i l. let n = k.nodes i l in record {
    root = n.root;
    kind = n.kind;
    below = n.below;
    falls = n.falls;
    next = n.next;
    first = n.first;
    last = n.last;
    none = n.none;
    some = n.some;
    code = n.code;
    range = n.range;
    bytes = n.bytes;
  };
  entries = h;
}

-- An entry whose value becomes none.
pub kept-none : (size : ℕ) (t : Tree) → Kept size t → (j : ℕ) → j < t.attribute_count → Kept size (set_none j t)
unfolding set_none
kept-none size t k j below =
    kept-attributes size t (sets t.attributes (5 * j + 2) none) k (length-sets t.attributes (5 * j + 2) none)
    (λ i l. entry i l (ℕ_discrete i j))
  where
    none : List ℕ
    none = 1 ∷ 0 ∷ 0 ∷ []

    entry : (i : ℕ) → i < t.attribute_count → Dec (i ≡ j) → KeptEntry size (entry_at (set_none j t) i)
    entry i l (no d) = rw (none-others j t i d) (k.entries i l)
    entry i l (yes e) = rw (e, none-entry j t (omega (arith, k.fits.entries))) (record {
      name = (k.entries j below).name;
      fixed = λ z. (omega arith, omega arith, refl);
      inside = λ z. absurd (z refl);
    })

-- WHAT IS READ

-- A number that a search in a range finds lies in the range.
pub find-within : (t : Tree) (a j n : ℕ) → (find_entry t a j n ≡ 0 → ⊥) → (j < find_entry t a j n) × (find_entry t a j n ≤ j + n)
unfolding find_entry
find-within t a j zero h = absurd (h refl)
find-within t a j (suc n) h = go (eqb (entry_word t j 0) a) h (find-within t a (j + 1) n)
  where
    go : (b : Bool) → (pick b (λ u. j + 1) (λ u. find_entry t a (j + 1) n) ≡ 0 → ⊥) →
        ((find_entry t a (j + 1) n ≡ 0 → ⊥) → (j + 1 < find_entry t a (j + 1) n) × (find_entry t a (j + 1) n ≤ j + 1 + n)) →
        (j < pick b (λ u. j + 1) (λ u. find_entry t a (j + 1) n)) × (pick b (λ u. j + 1) (λ u. find_entry t a (j + 1) n) ≤ j + suc n)
    go true h r = (omega arith, omega arith)
    go false h r = let f = r h in (omega (arith, f.0), omega (arith, f.1))

-- An attribute that node i has is one of the counted entries.
pub attribute-within : (size : ℕ) (t : Tree) → Kept size t → (i a : ℕ) → i < t.node_count → (attribute_id t i a ≡ 0 → ⊥) →
    attribute_id t i a ≤ t.attribute_count
unfolding attribute_id
attribute-within size t k i a l h = go (ℕ_discrete (kind_of t i) ELEMENT)
  where
    go : Dec (kind_of t i ≡ ELEMENT) → pick (eqb (kind_of t i) ELEMENT) (λ u. find_entry t a (from_of t i) (to_of t i - from_of t i))
        (λ u. 0) ≤
        t.attribute_count
    go (yes e) =
        let r = (k.nodes i l).range e in
        let q : pick (eqb (kind_of t i) ELEMENT) (λ u. find_entry t a (from_of t i) (to_of t i - from_of t i)) (λ u. 0)
        ≡ find_entry t a (from_of t i) (to_of t i - from_of t i) =
        rw (eq-eqb (kind_of t i) ELEMENT e) refl in
        let f = find-within t a (from_of t i) (to_of t i - from_of t i) (λ z. h (q ∙ z)) in
        omega (arith, q, r.0, r.1, f.1)
    go (no e) = rw (ne_eqb (kind_of t i) ELEMENT e) (omega arith)

-- Where nothing is past the counts, that is so of every node.
pub attribute-any : (size : ℕ) (t : Tree) → Kept size t → Unused t → (i a : ℕ) → (attribute_id t i a ≡ 0 → ⊥) →
    attribute_id t i a ≤ t.attribute_count
unfolding attribute_id
attribute-any size t k u i a h = go (dec_lt i t.node_count)
  where
    go : Dec (i < t.node_count) → attribute_id t i a ≤ t.attribute_count
    go (yes l) = attribute-within size t k i a l h
    go (no l) = let z : kind_of t i ≡ 0 = u.nodes (8 * i + 0) (omega arith) in
        absurd (h (rw (ne_eqb (kind_of t i) ELEMENT (λ e. let y : ◌≡◌ {A = ℕ} 0 2 = sym z ∙ e in omega arith)) refl))

pub kept-attribute : (size : ℕ) (t : Tree) → Kept size t → (i a : ℕ) → i < t.node_count → (attribute_id t i a ≡ 0 → ⊥) →
    KeptEntry size (entry_at t (attribute_id t i a - 1))
kept-attribute size t k i a l h = k.entries (attribute_id t i a - 1) (omega (arith, attribute-within size t k i a l h))

-- ALL THAT A BUILD KEEPS TRUE OF ITS TABLES

-- The ranges after a new node: an element's range begins behind all that are taken.
ordered-new : (size : ℕ) (t u : Tree) → Kept size t → Ordered t → (kind code from to p : ℕ) → 8 * t.node_count + 8 ≤ length t.nodes →
    u.nodes ≡ appended kind code from to t.nodes p t.node_count → u.node_count ≡ t.node_count + 1 →
    (kind ≡ ELEMENT → t.attribute_count ≤ from) → Ordered u
ordered-new size t u k o kind code from to p room nodes count start i j l b ki kj = go (dec_lt j t.node_count)
  where
    n : ℕ
    n = t.node_count

    was : (x w : ℕ) → x < n → w < 8 → (2 ≤ w → w ≤ 4 → ⊥) → word u.nodes x w ≡ word t.nodes x w
    was x w m c h = ap (λ (v : List ℕ). word v x w) nodes ∙ appended-old kind code from to t.nodes p n x w m c h

    its : (w : ℕ) → w < 8 → (2 ≤ w → w ≤ 4 → ⊥) → word u.nodes n w ≡ get_or (kind ∷ (p + 1) ∷ 0 ∷ 0 ∷ 0 ∷ code ∷ from ∷ to ∷ []) w 0
    its w c h = ap (λ (v : List ℕ). word v n w) nodes ∙ appended-new kind code from to t.nodes p n w room c h

    go : Dec (j < n) → to_of u i ≤ from_of u j
    go (yes d) =
        let h = o i j l d (sym (was i 0 (omega arith) (omega arith) (λ x y. omega arith)) ∙ ki)
        (sym (was j 0 d (omega arith) (λ x y. omega arith)) ∙ kj) in
        rw (was i 7 (omega arith) (omega arith) (λ x y. omega arith), was j 6 d (omega arith) (λ x y. omega arith)) h
    go (no d) =
        let e : j ≡ n = omega (arith, count) in
        let c : i < n = omega arith in
        let r = (k.nodes i c).range (sym (was i 0 c (omega arith) (λ x y. omega arith)) ∙ ki) in
        let s = start (sym (its 0 (omega arith) (λ x y. omega arith)) ∙ ap (λ x. kind_of u x) (sym e) ∙ kj) in
        let f : from_of u j ≡ from = ap (λ x. from_of u x) e ∙ its 6 (omega arith) (λ x y. omega arith) in
        let g : to_of u i ≡ to_of t i = was i 7 c (omega arith) (λ x y. omega arith) in
        omega (arith, r.1)

pub tidy-root : (size n m b : ℕ) → 8 ≤ n → Tidy size (rooted (cleared n m b))
unfolding rooted
tidy-root size n m b room =
    let k = kept-root size n m b room in
    record { kept = k.0; coherent = k.1; ordered = λ i j l d. absurd (let z : j < 1 = d in omega arith); unused = unused-root n m b }

module _ (size : ℕ) (t : Tree) (g : Tidy size t) where
  pub tidy-element : (code : ℕ) (es : List Entry) (p : ℕ) → is_element code ≡ true → p < t.node_count →
      8 * t.node_count + 8 ≤ length t.nodes →
      5 * (t.attribute_count + length es) ≤ length t.attributes → Every (KeptEntry size) es → Tidy size (add_element code es p t)
  unfolding add_element
  tidy-element code es p is below room space h = record {
    kept = kept-element size t g.kept code es p is below room space h;
    coherent = coherent-element size t g.kept code es p is below room space g.coherent;
    ordered = ordered-new size t (add_element code es p t) g.kept g.ordered ELEMENT code _ _ p room refl refl (λ e. omega arith);
    unused = unused-element code es p t below (last_within size t g.kept p below) g.unused;
  }

  pub tidy-text : (bs : List ℕ) (place p : ℕ) → p < t.node_count → 8 * t.node_count + 8 ≤ length t.nodes → length bs ≤ place →
      t.text_count + place ≤ length t.text → Tidy size (add_text bs place p t)
  unfolding add_text
  tidy-text bs place p below room fits space = record {
    kept = kept-text size t g.kept bs place p below room fits space;
    coherent = coherent-text size t g.kept bs place p below room fits space g.coherent;
    ordered = ordered-new size t (add_text bs place p t) g.kept g.ordered TEXT 0 _ _ p room refl refl
        (λ e. absurd (let z : ◌≡◌ {A = ℕ} 3 2 = e in omega arith));
    unused = unused-text bs place p t fits below (last_within size t g.kept p below) g.unused;
  }

  pub tidy-bounds : (i from to : ℕ) → i < t.node_count → kind_of t i ≡ TEXT → from ≤ to → to ≤ t.text_count →
      Tidy size (set_text i from to t)
  unfolding set_text
  tidy-bounds i from to l kind order within = record {
    kept = kept-bounds size t g.kept i from to (λ x. kind) order within;
    coherent = coherent-bounds size t g.kept i from to g.coherent;
    ordered = λ a b x y ka kb.
        let ea = low_word size t g.kept i from to a 0 (omega arith) in
        let eb = low_word size t g.kept i from to b 0 (omega arith) in
        rw (
          high_word size t g.kept i from to a 7 (odd a (sym ea ∙ ka)) (omega arith),
          high_word size t g.kept i from to b 6
              (odd b (sym eb ∙ kb)) (omega arith),
        )
        (g.ordered a b x y (sym ea ∙ ka) (sym eb ∙ kb));
    unused = unused-bounds i from to t l g.unused;
  }
    where
      odd : (a : ℕ) → kind_of t a ≡ ELEMENT → a ≡ i → ⊥
      odd a k e = let z : ◌≡◌ {A = ℕ} 2 3 = sym k ∙ ap (λ x. kind_of t x) e ∙ kind in omega arith

  pub tidy-none : (j : ℕ) → j < t.attribute_count → Tidy size (set_none j t)
  unfolding set_none
  tidy-none j l =
      record { kept = kept-none size t g.kept j l; coherent = g.coherent; ordered = g.ordered; unused = unused-none j t l g.unused }
