-- What marks tell of links, and that cuts keep them. Assumes nothing.
use mathlib.Core.Path.{◌≡◌, refl, sym, ap, ◌∙◌, subst}
use mathlib.Core.Bool.{Bool, true, false, false≢true}
use mathlib.Core.List.{List, [], ◌∷◌}
use mathlib.Core.Option.{Option, none, some}
use Prim.Native.Nat.{ℕ, zero, suc, ◌+◌, ◌-◌, ◌/◌, ◌<◌, ◌≤◌}
use native.Mathlib.Omega.{arith}
use native.Mathlib.Decide.{ℕ_discrete}
use borrow.Author.Tests.{eq-eqb, ne_eqb, le-leb, lt-leb}
use lib.Dec.{eqb, leb}
use lib.ListN.{length}
use Rattle.model.specs.Base.{pick, and, given, same_bytes}
use Rattle.model.specs.AId
use Rattle.model.specs.Drawing.{Part, Value, readings_of, reading_of}
use Rattle.model.specs.Tables.{Tree, Entry, entry_at, entry_word, attribute_id, has_id_bytes, last_with_id, element_by_id, set_none}
use Rattle.model.specs.Repair.{link_kind, link_of, element_id, paints_with, node_attribute, Cut, cut_name, cut_entry}
use Rattle.model.specs.Repair.{apply_cut, applied}
use Rattle.model.specs.Theorems.Kept.{Tidy}
use Rattle.model.proofs.Theorems.Kept.{attribute-any}
use Rattle.model.proofs.Theorems.Entries.{none-entry}
use Rattle.model.proofs.Theorems.Cuts as cuts
use Rattle.model.proofs.Theorems.Cuts.{entry_kept, readings-kept, readings-gone, by-id-kept}
use Rattle.model.proofs.Theorems.Whole.{cuts-tidy}
use Rattle.model.specs.Theorems.GoingOn.{leads_to, target_of}
use Rattle.model.proofs.Theorems.GoingOn.{given_both}
use Rattle.ids.proofs.Values.{same-eq, same-itself}
use Rattle.leads.proofs.Lasting.{has-own, compared}
use Rattle.targets.specs.Targets.{pass_kind, mark_for, mark_of, stored_mark, Targeted}
use Rattle.targets.proofs.Passes.{by-func, no-id}

-- CUTS KEEP MARKS

-- The attribute a of node i is cut, and is no id.
module _ (size : ℕ) (chars : List ℕ) (values : List Value) (bare : readings_of 0 values ≡ []) (k : ℕ) (t : Tree) (g : Tidy size t) (i a : ℕ)
    (h : attribute_id t i a ≡ 0 → ⊥) (other : a ≡ AId.Id → ⊥) where
  -- The tree behind the cut.
  abbrev v : Tree
  v = set_none (attribute_id t i a - 1) t

  -- The mark of an id is what it was.
  for-kept : (id : List ℕ) → mark_for chars v id ≡ mark_for chars t id
  unfolding mark_for
  for-kept id = rw (by-id-kept size chars values bare t g i a h other id) refl

  -- So is the mark of every other link.
  mark-kept : (m : ℕ) → (m ≡ i → cut_name k ≡ a → ⊥) → mark_of chars values k v m ≡ mark_of chars values k t m
  unfolding mark_of
  mark-kept m d =
      given_both (link_of chars values (pass_kind k) v (cut_name k) m) _ _ 0 (λ p. for-kept p.bytes)
      ∙ ap (λ rs. given (reading_of (pass_kind k) rs) (λ p. mark_for chars t p.bytes) (λ u. 0))
      (readings-kept size chars values bare t g i a h m (cut_name k) d)

  -- And what is stored for it.
  stored-kept : (m b : ℕ) → (m ≡ i → b ≡ a → ⊥) → stored_mark v b m ≡ stored_mark t b m
  unfolding stored_mark entry_at
  stored-kept m b d = rw (cuts.id_same (attribute_id t i a - 1) t m b) (go (ℕ_discrete (attribute_id t m b) 0))
    where
      read : Tree → ℕ
      read u = pick (eqb (attribute_id t m b) 0) (λ x. 0)
          (λ x. pick (eqb (entry_word u (attribute_id t m b - 1) 4) 0) (λ y. 0) (λ y. entry_word u (attribute_id t m b - 1) 1 / 2))

      go : Dec (attribute_id t m b ≡ 0) → read v ≡ read t
      go (yes e) = rw (eq-eqb _ 0 e) refl
      go (no e) = ap (λ (x : Entry). pick (eqb (attribute_id t m b) 0) (λ u. 0)
          (λ u. pick (eqb x.command 0) (λ y. 0) (λ y. x.important / 2)))
          (entry_kept size chars values bare t g i a h m b e d)

  -- The cut link has no mark.
  mark-gone : cut_name k ≡ a → mark_of chars values k v i ≡ 0
  unfolding mark_of reading_of
  mark-gone e =
      ap (λ (b : ℕ). given (link_of chars values (pass_kind k) v b i) (λ p. mark_for chars v p.bytes) (λ u. 0)) e
      ∙ ap (λ rs. given (reading_of (pass_kind k) rs) (λ p. mark_for chars v p.bytes) (λ u. 0))
      (readings-gone size chars values bare t g i a h)

  -- None is stored for it.
  stored-gone : stored_mark v a i ≡ 0
  unfolding stored_mark entry_at
  stored-gone =
      let l = attribute-any size t g.kept g.unused i a h in
      let f : entry_word v (attribute_id t i a - 1) 4 ≡ 0 =
      ap (λ (x : Entry). x.command) (none-entry (attribute_id t i a - 1) t (omega (arith, l, h, g.kept.fits.entries))) in
      rw (cuts.id_same (attribute_id t i a - 1) t i a, ne_eqb (attribute_id t i a) 0 h, f) refl

  -- So what is stored are the marks, as before.
  targeted-none : Targeted chars values k t → Targeted chars values k v
  unfolding set_none
  targeted-none w = record { marks = λ m l. go m (w.marks m l) (ℕ_discrete m i) (ℕ_discrete (cut_name k) a) }
    where
      go : (m : ℕ) → stored_mark t (cut_name k) m ≡ mark_of chars values k t m → Dec (m ≡ i) → Dec (cut_name k ≡ a)
          → stored_mark v (cut_name k) m ≡ mark_of chars values k v m
      go m e (yes x) (yes y) =
          ap (λ (b : ℕ). stored_mark v b m) y ∙ ap (stored_mark v a) x ∙ stored-gone ∙ sym (mark-gone y)
          ∙ ap (mark_of chars values k v) (sym x)
      go m e (yes x) (no y) = stored-kept m (cut_name k) (λ p q. y q) ∙ e ∙ sym (mark-kept m (λ p q. y q))
      go m e (no x) y = stored-kept m (cut_name k) (λ p q. x p) ∙ e ∙ sym (mark-kept m (λ p q. x p))

module _ (size : ℕ) (chars : List ℕ) (values : List Value) (bare : readings_of 0 values ≡ []) (k : ℕ) where
  -- One cut, of any pass at any node.
  pub targeted-cut : (t : Tree) → Tidy size t → Targeted chars values k t → (x : Cut) → Targeted chars values k (apply_cut t x)
  unfolding apply_cut
  targeted-cut t g w x = go (ℕ_discrete (cut_entry t x.pass x.node) 0)
    where
      j : ℕ
      j = cut_entry t x.pass x.node

      go : Dec (j ≡ 0) → Targeted chars values k (pick (eqb j 0) (λ u. t) (λ u. set_none (j - 1) t))
      go (yes z) = subst (λ (b : Bool). Targeted chars values k (pick b (λ u. t) (λ u. set_none (j - 1) t))) (sym (eq-eqb j 0 z)) w
      go (no z) = subst (λ (b : Bool). Targeted chars values k (pick b (λ u. t) (λ u. set_none (j - 1) t))) (sym (ne_eqb j 0 z))
          (targeted-none size chars values bare k t g x.node (cut_name x.pass) z (no-id x.pass) w)

-- Cuts one after another.
pub targeted-applied : (size : ℕ) (chars : List ℕ) (values : List Value) → readings_of 0 values ≡ [] → (k : ℕ) → 1 ≤ k → k ≤ 5 → (t : Tree)
    → Tidy size t → Targeted chars values k t → (cs : List Cut) → Targeted chars values k (applied t cs)
unfolding applied
targeted-applied size chars values bare k f l t g w [] = w
targeted-applied size chars values bare k f l t g w (x ∷ cs) =
    targeted-applied size chars values bare k f l (apply_cut t x) (cuts-tidy size t (x ∷ []) g)
    (targeted-cut size chars values bare k t g w x) cs

-- WHERE MARKS LEAD

-- Two tests are the same where each follows from the other.
eqb-alike : (a b x y : ℕ) → (a ≡ b → x ≡ y) → (x ≡ y → a ≡ b) → eqb a b ≡ eqb x y
eqb-alike a b x y f g = go (ℕ_discrete a b)
  where
    go : Dec (a ≡ b) → eqb a b ≡ eqb x y
    go (yes e) = eq-eqb a b e ∙ sym (eq-eqb x y (f e))
    go (no e) = ne_eqb a b e ∙ sym (ne_eqb x y (λ z. e (g z)))

-- The mark of an id, by the element that has it.
module _ (chars : List ℕ) (t : Tree) (id : List ℕ) where
  -- The element, as its index plus 1.
  abbrev w : ℕ
  w = element_by_id chars t id

  -- There is one.
  pub for_some : (w ≡ 0 → ⊥) → mark_for chars t id ≡ w + 1
  unfolding mark_for
  for_some z = rw (ne_eqb w 0 z) refl

  -- There is none, and the id is empty.
  pub for-empty : w ≡ 0 → length id ≡ 0 → mark_for chars t id ≡ 1
  unfolding mark_for
  for-empty z e = rw (eq-eqb w 0 z, eq-eqb (length id) 0 e) refl

  -- There is none, and it is not.
  pub for-none : w ≡ 0 → (length id ≡ 0 → ⊥) → mark_for chars t id ≡ 0
  unfolding mark_for
  for-none z e = rw (eq-eqb w 0 z, ne_eqb (length id) 0 e) refl

  -- A mark is that of an element, exactly if the id is.
  for-lead : (i : ℕ) → eqb w (i + 1) ≡ eqb (mark_for chars t id) (i + 2)
  for-lead i = go (ℕ_discrete w 0) (ℕ_discrete (length id) 0)
    where
      go : Dec (w ≡ 0) → Dec (length id ≡ 0) → eqb w (i + 1) ≡ eqb (mark_for chars t id) (i + 2)
      go (no z) e = let q = for_some z in eqb-alike w (i + 1) (mark_for chars t id) (i + 2) (λ x. omega arith) (λ x. omega arith)
      go (yes z) (yes e) = let q = for-empty z e in eqb-alike w (i + 1) (mark_for chars t id) (i + 2) (λ x. omega arith) (λ x. omega arith)
      go (yes z) (no e) = let q = for-none z e in eqb-alike w (i + 1) (mark_for chars t id) (i + 2) (λ x. omega arith) (λ x. omega arith)

  -- The element, by the mark.
  for-target : w ≡ pick (leb 2 (mark_for chars t id)) (λ u. mark_for chars t id - 1) (λ u. 0)
  for-target = go (ℕ_discrete w 0) (ℕ_discrete (length id) 0)
    where
      go : Dec (w ≡ 0) → Dec (length id ≡ 0) → w ≡ pick (leb 2 (mark_for chars t id)) (λ u. mark_for chars t id - 1) (λ u. 0)
      go (no z) e = rw (for_some z, le-leb 2 (w + 1) (omega arith)) (omega arith)
      go (yes z) (yes e) = rw (for-empty z e) z
      go (yes z) (no e) = rw (for-none z e) z

-- An element with that id is found, or a later one.
last_some : (chars : List ℕ) (t : Tree) (id : List ℕ) (n i : ℕ) → i < n → has_id_bytes chars t id i ≡ true → last_with_id chars t id n ≡ 0
    → ⊥
unfolding last_with_id
last_some chars t id zero i l h z = omega arith
last_some chars t id (suc n) i l h z = go (has_id_bytes chars t id n) refl z (ℕ_discrete i n) (λ d. last_some chars t id n i d h)
  where
    go : (b : Bool) → has_id_bytes chars t id n ≡ b → pick b (λ u. n + 1) (λ u. last_with_id chars t id n) ≡ 0 → Dec (i ≡ n)
        → (i < n → last_with_id chars t id n ≡ 0 → ⊥) → ⊥
    go true e y d r = omega arith
    go false e y (yes d) r = false≢true (sym e ∙ ap (has_id_bytes chars t id) (sym d) ∙ h)
    go false e y (no d) r = r (omega arith) y

-- An id that is empty.
none-there : (s : List ℕ) → length s ≡ 0 → s ≡ []
none-there [] e = refl
none-there (x ∷ s) e = absurd (omega arith)

module _ (chars : List ℕ) (t : Tree) (i : ℕ) where
  -- The id of element i.
  abbrev own : List ℕ
  own = element_id chars t i

  -- The element that links with it lead to, as its index plus 1.
  abbrev led : ℕ
  led = element_by_id chars t own

  -- An element to whose id no link leads has none.
  unled : i < t.node_count → led ≡ 0 → own ≡ []
  unfolding element_by_id element_id
  unled l z = go (ℕ_discrete (attribute_id t i AId.Id) 0)
    where
      go : Dec (attribute_id t i AId.Id ≡ 0) → own ≡ []
      go (yes e) = rw (eq-eqb (attribute_id t i AId.Id) 0 e) refl
      go (no e) = absurd (last_some chars t own t.node_count i l (has-own chars t i e) z)

-- Two ids that lead to the same element are the same.
led-same : (chars : List ℕ) (t : Tree) (a b : List ℕ) → (element_by_id chars t a ≡ 0 → ⊥)
    → element_by_id chars t a ≡ element_by_id chars t b → a ≡ b
led-same chars t a b z e = is a refl ∙ sym (is b (sym e))
  where
    j : ℕ
    j = element_by_id chars t a - 1

    second : (x y : Bool) → and x y ≡ true → y ≡ true
    second true y h = h
    second false y h = absurd (false≢true h)

    is : (s : List ℕ) → element_by_id chars t s ≡ element_by_id chars t a → s ≡ element_id chars t j
    is s q =
        let o : element_by_id chars t s ≡ j + 1 = omega (arith, q, z) in
        same-eq s (element_id chars t j) (second (eqb (element_by_id chars t (element_id chars t j)) (j + 1))
        (same_bytes s (element_id chars t j)) (sym (compared chars t j s) ∙ eq-eqb (element_by_id chars t s) (j + 1) o))

-- The mark by which a pattern is led to: that of the element that links with its id lead to.
abbrev pub key_of : List ℕ → Tree → ℕ → ℕ
key_of chars t i = let u : ℕ = element_by_id chars t (element_id chars t i) in pick (eqb u 0) (λ x. 1) (λ x. u + 1)

module _ (chars : List ℕ) (t : Tree) (i : ℕ) (l : i < t.node_count) (id : List ℕ) where
  -- An id is the pattern's, exactly if their marks are the same.
  for-paint : same_bytes id (element_id chars t i) ≡ eqb (mark_for chars t id) (key_of chars t i)
  for-paint = go (same_bytes id (element_id chars t i)) refl (ℕ_discrete (led chars t i) 0)
    where
      s : List ℕ
      s = element_id chars t i

      go : (b : Bool) → same_bytes id s ≡ b → Dec (led chars t i ≡ 0) → same_bytes id s ≡ eqb (mark_for chars t id) (key_of chars t i)
      go true e (yes z) =
          let q : id ≡ s = same-eq id s e in
          let n : s ≡ [] = unled chars t i l z in
          e ∙ sym (eq-eqb _ _ (ap (mark_for chars t) q ∙ for-empty chars t s z (ap length n) ∙ sym (rw (eq-eqb _ 0 z) refl)))
      go true e (no z) =
          let q : id ≡ s = same-eq id s e in
          e ∙ sym (eq-eqb _ _ (ap (mark_for chars t) q ∙ for_some chars t s z ∙ sym (rw (ne_eqb _ 0 z) refl)))
      go false e (yes z) =
          let n : s ≡ [] = unled chars t i l z in
          let k : key_of chars t i ≡ 1 = rw (eq-eqb _ 0 z) refl in
          e ∙ sym (ne_eqb _ _ (λ x. false≢true
          (sym e ∙ ap (λ (y : List ℕ). same_bytes y s) (none-there id (empty (x ∙ k)) ∙ sym n) ∙ same-itself s)))
        where
          empty : mark_for chars t id ≡ 1 → length id ≡ 0
          empty x = at (ℕ_discrete (element_by_id chars t id) 0) (ℕ_discrete (length id) 0)
            where
              at : Dec (element_by_id chars t id ≡ 0) → Dec (length id ≡ 0) → length id ≡ 0
              at y (yes d) = d
              at (yes y) (no d) = absurd (omega (arith, for-none chars t id y d, x))
              at (no y) (no d) = absurd (omega (arith, for_some chars t id y, x, y))
      go false e (no z) =
          let k : key_of chars t i ≡ led chars t i + 1 = rw (ne_eqb _ 0 z) refl in
          e ∙ sym (ne_eqb _ _ (λ x. false≢true (sym e ∙ ap (λ (y : List ℕ). same_bytes y s) (is (x ∙ k)) ∙ same-itself s)))
        where
          is : mark_for chars t id ≡ led chars t i + 1 → id ≡ s
          is x = at (ℕ_discrete (element_by_id chars t id) 0) (ℕ_discrete (length id) 0)
            where
              at : Dec (element_by_id chars t id ≡ 0) → Dec (length id ≡ 0) → id ≡ s
              at (no y) d = led-same chars t id s y (omega (arith, for_some chars t id y, x))
              at (yes y) (yes d) = absurd (omega (arith, for-empty chars t id y d, x, z))
              at (yes y) (no d) = absurd (omega (arith, for-none chars t id y d, x))

module _ (chars : List ℕ) (values : List Value) (k : ℕ) where
  -- What the value leads to, whichever way.
  target-given : 1 ≤ k → k ≤ 5 → (t : Tree) (m : ℕ)
      → target_of chars values k t m
      ≡ given (link_of chars values (pass_kind k) t (cut_name k) m) (λ v. element_by_id chars t v.bytes) (λ u. 0)
  unfolding target_of node_attribute
  target-given f l t m = go (leb k 2)
    where
      a : ℕ
      a = cut_name k

      go : (b : Bool)
          → pick b (λ u. given (link_of chars values 3 t a m) (λ v. element_by_id chars t v.bytes) (λ x. 0))
          (λ u. given (link_of chars values (link_kind a) t a m) (λ v. element_by_id chars t v.bytes) (λ x. 0))
          ≡ given (link_of chars values (pick b (λ u. 3) (λ u. 2)) t a m) (λ v. element_by_id chars t v.bytes) (λ u. 0)
      go true = refl
      go false = ap (λ (n : ℕ). given (link_of chars values n t a m) (λ v. element_by_id chars t v.bytes) (λ x. 0)) (by-func k f l)

  -- The mark tells the node that the value leads to.
  pub mark-target : 1 ≤ k → k ≤ 5 → (t : Tree) (m : ℕ)
      → target_of chars values k t m ≡ pick (leb 2 (mark_of chars values k t m)) (λ u. mark_of chars values k t m - 1) (λ u. 0)
  unfolding mark_of
  mark-target f l t m = target-given f l t m ∙ go (link_of chars values (pass_kind k) t (cut_name k) m)
    where
      mark : Option Part → ℕ
      mark o = given o (λ v. mark_for chars t v.bytes) (λ u. 0)

      go : (o : Option Part) → given o (λ v. element_by_id chars t v.bytes) (λ u. 0) ≡ pick (leb 2 (mark o)) (λ u. mark o - 1) (λ u. 0)
      go none = refl
      go (some v) = for-target chars t v.bytes

  -- It tells whether it leads to element i, in the passes that follow links.
  pub mark-leads-link : 3 ≤ k → k ≤ 5 → (t : Tree) (i m : ℕ) → leads_to chars values k t i m ≡ eqb (mark_of chars values k t m) (i + 2)
  unfolding leads_to node_attribute mark_of
  mark-leads-link f l t i m =
      rw (lt-leb k 2 (omega arith), by-func k (omega arith) l) (go (link_of chars values 2 t (cut_name k) m))
    where
      go : (o : Option Part) → eqb (given o (λ v. element_by_id chars t v.bytes) (λ u. 0)) (i + 1)
          ≡ eqb (given o (λ v. mark_for chars t v.bytes) (λ u. 0)) (i + 2)
      go none = ne_eqb 0 (i + 1) (λ z. omega arith) ∙ sym (ne_eqb 0 (i + 2) (λ z. omega arith))
      go (some v) = for-lead chars t v.bytes i

  -- In the passes of patterns it tells whether it has the id of element i.
  pub mark-leads-paint : 1 ≤ k → k ≤ 2 → (t : Tree) (i m : ℕ) → i < t.node_count
      → leads_to chars values k t i m ≡ eqb (mark_of chars values k t m) (key_of chars t i)
  unfolding leads_to paints_with mark_of
  mark-leads-paint f l t i m h = rw (le-leb k 2 l) (go (link_of chars values 3 t (cut_name k) m))
    where
      key : (x : ℕ) → Dec (x ≡ 0) → 1 ≤ pick (eqb x 0) (λ u. 1) (λ u. x + 1)
      key x (yes z) = rw (eq-eqb x 0 z) (omega arith)
      key x (no z) = rw (ne_eqb x 0 z) (omega arith)

      go : (o : Option Part) → given o (λ v. same_bytes v.bytes (element_id chars t i)) (λ u. false)
          ≡ eqb (given o (λ v. mark_for chars t v.bytes) (λ u. 0)) (key_of chars t i)
      go none =
          let n = key (element_by_id chars t (element_id chars t i)) (ℕ_discrete _ 0) in
          sym (ne_eqb 0 (key_of chars t i) (λ z. omega (arith, n, z)))
      go (some v) = for-paint chars t i h v.bytes
