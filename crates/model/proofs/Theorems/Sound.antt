-- The 40 test and the facts that a build keeps are the same: tables pass it exactly if they are `Kept`.
use Rattle.std.specs.Prelude.{ℕ, zero, suc, ◌+◌, ◌*◌, ◌≤◌, ◌<◌, ◌≡◌, refl, ◌⊎◌, Bool, false, List, leb, length}
use Rattle.std.proofs.Math.Path.{sym, ap}
use Rattle.std.proofs.Common.{◌∙◌, inl, inr, arith}
use Rattle.std.proofs.Math.Bool.{true, not}
use Rattle.std.proofs.lemmas.Bool.{false≢true}
use Rattle.std.proofs.Math.Decide.{ℕ_discrete}
use borrow.Author.Tests.{leb-true, le-leb, eqb-true, eq-eqb, ne_eqb}
use Rattle.std.proofs.Math.Dec.{eqb}
use Rattle.model.specs.Base.{pick, and, or}
use Rattle.model.specs.Names.{is_element, is_attribute}
use Rattle.model.specs.Tables.{Tree, ROOT, ELEMENT, TEXT, kind_of, parent_of, next_sibling_of, first_child_of, last_child_of, code_of}
use Rattle.model.specs.Tables.{from_of}
use Rattle.model.specs.Tables.{to_of, Entry, entry_at}
use Rattle.model.specs.Questions.{counts_fit, is_placed, is_later, is_linked, is_range, is_filled, is_node, is_entry, all_below, is_sound}
use Rattle.model.proofs.Theorems.Sim.{and_left, and_right}
use Rattle.model.specs.Theorems.Kept.{Fitting, Later, InOrder, KeptNode, KeptEntry, Kept}

-- TESTS

-- Both parts of a test that passed, and back.
pub both : (a b : Bool) → and a b ≡ true → (a ≡ true) × (b ≡ true)
both a b h = (and_left a b h, and_right a b h)

all_of : (a b : Bool) → a ≡ true → b ≡ true → and a b ≡ true
all_of true b h g = g
all_of false b h g = absurd (false≢true h)

then-of : (b : Bool) (x y : Unit {0} → Bool) → b ≡ true → pick b x y ≡ x tt
then-of true x y e = refl
then-of false x y e = absurd (false≢true e)

else-of : (b : Bool) (x y : Unit {0} → Bool) → b ≡ false → pick b x y ≡ y tt
else-of true x y e = absurd (false≢true (sym e))
else-of false x y e = refl

or_left : (a b : Bool) → a ≡ true → or a b ≡ true
or_left true b h = refl
or_left false b h = absurd (false≢true h)

or_right : (a b : Bool) → b ≡ true → or a b ≡ true
or_right true b h = refl
or_right false b h = h

or-either : (a b : Bool) → or a b ≡ true → (a ≡ true) ⊎ (b ≡ true)
or-either true b h = inl refl
or-either false b h = inr h

below_each : (f : ℕ → Bool) (n : ℕ) → all_below f n ≡ true → (i : ℕ) → i < n → f i ≡ true
unfolding all_below
below_each f zero h i l = absurd (omega arith)
below_each f (suc n) h i l = go (f n) refl h (λ g. below_each f n g i)
  where
    last : f n ≡ true → (i < n → f i ≡ true) → Dec (i ≡ n) → f i ≡ true
    last e r (yes d) = ap f d ∙ e
    last e r (no d) = r (omega arith)

    go : (b : Bool) → f n ≡ b → pick b (λ u. all_below f n) (λ u. false) ≡ true → (all_below f n ≡ true → i < n → f i ≡ true) → f i ≡ true
    go true e h r = last e (r h) (ℕ_discrete i n)
    go false e h r = absurd (false≢true h)

each_below : (f : ℕ → Bool) (n : ℕ) → ((i : ℕ) → i < n → f i ≡ true) → all_below f n ≡ true
unfolding all_below
each_below f zero h = refl
each_below f (suc n) h = rw (h n (omega arith)) (each_below f n (λ i l. h i (omega arith)))

-- ONE NODE

module _ (t : Tree) (i : ℕ) where
  placed : is_placed t i ≡ true →
      (i ≡ 0 → (kind_of t i ≡ ROOT) × (parent_of t i ≡ 0))
      × ((i ≡ 0 → ⊥) → ((kind_of t i ≡ ELEMENT) ⊎ (kind_of t i ≡ TEXT)) × (1 ≤ parent_of t i) × (parent_of t i ≤ i))
  placed h = (λ z. first (sym (then-of (eqb i 0) _ _ (eq-eqb i 0 z)) ∙ h), λ z. other (sym (else-of (eqb i 0) _ _ (ne_eqb i 0 z)) ∙ h))
    where
      first : and (eqb (kind_of t i) ROOT) (eqb (parent_of t i) 0) ≡ true → (kind_of t i ≡ ROOT) × (parent_of t i ≡ 0)
      first g = let p = both (eqb (kind_of t i) ROOT) (eqb (parent_of t i) 0) g in (eqb-true _ _ p.0, eqb-true _ _ p.1)

      kinds : (eqb (kind_of t i) ELEMENT ≡ true) ⊎ (eqb (kind_of t i) TEXT ≡ true) → (kind_of t i ≡ ELEMENT) ⊎ (kind_of t i ≡ TEXT)
      kinds (inl e) = inl (eqb-true _ _ e)
      kinds (inr e) = inr (eqb-true _ _ e)

      other : and (or (eqb (kind_of t i) ELEMENT) (eqb (kind_of t i) TEXT)) (and (leb 1 (parent_of t i)) (leb (parent_of t i) i)) ≡ true →
          ((kind_of t i ≡ ELEMENT) ⊎ (kind_of t i ≡ TEXT)) × (1 ≤ parent_of t i) × (parent_of t i ≤ i)
      other g =
          let p = both (or (eqb (kind_of t i) ELEMENT) (eqb (kind_of t i) TEXT)) _ g in
          let q = both (leb 1 (parent_of t i)) (leb (parent_of t i) i) p.1 in
          (kinds (or-either _ _ p.0), leb-true _ _ q.0, leb-true _ _ q.1)

  is-placed : KeptNode t i → is_placed t i ≡ true
  is-placed k = go (ℕ_discrete i 0)
    where
      kinds : (kind_of t i ≡ ELEMENT) ⊎ (kind_of t i ≡ TEXT) → or (eqb (kind_of t i) ELEMENT) (eqb (kind_of t i) TEXT) ≡ true
      kinds (inl e) = or_left _ _ (eq-eqb _ _ e)
      kinds (inr e) = or_right (eqb (kind_of t i) ELEMENT) (eqb (kind_of t i) TEXT) (eq-eqb _ _ e)

      go : Dec (i ≡ 0) → is_placed t i ≡ true
      go (yes z) = then-of (eqb i 0) _ _ (eq-eqb i 0 z) ∙ all_of _ _ (eq-eqb _ _ (k.root z).0) (eq-eqb _ _ (k.root z).1)
      go (no z) = else-of (eqb i 0) _ _ (ne_eqb i 0 z) ∙ all_of _ _ (kinds (k.kind z)) (all_of _ _ (le-leb _ _ (k.below z))
          (le-leb _ _ k.falls))

  later : (w : ℕ) → is_later t i w ≡ true → Later t.node_count i w
  later w h z = go (or-either (eqb w 0) _ h)
    where
      go : (eqb w 0 ≡ true) ⊎ (and (leb (i + 2) w) (leb w t.node_count) ≡ true) → (i + 2 ≤ w) × (w ≤ t.node_count)
      go (inl e) = absurd (z (eqb-true w 0 e))
      go (inr e) = let p = both (leb (i + 2) w) (leb w t.node_count) e in (leb-true _ _ p.0, leb-true _ _ p.1)

  is-later : (w : ℕ) → Later t.node_count i w → is_later t i w ≡ true
  is-later w h = go (ℕ_discrete w 0)
    where
      go : Dec (w ≡ 0) → is_later t i w ≡ true
      go (yes e) = or_left _ _ (eq-eqb w 0 e)
      go (no e) = or_right (eqb w 0) _ (all_of _ _ (le-leb _ _ (h e).0) (le-leb _ _ (h e).1))

  -- First and last child are both given or both 0.
  paired : ℕ → ℕ → Bool
  paired a b = pick (eqb a 0) (λ u. eqb b 0) (λ u. not (eqb b 0))

  both-or-none : (a b : ℕ) → paired a b ≡ true → (a ≡ 0 → b ≡ 0) × (b ≡ 0 → a ≡ 0)
  unfolding paired
  both-or-none a b h = (λ z. eqb-true b 0 (sym (then-of (eqb a 0) _ _ (eq-eqb a 0 z)) ∙ h), λ z. go z (ℕ_discrete a 0))
    where
      go : b ≡ 0 → Dec (a ≡ 0) → a ≡ 0
      go z (yes e) = e
      go z (no e) = absurd (false≢true (ap not (sym (eq-eqb b 0 z)) ∙ sym (else-of (eqb a 0) _ _ (ne_eqb a 0 e)) ∙ h))

  is-paired : (a b : ℕ) → (a ≡ 0 → b ≡ 0) → (b ≡ 0 → a ≡ 0) → paired a b ≡ true
  unfolding paired
  is-paired a b f g = go (ℕ_discrete a 0)
    where
      go : Dec (a ≡ 0) → pick (eqb a 0) (λ u. eqb b 0) (λ u. not (eqb b 0)) ≡ true
      go (yes e) = then-of (eqb a 0) _ _ (eq-eqb a 0 e) ∙ eq-eqb b 0 (f e)
      go (no e) = else-of (eqb a 0) _ _ (ne_eqb a 0 e) ∙ ap not (ne_eqb b 0 (λ z. e (g z)))

  in_order : (n : ℕ) → is_range t n i ≡ true → InOrder (from_of t i) (to_of t i) n
  in_order n h = let p = both (leb (from_of t i) (to_of t i)) (leb (to_of t i) n) h in (leb-true _ _ p.0, leb-true _ _ p.1)

  is-range : (n : ℕ) → InOrder (from_of t i) (to_of t i) n → is_range t n i ≡ true
  is-range n h = all_of _ _ (le-leb _ _ h.0) (le-leb _ _ h.1)

  filled-element : is_filled t i ≡ true → kind_of t i ≡ ELEMENT →
      (is_element (code_of t i) ≡ true) × InOrder (from_of t i) (to_of t i) t.attribute_count
  filled-element h k =
      let p = both (is_element (code_of t i)) _ (sym (then-of (eqb (kind_of t i) ELEMENT) _ _ (eq-eqb _ _ k)) ∙ h) in
      (p.0, in_order t.attribute_count p.1)

  no-element : kind_of t i ≡ TEXT → eqb (kind_of t i) ELEMENT ≡ false
  no-element k = ne_eqb _ _ (λ e. let z : ◌≡◌ {A = ℕ} 2 3 = sym e ∙ k in omega arith)

  filled-text : is_filled t i ≡ true → kind_of t i ≡ TEXT → InOrder (from_of t i) (to_of t i) t.text_count
  filled-text h k = go (or-either (not (eqb (kind_of t i) TEXT)) _ (sym (else-of (eqb (kind_of t i) ELEMENT) _ _ (no-element k)) ∙ h))
    where
      go : (not (eqb (kind_of t i) TEXT) ≡ true) ⊎ (is_range t t.text_count i ≡ true) → InOrder (from_of t i) (to_of t i) t.text_count
      go (inl e) = absurd (false≢true (ap not (sym (eq-eqb _ _ k)) ∙ e))
      go (inr e) = in_order t.text_count e

  is-filled : KeptNode t i → is_filled t i ≡ true
  is-filled k = go (ℕ_discrete (kind_of t i) ELEMENT) (ℕ_discrete (kind_of t i) TEXT)
    where
      go : Dec (kind_of t i ≡ ELEMENT) → Dec (kind_of t i ≡ TEXT) → is_filled t i ≡ true
      go (yes e) d = then-of (eqb (kind_of t i) ELEMENT) _ _ (eq-eqb _ _ e)
          ∙ all_of _ _ (k.code e) (is-range t.attribute_count (k.range e))
      go (no e) (yes d) = else-of (eqb (kind_of t i) ELEMENT) _ _ (ne_eqb _ _ e) ∙ or_right (not (eqb (kind_of t i) TEXT)) _
          (is-range t.text_count (k.bytes d))
      go (no e) (no d) = else-of (eqb (kind_of t i) ELEMENT) _ _ (ne_eqb _ _ e) ∙ or_left _ _ (ap not (ne_eqb _ _ d))

  node_kept : is_node t i ≡ true → KeptNode t i
  unfolding paired
  node_kept h =
      let p = both (is_placed t i) _ h in
      let q = both (is_linked t i) (is_filled t i) p.1 in
      let l = both (and (is_later t i (next_sibling_of t i)) (and (is_later t i (first_child_of t i)) (is_later t i (last_child_of t i))))
      _ q.0
      in
      let a = both (is_later t i (next_sibling_of t i)) _ l.0 in
      let b = both (is_later t i (first_child_of t i)) (is_later t i (last_child_of t i)) a.1 in
      let c = both-or-none (first_child_of t i) (last_child_of t i) l.1 in
      let d = placed p.0 in
      record {
        root = d.0;
        kind = λ z. (d.1 z).0;
        below = λ z. (d.1 z).1;
        falls = falls (ℕ_discrete i 0) d;
        next = later _ a.0;
        first = later _ b.0;
        last = later _ b.1;
        none = c.0;
        some = c.1;
        code = λ e. (filled-element q.1 e).0;
        range = λ e. (filled-element q.1 e).1;
        bytes = λ e. filled-text q.1 e;
      }
    where
      falls : Dec (i ≡ 0) → (i ≡ 0 → (kind_of t i ≡ ROOT) × (parent_of t i ≡ 0))
          × ((i ≡ 0 → ⊥) → ((kind_of t i ≡ ELEMENT) ⊎ (kind_of t i ≡ TEXT)) × (1 ≤ parent_of t i) × (parent_of t i ≤ i)) → parent_of t i ≤ i
      falls (yes z) d = omega (arith, (d.0 z).1)
      falls (no z) d = (d.1 z).2

  kept-node : KeptNode t i → is_node t i ≡ true
  unfolding paired
  kept-node k =
      all_of _ _ (is-placed k) (all_of _ _
      (all_of _ _ (all_of _ _ (is-later _ k.next) (all_of _ _ (is-later _ k.first) (is-later _ k.last)))
      (is-paired (first_child_of t i) (last_child_of t i) k.none k.some))
      (is-filled k))

-- ONE ENTRY

entry_kept : (size : ℕ) (e : Entry) → is_entry size e ≡ true → KeptEntry size e
entry_kept size e h =
    let p = both (is_attribute e.name) _ h in
    record {
      name = p.0;
      fixed = λ z. numbers (sym (then-of (eqb e.command 0) _ _ (eq-eqb _ 0 z)) ∙ p.1);
      inside = λ z. leb-true _ _ (sym (else-of (eqb e.command 0) _ _ (ne_eqb _ 0 z)) ∙ p.1);
    }
  where
    numbers : and (and (leb 1 e.start) (leb e.start 18)) (eqb e.size 0) ≡ true → (1 ≤ e.start) × (e.start ≤ 18) × (e.size ≡ 0)
    numbers g =
        let p = both (and (leb 1 e.start) (leb e.start 18)) (eqb e.size 0) g in
        let q = both (leb 1 e.start) (leb e.start 18) p.0 in
        (leb-true _ _ q.0, leb-true _ _ q.1, eqb-true _ _ p.1)

kept_entry : (size : ℕ) (e : Entry) → KeptEntry size e → is_entry size e ≡ true
kept_entry size e k = all_of _ _ k.name (go (ℕ_discrete e.command 0))
  where
    go : Dec (e.command ≡ 0) →
        pick (eqb e.command 0) (λ u. and (and (leb 1 e.start) (leb e.start 18)) (eqb e.size 0))
        (λ u. leb (e.start + e.size) size) ≡ true
    go (yes z) =
        let f = k.fixed z in
        then-of (eqb e.command 0) _ _ (eq-eqb _ 0 z) ∙ all_of _ _ (all_of _ _ (le-leb _ _ f.0) (le-leb _ _ f.1))
        (eq-eqb _ _ f.2)
    go (no z) = else-of (eqb e.command 0) _ _ (ne_eqb _ 0 z) ∙ le-leb _ _ (k.inside z)

-- THE WHOLE TEST

pub fitting : (t : Tree) → counts_fit t ≡ true → Fitting t
fitting t h =
    let p = both (leb 1 t.node_count) _ h in
    let q = both (leb (8 * t.node_count) (length t.nodes)) _ p.1 in
    let r = both (leb (5 * t.attribute_count) (length t.attributes)) (leb t.text_count (length t.text)) q.1 in
    record { one = leb-true _ _ p.0; nodes = leb-true _ _ q.0; entries = leb-true _ _ r.0; bytes = leb-true _ _ r.1 }

-- Tables that pass the test are kept.
pub sound-kept : (chars : List ℕ) (t : Tree) → is_sound chars t ≡ true → Kept (length chars) t
unfolding is_sound
sound-kept chars t h = go (counts_fit t) refl h
  where
    go : (b : Bool) → counts_fit t ≡ b →
        pick b (λ u. and (all_below (is_node t) t.node_count) (all_below (λ j. is_entry (length chars) (entry_at t j)) t.attribute_count))
        (λ u. false) ≡ true →
        Kept (length chars) t
    go true e g =
        let p = both (all_below (is_node t) t.node_count) _ g in
        record {
          fits = fitting t e;
          nodes = λ i l. node_kept t i (below_each (is_node t) t.node_count p.0 i l);
          entries = λ j l. entry_kept (length chars) (entry_at t j) (below_each (λ j. is_entry (length chars) (entry_at t j))
              t.attribute_count p.1 j l);
        }
    go false e g = absurd (false≢true g)

-- Tables that are kept pass the test.
pub kept-sound : (chars : List ℕ) (t : Tree) → Kept (length chars) t → is_sound chars t ≡ true
unfolding is_sound
kept-sound chars t k =
    then-of (counts_fit t) _ _ (all_of _ _ (le-leb _ _ k.fits.one) (all_of _ _ (le-leb _ _ k.fits.nodes)
    (all_of _ _ (le-leb _ _ k.fits.entries) (le-leb _ _ k.fits.bytes))))
    ∙ all_of _ _ (each_below (is_node t) t.node_count (λ i l. kept-node t i (k.nodes i l)))
    (each_below (λ j. is_entry (length chars) (entry_at t j)) t.attribute_count (λ j l. kept_entry (length chars) (entry_at t j)
    (k.entries j l)))
