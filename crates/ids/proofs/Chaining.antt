-- The chains, node after node. Assumes nothing.
use mathlib.Core.Path.{◌≡◌, refl, sym, ap, ◌∙◌, subst}
use mathlib.Core.Bool.{Bool, true, false, true≢false}
use mathlib.Core.List.{List, [], ◌∷◌}
use Prim.Native.Nat.{ℕ, zero, suc, ◌+◌, ◌-◌, ◌*◌, ◌/◌, ◌%◌, ◌<◌, ◌≤◌}
use native.Mathlib.Omega.{arith}
use native.Mathlib.Decide.{ℕ_discrete}
use borrow.Author.Tests.{eq-eqb, ne_eqb}
use lib.Dec.{eqb}
use lib.ListN.{length, get_or, set, replicate, length-set, length-replicate}
use lib.Seq.{slice, get_or-set_same, get_or-set_other}
use Rattle.model.specs.Base.{pick}
use Rattle.model.specs.AId
use Rattle.model.specs.Tables.{Tree, entry_word, attribute_id}
use Rattle.model.specs.Repair.{element_id}
use Rattle.model.specs.Theorems.Kept.{Tidy}
use Rattle.model.proofs.Theorems.Kept.{attribute-any}
use Rattle.model.proofs.Theorems.Cuts.{one-owner}
use Rattle.model.proofs.Theorems.Unused.{replicate-zero}
use Rattle.tree.specs.declared.Counts.{Counts}
use Rattle.tree.specs.Lent.{tree_of, read_of}
use Rattle.tree.proofs.Alike.{id_same}
use Rattle.ids.specs.Chains.{bucket_from, bucket_of, is_in, last_in, Chained, next_set, Turned, Like}
use Rattle.tree.proofs.Entries.{one-less}
use Rattle.ids.proofs.Values.{read-part, id-entry}
use Rattle.ids.proofs.Likeness.{like-next, like-id, like-element, like-tidy}

module _ (chars : List ℕ) (t : Tree) (i : ℕ) where
  in-none : attribute_id t i AId.Id ≡ 0 → (b : ℕ) → is_in chars t b i ≡ false
  unfolding is_in
  in-none z b = rw (eq-eqb (attribute_id t i AId.Id) 0 z) refl

  in_some : (attribute_id t i AId.Id ≡ 0 → ⊥) → (b : ℕ) → is_in chars t b i ≡ eqb (bucket_of (element_id chars t i)) b
  unfolding is_in
  in_some z b = rw (ne_eqb (attribute_id t i AId.Id) 0 z) refl

-- THE SAME IDS

-- Two trees whose ids are the same.
module _ (chars : List ℕ) (t u : Tree) (ids : (i : ℕ) → attribute_id u i AId.Id ≡ attribute_id t i AId.Id)
    (values : (i : ℕ) → element_id chars u i ≡ element_id chars t i) where
  pub in-same : (b i : ℕ) → is_in chars u b i ≡ is_in chars t b i
  unfolding is_in
  in-same b i = rw (ids i, values i) refl

  pub last-in-same : (b n : ℕ) → last_in chars u b n ≡ last_in chars t b n
  unfolding last_in
  last-in-same b zero = refl
  last-in-same b (suc n) = rw (in-same b n, last-in-same b n) refl

  pub chained_same : (hs : List ℕ) (n : ℕ)
      → ((m : ℕ) → m < n → (attribute_id t m AId.Id ≡ 0 → ⊥)
      → entry_word u (attribute_id t m AId.Id - 1) 1 ≡ entry_word t (attribute_id t m AId.Id - 1) 1)
      → Chained chars t hs n → Chained chars u hs n
  chained_same hs n words k = record {
    heads = λ b l. k.heads b l ∙ sym (last-in-same b n);
    next = λ m l z.
        let y : attribute_id t m AId.Id ≡ 0 → ⊥ = λ e. z (ids m ∙ e) in
        ap (λ (j : ℕ). entry_word u (j - 1) 1 / 2) (ids m) ∙ ap (λ (x : ℕ). x / 2) (words m l y) ∙ k.next m l y
        ∙ sym (last-in-same (bucket_of (element_id chars t m)) m)
        ∙ ap (λ (s : List ℕ). last_in chars u (bucket_of s) m) (sym (values m));
  }

-- ONE TURN

module _ (chars ns es hs : List ℕ) (i : ℕ) where
  pub turned_none : 0 ≡ attribute_id (read_of ns es) i AId.Id → Turned chars ns es hs i es hs true
  turned_none e = record { stop = λ f. (refl, refl); none = λ y. (refl, refl); some = λ f y. absurd (y (sym e)) }

  pub turned-some : (j : ℕ) → j + 1 ≡ attribute_id (read_of ns es) i AId.Id
      → (n : ℕ) → n ≡ entry_word (read_of ns es) j 4 → (n ≡ 0 → ⊥)
      → (s : ℕ) → s ≡ entry_word (read_of ns es) j 2 → (l : ℕ) → l ≡ entry_word (read_of ns es) j 3
      → (p : List ℕ) → p ≡ slice s (s + l) chars → (b : ℕ) → b ≡ bucket_of p
      → (es' : List ℕ) → es' ≡ next_set es j (get_or hs b 0) → Turned chars ns es hs i es' (set hs b (i + 1)) true
  turned-some j e n c y s a l d p q b f es' g =
      let own : p ≡ element_id chars (read_of ns es) i =
      read-part chars (read_of ns es) j n c s a y l d p q ∙ sym (id-entry chars (read_of ns es) i j e) in
      let k : b ≡ bucket_of (element_id chars (read_of ns es) i) = f ∙ ap bucket_of own in
      let m : j ≡ attribute_id (read_of ns es) i AId.Id - 1 = sym (one-less j e) in
      record {
        stop = λ x. absurd (true≢false x);
        none = λ x. absurd (let z : j + 1 ≡ 0 = e ∙ x in omega (arith, z));
        some = λ h x. (
          g ∙ ap (λ (y : ℕ). next_set es y (get_or hs b 0)) m
              ∙ ap (λ (y : ℕ). next_set es (attribute_id (read_of ns es) i AId.Id - 1) (get_or hs y 0)) k,
          ap (λ (y : ℕ). set hs y (i + 1)) k,
        );
      }

pub bucket-small : (h : ℕ) (bs : List ℕ) → h < 2048 → bucket_from h bs < 2048
unfolding bucket_from
bucket-small h [] l = l
bucket-small h (b ∷ bs) l = bucket-small ((h * 7735 + b) % 2048) bs (omega arith)

-- THE LOOP

-- In the middle: the first i nodes are chained.
pub record Linking (chars ns es₀ : List ℕ) (c : Counts) (es hs : List ℕ) (i : ℕ) : Type 0 where
  pub high : i ≤ c.nodes
  pub like : Like c.attributes es₀ es
  pub chained : Chained chars (read_of ns es) hs i
  pub long : length hs ≡ 2048

pub linking-first : (chars ns es : List ℕ) (c : Counts) (hs : List ℕ) → Like c.attributes es es
    → hs ≡ replicate 2048 0 → Linking chars ns es c es hs 0
unfolding last_in
linking-first chars ns es c hs w h = record {
  high = omega arith;
  like = w;
  chained = record { heads = λ b l. rw h (replicate-zero 2048 b); next = λ m l. absurd (omega arith) };
  long = rw h (length-replicate {A = ℕ} 2048 0);
}

last_more : (chars : List ℕ) (t : Tree) (b n : ℕ)
    → last_in chars t b (n + 1) ≡ pick (is_in chars t b n) (λ u. n + 1) (λ u. last_in chars t b n)
unfolding last_in
last_more chars t b n = let e : n + 1 ≡ suc n = omega arith in ap (last_in chars t b) e

module _ (size : ℕ) (chars ns es₀ : List ℕ) (c : Counts) (g : Tidy size (tree_of ns es₀ (replicate c.text 0) c)) (es hs : List ℕ)
    (i : ℕ) (w : Linking chars ns es₀ c es hs i) (less : i < c.nodes) where
  abbrev t : Tree
  t = read_of ns es

  abbrev whole : Tree
  whole = tree_of ns es (replicate c.text 0) c

  tidy : Tidy size whole
  tidy = like-tidy size es₀ es ns (replicate c.text 0) c w.like g

  pub linking-next : (es' hs' : List ℕ) (a : Bool) → Turned chars ns es hs i es' hs' a → a ≡ true → Linking chars ns es₀ c es' hs' (i + 1)
  linking-next es' hs' a r f = go (ℕ_discrete (attribute_id t i AId.Id) 0)
    where
      b : ℕ
      b = bucket_of (element_id chars t i)

      small : b < 2048
      small = bucket-small 0 (element_id chars t i) (omega arith)

      x : ℕ
      x = get_or hs b 0

      go : Dec (attribute_id t i AId.Id ≡ 0) → Linking chars ns es₀ c es' hs' (i + 1)
      go (yes z) =
          let q = r.none z in
          subst (λ (l : List ℕ). Linking chars ns es₀ c l hs' (i + 1)) (sym q.0)
          (subst (λ (l : List ℕ). Linking chars ns es₀ c es l (i + 1)) (sym q.1) (record {
            high = omega arith;
            like = w.like;
            chained = record {
              heads = λ a l. w.chained.heads a l ∙ sym (last_more chars t a i ∙ rw (out a) refl);
              next = λ m l y. w.chained.next m (before m l y) y;
            };
            long = w.long;
          }))
        where
          out : (a : ℕ) → is_in chars t a i ≡ false
          out a = in-none chars t i z a

          before : (m : ℕ) → m < i + 1 → (attribute_id t m AId.Id ≡ 0 → ⊥) → m < i
          before m l y = at (ℕ_discrete m i)
            where
              at : Dec (m ≡ i) → m < i
              at (yes e) = absurd (y (ap (λ (v : ℕ). attribute_id t v AId.Id) e ∙ z))
              at (no d) = omega arith
      go (no z) =
          let q = r.some f z in
          subst (λ (l : List ℕ). Linking chars ns es₀ c l hs' (i + 1)) (sym q.0)
          (subst (λ (l : List ℕ). Linking chars ns es₀ c (next_set es e x) l (i + 1)) (sym q.1) (record {
            high = omega arith;
            like = like-next c.attributes es₀ es w.like e x inside g.kept.fits.entries;
            chained = record { heads = heads; next = next };
            long = length-set hs b (i + 1) ∙ w.long;
          }))
        where
          e : ℕ
          e = attribute_id t i AId.Id - 1

          -- The entry stands among those that are counted.
          inside : e < c.attributes
          inside =
              let same = id_same whole i AId.Id in
              let h = attribute-any size whole tidy.kept tidy.unused i AId.Id (λ y. z (same ∙ y)) in
              omega (arith, same, h, z)

          u : Tree
          u = read_of ns (next_set es e x)

          v : ℕ
          v = get_or es (5 * e + 1) 0 % 2 + 2 * x

          own : Like c.attributes es (next_set es e x)
          own = like-next c.attributes es es (record { long = refl; words = λ j k l d. refl; important = λ j. refl; behind = λ j l. refl })
              e x inside tidy.kept.fits.entries

          ids : (m : ℕ) → attribute_id u m AId.Id ≡ attribute_id t m AId.Id
          ids m = like-id c.attributes es (next_set es e x) own ns [] (record { nodes = 0; attributes = 0; text = 0 }) m AId.Id

          values : (m : ℕ) → element_id chars u m ≡ element_id chars t m
          values m = like-element c.attributes es (next_set es e x) own ns [] (record { nodes = 0; attributes = 0; text = 0 }) chars m

          ins : (a : ℕ) → is_in chars t a i ≡ eqb b a
          ins a = in_some chars t i z a

          heads : (a : ℕ) → a < 2048 → get_or (set hs b (i + 1)) a 0 ≡ last_in chars u a (i + 1)
          heads a l = at (ℕ_discrete b a) ∙ sym (last-in-same chars t u ids values a (i + 1))
            where
              at : Dec (b ≡ a) → get_or (set hs b (i + 1)) a 0 ≡ last_in chars t a (i + 1)
              at (yes d) =
                  ap (λ (y : ℕ). get_or (set hs b (i + 1)) y 0) (sym d) ∙ get_or-set_same hs b (i + 1) 0 (omega (arith, small, w.long))
                  ∙ sym (last_more chars t a i ∙ rw (ins a ∙ eq-eqb b a d) refl)
              at (no d) =
                  get_or-set_other hs b a (i + 1) 0 (λ y. d (sym y)) ∙ w.chained.heads a l
                  ∙ sym (last_more chars t a i ∙ rw (ins a ∙ ne_eqb b a d) refl)

          half : (y : ℕ) → (y % 2 + 2 * x) / 2 ≡ x
          half y = omega arith

          -- The words behind importance, by the entries of t.
          word : (m : ℕ) → m < i + 1 → (attribute_id t m AId.Id ≡ 0 → ⊥)
              → get_or (next_set es e x) (5 * (attribute_id t m AId.Id - 1) + 1) 0 / 2
              ≡ last_in chars t (bucket_of (element_id chars t m)) m
          word m l y = at (ℕ_discrete m i)
            where
              at : Dec (m ≡ i)
                  → get_or (next_set es e x) (5 * (attribute_id t m AId.Id - 1) + 1) 0 / 2
                  ≡ last_in chars t (bucket_of (element_id chars t m)) m
              at (yes d) =
                  rw d
                  (ap (λ (n : ℕ). n / 2) (get_or-set_same es (5 * e + 1) v 0 (omega (arith, inside, tidy.kept.fits.entries)))
                  ∙ half (get_or es (5 * e + 1) 0) ∙ w.chained.heads b small)
              at (no d) =
                  ap (λ (n : ℕ). n / 2) (get_or-set_other es (5 * e + 1) (5 * (attribute_id t m AId.Id - 1) + 1) v 0 (λ n. d (apart n)))
                  ∙ w.chained.next m (omega arith) y
                where
                  apart : 5 * (attribute_id t m AId.Id - 1) + 1 ≡ 5 * e + 1 → m ≡ i
                  apart n =
                      let p = id_same whole m AId.Id in
                      let q = id_same whole i AId.Id in
                      let s : attribute_id whole m AId.Id ≡ attribute_id whole i AId.Id = omega (arith, n, p, q, y, z) in
                      (one-owner size whole tidy m i AId.Id AId.Id (λ o. y (p ∙ o)) s).0

          next : (m : ℕ) → m < i + 1 → (attribute_id u m AId.Id ≡ 0 → ⊥)
              → entry_word u (attribute_id u m AId.Id - 1) 1 / 2 ≡ last_in chars u (bucket_of (element_id chars u m)) m
          next m l y =
              ap (λ (j : ℕ). get_or (next_set es e x) (5 * (j - 1) + 1) 0 / 2) (ids m) ∙ word m l (λ o. y (ids m ∙ o))
              ∙ sym (last-in-same chars t u ids values (bucket_of (element_id chars t m)) m)
              ∙ ap (λ (s : List ℕ). last_in chars u (bucket_of s) m) (sym (values m))
