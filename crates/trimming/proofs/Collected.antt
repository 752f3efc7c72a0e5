-- The text nodes of an element, found one after another, and what trimming leaves of the nodes. Assumes nothing.
use Prim.Native.Nat.{ℕ, zero, suc, ◌+◌, ◌-◌, ◌≤◌, ◌<◌}
use mathlib.Core.Path.{◌≡◌, refl, sym, ap, ◌∙◌}
use mathlib.Core.Bool.{Bool, true, false, not}
use mathlib.Core.List.{List, [], ◌∷◌}
use native.Mathlib.Omega.{arith}
use native.Mathlib.Decide.{ℕ_discrete}
use borrow.Author.Tests.{eq-eqb, ne_eqb, eqb-true}
use lib.Dec.{eqb}
use lib.ListN.{length}
use Rattle.std.specs.Prelude.{Option, Some, None, SomeIff, IfSome, unwrap_or, is_some}
use Rattle.model.specs.Base.{pick}
use Rattle.model.specs.Utf8.{is_blank}
use Rattle.model.specs.AId
use Rattle.model.specs.Tables.{Tree, ELEMENT, TEXT, word, text_of, kind_of, entry_at, find_entry, attribute_id, value_at_entry}
use Rattle.model.specs.Text.{XmlSpace, default, preserve, preserve_word, is_nil, get_xmlspace, text_nodes}
use Rattle.model.specs.Text.{cut_text}
use Rattle.model.specs.Base.{same_bytes}
use Rattle.tree.specs.Lent.{read_of, texts_of}
use Rattle.tree.proofs.Alike.{find-same}
use Rattle.edges.specs.declared.Pair.{Pair}
use Rattle.trimming.specs.declared.Turn.{Turn}
use Rattle.text.specs.Spaces.{space_at}
use Rattle.edges.specs.Pairs.{Ranged, after_pair}
use Rattle.trimming.specs.Nodes.{Fair, node_at, next_text, stands_by, kept_behind, pair_of}
use Rattle.trimming.proofs.Depths.{depth_same}
use Rattle.edges.proofs.Steps.{cut-words, cut-long, cut-text-long, ranged-cut, keep_pair}
use Rattle.trimming.proofs.Following.{pair_at}

-- THE NEXT TEXT NODE

pub next-step : (ns : List ℕ) (i to : ℕ) → i < to →
    next_text ns i (to - i) ≡ pick (eqb (word ns i 0) TEXT) (λ u. i) (λ u. next_text ns (i + 1) (to - (i + 1)))
unfolding next_text
next-step ns i to h = let z : to - i ≡ suc (to - (i + 1)) = omega arith in ap (next_text ns i) z

-- What is found.
pub record Found (ns : List ℕ) (i n r : ℕ) : Type 0 where
  pub low : i ≤ r
  pub high : r ≤ i + n
  pub text : r < i + n → word ns r 0 ≡ TEXT

next-found : (ns : List ℕ) (n i : ℕ) → Found ns i n (next_text ns i n)
unfolding next_text
next-found ns zero i = record { low = omega arith; high = omega arith; text = λ h. absurd (omega arith) }
next-found ns (suc n) i = go (eqb (word ns i 0) TEXT) refl (next-found ns n (i + 1))
  where
    go : (b : Bool) → eqb (word ns i 0) TEXT ≡ b → Found ns (i + 1) n (next_text ns (i + 1) n) →
        Found ns i (suc n) (pick b (λ u. i) (λ u. next_text ns (i + 1) n))
    go true e f = record { low = omega arith; high = omega arith; text = λ h. eqb-true (word ns i 0) TEXT e }
    go false e f = record { low = omega (arith, f.low); high = omega (arith, f.high); text = λ h. f.text (omega arith) }

-- The same up to `to`.
pub record NextIn (ns : List ℕ) (i to r : ℕ) : Type 0 where
  pub low : i ≤ r
  pub high : r ≤ to
  pub text : r < to → word ns r 0 ≡ TEXT

pub next-in : (ns : List ℕ) (i to r : ℕ) → i ≤ to → r ≡ next_text ns i (to - i) → NextIn ns i to r
next-in ns i to r h e =
    let f = next-found ns (to - i) i in
    record {
      low = omega (arith, e, f.low);
      high = omega (arith, e, f.high);
      text = λ l. ap (λ k. word ns k 0) e ∙ f.text (omega (arith, e));
    }

-- The place that was found, or the end.
pub next-or : (ns : List ℕ) (i to : ℕ) (r : Option ℕ) → i ≤ to
    → SomeIff r (next_text ns i (to - i) < to) (next_text ns i (to - i)) → unwrap_or r to ≡ next_text ns i (to - i)
next-or ns i to (Some k) h e = e.1
next-or ns i to None h e =
    let high = (next-in ns i to (next_text ns i (to - i)) h refl).high in
    omega (arith, e)

pub next-some : (v to : ℕ) (r : Option ℕ) → SomeIff r (v < to) v → IfSome r (λ k. k < to)
next-some v to (Some k) e = omega (arith, e.0, e.1)
next-some v to None e = tt

pub next-none : (to : ℕ) (r : Option ℕ) (b : Bool) → is_some r ≡ not b → IfSome r (λ k. k < to) → b ≡ eqb (unwrap_or r to) to
next-none to (Some k) false e h = sym (ne_eqb k to (λ z. omega arith))
next-none to (Some k) true e h = absurd (let z : ◌≡◌ {A = ℕ} 0 1 = cc in omega arith)
next-none to None false e h = absurd (let z : ◌≡◌ {A = ℕ} 0 1 = cc in omega arith)
next-none to None true e h = sym (eq-eqb to to refl)

-- THE LIST

module _ (chars : List ℕ) (t : Tree) (w : XmlSpace) (e : ℕ) where
  -- Nodes before the next text node are not in it.
  texts-skip : (n i : ℕ) → text_nodes chars t w e i n ≡ text_nodes chars t w e (next_text t.nodes i n) (i + n - next_text t.nodes i n)
  unfolding text_nodes next_text
  texts-skip zero i = let z : i + 0 - i ≡ 0 = omega arith in sym (ap (text_nodes chars t w e i) z)
  texts-skip (suc n) i = go (eqb (kind_of t i) TEXT) refl (texts-skip n (i + 1))
    where
      r : ℕ
      r = next_text t.nodes (i + 1) n

      go : (b : Bool) → eqb (kind_of t i) TEXT ≡ b → text_nodes chars t w e (i + 1) n ≡ text_nodes chars t w e r (i + 1 + n - r) →
          pick b (λ u. node_at chars t w e i ∷ text_nodes chars t w e (i + 1) n) (λ u. text_nodes chars t w e (i + 1) n) ≡
          text_nodes chars t w e (pick b (λ u. i) (λ u. r)) (i + suc n - pick b (λ u. i) (λ u. r))
      go true q h =
          let z : i + suc n - i ≡ suc n = omega arith in
          sym (ap (text_nodes chars t w e i) z ∙ rw q refl)
      go false q h = let z : i + 1 + n ≡ i + suc n = omega arith in h ∙ ap (λ k. text_nodes chars t w e r (k - r)) z

  pub texts-next : (i to r : ℕ) → i ≤ to → r ≡ next_text t.nodes i (to - i) →
      text_nodes chars t w e i (to - i) ≡ text_nodes chars t w e r (to - r)
  texts-next i to r h q =
      let z : i + (to - i) ≡ to = omega arith in
      texts-skip (to - i) i ∙ rw (← q, z) refl

  pub texts-here : (r to : ℕ) → r < to → kind_of t r ≡ TEXT →
      text_nodes chars t w e r (to - r) ≡ node_at chars t w e r ∷ text_nodes chars t w e (r + 1) (to - (r + 1))
  unfolding text_nodes
  texts-here r to h k =
      let z : to - r ≡ suc (to - (r + 1)) = omega arith in
      ap (text_nodes chars t w e r) z ∙ rw (eq-eqb (kind_of t r) TEXT k) refl

  pub texts-none : (r to : ℕ) → to ≤ r → text_nodes chars t w e r (to - r) ≡ []
  unfolding text_nodes
  texts-none r to h = let z : to - r ≡ 0 = omega arith in ap (text_nodes chars t w e r) z

  -- Is the one before it the last?
  pub texts-nil : (r to : ℕ) → r ≤ to → (r < to → kind_of t r ≡ TEXT) → eqb r to ≡ is_nil (text_nodes chars t w e r (to - r))
  texts-nil r to h k = go (ℕ_discrete r to)
    where
      go : Dec (r ≡ to) → eqb r to ≡ is_nil (text_nodes chars t w e r (to - r))
      go (yes q) = eq-eqb r to q ∙ ap is_nil (sym (texts-none r to (omega arith)))
      go (no q) = ne_eqb r to q ∙ ap is_nil (sym (texts-here r to (omega arith) (k (omega arith))))

-- WHAT TRIMMING LEAVES OF THE NODES

-- Kinds and parents are as at first, and so are the bounds of all but texts.
pub record Steady (ns₀ ns : List ℕ) : Type 0 where
  pub kinds : (j : ℕ) → word ns j 0 ≡ word ns₀ j 0
  pub parents : (j : ℕ) → word ns j 1 ≡ word ns₀ j 1
  pub bounds : (j : ℕ) → (word ns₀ j 0 ≡ TEXT → ⊥) → (word ns j 6 ≡ word ns₀ j 6) × (word ns j 7 ≡ word ns₀ j 7)

module _ (i f b : ℕ) (t : Tree) where
  steady-cut : (ns₀ : List ℕ) → word ns₀ i 0 ≡ TEXT → Steady ns₀ t.nodes → Steady ns₀ (cut_text i f b t).nodes
  steady-cut ns₀ k s = record {
    kinds = λ j. cut-words i f b t j 0 (λ e. omega arith) (λ e. omega arith) ∙ s.kinds j;
    parents = λ j. cut-words i f b t j 1 (λ e. omega arith) (λ e. omega arith) ∙ s.parents j;
    bounds = λ j h. let n : (j ≡ i → ⊥) = λ e. h (ap (λ x. word ns₀ x 0) e ∙ k) in (
      cut-words i f b t j 6 (λ e. n (omega arith)) (λ e. n (omega arith)) ∙ (s.bounds j h).0,
      cut-words i f b t j 7 (λ e. n (omega arith)) (λ e. n (omega arith)) ∙ (s.bounds j h).1,
    );
  }

  module _ (size : ℕ) (es : List ℕ) (e n : ℕ) (l : i < n) (k : word t.nodes i 0 ≡ TEXT)
      (h : Fair size t.nodes es t.text e n) where
    other : (j : ℕ) → kind_of (read_of (cut_text i f b t).nodes es) j ≡ ELEMENT → (j ≡ i → ⊥)
    other j q z =
        let p = cut-words i f b t j 0 (λ e. omega arith) (λ e. omega arith) in
        let r : word t.nodes j 0 ≡ TEXT = ap (λ x. word t.nodes x 0) z ∙ k in
        let y : ◌≡◌ {A = ℕ} 2 3 = sym q ∙ p ∙ r in
        omega arith

    same-to : (j : ℕ) → (j ≡ i → ⊥) → word (cut_text i f b t).nodes j 7 ≡ word t.nodes j 7
    same-to j z = cut-words i f b t j 7 (λ e. z (omega arith)) (λ e. z (omega arith))

    same_kind : (j : ℕ) → word (cut_text i f b t).nodes j 0 ≡ word t.nodes j 0
    same_kind j = cut-words i f b t j 0 (λ e. omega arith) (λ e. omega arith)

    ranged : (j : ℕ) → j < n → word t.nodes j 0 ≡ TEXT → Ranged t j
    ranged j m q =
        let r = h.texts j m q in
        record { ordered = record { inside = omega (arith, h.below.inside); order = r.0 }; within = r.1 }

    fair-cut : Fair size (cut_text i f b t).nodes es (cut_text i f b t).text e n
    unfolding entry_at
    fair-cut =
        let long = cut-long i f b t in
        record {
          below = record {
            small = h.below.small;
            inside = omega (arith, long, h.below.inside);
            under = λ j x y.
                rw (cut-words i f b t j 1 (λ e. omega arith) (λ e. omega arith)) (h.below.under j x y);
          };
          readable = λ j m. record {
            readable = record {
              inside = omega (arith, long, h.below.inside);
              range = λ q. rw (same-to j (other j q)) ((h.readable j m).readable.range (sym (same_kind j) ∙ q));
            };
            values = λ q x y. (h.readable j m).values (sym (same_kind j) ∙ q) x (rw (same-to j (other j q)) at y);
          };
          texts = λ j m q.
              let r = ranged-cut i f b t j (ranged i l k) (ranged j m (sym (same_kind j) ∙ q)) in
              (r.ordered.order, r.within);
        }

-- What holds of the tables from turn to turn.
pub record Held (size : ℕ) (es : List ℕ) (e n : ℕ) (ns₀ : List ℕ) (t : Tree) : Type 0 where
  pub steady : Steady ns₀ t.nodes
  pub fair : Fair size t.nodes es t.text e n

module _ (size : ℕ) (es : List ℕ) (e n : ℕ) (ns₀ : List ℕ) where
  held_cut : (i f b : ℕ) → i < n → word ns₀ i 0 ≡ TEXT → (t : Tree) → Held size es e n ns₀ t → Held size es e n ns₀ (cut_text i f b t)
  held_cut i f b l k t h = record {
    steady = steady-cut i f b t ns₀ k h.steady;
    fair = fair-cut i f b t size es e n l (h.steady.kinds i ∙ k) h.fair;
  }

  pub held-pair : (p : Pair) → p.node1 < n → word ns₀ p.node1 0 ≡ TEXT → p.node2 < n → word ns₀ p.node2 0 ≡ TEXT → (t : Tree) →
      Held size es e n ns₀ t → Held size es e n ns₀ (after_pair p t)
  held-pair p a x b y t h =
      keep_pair (Held size es e n ns₀) p (held_cut p.node1 1 0 a x) (held_cut p.node1 0 1 a x) (held_cut p.node2 1 0 b y)
      (held_cut p.node2 0 1 b y) t h

-- The tables keep their lengths.
pub long-pair : (p : Pair) (t : Tree) →
    (length (after_pair p t).nodes ≡ length t.nodes) × (length (after_pair p t).text ≡ length t.text)
long-pair p t =
    keep_pair P p (cutting p.node1 1 0) (cutting p.node1 0 1) (cutting p.node2 1 0) (cutting p.node2 0 1) t (refl, refl)
  where
    P : Tree → Type 0
    P u = (length u.nodes ≡ length t.nodes) × (length u.text ≡ length t.text)

    cutting : (i f b : ℕ) (u : Tree) → P u → P (cut_text i f b u)
    cutting i f b u h = (cut-long i f b u ∙ h.0, cut-text-long i f b u ∙ h.1)

-- A text node has bounds.
pub fair-ranged : (size : ℕ) (ns es bs : List ℕ) (e n i : ℕ) → Fair size ns es bs e n → i < n → word ns i 0 ≡ TEXT →
    Ranged (texts_of ns bs) i
fair-ranged size ns es bs e n i h l k =
    let r = h.texts i l k in
    record { ordered = record { inside = omega (arith, h.below.inside); order = r.0 }; within = r.1 }

-- WHAT IS READ IS THE SAME

module _ (chars ns₀ ns es : List ℕ) (s : Steady ns₀ ns) where
  id-steady : (i a : ℕ) → attribute_id (read_of ns es) i a ≡ attribute_id (read_of ns₀ es) i a
  unfolding attribute_id
  id-steady i a = rw (s.kinds i) (go (eqb (word ns₀ i 0) ELEMENT) refl)
    where
      find : (f t : ℕ) → find_entry (read_of ns es) a f (t - f) ≡ find_entry (read_of ns₀ es) a f (t - f)
      find f t = sym (find-same (read_of ns es) a f (t - f)) ∙ find-same (read_of ns₀ es) a f (t - f)

      go : (b : Bool) → eqb (word ns₀ i 0) ELEMENT ≡ b →
          pick b (λ u. find_entry (read_of ns es) a (word ns i 6) (word ns i 7 - word ns i 6)) (λ u. 0) ≡
          pick b (λ u. find_entry (read_of ns₀ es) a (word ns₀ i 6) (word ns₀ i 7 - word ns₀ i 6)) (λ u. 0)
      go true q =
          let k : word ns₀ i 0 ≡ ELEMENT = eqb-true (word ns₀ i 0) ELEMENT q in
          let r = s.bounds i (λ z. let y : ◌≡◌ {A = ℕ} 2 3 = sym k ∙ z in omega arith) in
          rw (r.0, r.1) (find (word ns₀ i 6) (word ns₀ i 7))
      go false q = refl

  xmlspace-steady : (w : XmlSpace) (i : ℕ) → get_xmlspace chars (read_of ns es) i w ≡ get_xmlspace chars (read_of ns₀ es) i w
  unfolding get_xmlspace entry_at
  xmlspace-steady w i =
      ap (λ j. pick (eqb j 0) (λ u. w)
      (λ u. pick (same_bytes (value_at_entry chars (read_of ns₀ es) j) preserve_word) (λ v. preserve) (λ v. default)))
      (id-steady i AId.Space)

  space-steady : (w : XmlSpace) (i : ℕ) → space_at chars (read_of ns es) w i ≡ space_at chars (read_of ns₀ es) w i
  space-steady w i = xmlspace-steady w (word ns i 1 - 1) ∙ ap (λ k. get_xmlspace chars (read_of ns₀ es) (k - 1) w) (s.parents i)

  -- The pair of a turn.
  pub pair-steady : (w : XmlSpace) (e : ℕ) (k : Turn) →
      pair_of chars (read_of ns es) w e k ≡ pair_at chars (read_of ns₀ es) w e ns k.a k.b k.kept k.first k.last
  pair-steady w e k =
      rw (
        depth_same (read_of ns es) (read_of ns₀ es) s.parents e k.a k.a,
        depth_same (read_of ns es) (read_of ns₀ es) s.parents e k.b k.b,
        space-steady w (stands_by ns k.a k.kept),
        space-steady w k.b,
      ) refl

-- The next text, a node at a time.
pub ruleset steps = (next-step)

-- A text that is kept stays so behind a pair that it begins, whether it is blank or not.
pub kept_same : (t : Tree) (c : ℕ) (kept : Option ℕ) → kept ≡ Some c → kept ≡ kept_behind t c kept
kept_same t c kept e = go (is_blank (text_of t c))
  where
    go : (b : Bool) → kept ≡ pick b (λ u. kept) (λ u. Some c)
    go true = refl
    go false = e
