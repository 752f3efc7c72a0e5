-- The marks of a pass, stored node after node. Assumes nothing.
use mathlib.Core.Path.{◌≡◌, refl, sym, ap, ◌∙◌, subst}
use mathlib.Core.List.{List, []}
use Prim.Native.Nat.{ℕ, ◌+◌, ◌-◌, ◌*◌, ◌/◌, ◌%◌, ◌<◌, ◌≤◌}
use native.Mathlib.Omega.{arith}
use native.Mathlib.Decide.{ℕ_discrete}
use borrow.Author.Tests.{eq-eqb, ne_eqb}
use lib.Dec.{eqb}
use lib.ListN.{length, get_or, replicate}
use lib.Seq.{get_or-set_same, get_or-set_other}
use Rattle.model.specs.Base.{pick, given}
use Rattle.model.specs.AId
use Rattle.model.specs.Drawing.{Value, readings_of, reading_of}
use Rattle.model.specs.Tables.{Tree, entry_at, entry_word, attribute_id, attribute_of}
use Rattle.model.specs.Repair.{readings_of_attribute, cut_name}
use Rattle.model.proofs.Theorems.Inside.{all-inside}
use Rattle.model.proofs.Theorems.Images.{values-bare}
use Rattle.model.specs.Theorems.Kept.{Tidy}
use Rattle.model.proofs.Theorems.Kept.{attribute-any}
use Rattle.model.proofs.Theorems.Cuts.{attribute-there, one-owner}
use Rattle.ids.specs.declared.heads.Heads.{Heads}
use Rattle.script.specs.declared.drawing.Drawing.{Drawing}
use Rattle.script.specs.declared.cursor.Cursor.{Cursor}
use Rattle.script.specs.Step.{Fit, Checked, document}
use Rattle.tree.specs.declared.Counts.{Counts}
use Rattle.tree.specs.Lent.{read_of}
use Rattle.tree.proofs.Alike.{id_same}
use Rattle.tree.proofs.Entries.{one-less}
use Rattle.ids.specs.Chains.{Indexed, next_set, Like}
use Rattle.ids.proofs.Chaining.{chained_same}
use Rattle.ids.proofs.Likeness.{like-itself, like-next, like-id, like-element, like-tidy}
use Rattle.leads.specs.Links.{values_of}
use Rattle.targets.specs.Storing.{Stored}
use Rattle.targets.specs.Targets.{seen_of, pass_kind, mark_for, mark_of, stored_mark, Targeted}
use Rattle.targets.proofs.Passes.{no-id, one-pass}
use Rattle.targets.proofs.Likes.{like-mark}

-- LINKS THAT LEAD NOWHERE

-- Node m's link in pass k.
module _ (chars : List ℕ) (values : List Value) (bare : readings_of 0 values ≡ []) (k : ℕ) (t : Tree) (m : ℕ) where
  -- Without readings there is no mark.
  unread : readings_of_attribute chars values t (cut_name k) m ≡ [] → mark_of chars values k t m ≡ 0
  unfolding mark_of reading_of
  unread e = ap (λ rs. given (reading_of (pass_kind k) rs) (λ v. mark_for chars t v.bytes) (λ u. 0)) e

  -- The attribute is not there.
  mark-absent : attribute_id t m (cut_name k) ≡ 0 → mark_of chars values k t m ≡ 0
  unfolding readings_of_attribute attribute_of
  mark-absent z = unread (rw (eq-eqb (attribute_id t m (cut_name k)) 0 z) refl)

  -- It is a fixed value.
  mark-fixed : entry_word t (attribute_id t m (cut_name k) - 1) 4 ≡ 0 → mark_of chars values k t m ≡ 0
  unfolding readings_of_attribute entry_at
  mark-fixed z = unread (go (ℕ_discrete (attribute_of chars t m (cut_name k)) 0))
    where
      j : ℕ
      j = attribute_of chars t m (cut_name k)

      go : Dec (j ≡ 0) → pick (eqb j 0) (λ u. []) (λ u. readings_of (entry_word t (j - 1) 4) values) ≡ []
      go (yes e) = rw (eq-eqb _ 0 e) refl
      go (no e) = let f = attribute-there chars t m (cut_name k) e in rw (ne_eqb _ 0 e, f.0, z) bare

-- What is stored where there is nothing.
stored-none : (t : Tree) (a m : ℕ) → attribute_id t m a ≡ 0 → stored_mark t a m ≡ 0
unfolding stored_mark
stored-none t a m z = rw (eq-eqb (attribute_id t m a) 0 z) refl

-- ONE MARK

-- The mark x is stored at node m's attribute a.
module _ (size : ℕ) (ns es : List ℕ) (c : Counts) (g : Tidy size (seen_of ns es c)) (m a x : ℕ)
    (h : attribute_id (seen_of ns es c) m a ≡ 0 → ⊥) where
  -- The tree before it.
  abbrev t : Tree
  t = seen_of ns es c

  -- The entry.
  abbrev e : ℕ
  e = attribute_id t m a - 1

  -- The table behind it.
  abbrev es' : List ℕ
  es' = next_set es e x

  -- The tree behind it.
  abbrev u : Tree
  u = seen_of ns es' c

  -- The entry is one of those that are counted.
  inside : e < c.attributes
  inside = omega (arith, attribute-any size t g.kept g.unused m a h, h)

  -- Importance is as it was, and so is every other word.
  set-like : Like c.attributes es es'
  set-like = like-next c.attributes es es (like-itself c.attributes es) e x inside g.kept.fits.entries

  -- Attributes are where they were.
  set-id : (i b : ℕ) → attribute_id u i b ≡ attribute_id t i b
  set-id i b = like-id c.attributes es es' set-like ns (replicate c.text 0) c i b

  -- The words of importance of other attributes stay.
  word_kept : (i b : ℕ) → (attribute_id t i b ≡ 0 → ⊥) → (i ≡ m → b ≡ a → ⊥)
      → entry_word u (attribute_id t i b - 1) 1 ≡ entry_word t (attribute_id t i b - 1) 1
  word_kept i b y d =
      get_or-set_other es (5 * e + 1) (5 * (attribute_id t i b - 1) + 1) (get_or es (5 * e + 1) 0 % 2 + 2 * x) 0
      (λ z. let q : attribute_id t i b ≡ attribute_id t m a = omega (arith, z, y, h) in
      let o = one-owner size t g i m b a y q in d o.0 o.1)

  -- So do the marks that are stored there.
  stored_other : (i b : ℕ) → (i ≡ m → b ≡ a → ⊥) → stored_mark u b i ≡ stored_mark t b i
  unfolding stored_mark
  stored_other i b d = rw (set-id i b) (go (ℕ_discrete (attribute_id t i b) 0))
    where
      read : Tree → ℕ
      read v = pick (eqb (attribute_id t i b) 0) (λ y. 0)
          (λ y. pick (eqb (entry_word v (attribute_id t i b - 1) 4) 0) (λ z. 0) (λ z. entry_word v (attribute_id t i b - 1) 1 / 2))

      go : Dec (attribute_id t i b ≡ 0) → read u ≡ read t
      go (yes z) = rw (eq-eqb _ 0 z) refl
      go (no z) = rw (set-like.words (attribute_id t i b - 1) 4 (omega arith) (λ y. omega arith), word_kept i b z d) refl

  -- The mark itself.
  stored-own : (entry_word t e 4 ≡ 0 → x ≡ 0) → stored_mark u a m ≡ x
  unfolding stored_mark
  stored-own f =
      rw (set-id m a, ne_eqb (attribute_id t m a) 0 h, set-like.words e 4 (omega arith) (λ y. omega arith))
      (go (ℕ_discrete (entry_word t e 4) 0))
    where
      half : (y : ℕ) → (y % 2 + 2 * x) / 2 ≡ x
      half y = omega arith

      go : Dec (entry_word t e 4 ≡ 0) → pick (eqb (entry_word t e 4) 0) (λ z. 0) (λ z. entry_word u e 1 / 2) ≡ x
      go (yes z) = rw (eq-eqb _ 0 z) (sym (f z))
      go (no z) =
          let same = get_or-set_same es (5 * e + 1) (get_or es (5 * e + 1) 0 % 2 + 2 * x) 0 (omega (arith, inside, g.kept.fits.entries)) in
          rw (ne_eqb _ 0 z) (ap (λ (y : ℕ). y / 2) same ∙ half (get_or es (5 * e + 1) 0))

  -- Ids stay in their chains.
  set-indexed : (a ≡ AId.Id → ⊥) → (chars : List ℕ) (hs : Heads) (n : ℕ) → Indexed chars (read_of ns es) hs n → Indexed chars (read_of ns es') hs n
  set-indexed other chars hs n k = record {
    chained = λ z. chained_same chars (read_of ns es) (read_of ns es')
        (λ i. id_same u i AId.Id ∙ set-id i AId.Id ∙ sym (id_same t i AId.Id))
        (λ i. like-element c.attributes es es' set-like ns [] (record { nodes = 0; attributes = 0; text = 0 }) chars i)
        hs.last n
        (λ i l y. let s = id_same t i AId.Id in
        ap (λ (j : ℕ). entry_word u (j - 1) 1) s ∙ word_kept i AId.Id (λ o. y (s ∙ o)) (λ p q. other (sym q))
        ∙ ap (λ (j : ℕ). entry_word t (j - 1) 1) (sym s))
        (k.chained z);
  }

-- THE LOOP

-- In the middle: the marks of the first i nodes are stored.
pub record Resolving (drawing : Drawing) (heads : Heads) (ns : List ℕ) (c : Counts) (k : ℕ) (es₀ es : List ℕ) (i : ℕ) (hint : Cursor) : Type 0 where
  pub high : i ≤ c.nodes
  pub like : Like c.attributes es₀ es
  pub indexed : Indexed drawing.characters.now (read_of ns es) heads c.nodes
  pub marks : (m : ℕ) → m < i
      → stored_mark (seen_of ns es c) (cut_name k) m ≡ mark_of drawing.characters.now (values_of drawing) k (seen_of ns es c) m
  pub others : (j : ℕ) → 1 ≤ j → j ≤ 5 → (j ≡ k → ⊥) → Targeted drawing.characters.now (values_of drawing) j (seen_of ns es₀ c)
      → Targeted drawing.characters.now (values_of drawing) j (seen_of ns es c)
  pub fit : Fit drawing hint

-- No node is looked at yet.
pub resolving-first : (drawing : Drawing) (heads : Heads) (ns : List ℕ) (c : Counts) (k : ℕ) (es : List ℕ) (hint : Cursor)
    → Indexed drawing.characters.now (read_of ns es) heads c.nodes → Fit drawing hint → Resolving drawing heads ns c k es es 0 hint
resolving-first drawing heads ns c k es hint h f = record {
  high = omega arith;
  like = like-itself c.attributes es;
  indexed = h;
  marks = λ m l. absurd (omega arith);
  others = λ j a b d w. w;
  fit = f;
}

-- In the middle of pass k, of a drawing that check takes and tables that were tidy.
module _ (drawing : Drawing) (heads : Heads) (ns : List ℕ) (c : Counts) (k : ℕ) (first : 1 ≤ k) (last : k ≤ 5) (checked : Checked drawing)
    (es₀ : List ℕ) (g : Tidy (length drawing.characters.now) (seen_of ns es₀ c)) (es : List ℕ) (i : ℕ) (hint : Cursor)
    (w : Resolving drawing heads ns c k es₀ es i hint) where
  -- The values of the drawing.
  abbrev values : List Value
  values = values_of drawing

  -- The tree as it is.
  abbrev now : Tree
  now = seen_of ns es c

  -- The tables are tidy all the time.
  pub resolving-tidy : Tidy (length drawing.characters.now) now
  resolving-tidy = like-tidy (length drawing.characters.now) es₀ es ns (replicate c.text 0) c w.like g

  -- A fixed value has no readings.
  bare : readings_of 0 values ≡ []
  bare = values-bare (length drawing.characters.now) (document drawing) (all-inside drawing.script.now drawing.characters.now checked)

  -- The next node.
  pub resolving-next : i < c.nodes → (es' : List ℕ) (n : Cursor) → Stored ns es (cut_name k) i (mark_of drawing.characters.now values k now i) es'
      → Fit drawing n → Resolving drawing heads ns c k es₀ es' (i + 1) n
  resolving-next l es' n s f = go (ℕ_discrete (attribute_id (read_of ns es) i (cut_name k)) 0)
    where
      a : ℕ
      a = cut_name k

      x : ℕ
      x = mark_of drawing.characters.now values k now i

      same : attribute_id (read_of ns es) i a ≡ attribute_id now i a
      same = id_same now i a

      go : Dec (attribute_id (read_of ns es) i a ≡ 0) → Resolving drawing heads ns c k es₀ es' (i + 1) n
      go (yes z) = subst (λ (r : List ℕ). Resolving drawing heads ns c k es₀ r (i + 1) n) (sym (s.none z)) (record {
        high = omega arith;
        like = w.like;
        indexed = w.indexed;
        marks = λ m h. at m h (ℕ_discrete m i);
        others = w.others;
        fit = f;
      })
        where
          at : (m : ℕ) → m < i + 1 → Dec (m ≡ i) → stored_mark now a m ≡ mark_of drawing.characters.now values k now m
          at m h (no d) = w.marks m (omega arith)
          at m h (yes d) =
              let y : attribute_id now i a ≡ 0 = sym same ∙ z in
              ap (stored_mark now a) d ∙ stored-none now a i y ∙ sym (mark-absent drawing.characters.now values bare k now i y)
              ∙ ap (mark_of drawing.characters.now values k now) (sym d)
      go (no z) = subst (λ (r : List ℕ). Resolving drawing heads ns c k es₀ r (i + 1) n) (sym behind) (record {
        high = omega arith;
        like = like-next c.attributes es₀ es w.like (attribute_id now i a - 1) x (inside size ns es c tidy i a x there)
            g.kept.fits.entries;
        indexed = set-indexed size ns es c tidy i a x there (no-id k) drawing.characters.now heads c.nodes w.indexed;
        marks = λ m h. at m h (ℕ_discrete m i);
        others = λ j p q d v. on j p q d (w.others j p q d v);
        fit = f;
      })
        where
          size : ℕ
          size = length drawing.characters.now

          tidy : Tidy size now
          tidy = resolving-tidy

          there : attribute_id now i a ≡ 0 → ⊥
          there y = z (same ∙ y)

          behind : es' ≡ next_set es (attribute_id now i a - 1) x
          behind = s.some z ∙ ap (λ (j : ℕ). next_set es (j - 1) x) same

          u : Tree
          u = seen_of ns (next_set es (attribute_id now i a - 1) x) c

          mark : (j m : ℕ) → mark_of drawing.characters.now values j u m ≡ mark_of drawing.characters.now values j now m
          mark j m = like-mark c.attributes es (next_set es (attribute_id now i a - 1) x) (set-like size ns es c tidy i a x there) ns
              (replicate c.text 0) c drawing.characters.now values j m

          at : (m : ℕ) → m < i + 1 → Dec (m ≡ i) → stored_mark u a m ≡ mark_of drawing.characters.now values k u m
          at m h (no d) = stored_other size ns es c tidy i a x there m a (λ p q. d p) ∙ w.marks m (omega arith) ∙ sym (mark k m)
          at m h (yes d) =
              ap (stored_mark u a) d ∙ stored-own size ns es c tidy i a x there (mark-fixed drawing.characters.now values bare k now i) ∙ sym (mark k i)
              ∙ ap (mark_of drawing.characters.now values k u) (sym d)

          on : (j : ℕ) → 1 ≤ j → j ≤ 5 → (j ≡ k → ⊥) → Targeted drawing.characters.now values j now → Targeted drawing.characters.now values j u
          on j p q d v = record {
            marks = λ m h. stored_other size ns es c tidy i a x there m (cut_name j) (λ y o. d (one-pass j k p q first last o))
                ∙ v.marks m h ∙ sym (mark j m);
          }

-- ONE TURN

-- Node m's attribute of pass k was looked for; its mark is x.
module _ (ns es : List ℕ) (k m name x : ℕ) (a : name ≡ cut_name k) where
  -- It is the one that the pass cuts.
  own : (w : ℕ) → w ≡ attribute_id (read_of ns es) m name → w ≡ attribute_id (read_of ns es) m (cut_name k)
  own w e = e ∙ ap (attribute_id (read_of ns es) m) a

  -- It is there, and what was found is stored.
  pub turn-some : (j : ℕ) → j + 1 ≡ attribute_id (read_of ns es) m name → (y : ℕ) → y ≡ x → (es' : List ℕ) → es' ≡ next_set es j y
      → Stored ns es (cut_name k) m x es'
  turn-some j e y f es' q = record {
    none = λ o. absurd (let z : j + 1 ≡ 0 = own (j + 1) e ∙ o in omega (arith, z));
    some = λ o. q ∙ ap (next_set es j) f ∙ ap (λ (i : ℕ). next_set es i x) (sym (one-less j (own (j + 1) e)));
  }
