-- Runs of entries: what is read from a part of the attribute table as a list, and what stores into it make of that list.
use Prim.Native.Nat.{ℕ, zero, suc, ◌+◌, ◌-◌, ◌*◌, ◌≤◌, ◌<◌}
use Rattle.std.specs.Prelude.{◌≡◌, Bool, List, [], ◌∷◌, ◌++◌, eqb, length, get_or, set}
use Rattle.std.proofs.Math.Path.{refl, ap, fun_ext}
use Rattle.std.proofs.Common.{sym, ◌∙◌, eq-eqb, ne_eqb, ext_get_or}
use Rattle.std.proofs.Math.Bool.{true, false}
use Rattle.std.proofs.Math.Option.{Option, none, some}
use native.Mathlib.Omega.{arith}
use Rattle.std.proofs.Math.Decide.{ℕ_discrete, dec_lt}
use Rattle.std.proofs.lemmas.List.Edits.{sets}
use Rattle.std.proofs.lemmas.List.{set-get_or}
use Rattle.std.proofs.Math.Seq.{length-sets}
use Rattle.model.specs.Base.{pick, given}
use Rattle.model.specs.Names.{is_inheritable, inherit_default}
use Rattle.model.specs.Drawing.{Attribute, Declaration, reading_of}
use Rattle.model.specs.Tables.{Tree, Entry, ELEMENT, kind_of, parent_of, from_of, to_of, entry_words, entries_words, entry_word, entry_at}
use Rattle.model.specs.Tables.{find_entry, attribute_id, holder_from}
use Rattle.model.specs.Element.{inherited_from, copy_from, default_of, resolve_inherit, append_attribute, has_entry, on_first}
use Rattle.model.specs.Element.{add_attribute}
use Rattle.model.specs.Element.{insert_entry, insert_part, write_declaration}
use Rattle.model.proofs.Theorems.Agree.{sets-in, sets-out}
use Rattle.model.proofs.Theorems.Entries.{holder-falls, entry-word, entry-by-words, entries-long}
use Rattle.model.proofs.Theorems.Kept.{find-within}
use Rattle.model.specs.Theorems.Runs.{table_of, entries_from, with_run}

-- One entry, then the others.
pub run-cons : (ats : List ℕ) (n : ℕ) (e : Entry) (es : List Entry) →
    with_run ats n (e ∷ es) ≡ with_run (sets ats (5 * n) (entry_words e)) (n + 1) es
unfolding with_run entries_words
run-cons ats n e es =
    let q : suc (suc (suc (suc (suc (5 * n))))) ≡ 5 * (n + 1) = omega arith in
    ap (λ k. sets (sets ats (5 * n) (entry_words e)) k (entries_words es)) q

pub run_none : (ats : List ℕ) (n : ℕ) → with_run ats n [] ≡ ats
unfolding with_run entries_words
run_none ats n = refl

-- What stands there already changes nothing.
own-sets : (ws ats : List ℕ) (p : ℕ) → ((k : ℕ) → k < length ws → get_or ws k 0 ≡ get_or ats (p + k) 0) → sets ats p ws ≡ ats
own-sets [] ats p f = refl
own-sets (w ∷ ws) ats p f =
    let z : p + 0 ≡ p = omega arith in
    let e : set ats p w ≡ ats = ap (λ v. set ats p v) (f 0 (omega arith) ∙ ap (λ q. get_or ats q 0) z) ∙ set-get_or ats p 0 in
    ap (λ l. sets l (suc p) ws) e
    ∙ own-sets ws ats (suc p) (λ k l. f (suc k) (omega arith) ∙ (let y : p + suc k ≡ suc p + k = omega arith in ap (λ q. get_or ats q 0) y))

pub own-words : (ats : List ℕ) (n : ℕ) → sets ats (5 * n) (entry_words (entry_at (table_of ats) n)) ≡ ats
own-words ats n = own-sets (entry_words (entry_at (table_of ats) n)) ats (5 * n) (λ k l. entry-word (table_of ats) n k l)

pub run-own : (ats : List ℕ) (n k : ℕ) → with_run ats n (entries_from ats n k) ≡ ats
unfolding entries_from
run-own ats n zero = run_none ats n
run-own ats n (suc k) =
    run-cons ats n (entry_at (table_of ats) n) (entries_from ats (n + 1) k)
    ∙ ap (λ l. with_run l (n + 1) (entries_from ats (n + 1) k)) (own-words ats n) ∙ run-own ats (n + 1) k

pub entries-count : (ats : List ℕ) (n k : ℕ) → length (entries_from ats n k) ≡ k
unfolding entries_from
entries-count ats n zero = refl
entries-count ats n (suc k) = ap suc (entries-count ats (n + 1) k)

-- ONE MORE ENTRY

run_more : (ats : List ℕ) (n : ℕ) (es : List Entry) (e : Entry) →
    sets (with_run ats n es) (5 * (n + length es)) (entry_words e) ≡ with_run ats n (es ++ (e ∷ []))
run_more ats n [] e =
    let z : n + 0 ≡ n = omega arith in
    ap (λ l. sets l (5 * (n + 0)) (entry_words e)) (run_none ats n) ∙ ap (λ k. sets ats (5 * k) (entry_words e)) z
    ∙ sym (run-cons ats n e [] ∙ run_none _ (n + 1))
run_more ats n (x ∷ es) e =
    let z : n + suc (length es) ≡ n + 1 + length es = omega arith in
    ap (λ l. sets l (5 * (n + suc (length es))) (entry_words e)) (run-cons ats n x es)
    ∙ ap (λ k. sets (with_run (sets ats (5 * n) (entry_words x)) (n + 1) es) (5 * k) (entry_words e)) z
    ∙ run_more (sets ats (5 * n) (entry_words x)) (n + 1) es e
    ∙ sym (run-cons ats n x (es ++ (e ∷ [])))

-- An entry stored behind a run.
pub put-more : (ats : List ℕ) (n k : ℕ) (e : Entry) →
    sets ats (5 * (n + k)) (entry_words e) ≡ with_run ats n (entries_from ats n k ++ (e ∷ []))
put-more ats n k e =
    ap (λ l. sets l (5 * (n + k)) (entry_words e)) (sym (run-own ats n k))
    ∙ ap (λ m. sets (with_run ats n (entries_from ats n k)) (5 * (n + m)) (entry_words e)) (sym (entries-count ats n k))
    ∙ run_more ats n (entries_from ats n k) e

-- THE FIRST ENTRY OF A NAME

-- Tables that agree in a run have the same entries there.
pub entries-agree : (one two : List ℕ) (n k : ℕ) → ((q : ℕ) → 5 * n ≤ q → q < 5 * (n + k) → get_or one q 0 ≡ get_or two q 0) →
    entries_from one n k ≡ entries_from two n k
unfolding entries_from
entries-agree one two n zero f = refl
entries-agree one two n (suc k) f =
    let e : entry_at (table_of one) n ≡ entry_at (table_of two) n =
    entry-by-words (table_of one) (table_of two) n (λ w l. f (5 * n + w) (omega arith) (omega arith)) in
    let r = entries-agree one two (n + 1) k (λ q a b. f q (omega arith) (omega arith)) in
    ap (λ x. x ∷ entries_from one (n + 1) k) e ∙ ap (λ l. entry_at (table_of two) n ∷ l) r

module _ (ats : List ℕ) (a : ℕ) where
  pub first-none : (n k : ℕ) → find_entry (table_of ats) a n k ≡ 0 → has_entry a (entries_from ats n k) ≡ false
  unfolding entries_from find_entry has_entry entry_at
  first-none n zero h = refl
  first-none n (suc k) h = go (eqb (entry_word (table_of ats) n 0) a) h (first-none (n + 1) k)
    where
      go : (b : Bool) → pick b (λ u. n + 1) (λ u. find_entry (table_of ats) a (n + 1) k) ≡ 0 →
          (find_entry (table_of ats) a (n + 1) k ≡ 0 → has_entry a (entries_from ats (n + 1) k) ≡ false) →
          pick b (λ u. true) (λ u. has_entry a (entries_from ats (n + 1) k)) ≡ false
      go true z r = absurd (omega arith)
      go false z r = r z

  pub first_some : (n k : ℕ) → (find_entry (table_of ats) a n k ≡ 0 → ⊥) → has_entry a (entries_from ats n k) ≡ true
  unfolding entries_from find_entry has_entry entry_at
  first_some n zero h = absurd (h refl)
  first_some n (suc k) h = go (eqb (entry_word (table_of ats) n 0) a) h (first_some (n + 1) k)
    where
      go : (b : Bool) → (pick b (λ u. n + 1) (λ u. find_entry (table_of ats) a (n + 1) k) ≡ 0 → ⊥) →
          ((find_entry (table_of ats) a (n + 1) k ≡ 0 → ⊥) → has_entry a (entries_from ats (n + 1) k) ≡ true) →
          pick b (λ u. true) (λ u. has_entry a (entries_from ats (n + 1) k)) ≡ true
      go true z r = refl
      go false z r = r z

  -- The first entry of that name stored anew.
  pub put_first : (f : Entry → Entry) (n k : ℕ) → (find_entry (table_of ats) a n k ≡ 0 → ⊥) →
      sets ats (5 * (find_entry (table_of ats) a n k - 1)) (entry_words (f (entry_at (table_of ats) (find_entry (table_of ats) a n k - 1))))
      ≡ with_run ats n (on_first f a (entries_from ats n k))
  unfolding entries_from find_entry on_first entry_at
  put_first f n zero h = absurd (h refl)
  put_first f n (suc k) h = go (eqb (entry_word (table_of ats) n 0) a) h (put_first f (n + 1) k)
    where
      e : Entry
      e = entry_at (table_of ats) n

      es : List Entry
      es = entries_from ats (n + 1) k

      stored : ℕ → List ℕ
      stored r = sets ats (5 * (r - 1)) (entry_words (f (entry_at (table_of ats) (r - 1))))

      go : (b : Bool) → (pick b (λ u. n + 1) (λ u. find_entry (table_of ats) a (n + 1) k) ≡ 0 → ⊥) →
          ((find_entry (table_of ats) a (n + 1) k ≡ 0 → ⊥) →
          stored (find_entry (table_of ats) a (n + 1) k) ≡ with_run ats (n + 1) (on_first f a es)) →
          stored (pick b (λ u. n + 1) (λ u. find_entry (table_of ats) a (n + 1) k))
          ≡ with_run ats n (pick b (λ u. f e ∷ es) (λ u. e ∷ on_first f a es))
      go true z r =
          let y : n + 1 - 1 ≡ n = omega arith in
          let ws : List ℕ = entry_words (f e) in
          let mid : List ℕ = sets ats (5 * n) ws in
          ap (λ m. sets ats (5 * m) (entry_words (f (entry_at (table_of ats) m)))) y
          ∙ sym (run-own mid (n + 1) k)
          ∙ ap (λ l. with_run mid (n + 1) l) (entries-agree mid ats (n + 1) k (λ q x b. sets-out ws ats (5 * n) q (λ u v. omega arith)))
          ∙ sym (run-cons ats n (f e) es)
      go false z r = r z ∙ sym (run-cons ats n e (on_first f a es) ∙ ap (λ l. with_run l (n + 1) (on_first f a es)) (own-words ats n))

-- A RUN THAT WAS STORED

pub run_length : (ats : List ℕ) (n : ℕ) (es : List Entry) → length (with_run ats n es) ≡ length ats
unfolding with_run
run_length ats n es = length-sets ats (5 * n) (entries_words es)

-- What stands before a run, and behind it, is as it was.
pub run-outside : (ats : List ℕ) (n : ℕ) (es : List Entry) (q : ℕ) → (5 * n ≤ q → q < 5 * (n + length es) → ⊥) →
    get_or (with_run ats n es) q 0 ≡ get_or ats q 0
unfolding with_run
run-outside ats n es q h = sets-out (entries_words es) ats (5 * n) q (λ a b. h a (omega (arith, entries-long es)))

run-head : (ats : List ℕ) (n : ℕ) (e : Entry) (es : List Entry) → 5 * (n + suc (length es)) ≤ length ats →
    entry_at (table_of (with_run ats n (e ∷ es))) n ≡ e
unfolding with_run entries_words entry_at
run-head ats n e es h = λ x. record {
  name = f 0 (omega arith) x;
  important = f 1 (omega arith) x;
  start = f 2 (omega arith) x;
  size = f 3 (omega arith) x;
  command = f 4 (omega arith) x;
}
  where
    f : (w : ℕ) → w < 5 → get_or (sets ats (5 * n) (entries_words (e ∷ es))) (5 * n + w) 0 ≡ get_or (entries_words (e ∷ es)) w 0
    f w l = sets-in (entries_words (e ∷ es)) ats (5 * n) w (omega (arith, entries-long es)) (omega (arith, entries-long es))

pub from-run : (ats : List ℕ) (n : ℕ) (es : List Entry) → 5 * (n + length es) ≤ length ats →
    entries_from (with_run ats n es) n (length es) ≡ es
unfolding entries_from
from-run ats n [] h = refl
from-run ats n (e ∷ es) h =
    let next : List ℕ = sets ats (5 * n) (entry_words e) in
    let room : 5 * (n + 1 + length es) ≤ length next = rw (length-sets ats (5 * n) (entry_words e)) (omega arith) in
    let c = run-cons ats n e es in
    ap (λ x. x ∷ entries_from (with_run ats n (e ∷ es)) (n + 1) (length es)) (run-head ats n e es h)
    ∙ ap (λ l. e ∷ l) (ap (λ l. entries_from l (n + 1) (length es)) c ∙ from-run next (n + 1) es room)

-- A longer run over a shorter one.
pub run-over : (ats : List ℕ) (n : ℕ) (es more : List Entry) → length es ≤ length more → 5 * (n + length more) ≤ length ats →
    with_run (with_run ats n es) n more ≡ with_run ats n more
unfolding with_run
run-over ats n es more l h =
    let ws : List ℕ = entries_words more in
    let vs : List ℕ = entries_words es in
    let long : length (sets (sets ats (5 * n) vs) (5 * n) ws) ≡ length (sets ats (5 * n) ws) =
    length-sets (sets ats (5 * n) vs) (5 * n) ws ∙ length-sets ats (5 * n) vs ∙ sym (length-sets ats (5 * n) ws) in
    ext_get_or 0 _ _ long (λ q b. at q (dec_lt q (5 * n)) (dec_lt q (5 * n + length ws)))
  where
    at : (q : ℕ) → Dec (q < 5 * n) → Dec (q < 5 * n + length (entries_words more)) →
        get_or (sets (sets ats (5 * n) (entries_words es)) (5 * n) (entries_words more)) q 0
        ≡ get_or (sets ats (5 * n) (entries_words more)) q 0
    at q (no a) (yes b) =
        let e : q ≡ 5 * n + (q - 5 * n) = omega arith in
        let room : 5 * n + length (entries_words more) ≤ length ats = omega (arith, entries-long more) in
        ap (λ k. get_or (sets (sets ats (5 * n) (entries_words es)) (5 * n) (entries_words more)) k 0) e
        ∙ sets-in (entries_words more) (sets ats (5 * n) (entries_words es)) (5 * n) (q - 5 * n) (rw length-sets room) (omega arith)
        ∙ sym (sets-in (entries_words more) ats (5 * n) (q - 5 * n) room (omega arith))
        ∙ sym (ap (λ k. get_or (sets ats (5 * n) (entries_words more)) k 0) e)
    at q (yes a) d =
        sets-out (entries_words more) (sets ats (5 * n) (entries_words es)) (5 * n) q (λ x y. omega arith)
        ∙ sets-out (entries_words es) ats (5 * n) q (λ x y. omega arith)
        ∙ sym (sets-out (entries_words more) ats (5 * n) q (λ x y. omega arith))
    at q (no a) (no b) =
        sets-out (entries_words more) (sets ats (5 * n) (entries_words es)) (5 * n) q (λ x y. omega arith)
        ∙ sets-out (entries_words es) ats (5 * n) q (λ x y. omega (arith, entries-long es, entries-long more))
        ∙ sym (sets-out (entries_words more) ats (5 * n) q (λ x y. omega arith))

-- WHAT INHERIT READS

-- The tree t, and the same nodes with an attribute table that agrees with t's in the first n entries. Node p and those above it have
-- their ranges in there. What an element below p inherits is then the same, whatever stands behind, and whatever the counts are.
module _ (t : Tree) (ats bs : List ℕ) (x y z p n : ℕ) (agree : (q : ℕ) → q < 5 * n → get_or ats q 0 ≡ get_or t.attributes q 0)
    (falls : (i : ℕ) → i ≤ p → parent_of t i ≤ i)
    (range : (i : ℕ) → i ≤ p → kind_of t i ≡ ELEMENT → (from_of t i ≤ to_of t i) × (to_of t i ≤ n)) where
  abbrev pub seen : Tree
  seen = record { nodes = t.nodes; attributes = ats; text = bs; node_count = x; attribute_count = y; text_count = z }

  word_same : (j k : ℕ) → j < n → k < 5 → entry_word seen j k ≡ entry_word t j k
  word_same j k l b = agree (5 * j + k) (omega arith)

  entry-same : (j : ℕ) → j < n → entry_at seen j ≡ entry_at t j
  entry-same j l = entry-by-words seen t j (λ k b. word_same j k l b)

  find-same : (a j m : ℕ) → j + m ≤ n → find_entry seen a j m ≡ find_entry t a j m
  unfolding find_entry
  find-same a j zero l = refl
  find-same a j (suc m) l = rw (word_same j 0 (omega arith) (omega arith), find-same a (j + 1) m (omega arith)) refl

  id_same : (i a : ℕ) → i ≤ p → attribute_id seen i a ≡ attribute_id t i a
  unfolding attribute_id
  id_same i a l = go (ℕ_discrete (kind_of t i) ELEMENT)
    where
      go : Dec (kind_of t i ≡ ELEMENT) → pick (eqb (kind_of t i) ELEMENT) (λ u. find_entry seen a (from_of t i) (to_of t i - from_of t i))
          (λ u. 0)
          ≡ pick (eqb (kind_of t i) ELEMENT) (λ u. find_entry t a (from_of t i) (to_of t i - from_of t i)) (λ u. 0)
      go (yes e) = let r = range i l e in
          rw (eq-eqb (kind_of t i) ELEMENT e) (find-same a (from_of t i) (to_of t i - from_of t i) (omega (arith, r.0, r.1)))
      go (no e) = rw (ne_eqb (kind_of t i) ELEMENT e) refl

  -- An attribute that is there lies among the first n entries.
  id-within : (i a : ℕ) → i ≤ p → (attribute_id t i a ≡ 0 → ⊥) → attribute_id t i a ≤ n
  unfolding attribute_id
  id-within i a l h = go (ℕ_discrete (kind_of t i) ELEMENT)
    where
      go : Dec (kind_of t i ≡ ELEMENT) → attribute_id t i a ≤ n
      go (no e) = absurd (h (rw (ne_eqb (kind_of t i) ELEMENT e) refl))
      go (yes e) =
          let r = range i l e in
          let q : attribute_id t i a ≡ find_entry t a (from_of t i) (to_of t i - from_of t i) = rw (eq-eqb (kind_of t i) ELEMENT e) refl in
          let f = find-within t a (from_of t i) (to_of t i - from_of t i) (λ m. h (q ∙ m)) in
          omega (arith, q, f.1, r.0, r.1)

  holder-same : (a m w : ℕ) → w ≤ p + 1 → holder_from seen a m w ≡ holder_from t a m w
  unfolding holder_from
  holder-same a zero w l = refl
  holder-same a (suc m) w l = go (ℕ_discrete w 0) (λ b. holder-same a m (parent_of t (w - 1)) b)
    where
      go : Dec (w ≡ 0) → (parent_of t (w - 1) ≤ p + 1 → holder_from seen a m (parent_of t (w - 1))
          ≡ holder_from t a m (parent_of t (w - 1))) →
          holder_from seen a (suc m) w ≡ holder_from t a (suc m) w
      go (yes e) r = rw (eq-eqb w 0 e) refl
      go (no e) r =
          let f = falls (w - 1) (omega arith) in
          rw (ne_eqb w 0 e, id_same (w - 1) a (omega arith), r (omega (arith, f))) refl

  from-same : (a : ℕ) → inherited_from seen p a ≡ inherited_from t p a
  unfolding inherited_from
  from-same a = rw (holder-same a (p + 1) (p + 1) (omega arith)) refl

  from_low : (a : ℕ) → inherited_from t p a ≤ p + 1
  unfolding inherited_from
  from_low a = go (is_inheritable a)
    where
      go : (b : Bool) → pick b (λ u. holder_from t a (p + 1) (p + 1)) (λ u. p + 1) ≤ p + 1
      go true = holder-falls t a (p + 1) (p + 1) (λ i m. falls i (omega arith))
      go false = omega arith

  copy-same : (a w : ℕ) → w ≤ p + 1 → copy_from seen p a w ≡ copy_from t p a w
  copy-same a w m = go (ℕ_discrete w 0)
    where
      entry_if : Tree → ℕ → Option Entry
      entry_if u j = pick (eqb j 0) (λ v. none) (λ v. some (entry_at u (j - 1)))

      held : (j : ℕ) → attribute_id t (w - 1) a ≡ j → w - 1 ≤ p → Dec (j ≡ 0) → entry_if seen j ≡ entry_if t j
      held j e b (yes o) = rw (eq-eqb j 0 o) refl
      held j e b (no o) =
          let k = id-within (w - 1) a b (λ q. o (sym e ∙ q)) in
          ap (λ (v : Entry). pick (eqb j 0) (λ u. none) (λ u. some v)) (entry-same (j - 1) (omega (arith, e, k)))

      go : Dec (w ≡ 0) → copy_from seen p a w ≡ copy_from t p a w
      go (yes e) = rw (eq-eqb w 0 e) refl
      go (no e) =
          let b : w - 1 ≤ p = omega arith in
          rw (ne_eqb w 0 e, id_same (w - 1) a b) (held (attribute_id t (w - 1) a) refl b (ℕ_discrete (attribute_id t (w - 1) a) 0))

  resolve_same : (a : ℕ) → resolve_inherit seen p a ≡ resolve_inherit t p a
  unfolding resolve_inherit
  resolve_same a =
      ap (λ (o : Option Entry). given o (λ e. some e) (λ u. default_of t p a (inherit_default a)))
      (ap (λ w. copy_from seen p a w) (from-same a) ∙ copy-same a (inherited_from t p a) (from_low a))

  pub append-same : append_attribute seen p ≡ append_attribute t p
  unfolding append_attribute
  append-same = fun_ext (λ tag. fun_ext (λ a. fun_ext (λ i. fun_ext (λ v. fun_ext (λ c. rw (resolve_same a) refl)))))

  part_same : (tag : ℕ) (d : Declaration) → insert_part seen p tag d ≡ insert_part t p tag d
  part_same tag d = λ i. λ es k.
      given (reading_of k.key d.value.readings)
      (λ v. insert_entry k.value es (append-same i tag k.value d.important v d.value.command)) (λ u. es)

  -- The entries that an attribute or a declaration makes.
  pub add_same : (tag : ℕ) (ignore : Bool) (es : List Entry) (a : Attribute) →
      add_attribute seen p tag ignore es a ≡ add_attribute t p tag ignore es a
  unfolding add_attribute
  add_same tag ignore es a = rw append-same refl

  pub write_same : (tag : ℕ) (d : Declaration) (es : List Entry) → write_declaration seen p tag d es ≡ write_declaration t p tag d es
  unfolding write_declaration
  write_same tag d es = rw (append-same, part_same tag d) refl
