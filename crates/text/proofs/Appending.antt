-- Appending a text node. Assumes nothing.
use Prim.Native.Nat.{ℕ, ◌+◌, ◌-◌, ◌*◌, ◌/◌, ◌≤◌, ◌<◌, min}
use mathlib.Core.Path.{◌≡◌, refl, sym, ap, ◌∙◌}
use mathlib.Core.Bool.{true}
use mathlib.Core.List.{List, [], ◌∷◌, ◌++◌, append-nil, append_assoc}
use native.Mathlib.Omega.{arith}
use borrow.Author.Tests.{le-leb, lt-leb, lt-ltb, le-ltb}
use lib.Dec.{leb}
use lib.ListN.{length, take, drop, length-take, length-drop, take-append-drop}
use lib.Seq.{sets, slice, sets-eq, drop-append-le, drop-drop}
use Rattle.model.specs.Drawing as model
use Rattle.model.specs.Tables.{Tree, Out, refused, done, most, node_room, text_room, word, appended, add_text}
use Rattle.model.specs.Text.{XmlSpace, space_of, trim_text, trim_text_after, total_size, joined, append_text}
use Rattle.tree.specs.Lent.{tree_of, nodes_read, texts_of}
use Rattle.tree.specs.declared.Counts.{Counts}
use Rattle.tree.proofs.Entries.{part_of}
use Rattle.text.specs.declared.Trimmed.{Trimmed}
use Rattle.text.specs.Spaces.{trimmed}
use Rattle.text.specs.Append.{Appendable, append_in}
use Rattle.text.proofs.Collapse.{trim-less}

-- The space that is handed down is the one that the model looks for.
pub append-in : (chars : List ℕ) (from : List model.Source) (p : ℕ) (t : Tree) →
    append_text chars from p t ≡ append_in (space_of chars t p) chars from p t
unfolding append_text append_in
append-in chars from p t = refl

-- A part that was lent comes back, with a run of stores at its beginning.
pub lent_back : (t xs part : List ℕ) (a k : ℕ) → length xs ≤ k → a + k ≤ length t → part ≡ sets (take k (drop a t)) 0 xs →
    take a t ++ (part ++ drop k (drop a t)) ≡ sets t a xs
lent_back t xs part a k h r e =
    let n : length (take k (drop a t)) ≡ k = length-take k (drop a t) ∙ (let z : min k (length (drop a t)) ≡ k =
    omega (arith, length-drop a t) in z) in
    ap (λ (l : List ℕ). take a t ++ (l ++ drop k (drop a t))) (e ∙ sets-eq xs (take k (drop a t)) 0 (omega arith))
    ∙ rw (
      append_assoc xs (drop (0 + length xs) (take k (drop a t))) (drop k (drop a t)),
      ← drop-append-le (0 + length xs) (take k (drop a t)) (drop k (drop a t)) (omega arith),
      take-append-drop,
      drop-drop,
    )
    (let q : a + (0 + length xs) ≡ a + length xs = omega arith in
    ap (λ m. take a t ++ (xs ++ drop m t)) q ∙ sym (append_assoc (take a t) xs (drop (a + length xs) t))
    ∙ sym (sets-eq xs t a (omega arith)))

-- What is put into the place.
module _ (w : XmlSpace) (chars : List ℕ) (start size : ℕ) (within : start + size ≤ length chars) (r : Trimmed)
    (told : r ≡ trimmed w (record { size = 0; prev = 48 }) (take (start + size - start) (drop start chars))) where
  abbrev put : List ℕ
  put = trim_text w (slice start (start + size) chars)

  source : take (start + size - start) (drop start chars) ≡ slice start (start + size) chars
  source = part_of start size chars

  pub put-size : r.size ≡ length put
  unfolding trim_text
  put-size =
      ap (λ (x : Trimmed). x.size) told
      ∙ (let z : 0 + length (trim_text_after w 48 (take (start + size - start) (drop start chars))) ≡
      length (trim_text_after w 48 (take (start + size - start) (drop start chars))) = omega arith in z)
      ∙ ap (λ (l : List ℕ). length (trim_text_after w 48 l)) source

  part-size : length (take (start + size - start) (drop start chars)) ≡ size
  part-size =
      length-take (start + size - start) (drop start chars)
      ∙ (let z : min (start + size - start) (length (drop start chars)) ≡ size = omega (arith, length-drop start chars) in z)

  pub put-most : length put ≤ size
  unfolding trim_text
  put-most = omega (arith, trim-less w 48 (slice start (start + size) chars), sym part-size ∙ ap length source)

  pub put_back : (bs part : List ℕ) (first : ℕ) → first + size ≤ length bs →
      part ≡ sets (take (first + size - first) (drop first bs)) 0 (trim_text_after w 48 (take (start + size - start) (drop start chars))) →
      take first bs ++ (part ++ drop (first + size - first) (drop first bs)) ≡ sets bs first put
  unfolding trim_text
  put_back bs part first h e =
      lent_back bs put part first (first + size - first) (omega (arith, put-most)) (omega arith)
      (e ∙ ap (λ (l : List ℕ). sets (take (first + size - first) (drop first bs)) 0 (trim_text_after w 48 l)) source)

-- WHAT IT COMES TO

module _ (ns bs chars : List ℕ) (c : Counts) (w : XmlSpace) (p : ℕ) (s : model.Source) (h : Appendable (tree_of ns [] bs c) p) where
  abbrev t : Tree
  t = tree_of ns [] bs c

  abbrev whole : Out Tree
  whole = append_in w chars (s ∷ []) p (tree_of ns [] bs c)

  one_size : total_size (s ∷ []) ≡ s.size
  unfolding total_size
  one_size = omega arith

  one-joined : joined chars (s ∷ []) ≡ slice s.start (s.start + s.size) chars
  unfolding joined
  one-joined = append-nil (slice s.start (s.start + s.size) chars)

  module _ (r : ℕ) (room : r ≡ text_room (texts_of [] bs)) where
    pub no_bytes : r - c.text < s.size → refused 24 ≡ whole
    unfolding append_in text_room
    no_bytes l = rw (lt-leb (c.text + total_size (s ∷ [])) (min (length bs) most) (omega (arith, one_size, room, h.room))) refl

    module _ (fits : s.size ≤ r - c.text) where
      enough : leb (c.text + total_size (s ∷ [])) (min (length bs) most) ≡ true
      unfolding text_room
      enough = le-leb (c.text + total_size (s ∷ [])) (min (length bs) most) (omega (arith, one_size, room, h.room))

      module _ (q : ℕ) (records : q ≡ node_room (nodes_read ns)) where
        pub no_record : q ≤ c.nodes → refused 22 ≡ whole
        unfolding append_in text_room node_room
        no_record l = rw (enough, le-ltb c.nodes (min (length ns / 8) most) (omega (arith, records))) refl

        module _ (less : c.nodes < q) where
          pub record-fits : (8 * c.nodes + 7 < length ns) × (p < c.nodes) × (c.nodes < most) × (word ns p 4 ≤ c.nodes)
          unfolding node_room
          record-fits = (omega (arith, records), h.parent, omega (arith, records), h.last)

          pub text-added : (ns' bs' : List ℕ) (end : ℕ) →
              end ≡ c.text + length (trim_text w (slice s.start (s.start + s.size) chars)) →
              bs' ≡ sets bs c.text (trim_text w (slice s.start (s.start + s.size) chars)) →
              ns' ≡ appended 3 0 c.text end ns p c.nodes →
              done (tree_of ns' [] bs' (record { nodes = c.nodes + 1; attributes = c.attributes; text = c.text + s.size })) ≡ whole
          unfolding append_in text_room node_room add_text
          text-added ns' bs' end a b d =
              rw (enough, lt-ltb c.nodes (min (length ns / 8) most) (omega (arith, records)), one_size, one-joined, ← a, ← b, ← d) refl

-- A text that is put, and one that is appended.
pub ruleset puts = (put-size, put-most, put_back)

pub ruleset appends = (no_bytes, no_record, record-fits, text-added)
