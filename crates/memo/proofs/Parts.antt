-- The words of the table of ids. Assumes nothing.
use mathlib.Core.Path.{◌≡◌, refl, sym, ap, ◌∙◌, subst}
use mathlib.Core.List.{List, [], ◌∷◌}
use mathlib.Core.Bool.{not}
use Rattle.std.specs.Int.{bit_at}
use Prim.Native.Nat.{ℕ, ◌+◌, ◌-◌, ◌*◌, ◌/◌, ◌%◌, ◌<◌, ◌≤◌}
use native.Mathlib.Nat.{mod-lt}
use native.Mathlib.Decide.{ℕ_discrete}
use native.Mathlib.Numerals.{add-one}
use native.Mathlib.Omega.{arith}
use borrow.Author.Tests.{lt-ltb, le-ltb}
use lib.Dec.{eqb, leb}
use lib.ListN.{length, get_or, set, drop, length-set, drop_of_length-le}
use lib.Seq.{get_or-set_same, get_or-set_other, drop-cons}
use Rattle.model.specs.Base.{pick, and, folded}
use Rattle.script.specs.declared.cursor.Cursor.{Cursor}
use Rattle.memo.specs.Words.{
  mixed,
  key_of,
  unit,
  mark_at,
  spacing,
  cursor_of,
  upper_of,
  cursor_in,
  mark_in,
  slot_count,
  slot_in,
  is_wanted,
  is_open,
}
use Rattle.memo.specs.Words.{bit_of, next_slot, Apart, RoomFor, MarkPut}

-- KEYS

module _ (id : List ℕ) (h i : ℕ) where
  pub mixed-turn : (b : ℕ) → i < length id → b ≡ get_or id i 0 → folded mixed (mixed h b) (drop (i + 1) id) ≡ folded mixed h (drop i id)
  mixed-turn b l e =
      ap (λ c. folded mixed (mixed h c) (drop (i + 1) id)) e ∙ ap (λ n. folded mixed (mixed h (get_or id i 0)) (drop n id)) (add-one i)
      ∙ sym (ap (folded mixed h) (drop-cons id i 0 l))

  pub mixed-all : length id ≤ i → folded mixed h (drop i id) ≡ folded mixed 0 id → h * 2654435769 % 4294967296 ≡ key_of id
  unfolding key_of
  mixed-all l e = ap (λ n. n * 2654435769 % 4294967296) (sym (ap (folded mixed h) (drop_of_length-le id l)) ∙ e)

-- PARTS

pub unit-low : (slots : List ℕ) → 16 * unit slots ≤ length slots
unit-low slots = omega arith

pub unit-some : (slots : List ℕ) → 16 ≤ length slots → 0 < unit slots
unit-some slots h = omega (arith, h)

-- STORES

pub apart-set : (s : List ℕ) (k w : ℕ) → Apart s k 1 (set s k w)
apart-set s k w = record {
  long = length-set s k w;
  same = λ p n. get_or-set_other s k p w 0 (λ e. n (omega (arith, e)) (omega (arith, e)));
}

-- Nothing is stored.
pub apart_none : (s : List ℕ) (k n : ℕ) → Apart s k n s
apart_none s k n = record { long = refl; same = λ p h. refl }

-- One store behind another, within wider bounds.
pub apart-join : (s t u : List ℕ) (k n i a j b : ℕ) → Apart s i a t → Apart t j b u → k ≤ i → i + a ≤ k + n → k ≤ j → j + b ≤ k + n
    → Apart s k n u
apart-join s t u k n i a j b x y h1 h2 h3 h4 = record {
  long = y.long ∙ x.long;
  same = λ p o. y.same p (λ c d. o (omega (arith, c, h3)) (omega (arith, d, h4)))
      ∙ x.same p (λ c d. o (omega (arith, c, h1)) (omega (arith, d, h2)));
}

module _ (s t : List ℕ) (k n : ℕ) (x : Apart s k n t) where
  pub same-unit : unit t ≡ unit s
  same-unit = ap (λ l. l / 16) x.long

  same_word : (p q : ℕ) → p ≡ q → (k ≤ q → q < k + n → ⊥) → get_or t p 0 ≡ get_or s q 0
  same_word p q e h = ap (λ i. get_or t i 0) e ∙ x.same q h

  pub same-mark-at : (m : ℕ) → mark_at t m ≡ mark_at s m
  same-mark-at m = ap (λ u. u + 5 * m + 1) same-unit

  -- A mark apart from what is stored.
  pub same-mark : (m : ℕ) → (k < mark_at s m + 5 → mark_at s m < k + n → ⊥) → mark_in t m ≡ mark_in s m
  same-mark m h =
      ap (cursor_in t) (same-mark-at m)
      ∙ rw (
        word (mark_at s m) (omega arith) (omega arith),
        word (mark_at s m + 1) (omega arith) (omega arith),
        word (mark_at s m + 2) (omega arith) (omega arith),
        word (mark_at s m + 3) (omega arith) (omega arith),
        word (mark_at s m + 4) (omega arith) (omega arith),
      ) refl
    where
      word : (p : ℕ) → mark_at s m ≤ p → p < mark_at s m + 5 → get_or t p 0 ≡ get_or s p 0
      word p a b = x.same p (λ c d. h (omega arith) (omega arith))

  pub same-slot : (i : ℕ) → (k ≤ 4 * unit s + i → 4 * unit s + i < k + n → ⊥) → slot_in t i ≡ slot_in s i
  same-slot i h = same_word _ _ (ap (λ u. 4 * u + i) same-unit) h

  pub same-spacing : (k ≤ unit s → unit s < k + n → ⊥) → spacing t ≡ spacing s
  same-spacing h = same_word _ _ same-unit h

  -- Bits stay where no word of theirs is stored.
  pub same-open : 0 < unit s → unit s < k → (key : ℕ) → is_open t key ≡ is_open s key
  unfolding is_open
  same-open z h key =
      ap (λ l. and (leb 16 l) (and (not (eqb (spacing t) 0)) (is_wanted t key))) x.long
      ∙ ap (λ w. and (leb 16 (length s)) (and (not (eqb w 0)) (is_wanted t key))) (same-spacing (λ c d. omega (arith, c, h)))
      ∙ ap (λ b. and (leb 16 (length s)) (and (not (eqb (spacing s) 0)) b)) wanted
    where
      bit-low : bit_of s key < 16 * unit s
      bit-low = mod-lt (key / 64) (omega (arith, z))

      same_bit : bit_of t key ≡ bit_of s key
      same_bit = ap (λ u. key / 64 % (16 * u)) same-unit

      wanted : is_wanted t key ≡ is_wanted s key
      wanted =
          ap (λ b. eqb (bit_at (get_or t (b / 16) 0) (b % 16)) 1) same_bit
          ∙ ap (λ w. eqb (bit_at w (bit_of s key % 16)) 1) (x.same (bit_of s key / 16) (λ c d. omega (arith, c, h, bit-low)))

-- ONE FUNCTION EACH

-- A remainder by some parts is less than their words.
pub part_low : (slots : List ℕ) (j u n : ℕ) → u ≡ unit slots → 0 < j * unit slots → n % (j * u) < j * unit slots
part_low slots j u n e h = subst (λ v. n % (j * v) < j * unit slots) (sym e) (mod-lt n h)

-- The n words from k on became those that f says.
pub record Stored (s : List ℕ) (k : ℕ) (f : ℕ → ℕ) (n : ℕ) (t : List ℕ) : Type 0 where
  pub apart : Apart s k n t
  pub words : (i : ℕ) → i < n → get_or t (k + i) 0 ≡ f i

pub stored-none : (s : List ℕ) (k : ℕ) (f : ℕ → ℕ) → Stored s k f 0 s
stored-none s k f = record { apart = apart_none s k 0; words = λ i h. absurd (omega (arith, h)) }

-- One word more.
pub stored_more : (s t u : List ℕ) (k : ℕ) (f : ℕ → ℕ) (n j v : ℕ) → Stored s k f n t → j ≡ k + n → v ≡ f n → j < length s
    → u ≡ set t j v → Stored s k f (n + 1) u
stored_more s t u k f n j v x e w l h = record {
  apart = apart-join s t u k (n + 1) k n j 1 x.apart apart (omega arith) (omega arith) (omega (arith, e)) (omega (arith, e));
  words = λ i b. go i b (ℕ_discrete i n);
}
  where
    apart : Apart t j 1 u
    apart = subst (Apart t j 1) (sym h) (apart-set t j v)

    go : (i : ℕ) → i < n + 1 → Dec (i ≡ n) → get_or u (k + i) 0 ≡ f i
    go i b (yes z) =
        ap (λ p. get_or u p 0) (let y : k + i ≡ j = omega (arith, z, e) in y) ∙ ap (λ y. get_or y j 0) h
        ∙ get_or-set_same t j v 0 (omega (arith, l, x.apart.long)) ∙ w ∙ ap f (sym z)
    go i b (no z) = apart.same (k + i) (λ c d. z (omega (arith, c, d, e))) ∙ x.words i (omega (arith, b, z))

-- The words of a cursor.
abbrev pub words_of : Cursor → ℕ → ℕ
words_of c i = get_or (c.at % 65536 ∷ c.chars % 65536 ∷ c.number % 65536 ∷ c.texts % 65536 ∷ upper_of c ∷ []) i 0

-- A mark is put by five stores.
module _ (s a b d e t : List ℕ) (m k upper : ℕ) (c : Cursor) (room : RoomFor s m c) (q : k ≡ mark_at s m) (w : upper ≡ upper_of c)
    (h1 : a ≡ set s k (c.at % 65536)) (h2 : b ≡ set a (k + 1) (c.chars % 65536)) (h3 : d ≡ set b (k + 2) (c.number % 65536))
    (h4 : e ≡ set d (k + 3) (c.texts % 65536)) (h5 : t ≡ set e (k + 4) upper) where
  inside : (n : ℕ) → n < 5 → k + n < length s
  inside n l = omega (arith, l, q, room.low, unit-low s)

  stored : Stored s k (words_of c) 5 t
  stored =
      stored_more s e t k _ 4 (k + 4) _ (stored_more s d e k _ 3 (k + 3) _ (stored_more s b d k _ 2 (k + 2) _
      (stored_more s a b k _ 1 (k + 1) _ (stored_more s s a k _ 0 k _ (stored-none s k (words_of c)) (omega arith) refl
      (omega (arith, inside 0 (omega arith))) h1) refl refl (inside 1 (omega arith)) h2) refl refl (inside 2 (omega arith)) h3) refl refl
      (inside 3 (omega arith)) h4) refl w (inside 4 (omega arith)) h5

  here : mark_at t m ≡ k
  here = same-mark-at s t k 5 stored.apart m ∙ sym q

  word : (i : ℕ) → i < 5 → get_or t (k + i) 0 ≡ words_of c i
  word = stored.words

  first : get_or t k 0 ≡ c.at % 65536
  first = ap (λ p. get_or t p 0) (let y : k ≡ k + 0 = omega arith in y) ∙ word 0 (omega arith)

  whole : cursor_of (c.at % 65536) (c.chars % 65536) (c.number % 65536) (c.texts % 65536) (upper_of c) ≡ c
  whole = rw (at, chars, number, texts) refl
    where
      at : c.at % 65536 + 65536 * (upper_of c % 16) ≡ c.at
      at = omega (arith, room.at)

      chars : c.chars % 65536 + 65536 * (upper_of c / 16 % 16) ≡ c.chars
      chars = omega (arith, room.at, room.chars)

      number : c.number % 65536 + 65536 * (upper_of c / 256 % 16) ≡ c.number
      number = omega (arith, room.at, room.chars, room.number)

      texts : c.texts % 65536 + 65536 * (upper_of c / 4096) ≡ c.texts
      texts = omega (arith, room.at, room.chars, room.number, room.texts)

  pub mark-put : MarkPut s m c t
  mark-put = record {
    apart = subst (λ i. Apart s i 5 t) q stored.apart;
    here = ap (cursor_in t) here
        ∙ rw (first, word 1 (omega arith), word 2 (omega arith), word 3 (omega arith), word 4 (omega arith)) whole;
  }

module _ (slots : List ℕ) (step i u : ℕ) (e : u ≡ unit slots) where
  pub next-first : i + step < 12 * u → (i + step ≡ next_slot (unit slots) step i) × (i + step < slot_count slots)
  next-first h =
      let l : i + step < slot_count slots = omega (arith, h, e) in
      (sym (ap (λ t. pick t (λ u. i + step) (λ u. i + step - slot_count slots)) (lt-ltb (i + step) (slot_count slots) l)), l)

  pub next-again : 12 * u ≤ i + step → i < slot_count slots → step < slot_count slots
      → (i + step - 12 * u ≡ next_slot (unit slots) step i) × (i + step - 12 * u < slot_count slots)
  next-again h a b =
      let l : slot_count slots ≤ i + step = omega (arith, h, e) in (
        ap (λ n. i + step - 12 * n) e
            ∙ sym (ap (λ t. pick t (λ u. i + step) (λ u. i + step - slot_count slots)) (le-ltb (i + step) (slot_count slots) l)),
        omega (arith, h, e, a, b),
      )
