-- The words of the table of ids: of sixteen parts one has a bit for each key that a link may have, three have marks, twelve are slots.
use Rattle.std.specs.Prelude.{◌≡◌, ℕ, ◌+◌, ◌-◌, ◌*◌, ◌/◌, ◌%◌, ◌<◌, ◌≤◌, Bool, not, List, eqb, leb, ltb, length, get_or}
use Rattle.std.specs.Int.{bit_at}
use Rattle.model.specs.Base.{pick, and, folded}
use Rattle.script.specs.declared.cursor.Cursor.{Cursor}

-- KEYS

-- A number made from bytes, and one byte more.
abbrev pub mixed : ℕ → ℕ → ℕ
mixed h b = (h * 131 + b) % 4294967296

-- The key of an id: any function of its bytes will do.
unfoldable pub key_of : List ℕ → ℕ
key_of id = folded mixed 0 id * 2654435769 % 4294967296

-- THE PARTS

-- The words of one part.
abbrev pub unit : List ℕ → ℕ
unit slots = length slots / 16

-- Where mark m begins; before the first stands how many elements are looked at from a mark on, 0 where the table tells nothing.
abbrev pub mark_at : List ℕ → ℕ → ℕ
mark_at slots m = unit slots + 5 * m + 1

abbrev pub spacing : List ℕ → ℕ
spacing slots = get_or slots (unit slots) 0

-- A cursor in five words: of each of its numbers the lower 16 bits, and the upper 4 bits of all of them.
abbrev pub cursor_of : ℕ → ℕ → ℕ → ℕ → ℕ → Cursor
cursor_of a b d e upper = record {
  at = a + 65536 * (upper % 16);
  chars = b + 65536 * (upper / 16 % 16);
  number = d + 65536 * (upper / 256 % 16);
  texts = e + 65536 * (upper / 4096);
}

-- The upper bits of a cursor's numbers.
abbrev pub upper_of : Cursor → ℕ
upper_of c = c.at / 65536 + 16 * (c.chars / 65536) + 256 * (c.number / 65536) + 4096 * (c.texts / 65536)

-- The five words from k on as a cursor.
abbrev pub cursor_in : List ℕ → ℕ → Cursor
cursor_in slots k =
    cursor_of (get_or slots k 0) (get_or slots (k + 1) 0) (get_or slots (k + 2) 0) (get_or slots (k + 3) 0) (get_or slots (k + 4) 0)

-- Mark m: a cursor.
abbrev pub mark_in : List ℕ → ℕ → Cursor
mark_in slots m = cursor_in slots (mark_at slots m)

-- How many slots there are, and the word of slot i, 0 where it is free.
abbrev pub slot_count : List ℕ → ℕ
slot_count slots = 12 * unit slots

abbrev pub slot_in : List ℕ → ℕ → ℕ
slot_in slots i = get_or slots (4 * unit slots + i) 0

-- The mark in the word of a slot, and what tells the key.
abbrev pub mark_of : ℕ → ℕ
mark_of v = (v - 1) % 2048

abbrev pub print_in : ℕ → ℕ
print_in v = (v - 1) / 2048

-- WHERE A SEARCH LOOKS

-- At that many slots, at most.
abbrev pub probes : ℕ
probes = 512

-- With u words in a part: where the search for a key begins, how far it goes at a time, and the slot behind slot i.
abbrev pub start_of : ℕ → ℕ → ℕ
start_of u key = key / 256 % (12 * u)

abbrev pub step_of : ℕ → ℕ → ℕ
step_of u key = 2 * (key / 4096 % (6 * u)) + 1

abbrev pub next_slot : ℕ → ℕ → ℕ → ℕ
next_slot u step i = pick (ltb (i + step) (12 * u)) (λ v. i + step) (λ v. i + step - 12 * u)

-- What tells the key in a slot's word.
abbrev pub print_of : ℕ → ℕ
print_of key = key / 134217728

-- WANTED KEYS

abbrev pub bit_of : List ℕ → ℕ → ℕ
bit_of slots key = key / 64 % (16 * unit slots)

abbrev pub is_wanted : List ℕ → ℕ → Bool
is_wanted slots key = eqb (bit_at (get_or slots (bit_of slots key / 16) 0) (bit_of slots key % 16)) 1

-- Does the table tell of ids with that key?
unfoldable pub is_open : List ℕ → ℕ → Bool
is_open slots key = and (leb 16 (length slots)) (and (not (eqb (spacing slots) 0)) (is_wanted slots key))

-- WHAT A STORE LEAVES

-- Other words are at most the n words from k on.
pub record Apart (slots : List ℕ) (k n : ℕ) (slots' : List ℕ) : Type 0 where
  pub long : length slots' ≡ length slots
  pub same : (p : ℕ) → (k ≤ p → p < k + n → ⊥) → get_or slots' p 0 ≡ get_or slots p 0

-- Mark m can become c.
pub record RoomFor (slots : List ℕ) (m : ℕ) (c : Cursor) : Type 0 where
  pub few : m < 2047
  pub low : 5 * m + 6 ≤ 3 * unit slots
  pub at : c.at < 1048576
  pub chars : c.chars < 1048576
  pub number : c.number < 1048576
  pub texts : c.texts < 1048576

-- Mark m becomes c.
pub record MarkPut (slots : List ℕ) (m : ℕ) (c : Cursor) (slots' : List ℕ) : Type 0 where
  pub apart : Apart slots (mark_at slots m) 5 slots'
  pub here : mark_in slots' m ≡ c

-- The word of slot i becomes v.
pub record SlotPut (slots : List ℕ) (i v : ℕ) (slots' : List ℕ) : Type 0 where
  pub apart : Apart slots (4 * unit slots + i) 1 slots'
  pub here : slot_in slots' i ≡ v
