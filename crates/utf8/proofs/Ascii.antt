-- Blocks of ASCII, and strings that are read from a place on. Assumes nothing.
use mathlib.Core.Path.{◌≡◌, refl, sym, ap, ◌∙◌, subst}
use mathlib.Core.List.{List}
use mathlib.Core.Bool.{Bool, true, false, not}
use Prim.Native.Nat.{ℕ, zero, suc, ◌+◌, ◌-◌, ◌<◌, ◌≤◌}
use native.Mathlib.Omega.{arith}
use borrow.Author.Tests.{eqb-true, eq-eqb, leb-false, not-true}
use borrow.Author.Count.{below_more}
use lib.Dec.{eqb}
use lib.ListN.{length, get_or, drop, length-drop}
use lib.Seq.{drop-drop, get_or-drop}
use Rattle.std.specs.List.{AllWithin}
use Rattle.model.specs.Utf8.{well_formed, sequence_of, is_utf8, is_utf8_from}
use Rattle.utf8.specs.Lead.{beyond_in}
use Rattle.utf8.proofs.Parts.{any_none}
use Rattle.utf8.proofs.Sequence.{Read, read_none, read-bad, read-on, read-ascii, read_all}

-- The n bytes from i on are all ASCII.
abbrev pub Ascii : List ℕ → ℕ → ℕ → Type 0
Ascii s i n = (k : ℕ) → k < n → get_or s (i + k) 0 < 0x80

-- How far a string is read that is read from a on: from i on it is UTF-8 just if it is from a on.
pub record Reach (s : List ℕ) (a i : ℕ) : Type 0 where
  pub within : i ≤ length s
  pub same : is_utf8_from 0 (drop i s) ≡ is_utf8_from 0 (drop a s)

pub reach-none : (s : List ℕ) (a : ℕ) → a ≤ length s → Reach s a a
reach-none s a h = record { within = h; same = refl }

pub reach-join : (s : List ℕ) (a i j : ℕ) → Reach s a i → Reach s i j → Reach s a j
reach-join s a i j p q = record { within = q.within; same = q.same ∙ p.same }

-- What is read from the beginning of what is left.
reach-more : (s : List ℕ) (i n : ℕ) → i ≤ length s → Read (drop i s) n → Reach s i (i + n)
unfolding is_utf8
reach-more s i n h r = record {
  within = omega (arith, r.within, length-drop i s);
  same = sym (ap (λ l. is_utf8_from 0 l) (drop-drop n i s)) ∙ r.same;
}

module _ (s : List ℕ) (i : ℕ) (h : i < length s) where
  some : 0 < length (drop i s)
  some = omega (arith, length-drop i s)

  pub reach-on : (n : ℕ) → n ≡ sequence_of well_formed (drop i s) → (n ≡ 0 → ⊥) → Reach s i (i + n)
  reach-on n e z = reach-more s i n (omega arith)
      (subst (λ m. Read (drop i s) m) (let q : 0 + n ≡ n = omega arith in q) (read-on (drop i s) 0 some (read_none (drop i s)) n e z))

  pub reach-ascii : get_or s i 0 < 0x80 → Reach s i (i + 1)
  reach-ascii a = reach-more s i 1 (omega arith)
      (read-ascii (drop i s) 0 some (read_none (drop i s))
      (rw get_or-drop (subst (λ m. get_or s m 0 < 0x80) (let q : i ≡ i + 0 = omega arith in q) a)))

  pub reach-bad : (n : ℕ) → n ≡ sequence_of well_formed (drop i s) → n ≡ 0 → is_utf8_from 0 (drop i s) ≡ false
  unfolding is_utf8
  reach-bad n e z = sym (read-bad (drop i s) 0 some (read_none (drop i s)) n e z)

pub reach-all : (s : List ℕ) (a i : ℕ) → Reach s a i → length s ≤ i → true ≡ is_utf8_from 0 (drop a s)
unfolding is_utf8
reach-all s a i r h = read_all (drop i s) 0 (read_none (drop i s)) (omega (arith, length-drop i s)) ∙ r.same

-- A block of ASCII is read at once.
pub reach-block : (s : List ℕ) (i n : ℕ) → i + n ≤ length s → Ascii s i n → Reach s i (i + n)
reach-block s i zero h a = subst (λ j. Reach s i j) (let z : i ≡ i + 0 = omega arith in z) (reach-none s i (omega arith))
reach-block s i (suc n) h a =
    subst (λ j. Reach s i j) (let z : i + n + 1 ≡ i + suc n = omega arith in z)
    (reach-join s i (i + n) (i + n + 1) (reach-block s i n (omega arith) (λ k l. a k (omega arith)))
    (reach-ascii s (i + n) (omega arith) (a n (omega arith))))

-- Near the end: at most m bytes are left.
pub record Rest (s : List ℕ) (m a i : ℕ) : Type 0 where
  pub begun : a ≤ i
  pub near : length s ≤ i + m
  pub reach : Reach s a i

-- The last m bytes are ASCII, of which some may be read.
pub rest_all : (s : List ℕ) (m a i : ℕ) → Rest s m a i → m ≤ length s → Ascii s (length s - m) m → Reach s a (length s)
rest_all s m a i r h b =
    let w : i ≤ length s = r.reach.within in
    let l : length s ≤ i + m = r.near in
    reach-join s a i (length s) r.reach
    (subst (λ j. Reach s i j) (let z : i + (length s - i) ≡ length s = omega arith in z)
    (reach-block s i (length s - i) (omega arith)
    (λ k q. subst (λ x. get_or s x 0 < 0x80) (let z : length s - m + (i + k - (length s - m)) ≡ i + k = omega arith in z)
    (b (i + k - (length s - m)) (omega arith)))))

-- Where no byte of a block is beyond ASCII, all of them are ASCII.
pub ascii-told : (s : List ℕ) (i n : ℕ) (r : Bool) → r ≡ not (beyond_in s i n) → r ≡ true → Ascii s i n
ascii-told s i n r e t = λ k h. leb-false 0x80 _ (any_none n _ (not-true _ (sym e ∙ t)) k h)

-- The first n bytes.
pub reach-front : (s : List ℕ) (n : ℕ) → n ≤ length s → AllWithin (λ b. b < 0x80) s 0 n → Reach s 0 n
reach-front s n h a = subst (λ j. Reach s 0 j) (let z : 0 + n ≡ n = omega arith in z)
    (reach-block s 0 n (omega arith)
    (λ k l. subst (λ j. get_or s j 0 < 0x80) (let z : k ≡ 0 + k = omega arith in z) (a k 0 (omega arith) l)))

-- COUNTING A BLOCK

-- n of the j bytes from i on are ASCII: all of them are just if n is j.
pub record Counted (s : List ℕ) (i n j : ℕ) : Type 0 where
  pub most : n ≤ j
  pub sound : n ≡ j → Ascii s i j
  pub complete : Ascii s i j → n ≡ j

pub counted-none : (s : List ℕ) (i : ℕ) → Counted s i 0 0
counted-none s i = record { most = omega arith; sound = λ e k l. absurd (omega arith); complete = λ a. refl }

pub counted-more : (s : List ℕ) (i n j m : ℕ) → Counted s i n j → get_or s (i + j) 0 < 0x80 → m ≡ n + 1 → Counted s i m (j + 1)
counted-more s i n j m c h e = record {
  most = omega (arith, c.most);
  sound = λ q. below_more (λ k. get_or s (i + k) 0 < 0x80) j (c.sound (omega arith)) h;
  complete = λ a. omega (arith, c.complete (λ k l. a k (omega arith)));
}

pub counted-not : (s : List ℕ) (i n j m : ℕ) → Counted s i n j → 0x80 ≤ get_or s (i + j) 0 → m ≡ n → Counted s i m (j + 1)
counted-not s i n j m c h e = record {
  most = omega (arith, c.most);
  sound = λ q. absurd (omega (arith, c.most));
  complete = λ a. absurd (omega (arith, a j (omega arith)));
}

pub counted-all : (s : List ℕ) (i n j m : ℕ) → Counted s i n j → j ≡ m → (eqb n m ≡ true → Ascii s i m) × (Ascii s i m → eqb n m ≡ true)
counted-all s i n j m c e = (
  λ t. subst (λ k. Ascii s i k) e (c.sound (eqb-true n m t ∙ sym e)),
  λ a. eq-eqb n m (c.complete (subst (λ k. Ascii s i k) (sym e) a) ∙ e),
)
