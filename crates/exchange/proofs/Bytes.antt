-- Bytes put in place one after another, kept beside, and copied back. Assumes nothing.
use mathlib.Core.Path.{◌≡◌, refl, sym, ap, ◌∙◌}
use mathlib.Core.List.{List, append_assoc}
use Prim.Native.Nat.{ℕ, suc, ◌+◌, ◌-◌, ◌<◌, ◌≤◌}
use native.Mathlib.Numerals.{add-one}
use native.Mathlib.Omega.{arith}
use native.Mathlib.Decide.{dec_lt, dec_le}
use Rattle.std.specs.Prelude.{◌++◌}
use lib.ListN.{length, get_or, take, drop, set, length-set, length-drop, drop_of_length-le}
use lib.Seq.{sets, sets-eq, drop-drop, drop-cons, take-append_seam, ext_get_or, length-sets, length-take-le, get_or-drop, get_or-take}
use borrow.Rule.Slice.PartMut.{put_mid}
use Rattle.model.proofs.Theorems.Agree.{sets-in, sets-out}

-- The loop that has put the first k bytes: those that are left make of the table now what all make of it at first.
pub record Putting (table₀ bytes table : List ℕ) (at k : ℕ) : Type 0 where
  pub low : k ≤ length bytes
  pub size : length table ≡ length table₀
  pub same : sets table (at + k) (drop k bytes) ≡ sets table₀ at bytes

pub put-none : (table bytes : List ℕ) (at : ℕ) → Putting table bytes table at 0
put-none table bytes at =
    let e : at + 0 ≡ at = omega arith in
    record { low = omega arith; size = refl; same = ap (λ n. sets table n bytes) e }

pub put-more : (table₀ bytes table : List ℕ) (at k : ℕ) → Putting table₀ bytes table at k → k < length bytes →
    Putting table₀ bytes (set table (at + k) (get_or bytes k 0)) at (k + 1)
put-more table₀ bytes table at k p h =
    let e : at + (k + 1) ≡ suc (at + k) = omega arith in
    record {
      low = omega arith;
      size = length-set table (at + k) (get_or bytes k 0) ∙ p.size;
      same =
          ap (λ n. sets (set table (at + k) (get_or bytes k 0)) n (drop (k + 1) bytes)) e
          ∙ ap (λ n. sets (set table (at + k) (get_or bytes k 0)) (suc (at + k)) (drop n bytes)) (add-one k)
          ∙ ap (sets table (at + k)) (sym (drop-cons bytes k 0 h)) ∙ p.same;
    }

pub put_all : (table₀ bytes table : List ℕ) (at k : ℕ) → Putting table₀ bytes table at k → length bytes ≤ k → table ≡ sets table₀ at bytes
put_all table₀ bytes table at k p h = ap (sets table (at + k)) (sym (drop_of_length-le bytes h)) ∙ p.same

-- Bytes that are copied into a part of a table.
pub copied : (table part bytes : List ℕ) (at : ℕ) → part ≡ bytes → at + length bytes ≤ length table
    → put_mid at (at + length bytes - at) table part ≡ sets table at bytes
copied table part bytes at e h =
    let n : at + (at + length bytes - at) ≡ at + length bytes = omega arith in
    ap (put_mid at (at + length bytes - at) table) e
    ∙ ap (λ (rest : List ℕ). take at table ++ (bytes ++ rest)) (drop-drop (at + length bytes - at) at table
    ∙ ap (λ i. drop i table) n)
    ∙ sym (append_assoc (take at table) bytes (drop (at + length bytes) table))
    ∙ sym (sets-eq bytes table at h)

-- New bytes were put over old ones, which had been kept at the beginning of another table.
module _ (chars new : List ℕ) (start : ℕ) (within : start + length new ≤ length chars) where
  -- The old bytes.
  abbrev pub covered : List ℕ
  covered = take (start + length new - start) (drop start chars)

  covered-long : length covered ≡ length new
  covered-long =
      let e : start + length new - start ≡ length new = omega arith in
      length-take-le (start + length new - start) (drop start chars) (omega (arith, length-drop start chars)) ∙ e

  covered-at : (i : ℕ) → i < length new → get_or covered i 0 ≡ get_or chars (start + i) 0
  covered-at i l = get_or-take (start + length new - start) (drop start chars) i 0 (omega arith) ∙ get_or-drop start chars i 0

  put_back : sets (sets chars start new) start covered ≡ chars
  put_back = ext_get_or 0 _ _ (length-sets (sets chars start new) start covered ∙ length-sets chars start new)
      (λ i l. go i (dec_le start i) (dec_lt i (start + length new)))
    where
      go : (i : ℕ) → Dec (start ≤ i) → Dec (i < start + length new) →
          get_or (sets (sets chars start new) start covered) i 0 ≡ get_or chars i 0
      go i (no a) b = sets-out covered (sets chars start new) start i (λ x y. a x) ∙ sets-out new chars start i (λ x y. a x)
      go i (yes a) (no b) =
          sets-out covered (sets chars start new) start i (λ x y. b (omega (arith, covered-long))) ∙ sets-out new chars start i (λ x y. b y)
      go i (yes a) (yes b) =
          let at : start + (i - start) ≡ i = omega arith in
          ap (λ n. get_or (sets (sets chars start new) start covered) n 0) (sym at)
          ∙ sets-in covered (sets chars start new) start (i - start)
          (omega (arith, covered-long, length-sets chars start new)) (omega (arith, covered-long))
          ∙ covered-at (i - start) (omega arith) ∙ ap (λ n. get_or chars n 0) at

  -- What is copied back is what was kept.
  pub undone : (kept rest back two : List ℕ) (m : ℕ) → m ≡ length new → kept ≡ covered → back ≡ take m (kept ++ rest)
      → two ≡ sets chars start new → put_mid start (start + length new - start) two back ≡ chars
  undone kept rest back two m z k b e =
      let n : m ≡ length covered = z ∙ sym covered-long in
      let same : back ≡ covered = b ∙ ap (λ (xs : List ℕ). take m (xs ++ rest)) k ∙ ap (λ i. take i (covered ++ rest)) n
      ∙ take-append_seam covered rest in
      let long : start + length new - start ≡ start + length covered - start = omega (arith, covered-long) in
      ap (λ (xs : List ℕ). put_mid start (start + length new - start) xs back) e
      ∙ ap (λ i. put_mid start i (sets chars start new) back) long
      ∙ copied (sets chars start new) back covered start same (omega (arith, within, covered-long, length-sets chars start new))
      ∙ put_back
