-- Folds with "or" over the bytes of a string and over its windows, and what they say of a part of one. Assumes nothing.
use Rattle.std.proofs.Common.{◌≡◌, refl, sym, ap, ◌∙◌, subst, Bool, true, false, ◌||◌, ℕ, suc, ◌+◌, ◌-◌, ◌<◌, ◌≤◌, List, [], ◌∷◌, length}
use Rattle.std.proofs.Common.{get_or, take, drop, length-drop, not, Option, Some, None, IfSome, Bor, arith, leb}
use Rattle.std.specs.List.{fold, IsSubsliceAt}
use Rattle.std.specs.Option.{option_map}
use Rattle.std.specs.Iterator.Runs.{Run, IsWindowsRun}
use Rattle.std.proofs.lemmas.List.{get_or-take, get_or-drop}
use lib.Seq.{length-take-le}
use Rattle.utf8.specs.Lead.{any_below, misplaced, misplaced_of_two, misplaced_in, misplaced_of_two_in, beyond_in}
use Rattle.utf8.proofs.Parts.{any-more, any-same}
use Rattle.utf8.proofs.Ascii.{Ascii, ascii-told}

fold-any-from : {A : Type 0} (h : A → Bool) (p : ℕ → Bool) (xs : List A) (n : ℕ) (a : Bool) → a ≡ any_below n p
    → ((k : ℕ) (d : A) → k < length xs → h (get_or xs k d) ≡ p (n + k))
    → fold (λ b x. b || h x) a xs ≡ any_below (n + length xs) p
fold-any-from h p [] n a e f = e ∙ ap (λ m. any_below m p) (let z : n ≡ n + 0 = omega arith in z)
fold-any-from h p (x ∷ xs) n a e f =
    fold-any-from h p xs (n + 1) (a || h x)
    (any-more p a (h x) n e (f 0 x (omega arith) ∙ ap p (let z : n + 0 ≡ n = omega arith in z)))
    (λ k d l. f (suc k) d (omega arith) ∙ ap p (let z : n + suc k ≡ n + 1 + k = omega arith in z))
    ∙ ap (λ m. any_below m p) (let z : n + 1 + length xs ≡ n + suc (length xs) = omega arith in z)

-- A test of each item is a test of the numbers below their number.
pub fold-any : {A : Type 0} (h : A → Bool) (p : ℕ → Bool) (xs : List A) → ((k : ℕ) (d : A) → k < length xs → h (get_or xs k d) ≡ p k)
    → fold (λ b x. b || h x) false xs ≡ any_below (length xs) p
unfolding any_below
fold-any h p xs f =
    fold-any-from h p xs 0 false refl (λ k d l. f k d l ∙ ap p (let z : k ≡ 0 + k = omega arith in z))
    ∙ ap (λ m. any_below m p) (let z : 0 + length xs ≡ length xs = omega arith in z)

some_is : {A : Type 0} (o : Option A) (x : A) → option_map (λ y. y) o ≡ Some x → o ≡ Some x
some_is (Some y) x e = e
some_is None x e = e

-- PARTS

-- The first n bytes of t are those of the string s from a on.
pub record Part (s : List ℕ) (a n : ℕ) (t : List ℕ) : Type 0 where
  pub reads : (k : ℕ) → k < n → get_or t k 0 ≡ get_or s (a + k) 0

pub part-at : (s : List ℕ) (a n : ℕ) (t : List ℕ) → Part s a n t → (x y : ℕ) → x < n → y ≡ a + x → get_or t x 0 ≡ get_or s y 0
part-at s a n t part x y l e = part.reads x l ∙ ap (λ m. get_or s m 0) (sym e)

pub part-take : (s : List ℕ) (a m : ℕ) → Part s a m (take m (drop a s))
part-take s a m = record { reads = λ k l. get_or-take m (drop a s) k 0 l ∙ get_or-drop a s k 0 }

pub part-drop : (s : List ℕ) (a n : ℕ) → Part s a n (drop a s)
part-drop s a n = record { reads = λ k l. get_or-drop a s k 0 }

module _ (s : List ℕ) (a n : ℕ) (t : List ℕ) where
  pub part-beyond : Part s a n t → length t ≡ n → beyond_in t 0 (length t) ≡ beyond_in s a n
  part-beyond part e = any-same (length t) _ _ (λ k l. ap (leb 0x80) (part-at s a n t part (0 + k) (a + k) (omega arith) (omega arith)))
      ∙ ap (λ m. beyond_in s a m) e

  pub part-misplaced : Part s a (n + 3) t → length t ≡ n + 3 → misplaced_in t 0 (length t - 3) ≡ misplaced_in s a n
  part-misplaced part e = any-same (length t - 3) _ _ (λ k l.
      let p3 = part-at s a (n + 3) t part (0 + k) (a + k) (omega arith) (omega arith) in
      let p2 = part-at s a (n + 3) t part (0 + k + 1) (a + k + 1) (omega arith) (omega arith) in
      let p1 = part-at s a (n + 3) t part (0 + k + 2) (a + k + 2) (omega arith) (omega arith) in
      let b = part-at s a (n + 3) t part (0 + k + 3) (a + k + 3) (omega arith) (omega arith) in
      cc)
      ∙ ap (λ m. misplaced_in s a m) (let z : length t - 3 ≡ n = omega arith in z)

  pub part-of_two : Part s a (n + 3) t → length t ≡ n + 3 → misplaced_of_two_in t 0 (length t - 3) ≡ misplaced_of_two_in s a n
  part-of_two part e = any-same (length t - 3) _ _ (λ k l.
      let p = part-at s a (n + 3) t part (0 + k + 2) (a + k + 2) (omega arith) (omega arith) in
      let b = part-at s a (n + 3) t part (0 + k + 3) (a + k + 3) (omega arith) (omega arith) in
      cc)
      ∙ ap (λ m. misplaced_of_two_in s a m) (let z : length t - 3 ≡ n = omega arith in z)

-- WINDOWS

-- A test of each window of n bytes.
pub windows-any : {S : Type 0} {steps : S → Option (Bor (List ℕ)) → S → Type 0} (run : Run steps) (n : ℕ) (s : List ℕ)
    (h : Bor (List ℕ) → Bool) (p : ℕ → Bool) → run.whole ≡ true → 0 < n
    → (m : ℕ) (t : List ℕ) → m ≡ n → t ≡ s → (0 < m → IsWindowsRun run m t)
    → ((k : ℕ) (x : Bor (List ℕ)) → Part s k n x.now → h x ≡ p k)
    → fold (λ b x. b || h x) false run.items ≡ any_below (length s + 1 - n) p
windows-any run n s h p w l m t e f r g =
    let windows : IsWindowsRun run n s = subst (λ z. IsWindowsRun run n z) f (subst (λ z. IsWindowsRun run z t) e (r (omega arith))) in
    fold-any h p run.items
    (λ k d q.
    let at : run.at k ≡ Some (get_or run.items k d) = some_is _ _ (run.reads k d (omega (arith, run.long))) in
    let is = subst (λ o. IfSome o (λ x. (length x.now ≡ n) × (k + n ≤ length s) × IsSubsliceAt n s k x.now)) at (windows.2 k) in
    g k (get_or run.items k d) (record { reads = λ j u. is.2.2 j 0 u }))
    ∙ ap (λ m. any_below m p) (let z : length run.items ≡ length s + 1 - n = omega (arith, run.long, windows.1 w) in z)

pub window-misplaced : (s t : List ℕ) (k : ℕ) → Part s k 4 t
    → misplaced (get_or t 0 0) (get_or t 1 0) (get_or t 2 0) (get_or t 3 0)
    ≡ misplaced (get_or s (0 + k) 0) (get_or s (0 + k + 1) 0) (get_or s (0 + k + 2) 0) (get_or s (0 + k + 3) 0)
window-misplaced s t k part =
    let p3 = part-at s k 4 t part 0 (0 + k) (omega arith) (omega arith) in
    let p2 = part-at s k 4 t part 1 (0 + k + 1) (omega arith) (omega arith) in
    let p1 = part-at s k 4 t part 2 (0 + k + 2) (omega arith) (omega arith) in
    let b = part-at s k 4 t part 3 (0 + k + 3) (omega arith) (omega arith) in
    cc

pub window-of_two : (s t : List ℕ) (k : ℕ) → Part (drop 2 s) k 2 t
    → misplaced_of_two (get_or t 0 0) (get_or t 1 0) ≡ misplaced_of_two (get_or s (0 + k + 2) 0) (get_or s (0 + k + 3) 0)
window-of_two s t k part =
    let p = part-at (drop 2 s) k 2 t part 0 k (omega arith) (omega arith)
    ∙ part-at s 2 (k + 1) (drop 2 s) (part-drop s 2 (k + 1)) k (0 + k + 2) (omega arith) (omega arith) in
    let b = part-at (drop 2 s) k 2 t part 1 (k + 1) (omega arith) (omega arith)
    ∙ part-at s 2 (k + 2) (drop 2 s) (part-drop s 2 (k + 2)) (k + 1) (0 + k + 3) (omega arith) (omega arith) in
    cc

-- WHAT A PART TELLS OF ITS STRING

module _ (s : List ℕ) (a m n : ℕ) where
  length-is : a + m ≤ length s → m ≡ n → length (take m (drop a s)) ≡ n
  length-is h e = length-take-le m (drop a s) (omega (arith, length-drop a s)) ∙ e

  part-is : m ≡ n → Part s a n (take m (drop a s))
  part-is e = subst (λ j. Part s a j (take m (drop a s))) e (part-take s a m)

  pub ascii-part : (r : Bool) → r ≡ not (beyond_in (take m (drop a s)) 0 (length (take m (drop a s)))) → r ≡ true → a + m ≤ length s
      → m ≡ n → Ascii s a n
  ascii-part r e t h z = ascii-told s a n r (e ∙ ap not (part-beyond s a n (take m (drop a s)) (part-is z) (length-is h z))) t

module _ (s : List ℕ) (a m n : ℕ) where
  pub misplaced-part : (r : Bool) → r ≡ misplaced_in (take m (drop a s)) 0 (length (take m (drop a s)) - 3) → a + m ≤ length s
      → m ≡ n + 3 → r ≡ misplaced_in s a n
  misplaced-part r e h z = e ∙ part-misplaced s a n (take m (drop a s)) (part-is s a m (n + 3) z) (length-is s a m (n + 3) h z)

  pub of_two-part : (r : Bool) → r ≡ misplaced_of_two_in (take m (drop a s)) 0 (length (take m (drop a s)) - 3) → a + m ≤ length s
      → m ≡ n + 3 → r ≡ misplaced_of_two_in s a n
  of_two-part r e h z = e ∙ part-of_two s a n (take m (drop a s)) (part-is s a m (n + 3) z) (length-is s a m (n + 3) h z)
