-- Stores one after another, and parts of a table that are written. Assumes nothing.
use mathlib.Core.Path.{◌≡◌, refl, sym, ap, ◌∙◌}
use mathlib.Core.List.{List, [], ◌∷◌, ◌++◌, append_assoc}
use Prim.Native.Nat.{ℕ, suc, ◌+◌, ◌<◌, ◌≤◌}
use native.Mathlib.Omega.{arith}
use lib.ListN.{length, get_or, set, take, drop}
use lib.Seq.{sets, sets-eq, drop-drop, get_or-set_other}

-- What stores at b + k, b + (k + 1) and so on leave.
abbrev pub stores : List ℕ → ℕ → ℕ → List ℕ → List ℕ
stores l b k [] = l
stores l b k (v ∷ vs) = stores (set l (b + k) v) b (k + 1) vs

stores-sets : (vs l : List ℕ) (b k : ℕ) → stores l b k vs ≡ sets l (b + k) vs
stores-sets [] l b k = refl
stores-sets (v ∷ vs) l b k =
    let e : b + (k + 1) ≡ suc (b + k) = omega arith in
    stores-sets vs (set l (b + k) v) b (k + 1) ∙ ap (λ (n : ℕ). sets (set l (b + k) v) n vs) e

pub run : (l : List ℕ) (b v : ℕ) (vs : List ℕ) → stores (set l b v) b 1 vs ≡ sets l b (v ∷ vs)
run l b v vs = let e : b + 1 ≡ suc b = omega arith in stores-sets vs (set l b v) b 1 ∙ ap (λ (n : ℕ). sets (set l b v) n vs) e

-- Stores from b on leave what stands before.
pub before-run : (vs l : List ℕ) (b k : ℕ) → k < b → get_or (sets l b vs) k 0 ≡ get_or l k 0
before-run [] l b k h = refl
before-run (v ∷ vs) l b k h = before-run vs (set l b v) (suc b) k (omega arith) ∙ get_or-set_other l b k v 0 (λ e. omega arith)

-- What a copy into the k places from a on leaves.
pub part_sets : (l ys vs : List ℕ) (a k : ℕ) → ys ≡ vs → k ≡ length vs → a + k ≤ length l
    → take a l ++ (ys ++ drop k (drop a l)) ≡ sets l a vs
part_sets l ys vs a k e m h =
    rw (e, m, drop-drop (length vs) a l) (sym (append_assoc (take a l) vs _) ∙ sym (sets-eq vs l a (omega arith)))
