-- Links that a drawing may have, byte by byte. Assumes nothing.
use Rattle.std.proofs.Common.{◌≡◌, refl, sym, ap, ◌∙◌, subst, Bool, true, false, ◌||◌, ℕ, suc, ◌+◌, ◌-◌, ◌<◌, ◌≤◌, List, [], ◌∷◌, length}
use Rattle.std.proofs.Common.{get_or, Option, Some, None, IfSome, Bor, arith}
use Rattle.std.specs.List.{fold, IsSubsliceAt}
use Rattle.std.specs.Option.{option_map}
use Rattle.std.specs.Iterator.Runs.{Run, IsWindowsRun}
use Rattle.model.specs.Base.{or}
use Rattle.memo.specs.Table.{opens_link, any_opens}

or-same : (x y : Bool) → (x || y) ≡ or x y
or-same true y = refl
or-same false y = refl

pub opens-none : (script : List ℕ) → false ≡ any_opens script 0
unfolding any_opens
opens-none script = refl

-- The byte n and the one behind it are looked at.
opens-more : (script : List ℕ) (n : ℕ) (found bit : Bool) → found ≡ any_opens script n
    → bit ≡ opens_link (get_or script n 0) (get_or script (n + 1) 0) → (found || bit) ≡ any_opens script (n + 1)
unfolding any_opens
opens-more script n found bit p q =
    let e : n + 1 ≡ suc n = omega arith in
    or-same found bit ∙ ap (λ x. or x bit) p ∙ ap (or (any_opens script n)) q ∙ sym (ap (any_opens script) e)

-- Two bytes as a window has them.
abbrev pub seen : Bor (List ℕ) → Bool
seen x = opens_link (get_or x.now 0 0) (get_or x.now 1 0)

opens-from : (script : List ℕ) (xs : List (Bor (List ℕ))) (n : ℕ) (a : Bool) → a ≡ any_opens script n
    → ((k : ℕ) (d : Bor (List ℕ)) → k < length xs → seen (get_or xs k d) ≡ opens_link (get_or script (n + k) 0) (get_or script (n + k + 1) 0))
    → fold (λ b x. b || seen x) a xs ≡ any_opens script (n + length xs)
opens-from script [] n a e f = e ∙ ap (any_opens script) (let z : n ≡ n + 0 = omega arith in z)
opens-from script (x ∷ xs) n a e f =
    let z : n + 0 ≡ n = omega arith in
    opens-from script xs (n + 1) (a || seen x)
    (opens-more script n a (seen x) e (f 0 x (omega arith) ∙ ap (λ m. opens_link (get_or script m 0) (get_or script (m + 1) 0)) z))
    (λ k d l. f (suc k) d (omega arith)
    ∙ ap (λ m. opens_link (get_or script m 0) (get_or script (m + 1) 0)) (let y : n + suc k ≡ n + 1 + k = omega arith in y))
    ∙ ap (any_opens script) (let y : n + 1 + length xs ≡ n + suc (length xs) = omega arith in y)

some_is : {A : Type 0} (o : Option A) (x : A) → option_map (λ y. y) o ≡ Some x → o ≡ Some x
some_is (Some y) x e = e
some_is None x e = e

-- All windows of two bytes are looked at.
pub windows-open : {S : Type 0} {steps : S → Option (Bor (List ℕ)) → S → Type 0} (run : Run steps) (script : List ℕ) → run.whole ≡ true
    → (m : ℕ) (t : List ℕ) → m ≡ 2 → t ≡ script → (0 < m → IsWindowsRun run m t)
    → fold (λ b x. b || seen x) false run.items ≡ any_opens script (length script - 1)
windows-open run script w m t e f r =
    let windows : IsWindowsRun run 2 script =
    subst (λ z. IsWindowsRun run 2 z) f (subst (λ z. IsWindowsRun run z t) e (r (omega arith))) in
    opens-from script run.items 0 false (opens-none script)
    (λ k d q.
    let x = get_or run.items k d in
    let at : run.at k ≡ Some x = some_is _ _ (run.reads k d (omega (arith, run.long))) in
    let is = subst (λ o. IfSome o (λ x. (length x.now ≡ 2) × (k + 2 ≤ length script) × IsSubsliceAt 2 script k x.now)) at (windows.2 k) in
    let first : get_or x.now 0 0 ≡ get_or script (0 + k) 0 =
    is.2.2 0 0 (omega arith) ∙ ap (λ j. get_or script j 0) (let y : k + 0 ≡ 0 + k = omega arith in y) in
    let second : get_or x.now 1 0 ≡ get_or script (0 + k + 1) 0 =
    is.2.2 1 0 (omega arith) ∙ ap (λ j. get_or script j 0) (let y : k + 1 ≡ 0 + k + 1 = omega arith in y) in
    cc)
    ∙ ap (any_opens script) (let z : 0 + length run.items ≡ length script - 1 = omega (arith, run.long, windows.1 w) in z)
