-- Lists of numbers that agree at the places where P asks: laws of writing and reading.
use Rattle.std.specs.Prelude.{ℕ, zero, suc, ◌+◌, ◌≤◌, ◌<◌, ◌≡◌, refl, ◌⊎◌, List, [], ◌∷◌, length, get_or, set, take}
use Rattle.std.proofs.Common.{sym, ap, ◌∙◌, inl, inr, arith, add-zero, add-suc, suc-add, length-set, length-take, length-drop}
use Rattle.std.proofs.Common.{get_or-set_same, get_or-set_other, ext_get_or, get_or-take, get_or-drop}
use Rattle.std.proofs.Math.Decide.{ℕ_discrete, dec_lt}
use Rattle.std.proofs.lemmas.List.Edits.{sets}
use Rattle.std.proofs.Math.Seq.{slice, set_out}
use Rattle.model.specs.Theorems.Agree.{Agree}

pub agree_refl : (P : ℕ → Type 0) (xs : List ℕ) → Agree P xs xs
agree_refl P xs = record { long = refl; at = λ i h. refl }

pub agree-sym : {P : ℕ → Type 0} {xs ys : List ℕ} → Agree P xs ys → Agree P ys xs
agree-sym a = record { long = sym a.long; at = λ i h. sym (a.at i h) }

pub agree_trans : {P : ℕ → Type 0} {xs ys zs : List ℕ} → Agree P xs ys → Agree P ys zs → Agree P xs zs
agree_trans a b = record { long = a.long ∙ b.long; at = λ i h. a.at i h ∙ b.at i h }

-- Fewer places are asked.
pub agree-weak : {P Q : ℕ → Type 0} {xs ys : List ℕ} → ((i : ℕ) → Q i → P i) → Agree P xs ys → Agree Q xs ys
agree-weak f a = record { long = a.long; at = λ i h. a.at i (f i h) }

-- What stands at j after a store: what stood there, or j is the place and the value the new one.
pub set_cases : (xs : List ℕ) (p v j : ℕ) → (get_or (set xs p v) j 0 ≡ get_or xs j 0) ⊎ ((j ≡ p) × (get_or (set xs p v) j 0 ≡ v))
set_cases [] p v j = inl refl
set_cases (x ∷ xs) zero v zero = inr (refl, refl)
set_cases (x ∷ xs) zero v (suc j) = inl refl
set_cases (x ∷ xs) (suc p) v zero = inl refl
set_cases (x ∷ xs) (suc p) v (suc j) = lift (set_cases xs p v j)
  where
    lift : (get_or (set xs p v) j 0 ≡ get_or xs j 0) ⊎ ((j ≡ p) × (get_or (set xs p v) j 0 ≡ v)) →
        (get_or (set xs p v) j 0 ≡ get_or xs j 0) ⊎ ((suc j ≡ suc p) × (get_or (set xs p v) j 0 ≡ v))
    lift (inl e) = inl e
    lift (inr e) = inr (ap suc e.0, e.1)

-- A store on each side, of values that are equal if P asks for the place.
pub agree-set : {P : ℕ → Type 0} {xs ys : List ℕ} (p v w : ℕ) → (P p → v ≡ w) → Agree P xs ys → Agree P (set xs p v) (set ys p w)
agree-set {P} {xs} {ys} p v w f a = record { long = simp length-set a.long; at = λ j h. go j h (ℕ_discrete j p) (dec_lt p (length xs)) }
  where
    go : (j : ℕ) → P j → Dec (j ≡ p) → Dec (p < length xs) → get_or (set xs p v) j 0 ≡ get_or (set ys p w) j 0
    go j h (no n) d = rw (get_or-set_other xs p j v 0 n, get_or-set_other ys p j w 0 n) (a.at j h)
    go j h (yes e) (yes d) = rw (e, get_or-set_same xs p v 0 d, get_or-set_same ys p w 0 (rw a.long at d)) (f (rw e at h))
    go j h (yes e) (no d) =
        let out : length ys ≤ p = omega (arith, a.long) in
        rw (set_out xs p v (omega arith), set_out ys p w out) (a.at j h)

-- The same run of stores on each side.
pub agree-sets : {P : ℕ → Type 0} {xs ys : List ℕ} (vs : List ℕ) (p : ℕ) → Agree P xs ys → Agree P (sets xs p vs) (sets ys p vs)
agree-sets [] p a = a
agree-sets (v ∷ vs) p a = agree-sets vs (suc p) (agree-set p v v (λ h. refl) a)

-- A store, and a run of stores, at places that P does not ask for.
pub agree-out : {P : ℕ → Type 0} (xs : List ℕ) (p v : ℕ) → (P p → ⊥) → Agree P (set xs p v) xs
agree-out {P} xs p v f = record { long = length-set xs p v; at = λ j h. get_or-set_other xs p j v 0 (λ e. f (rw e at h)) }

pub agree-outs : {P : ℕ → Type 0} (vs xs : List ℕ) (p : ℕ) → ((j : ℕ) → p ≤ j → j < p + length vs → P j → ⊥) → Agree P (sets xs p vs) xs
agree-outs [] xs p f = agree_refl _ xs
agree-outs (v ∷ vs) xs p f =
    agree_trans (agree-outs vs (set xs p v) (suc p) (λ j a b. f j (omega arith) (omega arith)))
    (agree-out xs p v (f p (omega arith) (omega arith)))

-- What a run of stores leaves at each of its places, and everywhere else.
pub sets-in : (vs xs : List ℕ) (p k : ℕ) → p + length vs ≤ length xs → k < length vs → get_or (sets xs p vs) (p + k) 0 ≡ get_or vs k 0
sets-in [] xs p k h l = absurd (omega arith)
sets-in (v ∷ vs) xs p zero h l =
    rw add-zero ((agree-outs {P = λ j. j ≡ p} vs (set xs p v) (suc p) (λ j a b e. omega arith)).at p refl ∙ get_or-set_same xs p v 0
    (omega arith))
sets-in (v ∷ vs) xs p (suc k) h l = rw (add-suc, ← suc-add p k) (sets-in vs (set xs p v) (suc p) k (rw length-set (omega arith))
    (omega arith))

pub sets-out : (vs xs : List ℕ) (p j : ℕ) → ((p ≤ j → j < p + length vs → ⊥)) → get_or (sets xs p vs) j 0 ≡ get_or xs j 0
sets-out vs xs p j h = (agree-outs {P = λ i. i ≡ j} vs xs p (λ i a b e. h (omega arith) (omega arith))).at j refl

pub agree-slice : {P : ℕ → Type 0} {xs ys : List ℕ} (f t : ℕ) → ((j : ℕ) → f ≤ j → j < t → P j) → Agree P xs ys →
    slice f t xs ≡ slice f t ys
agree-slice {P} {xs} {ys} f t g a =
    ext_get_or 0 (slice f t xs) (slice f t ys) (simp (length-drop, length-take) (rw a.long refl))
    (λ i l. let h : f + i < t = omega (arith, simp (length-drop, length-take) at l) in
    rw (get_or-drop f (take t xs) i 0, get_or-drop f (take t ys) i 0, get_or-take t xs (f + i) 0 h, get_or-take t ys (f + i) 0 h)
    (a.at (f + i) (g (f + i) (omega arith) h)))
