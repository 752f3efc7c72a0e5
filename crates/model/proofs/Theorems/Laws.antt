-- Laws of the operations on the tables: what a word is after a node was appended, a text cut.
use Rattle.std.specs.Prelude.{ℕ, suc, ◌+◌, ◌-◌, ◌*◌, ◌/◌, ◌≤◌, ◌<◌, min, ◌≡◌, refl, Bool, true, false, List, [], ◌∷◌, eqb, ltb, length}
use Rattle.std.specs.Prelude.{get_or}
use Rattle.std.proofs.Common.{sym, ◌∙◌, arith, ltb-true, get_or-set_other}
use Rattle.std.proofs.lemmas.List.Edits.{sets}
use Rattle.model.specs.Base.{pick}
use Rattle.model.specs.Tables.{Tree, word, set_word, next_linked, first_linked, linked, appended, most, node_room}
use Rattle.model.specs.Theorems.Agree.{Agree}
use Rattle.model.proofs.Theorems.Agree.{agree-set, agree-sets, sets-in, sets-out}

-- APPENDING A NODE

-- A word that holds no link to a later node.
abbrev pub Unlinked : ℕ → Type 0
Unlinked q = (j : ℕ) → ((8 * j + 2 ≡ q) → ⊥) × ((8 * j + 3 ≡ q) → ⊥) × ((8 * j + 4 ≡ q) → ⊥)

-- Words 0, 1, 5, 6 and 7 hold none.
pub unlinked : (i k : ℕ) → k < 8 → ((2 ≤ k → k ≤ 4 → ⊥)) → Unlinked (8 * i + k)
unlinked i k b h j = (λ e. h (omega arith) (omega arith), λ e. h (omega arith) (omega arith), λ e. h (omega arith) (omega arith))

next-old : (ns : List ℕ) (j i q : ℕ) → Unlinked q → get_or (next_linked ns j i) q 0 ≡ get_or ns q 0
unfolding next_linked
next-old ns j i q u = go (eqb j 0)
  where
    go : (b : Bool) → get_or (pick b (λ u. ns) (λ u. set_word ns (j - 1) 2 (i + 1))) q 0 ≡ get_or ns q 0
    go true = refl
    go false = get_or-set_other ns (8 * (j - 1) + 2) q (i + 1) 0 (λ e. (u (j - 1)).0 (sym e))

first-old : (ns : List ℕ) (p i q : ℕ) → Unlinked q → get_or (first_linked ns p i) q 0 ≡ get_or ns q 0
unfolding first_linked
first-old ns p i q u = go (eqb (word ns p 3) 0)
  where
    go : (b : Bool) → get_or (pick b (λ u. set_word ns p 3 (i + 1)) (λ u. ns)) q 0 ≡ get_or ns q 0
    go true = get_or-set_other ns (8 * p + 3) q (i + 1) 0 (λ e. (u p).1 (sym e))
    go false = refl

linked-old : (ns : List ℕ) (p i q : ℕ) → Unlinked q → get_or (linked ns p i) q 0 ≡ get_or ns q 0
unfolding linked
linked-old ns p i q u =
    get_or-set_other (first_linked (next_linked ns (word ns p 4) i) p i) (8 * p + 4) q (i + 1) 0 (λ e. (u p).2 (sym e))
    ∙ first-old (next_linked ns (word ns p 4) i) p i q u ∙ next-old ns (word ns p 4) i q u

-- The words of the nodes before the new one, links apart.
pub appended-old : (kind code from to : ℕ) (ns : List ℕ) (p i j k : ℕ) → j < i → k < 8 → (2 ≤ k → k ≤ 4 → ⊥) →
    word (appended kind code from to ns p i) j k ≡ word ns j k
unfolding appended
appended-old kind code from to ns p i j k l b h =
    linked-old _ p i (8 * j + k) (unlinked j k b h)
    ∙ sets-out (kind ∷ (p + 1) ∷ 0 ∷ 0 ∷ 0 ∷ code ∷ from ∷ to ∷ []) ns (8 * i) (8 * j + k) (λ x y. omega arith)

-- The words of the new node, links apart.
pub appended-new : (kind code from to : ℕ) (ns : List ℕ) (p i k : ℕ) → 8 * i + 8 ≤ length ns → k < 8 → (2 ≤ k → k ≤ 4 → ⊥) →
    word (appended kind code from to ns p i) i k ≡ get_or (kind ∷ (p + 1) ∷ 0 ∷ 0 ∷ 0 ∷ code ∷ from ∷ to ∷ []) k 0
unfolding appended
appended-new kind code from to ns p i k r b h =
    linked-old _ p i (8 * i + k) (unlinked i k b h)
    ∙ sets-in (kind ∷ (p + 1) ∷ 0 ∷ 0 ∷ 0 ∷ code ∷ from ∷ to ∷ []) ns (8 * i) k (omega arith) (omega arith)

next_agree : {P : ℕ → Type 0} {xs ys : List ℕ} (j i : ℕ) → Agree P xs ys → Agree P (next_linked xs j i) (next_linked ys j i)
unfolding next_linked
next_agree {P} {xs} {ys} j i a = go (eqb j 0)
  where
    go : (b : Bool) → Agree P (pick b (λ u. xs) (λ u. set_word xs (j - 1) 2 (i + 1)))
        (pick b (λ u. ys) (λ u. set_word ys (j - 1) 2 (i + 1)))
    go true = a
    go false = agree-set (8 * (j - 1) + 2) (i + 1) (i + 1) (λ u. refl) a

first-agree : {P : ℕ → Type 0} {xs ys : List ℕ} (p i : ℕ) → P (8 * p + 3) → Agree P xs ys →
    Agree P (first_linked xs p i) (first_linked ys p i)
unfolding first_linked
first-agree {P} {xs} {ys} p i h a = rw (← a.at (8 * p + 3) h) (go (eqb (word xs p 3) 0))
  where
    go : (b : Bool) → Agree P (pick b (λ u. set_word xs p 3 (i + 1)) (λ u. xs)) (pick b (λ u. set_word ys p 3 (i + 1)) (λ u. ys))
    go true = agree-set (8 * p + 3) (i + 1) (i + 1) (λ u. refl) a
    go false = a

-- A node appended to tables that agree; their ends of its range may differ where P does not ask.
pub appended-agree : {P : ℕ → Type 0} {xs ys : List ℕ} (kind code from to to' p i : ℕ) → P (8 * p + 3) → P (8 * p + 4) →
    (P (8 * i + 7) → to ≡ to') → Agree P xs ys → Agree P (appended kind code from to xs p i) (appended kind code from to' ys p i)
unfolding appended linked
appended-agree {P} {xs} {ys} kind code from to to' p i h3 h4 g a =
    rw (← b.at (8 * p + 4) h4) (agree-set (8 * p + 4) (i + 1) (i + 1) (λ u. refl)
    (first-agree p i h3 (next_agree (word (full xs to) p 4) i b)))
  where
    full : List ℕ → ℕ → List ℕ
    full ns t = sets ns (8 * i) (kind ∷ (p + 1) ∷ 0 ∷ 0 ∷ 0 ∷ code ∷ from ∷ t ∷ [])

    place : 8 * i + 7 ≡ suc (suc (suc (suc (suc (suc (suc (8 * i)))))))
    place = omega arith

    b : Agree P (full xs to) (full ys to')
    b = agree-set (suc (suc (suc (suc (suc (suc (suc (8 * i)))))))) to to' (λ u. g (rw place u))
        (agree-sets (kind ∷ (p + 1) ∷ 0 ∷ 0 ∷ 0 ∷ code ∷ from ∷ []) (8 * i) a)

-- There is room for the record of the next node.
pub room_fits : (t : Tree) → ltb t.node_count (node_room t) ≡ true → 8 * t.node_count + 8 ≤ length t.nodes
unfolding node_room
room_fits t h = omega (arith, ltb-true t.node_count (min (length t.nodes / 8) most) h)
