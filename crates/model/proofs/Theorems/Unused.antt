-- What writing leaves alone: the lengths of the tables, and the zeros past the counts.
use Rattle.std.specs.Prelude.{ℕ, zero, suc, ◌+◌, ◌-◌, ◌*◌, ◌≤◌, ◌<◌, ◌≡◌, refl, ◌⊎◌, Bool, true, false, List, [], ◌∷◌, eqb, length, get_or}
use Rattle.std.specs.Prelude.{set, replicate}
use Rattle.std.proofs.Common.{◌∙◌, inl, inr, arith, length-set, get_or-set_other}
use Rattle.std.proofs.lemmas.List.Edits.{sets}
use Rattle.std.proofs.Math.Seq.{length-sets}
use Rattle.model.specs.Base.{pick}
use Rattle.model.specs.Tables.{Tree, word, set_word, next_linked, first_linked, linked, appended, Entry, entries_words, add_element}
use Rattle.model.specs.Tables.{add_text, set_text, set_none, rooted, cleared}
use Rattle.model.proofs.Theorems.Agree.{set_cases, sets-out}
use Rattle.model.proofs.Theorems.Entries.{entries-long}
use Rattle.model.specs.Theorems.Unused.{SameLengths, Unused}

-- LENGTHS

pub next-long : (ns : List ℕ) (j i : ℕ) → length (next_linked ns j i) ≡ length ns
unfolding next_linked
next-long ns j i = go (eqb j 0)
  where
    go : (b : Bool) → length (pick b (λ u. ns) (λ u. set_word ns (j - 1) 2 (i + 1))) ≡ length ns
    go true = refl
    go false = length-set ns (8 * (j - 1) + 2) (i + 1)

first-long : (ns : List ℕ) (p i : ℕ) → length (first_linked ns p i) ≡ length ns
unfolding first_linked
first-long ns p i = go (eqb (word ns p 3) 0)
  where
    go : (b : Bool) → length (pick b (λ u. set_word ns p 3 (i + 1)) (λ u. ns)) ≡ length ns
    go true = length-set ns (8 * p + 3) (i + 1)
    go false = refl

pub appended-long : (kind code from to : ℕ) (ns : List ℕ) (p i : ℕ) → length (appended kind code from to ns p i) ≡ length ns
unfolding appended linked
appended-long kind code from to ns p i =
    length-set (first_linked (next_linked record-in (word record-in p 4) i) p i) (8 * p + 4) (i + 1)
    ∙ first-long (next_linked record-in (word record-in p 4) i) p i ∙ next-long record-in (word record-in p 4) i
    ∙ length-sets ns (8 * i) (kind ∷ (p + 1) ∷ 0 ∷ 0 ∷ 0 ∷ code ∷ from ∷ to ∷ [])
  where
    record-in : List ℕ
    record-in = sets ns (8 * i) (kind ∷ (p + 1) ∷ 0 ∷ 0 ∷ 0 ∷ code ∷ from ∷ to ∷ [])

pub element-lengths : (c : ℕ) (es : List Entry) (p : ℕ) (t : Tree) → SameLengths (add_element c es p t) t
unfolding add_element
element-lengths c es p t = record {
  nodes = appended-long 2 c _ _ t.nodes p t.node_count;
  attributes = length-sets t.attributes (5 * t.attribute_count) (entries_words es);
  text = refl;
}

pub text-lengths : (bs : List ℕ) (size p : ℕ) (t : Tree) → SameLengths (add_text bs size p t) t
unfolding add_text
text-lengths bs size p t = record
    { nodes = appended-long 3 0 _ _ t.nodes p t.node_count; attributes = refl; text = length-sets t.text t.text_count bs }

pub bounds-lengths : (i from to : ℕ) (t : Tree) → SameLengths (set_text i from to t) t
unfolding set_text
bounds-lengths i from to t = record {
  nodes = length-set (set_word t.nodes i 6 from) (8 * i + 7) to ∙ length-set t.nodes (8 * i + 6) from;
  attributes = refl;
  text = length-sets (sets t.text (word t.nodes i 6) (replicate (from - word t.nodes i 6) 0))
      to (replicate (word t.nodes i 7 - to) 0)
      ∙ length-sets t.text (word t.nodes i 6) (replicate (from - word t.nodes i 6) 0);
}

pub none-lengths : (j : ℕ) (t : Tree) → SameLengths (set_none j t) t
unfolding set_none
none-lengths j t = record { nodes = refl; attributes = length-sets t.attributes (5 * j + 2) (1 ∷ 0 ∷ 0 ∷ []); text = refl }

-- ZEROS

-- A node appended below p, which stands before it as its children do, writes nothing behind its own record.
pub appended-behind : (kind code from to : ℕ) (ns : List ℕ) (p i q : ℕ) → p < i → word ns p 4 ≤ i → 8 * i + 8 ≤ q →
    get_or (appended kind code from to ns p i) q 0 ≡ get_or ns q 0
unfolding appended linked next_linked first_linked
appended-behind kind code from to ns p i q l w b =
    get_or-set_other (pick (eqb (word (next (eqb (word mid p 4) 0)) p 3) 0) (λ u. set_word (next (eqb (word mid p 4) 0)) p 3 (i + 1))
    (λ u. next (eqb (word mid p 4) 0)))
    (8 * p + 4) q (i + 1) 0 (omega arith)
    ∙ first (eqb (word (next (eqb (word mid p 4) 0)) p 3) 0)
    ∙ later (eqb (word mid p 4) 0) refl ∙ sets-out vs ns (8 * i) q (λ x y. omega arith)
  where
    vs : List ℕ
    vs = kind ∷ (p + 1) ∷ 0 ∷ 0 ∷ 0 ∷ code ∷ from ∷ to ∷ []

    mid : List ℕ
    mid = sets ns (8 * i) vs

    last : word mid p 4 ≡ word ns p 4
    last = sets-out vs ns (8 * i) (8 * p + 4) (λ x y. omega arith)

    next : Bool → List ℕ
    next c = pick c (λ u. mid) (λ u. set_word mid (word mid p 4 - 1) 2 (i + 1))

    first : (c : Bool) → get_or (pick c (λ u. set_word (next (eqb (word mid p 4) 0)) p 3 (i + 1)) (λ u. next (eqb (word mid p 4) 0))) q 0
        ≡ get_or (next (eqb (word mid p 4) 0)) q 0
    first true = get_or-set_other (next (eqb (word mid p 4) 0)) (8 * p + 3) q (i + 1) 0 (omega arith)
    first false = refl

    later : (c : Bool) → eqb (word mid p 4) 0 ≡ c → get_or (next c) q 0 ≡ get_or mid q 0
    later true e = refl
    later false e = get_or-set_other mid (8 * (word mid p 4 - 1) + 2) q (i + 1) 0 (omega (arith, last))

-- Zeros written over a zero leave it zero.
zeros-over : (n : ℕ) (xs : List ℕ) (p q : ℕ) → get_or xs q 0 ≡ 0 → get_or (sets xs p (replicate n 0)) q 0 ≡ 0
zeros-over zero xs p q h = h
zeros-over (suc n) xs p q h = zeros-over n (set xs p 0) (suc p) q (go (set_cases xs p 0 q))
  where
    go : (get_or (set xs p 0) q 0 ≡ get_or xs q 0) ⊎ ((q ≡ p) × (get_or (set xs p 0) q 0 ≡ 0)) → get_or (set xs p 0) q 0 ≡ 0
    go (inl e) = e ∙ h
    go (inr e) = e.1

pub replicate-zero : (n q : ℕ) → get_or {A = ℕ} (replicate n 0) q 0 ≡ 0
replicate-zero zero q = refl
replicate-zero (suc n) zero = refl
replicate-zero (suc n) (suc q) = replicate-zero n q

pub unused-root : (n m b : ℕ) → Unused (rooted (cleared n m b))
unfolding rooted cleared
unused-root n m b = record {
  nodes = λ q h. get_or-set_other (replicate n 0) (8 * 0 + 0) q 1 0 (omega arith) ∙ replicate-zero n q;
  attributes = λ q h. replicate-zero m q;
  text = λ q h. replicate-zero b q;
}

pub unused-element : (c : ℕ) (es : List Entry) (p : ℕ) (t : Tree) → p < t.node_count → word t.nodes p 4 ≤ t.node_count → Unused t →
    Unused (add_element c es p t)
unfolding add_element
unused-element c es p t l w u =
    let long : length (entries_words es) ≡ 5 * length es = entries-long es in
    record {
      nodes = λ q h. appended-behind 2 c _ _ t.nodes p t.node_count q l w (omega arith) ∙ u.nodes q (omega arith);
      attributes = λ q h. sets-out (entries_words es) t.attributes (5 * t.attribute_count) q (λ x y. omega (arith, long))
          ∙ u.attributes q (omega arith);
      text = u.text;
    }

pub unused-text : (bs : List ℕ) (size p : ℕ) (t : Tree) → length bs ≤ size → p < t.node_count → word t.nodes p 4 ≤ t.node_count →
    Unused t → Unused (add_text bs size p t)
unfolding add_text
unused-text bs size p t f l w u = record {
  nodes = λ q h. appended-behind 3 0 _ _ t.nodes p t.node_count q l w (omega arith) ∙ u.nodes q (omega arith);
  attributes = u.attributes;
  text = λ q h. sets-out bs t.text t.text_count q (λ x y. omega arith) ∙ u.text q (omega arith);
}

pub unused-bounds : (i from to : ℕ) (t : Tree) → i < t.node_count → Unused t → Unused (set_text i from to t)
unfolding set_text
unused-bounds i from to t l u = record {
  nodes = λ q h. get_or-set_other (set_word t.nodes i 6 from) (8 * i + 7) q to 0 (omega arith) ∙ get_or-set_other t.nodes (8 * i + 6)
      q from 0 (omega arith) ∙ u.nodes q h;
  attributes = u.attributes;
  text = λ q h. zeros-over (word t.nodes i 7 - to) _ to q (zeros-over (from - word t.nodes i 6) t.text (word t.nodes i 6)
      q (u.text q h));
}

pub unused-none : (j : ℕ) (t : Tree) → j < t.attribute_count → Unused t → Unused (set_none j t)
unfolding set_none
unused-none j t l u = record {
  nodes = u.nodes;
  attributes = λ q h. sets-out (1 ∷ 0 ∷ 0 ∷ []) t.attributes (5 * j + 2) q (λ x y. omega arith) ∙ u.attributes q h;
  text = u.text;
}
