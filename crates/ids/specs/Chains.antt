-- Chains of ids, through the words of importance.
use Rattle.std.specs.Prelude.{
  ◌≡◌,
  ℕ,
  zero,
  suc,
  ◌+◌,
  ◌-◌,
  ◌*◌,
  ◌/◌,
  ◌%◌,
  ◌<◌,
  ◌≤◌,
  Bool,
  true,
  false,
  List,
  [],
  ◌∷◌,
  eqb,
  length,
  get_or,
  set,
  replicate,
}
use Rattle.model.specs.Base.{pick}
use Rattle.model.specs.AId
use Rattle.model.specs.Tables.{Tree, entry_word, attribute_id}
use Rattle.model.specs.Repair.{element_id}
use Rattle.tree.specs.Lent.{read_of}
use Rattle.ids.specs.declared.heads.Heads.{Heads}

-- BUCKETS

-- The bucket of a string whose beginning gave h.
unfoldable pub bucket_from : ℕ → List ℕ → ℕ
bucket_from h [] = h
bucket_from h (b ∷ bs) = bucket_from ((h * 7735 + b) % 2048) bs

-- The bucket of a string: nothing is asked of it but that equal strings have the same.
abbrev pub bucket_of : List ℕ → ℕ
bucket_of bs = bucket_from 0 bs

-- Is node i an element with an id of that bucket?
unfoldable pub is_in : List ℕ → Tree → ℕ → ℕ → Bool
is_in chars t b i = pick (eqb (attribute_id t i AId.Id) 0) (λ u. false) (λ u. eqb (bucket_of (element_id chars t i)) b)

-- The last of the first n nodes that is one, as its index plus 1; 0 for none.
unfoldable pub last_in : List ℕ → Tree → ℕ → ℕ → ℕ
last_in chars t b zero = 0
last_in chars t b (suc n) = pick (is_in chars t b n) (λ u. n + 1) (λ u. last_in chars t b n)

-- CHAINS

-- The heads are the last nodes of their buckets, among the first n; behind its importance an id's entry has the last one before it.
pub record Chained (chars : List ℕ) (t : Tree) (hs : List ℕ) (n : ℕ) : Type 0 where
  pub heads : (b : ℕ) → b < 2048 → get_or hs b 0 ≡ last_in chars t b n
  pub next : (m : ℕ) → m < n → (attribute_id t m AId.Id ≡ 0 → ⊥)
      → entry_word t (attribute_id t m AId.Id - 1) 1 / 2 ≡ last_in chars t (bucket_of (element_id chars t m)) m

-- No node stands in a chain.
abbrev pub no_heads : Heads
no_heads = record { last = replicate 2048 0; is_whole = false }

-- The heads of the first n nodes, if they are whole.
pub record Indexed (chars : List ℕ) (t : Tree) (heads : Heads) (n : ℕ) : Type 0 where
  pub chained : heads.is_whole ≡ true → Chained chars t heads.last n

-- The table with the node whose index plus 1 is n behind the importance of entry j.
abbrev pub next_set : List ℕ → ℕ → ℕ → List ℕ
next_set es j n = set es (5 * j + 1) (get_or es (5 * j + 1) 0 % 2 + 2 * n)

-- What a turn at node i leaves, by its answer: nothing is changed, or its id stands in the chain.
pub record Turned (chars ns es hs : List ℕ) (i : ℕ) (es' hs' : List ℕ) (r : Bool) : Type 0 where
  pub stop : r ≡ false → (es' ≡ es) × (hs' ≡ hs)
  pub none : attribute_id (read_of ns es) i AId.Id ≡ 0 → (es' ≡ es) × (hs' ≡ hs)
  pub some : r ≡ true → (attribute_id (read_of ns es) i AId.Id ≡ 0 → ⊥)
      → (es' ≡ next_set es (attribute_id (read_of ns es) i AId.Id - 1) (get_or hs (bucket_of (element_id chars (read_of ns es) i)) 0))
      × (hs' ≡ set hs (bucket_of (element_id chars (read_of ns es) i)) (i + 1))

-- TABLES THAT DIFFER IN WORDS OF IMPORTANCE ALONE

-- The second table is the first, but for what stands behind the importance of the first n entries.
pub record Like (n : ℕ) (es₀ es : List ℕ) : Type 0 where
  pub long : length es ≡ length es₀
  pub words : (j k : ℕ) → k < 5 → (k ≡ 1 → ⊥) → get_or es (5 * j + k) 0 ≡ get_or es₀ (5 * j + k) 0
  pub important : (j : ℕ) → get_or es (5 * j + 1) 0 % 2 ≡ get_or es₀ (5 * j + 1) 0 % 2
  pub behind : (q : ℕ) → 5 * n ≤ q → get_or es q 0 ≡ get_or es₀ q 0

-- The second table is the first with nothing behind the importance of the first n entries.
pub record Unmarked (es es' : List ℕ) (n : ℕ) : Type 0 where
  pub long : length es' ≡ length es
  pub words : (j k : ℕ) → k < 5 → (k ≡ 1 → ⊥) → get_or es' (5 * j + k) 0 ≡ get_or es (5 * j + k) 0
  pub important : (j : ℕ) → j < n → get_or es' (5 * j + 1) 0 ≡ get_or es (5 * j + 1) 0 % 2
  pub behind : (q : ℕ) → 5 * n ≤ q → get_or es' q 0 ≡ get_or es q 0
