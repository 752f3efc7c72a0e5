-- The tables as the repairs see them, and what a step at one element leaves in them.
use Rattle.std.specs.Prelude.{◌≡◌, ℕ, ◌+◌, ◌*◌, ◌/◌, ◌%◌, ◌<◌, ◌≤◌, Bool, true, false}
use Rattle.std.specs.Prelude.{List, [], ◌∷◌, ◌⊎◌, eqb, leb, length, get_or, Option, Some, None, IfSome}
use Rattle.model.specs.Base.{pick, Pair}
use Rattle.model.specs.Drawing.{Value}
use Rattle.model.specs.AId
use Rattle.model.specs.Tables.{Tree, word, attribute_id, element_by_id}
use Rattle.model.specs.Repair.{descendants, element_id, cut_at, apply_cut, applied}
use Rattle.model.specs.Theorems.Kept.{Tidy}
use Rattle.model.specs.Theorems.GoingOn.{leads_to, cuts_along, going_on}
use Rattle.ids.specs.declared.heads.Heads.{Heads}
use Rattle.script.specs.declared.drawing.Drawing.{Drawing}
use Rattle.script.specs.declared.cursor.Cursor.{Cursor}
use Rattle.script.specs.Step.{at_start}
use Rattle.tree.specs.declared.Counts.{Counts}
use Rattle.tree.specs.Lent.{read_of}
use Rattle.ids.specs.Chains.{Indexed}
use Rattle.leads.specs.Links.{Drawn, values_of}
use Rattle.places.specs.declared.marks.Marks.{Marks}
use Rattle.targets.specs.Pass.{pass_number}
use Rattle.targets.specs.Targets.{seen_of, Targeted}
use Rattle.cuts.specs.declared.Aim.{Aim}

-- What the repairs ask: a drawing that check takes, marks of its script, a cursor in it, tables that are tidy beside its characters, and
-- heads of the chains of their ids.
pub record Mendable (drawing : Drawing) (marks : Marks) (heads : Heads) (ns es : List ℕ) (c : Counts) (hint : Cursor) : Type 0 where
  pub drawn : Drawn drawing marks hint
  pub tidy : Tidy (length drawing.characters.now) (seen_of ns es c)
  pub indexed : Indexed drawing.characters.now (read_of ns es) heads c.nodes

-- What pass k asks, one of the passes 1 to 5: that, and marks of its links in the tables, if the word behind the heads says so.
pub record Cuttable (drawing : Drawing) (marks : Marks) (heads : Heads) (ns es : List ℕ) (c : Counts) (k : ℕ) : Type 0 where
  pub mendable : Mendable drawing marks heads ns es c at_start
  pub targeted : (heads.is_whole ≡ true) → Targeted drawing.characters.now (values_of drawing) k (seen_of ns es c)

-- LINKS BELOW AN ELEMENT

-- Has one of these nodes the attribute a?
unfoldable pub any_with : Tree → ℕ → List ℕ → Bool
any_with t a [] = false
any_with t a (x ∷ xs) = pick (eqb (attribute_id t x a) 0) (λ u. any_with t a xs) (λ u. true)

-- Has node i the attribute a, or a node below it?
unfoldable pub has_links : Tree → ℕ → ℕ → Bool
has_links t a i = any_with t a (descendants t i)

-- AIMS

-- The mark of the links that lead to element i in pass k, 0 where none can. A pattern is led to by its id, as are all others with that id;
-- any other element by links that find it, and so only if it has an id.
unfoldable pub key_of : List ℕ → ℕ → Tree → ℕ → ℕ
key_of chars k t i =
    let w : ℕ = element_by_id chars t (element_id chars t i) in
    pick (leb k 2) (λ u. pick (eqb w 0) (λ v. 1) (λ v. w + 1)) (λ u. pick (eqb (attribute_id t i AId.Id) 0) (λ v. 0) (λ v. i + 2))

-- An element that one of the passes 1 to 5 aims at, and to which links can lead.
pub record Aimed (chars : List ℕ) (t : Tree) (aim : Aim) : Type 0 where
  pub first : 1 ≤ pass_number aim.pass
  pub last : pass_number aim.pass ≤ 5
  pub inside : aim.element < t.node_count
  pub key : aim.key ≡ key_of chars (pass_number aim.pass) t aim.element
  pub some : aim.key ≡ 0 → ⊥

-- CUTS

-- The tree with node m's value cut, where it leads to element i.
abbrev pub cut_back : List ℕ → List Value → ℕ → ℕ → Tree → ℕ → Tree
cut_back chars values k i t m = pick (leads_to chars values k t i m) (λ u. apply_cut t (cut_at t k m)) (λ u. t)

-- The tree with the values of these nodes cut, one after another.
abbrev pub cut_nodes : List ℕ → List Value → ℕ → Tree → List ℕ → Tree
cut_nodes chars values k t ms = applied t (cuts_along chars values k t ms)

-- The tree behind the cuts of pairs, each of an element and a node below it.
abbrev pub cut_pairs : List ℕ → List Value → ℕ → Tree → List Pair → Tree
cut_pairs chars values k t ps = applied t (going_on chars values k t ps)

-- RANGES THAT ARE REMEMBERED

-- Node q and the nodes below it, in a table of n nodes: those from q up to the node `end`.
pub record Range (ns : List ℕ) (n q end : ℕ) : Type 0 where
  pub low : q < end
  pub high : end ≤ n
  pub under : (y : ℕ) → q < y → y < end → q < word ns y 1
  pub closed : end < n → word ns end 1 ≤ q

-- What the word of block b, of 256 nodes, tells if it is not 0: a node, and the node behind the last one below it. Where the word is
-- 256 * 2097152 or more, the node is the first of the block, and this is the last part of the range of a node before it.
abbrev pub told_first : List ℕ → ℕ → ℕ
told_first ws b = 256 * b + get_or ws b 0 / 2097152 % 256

abbrev pub told_end : List ℕ → ℕ → ℕ
told_end ws b = get_or ws b 0 % 2097152

-- The words tell ranges, or their last parts.
pub record Ranges (ns : List ℕ) (n : ℕ) (ws : List ℕ) : Type 0 where
  pub range : (b : ℕ) → 256 * b < n → b < 4096 → (get_or ws b 0 ≡ 0 → ⊥) → get_or ws b 0 < 536870912
      → Range ns n (told_first ws b) (told_end ws b)
  pub closed : (b : ℕ) → 256 * b < n → b < 4096 → (get_or ws b 0 ≡ 0 → ⊥) → told_end ws b < n → word ns (told_end ws b) 1 ≤ told_first ws b

-- None of the nodes from q up to the node `end` leads to the element i in pass k.
pub record Silent (chars : List ℕ) (values : List Value) (k : ℕ) (t : Tree) (i q end : ℕ) : Type 0 where
  pub none : (x : ℕ) → q ≤ x → x < end → leads_to chars values k t i x ≡ false

-- The words tell ranges of nodes that do not lead back.
pub record Quiet (chars : List ℕ) (values : List Value) (k : ℕ) (t : Tree) (i : ℕ) (ws : List ℕ) : Type 0 where
  pub ranges : Ranges t.nodes t.node_count ws
  pub silent : (b : ℕ) → 256 * b < t.node_count → b < 4096 → Silent chars values k t i (told_first ws b) (told_end ws b)

-- Node w stands in the range that the word of its block tells.
pub record Covered (ws : List ℕ) (w : ℕ) : Type 0 where
  pub block : w / 256 < 4096
  pub low : told_first ws (w / 256) ≤ w
  pub high : w < told_end ws (w / 256)

-- Node m is the one that the word of its block tells, and r is the node behind the last one below it.
pub record Remembered (ws : List ℕ) (m r : ℕ) : Type 0 where
  pub block : m / 256 < 4096
  pub own : get_or ws (m / 256) 0 / 2097152 ≡ m % 256
  pub last : r ≡ told_end ws (m / 256)

-- The word of block b tells the range from w up to the node `end`, or a last part of it.
pub record Told (ws : List ℕ) (w end b : ℕ) : Type 0 where
  pub low : w ≤ told_first ws b
  pub last : told_end ws b ≡ end
  pub own : get_or ws b 0 < 536870912 → told_first ws b ≡ w

-- Each word is as it was, or tells this range.
pub record Hushed (ws : List ℕ) (w end : ℕ) (ws' : List ℕ) : Type 0 where
  pub words : (b : ℕ) → (get_or ws' b 0 ≡ get_or ws b 0) ⊎ Told ws' w end b

-- Each word is as it was, or is that of a block from a on and tells the last part of a range up to the node `end`.
pub record Spread (ws : List ℕ) (a end : ℕ) (ws' : List ℕ) : Type 0 where
  pub words : (b : ℕ) → (get_or ws' b 0 ≡ get_or ws b 0) ⊎ ((a ≤ b) × (get_or ws' b 0 ≡ 536870912 + end))

-- The search goes on from node m at node r, at `end` at the latest: none of the nodes between them leads back.
pub record Onward (chars : List ℕ) (values : List Value) (k : ℕ) (t : Tree) (i m end r : ℕ) : Type 0 where
  pub low : m < r
  pub high : r ≤ end
  pub none : (x : ℕ) → m < x → x < r → leads_to chars values k t i x ≡ false

-- FROM ONE ELEMENT TO THE NEXT

-- What is known behind an element of pass k: it was aimed at, and the words hold for it.
pub record HoldsFor (chars : List ℕ) (values : List Value) (k : ℕ) (t : Tree) (ws : List ℕ) (aim : Aim) : Type 0 where
  pub pass : pass_number aim.pass ≡ k
  pub aimed : Aimed chars t aim
  pub quiet : Quiet chars values k t aim.element ws

-- What is known between two elements of pass k: the words hold for an element that was aimed at, or nothing.
abbrev pub Known : List ℕ → List Value → ℕ → Tree → Option Aim → List ℕ → Type 0
Known chars values k t known ws = IfSome known (HoldsFor chars values k t ws)

-- Is it an element with that key?
abbrev pub has_key : Option Aim → ℕ → Bool
has_key None key = false
has_key (Some aim) key = eqb aim.key key

-- The words are as they were where both elements have the same key; else those of n nodes are 0.
pub record Settled (n : ℕ) (known : Option Aim) (aim : Aim) (ws ws' : List ℕ) : Type 0 where
  pub same : has_key known aim.key ≡ true → ws' ≡ ws
  pub none : has_key known aim.key ≡ false → (b : ℕ) → 256 * b < n → b < 4096 → get_or ws' b 0 ≡ 0
