-- Where links lead, as numbers that stand behind the importance of the links' entries.
use Rattle.std.specs.Prelude.{◌≡◌, ℕ, ◌+◌, ◌-◌, ◌/◌, ◌<◌, List, eqb, leb, length, replicate}
use Rattle.model.specs.Base.{pick, given}
use Rattle.model.specs.Drawing.{Value}
use Rattle.model.specs.Tables.{Tree, entry_word, attribute_id, element_by_id}
use Rattle.model.specs.Repair.{link_of, cut_name}
use Rattle.tree.specs.declared.Counts.{Counts}
use Rattle.model.specs.Theorems.Kept.{Tidy}
use Rattle.script.specs.declared.drawing.Drawing.{Drawing}
use Rattle.script.specs.Step.{Checked}
use Rattle.places.specs.declared.marks.Marks.{Marks}
use Rattle.places.specs.Marks.{Marked}
use Rattle.tree.specs.Lent.{tree_of, read_of}
use Rattle.ids.specs.declared.heads.Heads.{Heads}
use Rattle.ids.specs.Chains.{Indexed}

-- The tables, with as many zeros as there are bytes of text: the repairs read no text.
abbrev pub seen_of : List ℕ → List ℕ → Counts → Tree
seen_of ns es c = tree_of ns es (replicate c.text 0) c

-- The kind of reading by which the attribute of one of the passes 1 to 5 leads: a Paint's FuncIRI for patterns, else a FuncIRI.
abbrev pub pass_kind : ℕ → ℕ
pass_kind k = pick (leb k 2) (λ u. 3) (λ u. 2)

-- The mark of a link with that id: the index plus 2 of the element that it leads to. Where there is none it is 1 for an empty id, since a
-- pattern without an id has that one; else 0.
unfoldable pub mark_for : List ℕ → Tree → List ℕ → ℕ
mark_for chars t id =
    let w : ℕ = element_by_id chars t id in
    pick (eqb w 0) (λ u. pick (eqb (length id) 0) (λ v. 1) (λ v. 0)) (λ u. w + 1)

-- The mark of node m's link, by the attribute that pass k cuts; 0 where there is no link.
unfoldable pub mark_of : List ℕ → List Value → ℕ → Tree → ℕ → ℕ
mark_of chars values k t m = given (link_of chars values (pass_kind k) t (cut_name k) m) (λ v. mark_for chars t v.bytes) (λ u. 0)

-- What stands behind the importance of node m's attribute a; 0 where it is not there, or is a fixed value.
unfoldable pub stored_mark : Tree → ℕ → ℕ → ℕ
stored_mark t a m =
    let j : ℕ = attribute_id t m a in
    pick (eqb j 0) (λ u. 0) (λ u. pick (eqb (entry_word t (j - 1) 4) 0) (λ v. 0) (λ v. entry_word t (j - 1) 1 / 2))

-- For every node that is the mark of its link in pass k.
pub record Targeted (chars : List ℕ) (values : List Value) (k : ℕ) (t : Tree) : Type 0 where
  pub marks : (m : ℕ) → m < t.node_count → stored_mark t (cut_name k) m ≡ mark_of chars values k t m

-- What setting marks asks: a drawing that check takes, marks of its script, tables that are tidy beside its characters, heads of the chains
-- of their ids, and so few nodes that a mark has room behind a word of importance.
pub record Markable (drawing : Drawing) (marks : Marks) (heads : Heads) (ns es : List ℕ) (c : Counts) : Type 0 where
  pub checked : Checked drawing
  pub marked : Marked drawing marks
  pub tidy : Tidy (length drawing.characters.now) (seen_of ns es c)
  pub indexed : Indexed drawing.characters.now (read_of ns es) heads c.nodes
  pub few : c.nodes < 1073741824
