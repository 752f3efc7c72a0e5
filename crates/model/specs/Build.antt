-- The operations build and exchange (document 01, sections 6 and 7): complete results for every input.
use Rattle.std.specs.Prelude.{ℕ, zero, ◌-◌, Bool, false, not, List, [], ◌∷◌, eqb, ltb, length}
use Rattle.std.proofs.lemmas.List.Edits.{sets}
use Rattle.model.specs.Base.{pick, given}
use Rattle.model.specs.EId
use Rattle.model.specs.Utf8.{is_utf8}
use Rattle.model.specs.Drawing.{Source, Event, events, children_from, values_in, text_numbered, is_in_style}
use Rattle.model.specs.Check.{check, ◌if◌, first_of}
use Rattle.model.specs.Tables.{Tree, Out, refused, done, then, first_child_of, is_named, node_room, cleared, rooted}
use Rattle.model.specs.Parse.{Ops, each, node, plain}
use Rattle.model.specs.Repair.{repaired}

-- The root: no record left is 22.
unfoldable pub with_root : Tree → Out Tree
with_root t = pick (ltb 0 (node_room t)) (λ u. done (rooted t)) (λ u. refused 22)

-- The nodes of the top level, at depth 0, below the root, by any operations on the state.
unfoldable pub parsed : {S : Type 0} → Ops S → List Event → S → Out S
parsed o all s = each (node o all 1025) (children_from zero all) 0 false 0 s

-- Is the first element there, and is it `svg`?
unfoldable pub first_is_svg : Tree → Bool
first_is_svg t = let w : ℕ = first_child_of t 0 in pick (eqb w 0) (λ u. false) (λ u. is_named t EId.Svg (w - 1))

-- Everything built, the first element must be there and be `svg`: else 21.
unfoldable pub tested : Tree → Out Tree
tested t = pick (first_is_svg t) (λ u. done t) (λ u. refused 21)

-- `parse` up to the repairs, by these operations, of a drawing that check takes, with tables that are cleared.
unfoldable pub parse_tree : Ops Tree → List Event → Tree → Out Tree
parse_tree o all t = then (with_root t) (λ r. then (parsed o all r) tested)

-- The same with the repairs of the tree that it gives.
abbrev pub with_repairs : List ℕ → List Event → Out Tree → Out Tree
with_repairs chars all o = then o (λ t. done (repaired chars (values_in all) t))

-- The answer of an operation, and what it leaves in the tables and the characters. The counts are in the tree.
pub record Result : Type 0 where
  pub number : ℕ
  pub characters : List ℕ
  pub tree : Tree

-- A refused build clears all three tables and gives counts of 0.
abbrev pub answered : List ℕ → Tree → Out Tree → Result
answered chars empty (refused k) = record { number = k; characters = chars; tree = empty }
answered chars empty (done t) = record { number = 0; characters = chars; tree = t }

-- build, with tables of n and m words and b bytes.
unfoldable pub build : List ℕ → List ℕ → ℕ → ℕ → ℕ → Result
build script chars n m b =
    let k : ℕ = check script chars in
    let empty : Tree = cleared n m b in
    let all : List Event = events script chars in
    answered chars empty (pick (eqb k 0) (λ u. with_repairs chars all (parse_tree (plain chars) all empty)) (λ u. refused k))

-- EXCHANGE

-- The characters with other bytes for one text.
unfoldable pub exchanged : Source → List ℕ → List ℕ → List ℕ
exchanged a new chars = sets chars a.start new

-- 31, 32 and 33 for a text that is there.
abbrev pub text_fault : List Event → Source → List ℕ → ℕ
text_fault all a new =
    first_of (31 if is_in_style a.number zero all ∷ 32 if not (eqb (length new) a.size) ∷ 33 if not (is_utf8 new) ∷ [])

-- The numbers that touch nothing: check's, 30 for no such text, and the text's.
unfoldable pub exchange_fault : List ℕ → List ℕ → ℕ → List ℕ → ℕ
exchange_fault script chars number new =
    let k : ℕ = check script chars in
    let all : List Event = events script chars in
    pick (eqb k 0) (λ u. given (text_numbered number all) (λ a. text_fault all a new) (λ v. 30)) (λ u. k)

-- The characters of the changed drawing.
unfoldable pub changed : List ℕ → List ℕ → ℕ → List ℕ → List ℕ
changed script chars number new = given (text_numbered number (events script chars)) (λ a. exchanged a new chars) (λ u. chars)

-- Where the build of the changed drawing is refused, the characters stay.
abbrev pub settled : List ℕ → Result → Result
settled chars r = pick (eqb r.number 0) (λ u. r) (λ u. record { number = r.number; characters = chars; tree = r.tree })

-- exchange, with tables that hold ns, ats and ts. A refusal that touches nothing leaves them; the counts are 0.
unfoldable pub exchange : List ℕ → List ℕ → ℕ → List ℕ → List ℕ → List ℕ → List ℕ → Result
exchange script chars number new ns ats ts =
    let k : ℕ = exchange_fault script chars number new in
    pick (eqb k 0)
    (λ u. settled chars (build script (changed script chars number new) (length ns) (length ats) (length ts)))
    (λ u. record {
      number = k;
      characters = chars;
      tree = record { nodes = ns; attributes = ats; text = ts; node_count = 0; attribute_count = 0; text_count = 0 };
    })
