-- The four questions and the 40 test (document 01, sections 6 and 7). They change nothing.
-- The tables that are asked, of any content and length, with counts of any size, are a Tree.
use Rattle.std.specs.Prelude.{ℕ, zero, suc, ◌+◌, ◌-◌, ◌*◌, Bool, true, false, not, List, [], ◌∷◌, eqb, leb, ltb, length}
use Rattle.model.specs.Base.{pick, and, or}
use Rattle.model.specs.Names.{is_element, is_attribute, is_inheritable}
use Rattle.model.specs.Check.{◌if◌, first_of}
use Rattle.model.specs.Tables.{Tree, ROOT, ELEMENT, TEXT, kind_of, parent_of, next_sibling_of, first_child_of, last_child_of, code_of}
use Rattle.model.specs.Tables.{from_of}
use Rattle.model.specs.Tables.{to_of, Entry, entry_at, has_attribute, attribute_of, holder_of, element_by_id}

-- THE 40 TEST

-- Counts fit the slices, and there is at least one node.
abbrev pub counts_fit : Tree → Bool
counts_fit t =
    and (leb 1 t.node_count)
    (and (leb (8 * t.node_count) (length t.nodes)) (and (leb (5 * t.attribute_count) (length t.attributes))
    (leb t.text_count (length t.text))))

-- Record 0 alone is the root, parent 0; every other kind is 2 or 3 and its parent's index is smaller than its own.
abbrev pub is_placed : Tree → ℕ → Bool
is_placed t i =
    pick (eqb i 0) (λ u. and (eqb (kind_of t i) ROOT) (eqb (parent_of t i) 0))
    (λ u. and (or (eqb (kind_of t i) ELEMENT) (eqb (kind_of t i) TEXT)) (and (leb 1 (parent_of t i)) (leb (parent_of t i) i)))

-- A sibling or child of node i, given as its index plus 1: none, or larger than i within the count.
abbrev pub is_later : Tree → ℕ → ℕ → Bool
is_later t i w = or (eqb w 0) (and (leb (i + 2) w) (leb w t.node_count))

-- Siblings and children have larger indexes; first and last child are both given or both 0.
abbrev pub is_linked : Tree → ℕ → Bool
is_linked t i =
    and (and (is_later t i (next_sibling_of t i)) (and (is_later t i (first_child_of t i)) (is_later t i (last_child_of t i))))
    (pick (eqb (first_child_of t i) 0) (λ u. eqb (last_child_of t i) 0) (λ u. not (eqb (last_child_of t i) 0)))

-- The range of node i lies in order inside a table with n taken.
abbrev pub is_range : Tree → ℕ → ℕ → Bool
is_range t n i = and (leb (from_of t i) (to_of t i)) (leb (to_of t i) n)

-- Ranges lie in order inside their tables, and an element's code is in the list.
abbrev pub is_filled : Tree → ℕ → Bool
is_filled t i =
    pick (eqb (kind_of t i) ELEMENT) (λ u. and (is_element (code_of t i)) (is_range t t.attribute_count i))
    (λ u. or (not (eqb (kind_of t i) TEXT)) (is_range t t.text_count i))

-- All tests of record i.
abbrev pub is_node : Tree → ℕ → Bool
is_node t i = and (is_placed t i) (and (is_linked t i) (is_filled t i))

-- The code is in the list, and the value inside the characters or the fixed list.
abbrev pub is_entry : ℕ → Entry → Bool
is_entry size e =
    and (is_attribute e.name)
    (pick (eqb e.command 0) (λ u. and (and (leb 1 e.start) (leb e.start 18)) (eqb e.size 0))
    (λ u. leb (e.start + e.size) size))

-- Do all of the first n pass?
unfoldable pub all_below : (ℕ → Bool) → ℕ → Bool
all_below f zero = true
all_below f (suc n) = pick (f n) (λ u. all_below f n) (λ u. false)

-- The tables pass the 40 test.
unfoldable pub is_sound : List ℕ → Tree → Bool
is_sound chars t =
    pick (counts_fit t)
    (λ u. and (all_below (is_node t) t.node_count) (all_below (λ j. is_entry (length chars) (entry_at t j)) t.attribute_count))
    (λ u. false)

-- THE ANSWERS

-- A number, and an index if there is one; an index that means nothing is 0.
pub record Answer : Type 0 where
  pub number : ℕ
  pub found : Bool
  pub index : ℕ

-- The answer from an index plus 1, 0 for none.
abbrev pub answer_of : ℕ → Answer
answer_of w = pick (eqb w 0) (λ u. record { number = 0; found = false; index = 0 })
    (λ u. record { number = 0; found = true; index = w - 1 })

-- 40, 41 and 42, in that order.
unfoldable pub question_fault : List ℕ → Tree → ℕ → ℕ → ℕ
question_fault chars t i a = first_of (40 if not (is_sound chars t) ∷ 41 if leb t.node_count i ∷ 42 if not (is_attribute a) ∷ [])

-- What is asked for, an index plus 1, where no number stands against it.
abbrev pub unless : ℕ → (Unit {0} → ℕ) → Answer
unless k f = pick (eqb k 0) (λ u. answer_of (f tt)) (λ u. record { number = k; found = false; index = 0 })

-- The attribute question: the entry that `attribute` reads.
unfoldable pub attribute_question : List ℕ → Tree → ℕ → ℕ → Answer
attribute_question chars t i a = unless (question_fault chars t i a) (λ u. attribute_of chars t i a)

-- `parent_element`: the nearest element above, from the node whose index plus 1 is w up; its index plus 1.
unfoldable pub element_from : Tree → ℕ → ℕ → ℕ
element_from t zero w = 0
element_from t (suc n) w =
    pick (eqb w 0) (λ u. 0) (λ u. pick (eqb (kind_of t (w - 1)) ELEMENT) (λ v. w) (λ v. element_from t n (parent_of t (w - 1))))

-- The node itself or, for a name that is not inheritable, its parent element, if it has the attribute.
abbrev pub self_or_parent : Tree → ℕ → ℕ → ℕ
self_or_parent t i a =
    pick (has_attribute t i a) (λ u. i + 1)
    (λ u. let w : ℕ = element_from t i (parent_of t i) in
    pick (eqb w 0) (λ v. 0) (λ v. pick (has_attribute t (w - 1) a) (λ x. w) (λ x. 0)))

-- `find_attribute_impl`: the node that has the attribute, its index plus 1.
unfoldable pub find_attribute_impl : Tree → ℕ → ℕ → ℕ
find_attribute_impl t i a = pick (is_inheritable a) (λ u. holder_of t a i) (λ u. self_or_parent t i a)

-- The find attribute question: `find_attribute_impl`, and then `attribute` of the node found.
unfoldable pub find_attribute_question : List ℕ → Tree → ℕ → ℕ → Answer
find_attribute_question chars t i a =
    unless (question_fault chars t i a)
    (λ u. let w : ℕ = find_attribute_impl t i a in pick (eqb w 0) (λ v. 0) (λ v. attribute_of chars t (w - 1) a))

-- The element by id question.
unfoldable pub element_by_id_question : List ℕ → Tree → List ℕ → Answer
element_by_id_question chars t id = unless (first_of (40 if not (is_sound chars t) ∷ [])) (λ u. element_by_id chars t id)

-- A part of the text table.
pub record TextPart : Type 0 where
  pub start : ℕ
  pub size : ℕ

-- The empty part of the named cases.
abbrev pub empty_part : TextPart
empty_part = record { start = 0; size = 0 }

-- The text of node i, if it is a text node.
abbrev pub text_of_node : Tree → ℕ → TextPart
text_of_node t i = pick (eqb (kind_of t i) TEXT) (λ u. record { start = from_of t i; size = to_of t i - from_of t i }) (λ u. empty_part)

-- `text`: a text node's own text, or that of an element's first child if it is a text node.
abbrev pub text_at : Tree → ℕ → TextPart
text_at t i =
    pick (eqb (kind_of t i) ELEMENT)
    (λ u. pick (eqb (first_child_of t i) 0) (λ v. empty_part) (λ v. text_of_node t (first_child_of t i - 1))) (λ u. text_of_node t i)

-- The text question gives no number: the part is empty where the tables are broken or the node is past the end.
unfoldable pub text_question : List ℕ → Tree → ℕ → TextPart
text_question chars t i = pick (and (is_sound chars t) (ltb i t.node_count)) (λ u. text_at t i) (λ u. empty_part)
