-- Text (document 01, sections 4 and 6): spaces, text nodes and their places.
use Rattle.std.specs.Prelude.{ℕ, zero, suc, ◌+◌, ◌-◌, min, max, Bool, true, false, not, List, [], ◌∷◌, ◌++◌, eqb, leb, ltb, length, get_or}
use Rattle.std.proofs.Math.Option.{Option, none, some}
use Rattle.std.proofs.Math.Seq.{slice}
use Rattle.model.specs.Base.{pick, and, given, among, same_bytes}
use Rattle.model.specs.Utf8.{is_blank}
use Rattle.model.specs.AId
use Rattle.model.specs.Drawing.{Source}
use Rattle.model.specs.Tables.{Tree, Out, refused, done, TEXT, kind_of, parent_of, from_of, to_of, attribute_id, value_at_entry, holder_of}
use Rattle.model.specs.Tables.{node_room, text_room, add_text, text_of, set_text}

-- `XmlSpace`
pub data XmlSpace : Type 0 where
  default preserve : XmlSpace

-- The bytes of `preserve`.
abbrev pub preserve_word : List ℕ
preserve_word = 112 ∷ 114 ∷ 101 ∷ 115 ∷ 101 ∷ 114 ∷ 118 ∷ 101 ∷ []

-- Is it Default?
abbrev pub is_default : XmlSpace → Bool
is_default default = true
is_default preserve = false

-- `get_xmlspace`: what node i says itself, else w.
unfoldable pub get_xmlspace : List ℕ → Tree → ℕ → XmlSpace → XmlSpace
get_xmlspace chars t i w =
    let j : ℕ = attribute_id t i AId.Space in
    pick (eqb j 0) (λ u. w) (λ u. pick (same_bytes (value_at_entry chars t j) preserve_word) (λ v. preserve) (λ v. default))

-- The space that is handed down to node i. The Rust hands it from each element to its children, and an element that says `xml:space`
-- hands down its own; so what reaches node i is what the nearest of it and its ancestors says that says anything, and default where
-- none does. Here that one is searched for upward.
unfoldable pub space_of : List ℕ → Tree → ℕ → XmlSpace
space_of chars t i =
    let w : ℕ = holder_of t AId.Space i in
    pick (eqb w 0) (λ u. default) (λ u. get_xmlspace chars t (w - 1) default)

-- TRIM_TEXT

-- U+0020.
abbrev pub SPACE : ℕ
SPACE = 32

-- Carriage return, newline and tab become a space.
unfoldable pub converted : ℕ → ℕ
converted b = pick (among b (13 ∷ 10 ∷ 9 ∷ [])) (λ u. SPACE) (λ u. b)

-- `trim_text` behind a byte prev: Default drops a space after a space.
unfoldable pub trim_text_after : XmlSpace → ℕ → List ℕ → List ℕ
trim_text_after w prev [] = []
trim_text_after w prev (b ∷ bs) =
    let c : ℕ = converted b in
    pick (and (is_default w) (and (eqb c SPACE) (eqb c prev))) (λ u. trim_text_after w prev bs) (λ u. c ∷ trim_text_after w c bs)

-- `trim_text`: the Rust begins with the digit 0, byte 48, as the character before the first; any byte that is no space would do.
unfoldable pub trim_text : XmlSpace → List ℕ → List ℕ
trim_text w bs = trim_text_after w 48 bs

-- TEXT NODES

-- How many bytes the texts have together.
unfoldable pub total_size : List Source → ℕ
total_size [] = 0
total_size (a ∷ more) = a.size + total_size more

-- The bytes of the texts, one after another.
unfoldable pub joined : List ℕ → List Source → List ℕ
joined chars [] = []
joined chars (a ∷ more) = slice a.start (a.start + a.size) chars ++ joined chars more

-- A text node below p, made from these texts: text bytes lacking is 24, no record left 22.
unfoldable pub append_text : List ℕ → List Source → ℕ → Tree → Out Tree
append_text chars from p t =
    pick (leb (t.text_count + total_size from) (text_room t))
    (λ u. pick (ltb t.node_count (node_room t))
    (λ v. done (add_text (trim_text (space_of chars t p) (joined chars from)) (total_size from) p t)) (λ v. refused 22))
    (λ u. refused 24)

-- TRIM_TEXT_NODES

-- A trimming is a program that looks at the text of a node and cuts bytes off its ends: nothing else of the tables is within its reach.
pub data Trimming : Type 0 where
  stop : Trimming
  look : ℕ → (List ℕ → Trimming) → Trimming
  cut : ℕ → ℕ → ℕ → Trimming → Trimming  -- the node, bytes in front, bytes at the end

-- Where the text from `from` to `to` begins without f bytes in front, as far as it has them.
abbrev pub cut_from : ℕ → ℕ → ℕ → ℕ
cut_from from to f = min (from + f) to

-- Where it ends then, without b bytes at the end, as far as it has them.
abbrev pub cut_to : ℕ → ℕ → ℕ → ℕ → ℕ
cut_to from to f b = max (cut_from from to f) (to - b)

-- The tree with that cut made.
unfoldable pub cut_text : ℕ → ℕ → ℕ → Tree → Tree
cut_text i f b t = set_text i (cut_from (from_of t i) (to_of t i) f) (cut_to (from_of t i) (to_of t i) f b) t

-- The tree that a program leaves.
unfoldable pub run : Trimming → Tree → Tree
run stop t = t
run (look i k) t = run (k (text_of t i)) t
run (cut i f b k) t = run k (cut_text i f b t)

-- A text node of the text element, its depth below it, and the space that its parent says, else the text element's.
pub record TextNode : Type 0 where
  pub node : ℕ
  pub depth : ℕ
  pub space : XmlSpace

-- How many elements stand between node i and the text element e above it. n bounds the steps: a parent has a smaller index than
-- its child, so that i steps are enough.
unfoldable pub depth_below : Tree → ℕ → ℕ → ℕ → ℕ
depth_below t e zero i = 0
depth_below t e (suc n) i = pick (eqb (parent_of t i) (e + 1)) (λ u. 0) (λ u. suc (depth_below t e n (parent_of t i - 1)))

-- `collect_text_nodes`: the text nodes among the n nodes from i on.
unfoldable pub text_nodes : List ℕ → Tree → XmlSpace → ℕ → ℕ → ℕ → List TextNode
text_nodes chars t w e i zero = []
text_nodes chars t w e i (suc n) =
    pick (eqb (kind_of t i) TEXT)
    (λ u. record { node = i; depth = depth_below t e i i; space = get_xmlspace chars t (parent_of t i - 1) w } ∷
    text_nodes chars t w e (i + 1) n)
    (λ u. text_nodes chars t w e (i + 1) n)

-- Those of the text element e, where there are n nodes. It is the last one built, so that all nodes behind it stand under it, in tree
-- order.
unfoldable pub own_text_nodes : List ℕ → Tree → XmlSpace → ℕ → ℕ → List TextNode
own_text_nodes chars t w e n = text_nodes chars t w e (e + 1) (n - (e + 1))

-- Is the first byte a space?
abbrev pub begins_with_space : List ℕ → Bool
begins_with_space [] = false
begins_with_space (b ∷ bs) = eqb b SPACE

-- Is the last byte a space?
abbrev pub ends_with_space : List ℕ → Bool
ends_with_space [] = false
ends_with_space (b ∷ bs) = eqb (get_or (b ∷ bs) (length bs) 0) SPACE

-- Is there no byte?
abbrev pub is_empty : List ℕ → Bool
is_empty [] = true
is_empty (b ∷ bs) = false

-- `remove_first_space`
abbrev pub remove_first_space : TextNode → Trimming → Trimming
remove_first_space a k = cut a.node 1 0 k

-- `remove_last_space`
abbrev pub remove_last_space : TextNode → Trimming → Trimming
remove_last_space a k = cut a.node 0 1 k

-- Do x where the test passes, and go on with k.
abbrev pub only_if : Bool → (Trimming → Trimming) → Trimming → Trimming
only_if b x k = pick b (λ u. x k) (λ u. k)

-- A text element with a single text node: a lone space is cleared, else a space goes at each edge.
abbrev pub single : TextNode → Trimming
single a = look a.node (λ v.
    pick (eqb (length v) 1) (λ u. only_if (begins_with_space v) (remove_last_space a) stop)
    (λ u. only_if (begins_with_space v) (remove_first_space a) (only_if (ends_with_space v) (remove_last_space a) stop)))

-- A pair of text nodes, a and b, whose texts were v and w before it. First the space between them.
abbrev pub between : Bool → TextNode → TextNode → List ℕ → List ℕ → Trimming → Trimming
between deeper a b v w k =
    pick deeper (λ u. only_if (and (begins_with_space w) (is_default b.space)) (remove_first_space b) k)
    (λ u. pick (and (and (ends_with_space v) (begins_with_space w)) (is_default b.space))
    (λ x. pick (is_default a.space) (λ y. remove_last_space a k) (λ y. remove_first_space b k)) (λ x. k))

-- Then a leading space of the first text node, or else a trailing space of the last one.
abbrev pub outer_spaces : Bool → Bool → TextNode → TextNode → List ℕ → List ℕ → Trimming → Trimming
outer_spaces is_first is_last a b v w k = look a.node (λ x. look b.node (λ y.
    pick (and (and is_first (begins_with_space v)) (and (is_default a.space) (not (is_empty x)))) (λ u. remove_first_space a k)
    (λ u. only_if (and (and is_last (ends_with_space w)) (and (not (is_empty y)) (is_default b.space))) (remove_last_space b) k)))

-- Then a trailing space of the first of a last pair whose second is empty.
abbrev pub last_edge : Bool → TextNode → TextNode → List ℕ → Trimming → Trimming
last_edge is_last a b v k = look a.node (λ x. look b.node (λ y.
    only_if (and (and is_last (ends_with_space v)) (and (is_empty y) (ends_with_space x))) (remove_last_space a) k))

-- One pair whole; `deeper` says that the second stands deeper than the first.
abbrev pub pair : Bool → Bool → Bool → TextNode → TextNode → Trimming → Trimming
pair deeper is_first is_last a b k = look a.node (λ v. look b.node (λ w.
    between deeper a b v w (outer_spaces is_first is_last a b v w (last_edge is_last a b v k))))

-- The node that stands for a in a pair: a text that is empty gives way to the last one before it that was not blank, if there is one.
abbrev pub stands_for : List ℕ → TextNode → Option TextNode → TextNode
stands_for v a last = pick (is_empty v) (λ u. given last (λ n. n) (λ w. a)) (λ u. a)

-- Is it the last pair?
abbrev pub is_nil : List TextNode → Bool
is_nil [] = true
is_nil (a ∷ more) = false

-- All pairs from a on; `last` is the last text before that was not blank, if there is one (`last_non_empty`).
unfoldable pub pairs : Bool → Option TextNode → TextNode → List TextNode → Trimming
pairs is_first last a [] = stop
pairs is_first last a (b ∷ more) = look a.node (λ v.
    let c : TextNode = stands_for v a last in
    pair (ltb a.depth b.depth) is_first (is_nil more) c b
    (look c.node (λ x. pairs false (pick (is_blank x) (λ u. last) (λ u. some c)) b more)))

-- The program for the text nodes of an element: none, a single one, or pairs.
unfoldable pub trimming : XmlSpace → List TextNode → Trimming
trimming w [] = stop
trimming w (a ∷ []) = pick (is_default w) (λ u. single a) (λ u. stop)
trimming w (a ∷ b ∷ more) = pairs true none a (b ∷ more)

-- `trim_text_nodes` of the text element e.
unfoldable pub trim_text_nodes : List ℕ → ℕ → Tree → Tree
trim_text_nodes chars e t =
    let w : XmlSpace = space_of chars t e in
    run (trimming w (own_text_nodes chars t w e t.node_count)) t
