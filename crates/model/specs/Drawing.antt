-- The drawing (document 01, section 2): the commands of a script, and the XML nodes that they and the characters stand for.
use Rattle.std.specs.Prelude.{ℕ, zero, suc, ◌+◌, ◌*◌, Bool, true, false, not, List, [], ◌∷◌, ◌++◌, map, eqb, leb, length, get_or, take}
use Rattle.std.proofs.Math.Option.{Option, none, some}
use Rattle.std.proofs.Math.Seq.{slice}
use Rattle.model.specs.Base.{pick, and, or, given, or_else, among, same_bytes}
use Rattle.model.specs.Names.{is_element}
use Rattle.model.specs.EId
use Rattle.model.specs.AId

-- THE COMMANDS

-- A command with its operands.
pub data Command : Type 0 where
  opening : ℕ → ℕ → Command  -- 1: element, namespace
  attribute : ℕ → ℕ → ℕ → Command  -- 2: name, namespace, length
  declaration : ℕ → ℕ → ℕ → Command  -- 3: name, important, length
  reading : ℕ → ℕ → ℕ → Command  -- 4: kind, offset, length
  text : ℕ → Command  -- 5: length
  other : Command  -- 6: a comment or other node
  closing : Command  -- 7
  broken : ℕ → Command  -- a byte outside 1 to 7, or one whose operands are cut off

-- How many bytes the operands of a command byte take.
unfoldable pub operands : ℕ → ℕ
operands b = get_or (0 ∷ 2 ∷ 6 ∷ 6 ∷ 9 ∷ 4 ∷ 0 ∷ 0 ∷ []) b 0

-- The u32 at an offset, little-endian.
unfoldable pub word_at : List ℕ → ℕ → ℕ
word_at bs k = get_or bs k 0 + 256 * get_or bs (k + 1) 0 + 65536 * get_or bs (k + 2) 0 + 16777216 * get_or bs (k + 3) 0

-- The command whose first byte is b, with its operands at the beginning of bs.
unfoldable pub whole : ℕ → List ℕ → Command
whole b bs =
    pick (eqb b 1) (λ u. opening (get_or bs 0 0) (get_or bs 1 0))
    (λ u. pick (eqb b 2) (λ v. attribute (get_or bs 0 0) (get_or bs 1 0) (word_at bs 2))
    (λ v. pick (eqb b 3) (λ w. declaration (get_or bs 0 0) (get_or bs 1 0) (word_at bs 2))
    (λ w. pick (eqb b 4) (λ x. reading (get_or bs 0 0) (word_at bs 1) (word_at bs 5))
    (λ x. pick (eqb b 5) (λ y. text (word_at bs 0))
    (λ y. pick (eqb b 6) (λ z. other) (λ z. pick (eqb b 7) (λ z. closing) (λ z. broken b)))))))

-- The same where all the operands are there.
unfoldable pub command : ℕ → List ℕ → Command
command b bs = pick (leb (operands b) (length (take (operands b) bs))) (λ u. whole b bs) (λ u. broken b)

-- Nothing follows a broken command.
abbrev pub follow : Command → (Unit {0} → List Command) → List Command
follow (opening c n) r = opening c n ∷ r tt
follow (attribute a n l) r = attribute a n l ∷ r tt
follow (declaration a i l) r = declaration a i l ∷ r tt
follow (reading k o l) r = reading k o l ∷ r tt
follow (text l) r = text l ∷ r tt
follow other r = other ∷ r tt
follow closing r = closing ∷ r tt
follow (broken b) r = broken b ∷ []

-- The commands behind the next n bytes.
unfoldable pub commands_from : ℕ → List ℕ → List Command
commands_from n [] = []
commands_from (suc n) (b ∷ bs) = commands_from n bs
commands_from zero (b ∷ bs) = follow (command b bs) (λ u. commands_from (operands b) bs)

-- The commands of a script, up to its end or to one that is broken.
unfoldable pub commands : List ℕ → List Command
commands script = commands_from 0 script

-- THE XML NODES

-- A string of the characters: where it begins, its length, its bytes.
pub record Part : Type 0 where
  pub start : ℕ
  pub size : ℕ
  pub bytes : List ℕ

-- What the host has read in a value.
pub record Reading : Type 0 where
  pub kind : ℕ
  pub part : Part

-- The value of an attribute or of a declaration, with the number of its command.
pub record Value : Type 0 where
  pub command : ℕ
  pub part : Part
  pub readings : List Reading

-- An attribute: the code of its name, its namespace, its value.
pub record Attribute : Type 0 where
  pub name : ℕ
  pub namespace : ℕ
  pub value : Value

-- A declaration: the code of its name, its importance, its value.
pub record Declaration : Type 0 where
  pub name : ℕ
  pub important : ℕ
  pub value : Value

-- An XML element. Two elements are the same if the numbers of their commands are; the document itself has the number 0.
pub record Element : Type 0 where
  pub number : ℕ
  pub code : ℕ
  pub namespace : ℕ
  pub attributes : List Attribute
  pub declarations : List Declaration

-- A text of the script: its number among the texts, from 1, and its place in the characters.
pub record Source : Type 0 where
  pub number : ℕ
  pub start : ℕ
  pub size : ℕ

-- The XML document in its order. A node of it is a suffix of the list, which begins with the node's own event.
pub data Event : Type 0 where
  begin : Element → Event
  text : Source → Event
  other : Event  -- a comment or other node
  close : Event

-- How far the decoding is: the commands, the characters and the texts so far.
pub record Mark : Type 0 where
  pub number : ℕ
  pub at : ℕ
  pub texts : ℕ

-- The characters that a command takes.
abbrev pub taken : Command → ℕ
taken (opening c n) = 0
taken (attribute a n l) = l
taken (declaration a i l) = l
taken (reading k o l) = 0
taken (Command.text l) = l
taken Command.other = 0
taken closing = 0
taken (broken b) = 0

-- The texts that a command counts as.
abbrev pub counted : Command → ℕ
counted (opening c n) = 0
counted (attribute a n l) = 0
counted (declaration a i l) = 0
counted (reading k o l) = 0
counted (Command.text l) = 1
counted Command.other = 0
counted closing = 0
counted (broken b) = 0

-- The mark behind a command.
abbrev pub past : Mark → Command → Mark
past m c = record { number = m.number + 1; at = m.at + taken c; texts = m.texts + counted c }

module _ (chars : List ℕ) where
  -- The n characters from a on.
  unfoldable pub part_at : ℕ → ℕ → Part
  part_at a n = record { start = a; size = n; bytes = slice a (a + n) chars }

  -- The readings that follow a value which begins at a.
  unfoldable pub readings_at : ℕ → List Command → List Reading
  readings_at a [] = []
  readings_at a (reading k o l ∷ cs) = record { kind = k; part = part_at (a + o) l } ∷ readings_at a cs
  readings_at a (opening c n ∷ cs) = []
  readings_at a (attribute b n l ∷ cs) = []
  readings_at a (declaration b i l ∷ cs) = []
  readings_at a (Command.text l ∷ cs) = []
  readings_at a (Command.other ∷ cs) = []
  readings_at a (closing ∷ cs) = []
  readings_at a (broken b ∷ cs) = []

  -- The value of l characters of the command at the mark, with cs behind it.
  unfoldable pub value_at : Mark → ℕ → List Command → Value
  value_at m l cs = record { command = m.number + 1; part = part_at m.at l; readings = readings_at m.at cs }

  -- The attributes of the element whose open stands before cs.
  unfoldable pub attributes_at : Mark → List Command → List Attribute
  attributes_at m [] = []
  attributes_at m (attribute a n l ∷ cs) =
      record { name = a; namespace = n; value = value_at m l cs } ∷ attributes_at (past m (attribute a n l)) cs
  attributes_at m (reading k o l ∷ cs) = attributes_at (past m (reading k o l)) cs
  attributes_at m (opening c n ∷ cs) = []
  attributes_at m (declaration a i l ∷ cs) = []
  attributes_at m (Command.text l ∷ cs) = []
  attributes_at m (Command.other ∷ cs) = []
  attributes_at m (closing ∷ cs) = []
  attributes_at m (broken b ∷ cs) = []

  -- Its declarations, which stand behind the attributes.
  unfoldable pub declarations_at : Mark → List Command → List Declaration
  declarations_at m [] = []
  declarations_at m (attribute a n l ∷ cs) = declarations_at (past m (attribute a n l)) cs
  declarations_at m (declaration a i l ∷ cs) =
      record { name = a; important = i; value = value_at m l cs } ∷ declarations_at (past m (declaration a i l)) cs
  declarations_at m (reading k o l ∷ cs) = declarations_at (past m (reading k o l)) cs
  declarations_at m (opening c n ∷ cs) = []
  declarations_at m (Command.text l ∷ cs) = []
  declarations_at m (Command.other ∷ cs) = []
  declarations_at m (closing ∷ cs) = []
  declarations_at m (broken b ∷ cs) = []

  -- The element that is opened at the mark, with cs behind its open.
  unfoldable pub element_at : Mark → ℕ → ℕ → List Command → Element
  element_at m c n cs = record {
    number = m.number + 1;
    code = c;
    namespace = n;
    attributes = attributes_at (past m (opening c n)) cs;
    declarations = declarations_at (past m (opening c n)) cs;
  }

  -- The text of l characters at the mark.
  abbrev pub source_at : Mark → ℕ → Source
  source_at m l = record { number = m.texts + 1; start = m.at; size = l }

  -- The events of the commands behind a mark.
  unfoldable pub events_from : Mark → List Command → List Event
  events_from m [] = []
  events_from m (opening c n ∷ cs) = begin (element_at m c n cs) ∷ events_from (past m (opening c n)) cs
  events_from m (attribute a n l ∷ cs) = events_from (past m (attribute a n l)) cs
  events_from m (declaration a i l ∷ cs) = events_from (past m (declaration a i l)) cs
  events_from m (reading k o l ∷ cs) = events_from (past m (reading k o l)) cs
  events_from m (Command.text l ∷ cs) = text (source_at m l) ∷ events_from (past m (Command.text l)) cs
  events_from m (Command.other ∷ cs) = other ∷ events_from (past m Command.other) cs
  events_from m (closing ∷ cs) = close ∷ events_from (past m closing) cs
  events_from m (broken b ∷ cs) = []

-- The XML document of a script and its characters.
unfoldable pub events : List ℕ → List ℕ → List Event
events script chars = events_from chars (record { number = 0; at = 0; texts = 0 }) (commands script)

-- WALKS

-- The children of the element whose inside begins here, or the nodes of the top level; k counts the elements open below a child.
unfoldable pub children_from : ℕ → List Event → List (List Event)
children_from k [] = []
children_from zero (begin e ∷ xs) = (begin e ∷ xs) ∷ children_from 1 xs
children_from (suc k) (begin e ∷ xs) = children_from (suc (suc k)) xs
children_from zero (text a ∷ xs) = (text a ∷ xs) ∷ children_from zero xs
children_from (suc k) (text a ∷ xs) = children_from (suc k) xs
children_from zero (other ∷ xs) = (other ∷ xs) ∷ children_from zero xs
children_from (suc k) (other ∷ xs) = children_from (suc k) xs
children_from zero (close ∷ xs) = []
children_from (suc k) (close ∷ xs) = children_from k xs

-- The texts inside the element whose inside begins here, at any depth.
unfoldable pub texts_in : ℕ → List Event → List Source
texts_in k [] = []
texts_in k (begin e ∷ xs) = texts_in (suc k) xs
texts_in k (text a ∷ xs) = a ∷ texts_in k xs
texts_in k (other ∷ xs) = texts_in k xs
texts_in zero (close ∷ xs) = []
texts_in (suc k) (close ∷ xs) = texts_in k xs

-- Is the element a `use` in the SVG namespace?
abbrev pub is_use : Element → Bool
is_use e = and (eqb e.code EId.Use) (eqb e.namespace 1)

-- The `use`s in the SVG namespace inside the element whose inside begins here, at any depth.
unfoldable pub uses_in : ℕ → List Event → List Element
uses_in k [] = []
uses_in k (begin e ∷ xs) = pick (is_use e) (λ u. e ∷ uses_in (suc k) xs) (λ u. uses_in (suc k) xs)
uses_in k (text a ∷ xs) = uses_in k xs
uses_in k (other ∷ xs) = uses_in k xs
uses_in zero (close ∷ xs) = []
uses_in (suc k) (close ∷ xs) = uses_in k xs

-- The value of the first attribute with that name in that namespace.
unfoldable pub attribute_in : ℕ → ℕ → List Attribute → Option Value
attribute_in n a [] = none
attribute_in n a (x ∷ xs) =
    pick (and (eqb x.namespace n) (eqb x.name a)) (λ u. some x.value) (λ u. attribute_in n a xs)

-- The first reading of a kind.
unfoldable pub reading_of : ℕ → List Reading → Option Part
reading_of k [] = none
reading_of k (r ∷ rs) = pick (eqb r.kind k) (λ u. some r.part) (λ u. reading_of k rs)

-- The id that a value leads to: its IRI, kind 1.
abbrev pub iri_of : Option Value → Option Part
iri_of v = given v (λ x. reading_of 1 x.readings) (λ u. none)

-- `resolve_href`: use reads its unprefixed href first, then its XLink one.
unfoldable pub use_href : Element → Option Part
use_href e = iri_of (or_else (attribute_in 0 AId.Href e.attributes) (attribute_in 2 AId.Href e.attributes))

-- tref reads its XLink href first.
unfoldable pub tref_href : Element → Option Part
tref_href e = iri_of (or_else (attribute_in 2 AId.Href e.attributes) (attribute_in 0 AId.Href e.attributes))

-- Has the element an unprefixed id, and the first one is this?
unfoldable pub has_id : List ℕ → Element → Bool
has_id id e = given (attribute_in 0 AId.Id e.attributes) (λ v. same_bytes v.part.bytes id) (λ u. false)

-- The first element with that unprefixed id, in the order of the document; nothing where there is none.
unfoldable pub first_with_id : List ℕ → List Event → List Event
first_with_id id [] = []
first_with_id id (begin e ∷ xs) = pick (has_id id e) (λ u. begin e ∷ xs) (λ u. first_with_id id xs)
first_with_id id (text a ∷ xs) = first_with_id id xs
first_with_id id (other ∷ xs) = first_with_id id xs
first_with_id id (close ∷ xs) = first_with_id id xs

-- The element that a link leads to.
abbrev pub linked_by : List Event → Option Part → List Event
linked_by all href = given href (λ p. first_with_id p.bytes all) (λ u. [])

-- `parse_tag_name` gives a name: the namespace is none or SVG, and the name one of the list.
unfoldable pub has_tag_name : Element → Bool
has_tag_name e = and (leb e.namespace 1) (is_element e.code)

-- The texts that a tref quotes: all texts inside the SVG element that it leads to.
abbrev pub quoted_from : List Event → List Source
quoted_from [] = []
quoted_from (begin e ∷ xs) = pick (has_tag_name e) (λ u. texts_in zero xs) (λ u. [])
quoted_from (text a ∷ xs) = []
quoted_from (other ∷ xs) = []
quoted_from (close ∷ xs) = []

-- `resolve_tref_text`
unfoldable pub quoted : List Event → Element → List Source
quoted all e = quoted_from (linked_by all (tref_href e))

-- The element that a node is, if it is one.
abbrev pub number_of : List Event → ℕ
number_of [] = 0
number_of (begin e ∷ xs) = e.number
number_of (text a ∷ xs) = 0
number_of (other ∷ xs) = 0
number_of (close ∷ xs) = 0

-- Does one of the `use`s lead to the element numbered n or m?
unfoldable pub leads_back : List Event → ℕ → ℕ → List Element → Bool
leads_back all n m [] = false
leads_back all n m (e ∷ es) =
    pick (among (number_of (linked_by all (use_href e))) (n ∷ m ∷ [])) (λ u. true) (λ u. leads_back all n m es)

-- May the `use` e, met with that origin, copy the element l whose inside begins at xs?
abbrev pub may_copy : List Event → Element → ℕ → Element → List Event → Bool
may_copy all e origin l xs =
    and (and (has_tag_name l) (not (or (eqb l.number e.number) (eqb l.number origin))))
    (not (leads_back all e.number l.number (uses_in zero xs)))

-- The node that it leads to, if it may be copied.
abbrev pub copied : List Event → Element → ℕ → List Event → List Event
copied all e origin [] = []
copied all e origin (begin l ∷ xs) = pick (may_copy all e origin l xs) (λ u. begin l ∷ xs) (λ u. [])
copied all e origin (text a ∷ xs) = []
copied all e origin (other ∷ xs) = []
copied all e origin (close ∷ xs) = []

-- `parse_svg_use_element`: the node that the `use` e copies, nothing where it copies none.
unfoldable pub use_target : List Event → Element → ℕ → List Event
use_target all e origin = copied all e origin (linked_by all (use_href e))

-- The text with that number.
unfoldable pub text_numbered : ℕ → List Event → Option Source
text_numbered t [] = none
text_numbered t (begin e ∷ xs) = text_numbered t xs
text_numbered t (text a ∷ xs) = pick (eqb a.number t) (λ u. some a) (λ u. text_numbered t xs)
text_numbered t (other ∷ xs) = text_numbered t xs
text_numbered t (close ∷ xs) = text_numbered t xs

-- Does the text with that number stand inside an element named style? k counts the open elements from the outermost style on.
unfoldable pub is_in_style : ℕ → ℕ → List Event → Bool
is_in_style t k [] = false
is_in_style t zero (begin e ∷ xs) = pick (eqb e.code EId.Style) (λ u. is_in_style t 1 xs) (λ u. is_in_style t zero xs)
is_in_style t (suc k) (begin e ∷ xs) = is_in_style t (suc (suc k)) xs
is_in_style t zero (text a ∷ xs) = is_in_style t zero xs
is_in_style t (suc k) (text a ∷ xs) = pick (eqb a.number t) (λ u. true) (λ u. is_in_style t (suc k) xs)
is_in_style t k (other ∷ xs) = is_in_style t k xs
is_in_style t zero (close ∷ xs) = is_in_style t zero xs
is_in_style t (suc k) (close ∷ xs) = is_in_style t k xs

-- The values of a document, in its order.
unfoldable pub values_in : List Event → List Value
values_in [] = []
values_in (begin e ∷ xs) = map (λ a. a.value) e.attributes ++ map (λ d. d.value) e.declarations ++ values_in xs
values_in (text a ∷ xs) = values_in xs
values_in (other ∷ xs) = values_in xs
values_in (close ∷ xs) = values_in xs

-- The readings of the value with that command; a fixed value, with command 0, has none.
unfoldable pub readings_of : ℕ → List Value → List Reading
readings_of n [] = []
readings_of n (v ∷ vs) = pick (eqb v.command n) (λ u. v.readings) (λ u. readings_of n vs)
