-- Drawings with known results: one table of cases, the starred ones among them. The claim that the definitions give them is `starred`
-- in proofs/Cases.antt.
use Rattle.std.specs.Prelude.{ℕ, zero, suc, ◌+◌, ◌-◌, Bool, true, false, List, [], ◌∷◌, ◌++◌, eqb, length}
use Prim.Native.Char.{code}
use Prim.Native.String.{String}
use Rattle.model.specs.Base.{pick, same_bytes}
use Rattle.model.specs.EId
use Rattle.model.specs.AId
use Rattle.model.specs.Drawing.{Event, events, children_from}
use Rattle.model.specs.Tables.{Tree, Out, refused, done, TEXT, ELEMENT, kind_of, code_of, text_of, attribute_id, has_attribute}
use Rattle.model.specs.Tables.{value_at_entry, node_room, rooted, cleared}
use Rattle.model.specs.Parse.{Ops, each, node}
use Rattle.model.specs.Build.{Result, build}
use Rattle.model.specs.Base
use Rattle.model.specs.Names
use Rattle.model.specs.Utf8
use Rattle.model.specs.Drawing
use Rattle.model.specs.Check
use Rattle.model.specs.Tables
use Rattle.model.specs.Element
use Rattle.model.specs.Text
use Rattle.model.specs.Repair
use Rattle.model.specs.Build

-- WRITING A DRAWING

-- The bytes of a text in ASCII.
unfoldable pub ascii : String → List ℕ
ascii String.[] = []
ascii (String.◌∷◌ c s) = code c ∷ ascii s

-- Some commands, and the characters that they take.
pub record Piece : Type 0 where
  pub script : List ℕ
  pub chars : List ℕ

-- A length below 256 as a u32.
abbrev pub short : ℕ → List ℕ
short n = n ∷ 0 ∷ 0 ∷ 0 ∷ []

-- One piece after another.
unfoldable pub joined_pieces : List Piece → Piece
joined_pieces [] = record { script = []; chars = [] }
joined_pieces (p ∷ ps) = let q : Piece = joined_pieces ps in record { script = p.script ++ q.script; chars = p.chars ++ q.chars }

-- An element of that name and namespace with what stands in it.
abbrev pub element_in : ℕ → ℕ → List Piece → Piece
element_in n c ps = let q : Piece = joined_pieces ps in record { script = (1 ∷ c ∷ n ∷ []) ++ q.script ++ (7 ∷ []); chars = q.chars }

-- The same in SVG.
abbrev pub el : ℕ → List Piece → Piece
el c ps = element_in 1 c ps

-- An attribute of that namespace and name.
abbrev pub attr_in : ℕ → ℕ → String → Piece
attr_in n a s = record { script = 2 ∷ a ∷ n ∷ short (length (ascii s)); chars = ascii s }

-- An attribute in no namespace.
abbrev pub attr : ℕ → String → Piece
attr a s = attr_in 0 a s

-- A declaration: its name and its importance.
abbrev pub decl : ℕ → ℕ → String → Piece
decl a i s = record { script = 3 ∷ a ∷ i ∷ short (length (ascii s)); chars = ascii s }

-- A reading of that kind: offset and length.
abbrev pub read : ℕ → ℕ → ℕ → Piece
read k o l = record { script = (4 ∷ k ∷ []) ++ short o ++ short l; chars = [] }

-- A text.
abbrev pub say : String → Piece
say s = record { script = 5 ∷ short (length (ascii s)); chars = ascii s }

-- A comment.
abbrev pub comment : Piece
comment = record { script = 6 ∷ []; chars = [] }

-- WHAT IS LOOKED AT

-- From the first node on: the texts of the text nodes, the values of an attribute in the elements that have it, the names of the elements.
pub data Look : Type 0 where
  texts : Look
  values : ℕ → Look
  names : Look

-- One more in front, if the test passes.
abbrev pub with_first : Bool → (Unit {0} → List ℕ) → List (List ℕ) → List (List ℕ)
with_first b x r = pick b (λ u. x tt ∷ r) (λ u. r)

-- What is seen in the n nodes from i on.
unfoldable pub seen_from : Look → List ℕ → Tree → ℕ → ℕ → List (List ℕ)
seen_from l chars t i zero = []
seen_from texts chars t i (suc n) = with_first (eqb (kind_of t i) TEXT) (λ u. text_of t i) (seen_from texts chars t (i + 1) n)
seen_from (values a) chars t i (suc n) =
    with_first (has_attribute t i a) (λ u. value_at_entry chars t (attribute_id t i a)) (seen_from (values a) chars t (i + 1) n)
seen_from names chars t i (suc n) = with_first (eqb (kind_of t i) ELEMENT) (λ u. code_of t i ∷ []) (seen_from names chars t (i + 1) n)

-- What is seen in a build, or its number where it is refused.
abbrev pub seen : Look → Result → List (List ℕ)
seen l r =
    pick (eqb r.number 0) (λ u. seen_from l r.characters r.tree 0 r.tree.node_count) (λ u. (r.number ∷ []) ∷ [])

-- A drawing, what is looked at in its build, and what is wanted there.
pub record Case : Type 0 where
  pub drawing : Piece
  pub look : Look
  pub wanted : List (List ℕ)

-- Room for twelve nodes, twelve attributes and 24 bytes of text.
abbrev pub given-room : Piece → Result
given-room d = build d.script d.chars 96 60 24

-- Are two lists of strings the same?
unfoldable pub same_lists : List (List ℕ) → List (List ℕ) → Bool
same_lists [] [] = true
same_lists [] (y ∷ ys) = false
same_lists (x ∷ xs) [] = false
same_lists (x ∷ xs) (y ∷ ys) = pick (same_bytes x y) (λ u. same_lists xs ys) (λ u. false)

-- Does a case come out as wanted?
unfoldable pub comes_out : Case → Bool
comes_out c = same_lists (seen c.look (given-room c.drawing)) c.wanted

-- Do all?
unfoldable pub all_come_out : List Case → Bool
all_come_out [] = true
all_come_out (c ∷ cs) = pick (comes_out c) (λ u. all_come_out cs) (λ u. false)

-- THE TABLE

-- A drawing with these pieces in its `svg`.
abbrev pub svg : List Piece → Piece
svg ps = el EId.Svg ps

-- The table of cases; a star marks those that document 01 marks.
unfoldable pub cases : List Case
cases =
    -- * One text " a " becomes "a"; with preserve it remains " a ".
    record { drawing = svg (el EId.Text (say " a " ∷ []) ∷ []); look = texts; wanted = ascii "a" ∷ [] } ∷
    record { drawing = svg (el EId.Text (attr_in 3 AId.Space "preserve" ∷ say " a " ∷ []) ∷ []); look = texts; wanted = ascii " a " ∷ [] } ∷
    -- A newline becomes a space; it is not removed.
    record { drawing = svg (el EId.Text (say "a\nb" ∷ []) ∷ []); look = texts; wanted = ascii "a b" ∷ [] } ∷
    -- * Two texts: both edges at one step, only the first is trimmed.
    record {
      drawing = svg (el EId.Text (say " a" ∷ el EId.Tspan (say "b " ∷ []) ∷ []) ∷ []);
      look = texts;
      wanted = ascii "a" ∷ ascii "b " ∷ [];
    } ∷
    -- * fill red important, then fill blue important: red.
    record { drawing = svg (decl AId.Fill 1 "red" ∷ decl AId.Fill 1 "blue" ∷ []); look = values AId.Fill; wanted = ascii "red" ∷ [] } ∷
    -- * Attribute fill red, then declaration fill blue: blue.
    record { drawing = svg (attr AId.Fill "red" ∷ decl AId.Fill 0 "blue" ∷ []); look = values AId.Fill; wanted = ascii "blue" ∷ [] } ∷
    -- * xlink:href #a and href #b, in either order: #b.
    record { drawing = svg (attr_in 2 AId.Href "#a" ∷ attr AId.Href "#b" ∷ []); look = values AId.Href; wanted = ascii "#b" ∷ [] } ∷
    record { drawing = svg (attr AId.Href "#b" ∷ attr_in 2 AId.Href "#a" ∷ []); look = values AId.Href; wanted = ascii "#b" ∷ [] } ∷
    -- * stroke inherit with no holder above: fixed none. color inherit likewise: no attribute.
    record { drawing = svg (attr AId.Stroke "inherit" ∷ []); look = values AId.Stroke; wanted = ascii "none" ∷ [] } ∷
    record { drawing = svg (attr AId.Color "inherit" ∷ []); look = values AId.Color; wanted = [] } ∷
    -- * A `use` of the `g` around it gains no child.
    record {
      drawing = svg (el EId.G (attr AId.Id "a" ∷ el EId.Use (attr AId.Href "#a" ∷ read 1 1 1 ∷ []) ∷ []) ∷ []);
      look = names;
      wanted = (EId.Svg ∷ []) ∷ (EId.G ∷ []) ∷ (EId.Use ∷ []) ∷ [];
    } ∷
    -- * `clipPath` c with clip-path url(#c): none.
    record {
      drawing = svg (el EId.ClipPath (attr AId.Id "c" ∷ attr AId.ClipPath "url(#c)" ∷ read 2 5 1 ∷ []) ∷ []);
      look = values AId.ClipPath;
      wanted = ascii "none" ∷ [];
    } ∷
    -- * tref to an element holding "ab": text "ab".
    record {
      drawing =
          svg (el EId.Text (el EId.Tref (attr_in 2 AId.Href "#b" ∷ read 1 1 1 ∷ []) ∷ []) ∷
          el EId.G (attr AId.Id "b" ∷ say "ab" ∷ []) ∷ []);
      look = texts;
      wanted = ascii "ab" ∷ [];
    } ∷
    -- Of two elements with one id, use takes the first: a `rect` here, the `clipPath` comes later.
    record {
      drawing =
          svg (el EId.Rect (attr AId.Id "c" ∷ []) ∷ el EId.ClipPath (attr AId.Id "c" ∷ []) ∷
          el EId.Use (attr AId.Href "#c" ∷ read 1 1 1 ∷ []) ∷ []);
      look = names;
      wanted = (EId.Svg ∷ []) ∷ (EId.Rect ∷ []) ∷ (EId.ClipPath ∷ []) ∷ (EId.Use ∷ []) ∷ (EId.Rect ∷ []) ∷ [];
    } ∷
    -- And a link of the tree leads to the last: the `clipPath` leads to itself.
    record {
      drawing =
          svg (el EId.Rect (attr AId.Id "c" ∷ []) ∷ el EId.ClipPath (attr AId.Id "c" ∷ attr AId.ClipPath "url(#c)" ∷ read 2 5 1 ∷ []) ∷ []);
      look = values AId.ClipPath;
      wanted = ascii "none" ∷ [];
    } ∷
    -- The importance of an inherited value is kept: a later declaration yields to it.
    record {
      drawing = svg (decl AId.Fill 1 "red" ∷ el EId.G (attr AId.Fill "inherit" ∷ decl AId.Fill 0 "blue" ∷ []) ∷ []);
      look = values AId.Fill;
      wanted = ascii "red" ∷ ascii "red" ∷ [];
    } ∷
    []

-- DEPTH

-- Operations that only count nodes.
abbrev pub counting : Ops ℕ
counting = record
    { element = λ e c i p n. done (n + 1); text = λ e from p n. done (n + 1); finish = λ e n. n; count = λ n. n; parent = λ i n. 0 }

-- n groups, each in the one before, with the pieces in the innermost.
unfoldable pub nested : ℕ → Piece → Piece
nested zero p = p
nested (suc n) p = element_in 1 EId.G (nested n p ∷ [])

-- The number of what came out.
abbrev pub number_out : Out ℕ → ℕ
number_out (refused k) = k
number_out (done n) = 0

-- The number that a drawing gets where that many levels are built and every room is endless.
unfoldable pub number_within : ℕ → Piece → ℕ
number_within levels d =
    let all : List Event = events d.script d.chars in
    number_out (each (node counting all levels) (children_from zero all) 0 false 0 0)

-- The number for a comment at depth n, where that many levels are built.
unfoldable pub comment_at : ℕ → ℕ → ℕ
comment_at levels n = number_within levels (svg (nested (n - 1) comment ∷ []))

-- A `use` in that namespace of the element with that id.
abbrev pub use_of : ℕ → String → Piece
use_of n id =
    element_in n EId.Use
    (record { script = (2 ∷ AId.Href ∷ 0 ∷ short (length (ascii id) + 1)); chars = 35 ∷ ascii id } ∷ read 1 1 (length (ascii id)) ∷ [])

-- A `use` in that namespace of the `g` around it.
unfoldable pub uses_itself : ℕ → Piece
uses_itself n = svg (el EId.G (attr AId.Id "a" ∷ use_of n "a" ∷ []) ∷ [])

-- Two groups, each with a `use` of the other.
unfoldable pub use_each_other : Piece
use_each_other = svg (el EId.G (attr AId.Id "a" ∷ use_of 1 "b" ∷ []) ∷ el EId.G (attr AId.Id "b" ∷ use_of 1 "a" ∷ []) ∷ [])

-- COMPUTING

-- Whoever unfolds this unfolds every definition, so that a drawing is computed.
unfoldable pub computed : Unit {0}
unfolding ascii joined_pieces seen_from same_lists comes_out all_come_out cases nested number_within comment_at uses_itself use_each_other
    Base.among
    Base.same_bytes Base.among_words
    Base.paired_with Names.is_element Names.is_attribute Names.is_presentation Names.is_non_inheritable Names.allows_inherit_value
    Names.is_possible_none Names.is_declared_only Names.is_inheritable Names.inherit_defaults Names.inherit_default Names.font_resets
    Names.fixed_values Names.fixed_bytes Names.image_rendering_words Utf8.well_formed Utf8.begins Utf8.sequence_of Utf8.is_utf8_from
    Utf8.is_utf8
    Utf8.code_point Utf8.white_spaces Utf8.is_within_any Utf8.is_blank_from Utf8.is_blank Drawing.operands Drawing.word_at Drawing.whole
    Drawing.command Drawing.commands_from Drawing.commands Drawing.part_at Drawing.readings_at Drawing.value_at Drawing.attributes_at
    Drawing.declarations_at Drawing.element_at Drawing.events_from Drawing.events Drawing.children_from Drawing.texts_in Drawing.uses_in
    Drawing.attribute_in Drawing.reading_of Drawing.use_href Drawing.tref_href Drawing.has_id Drawing.first_with_id Drawing.has_tag_name
    Drawing.quoted Drawing.leads_back Drawing.use_target Drawing.text_numbered Drawing.is_in_style Drawing.values_in Drawing.readings_of
    Check.starting Check.first_of Check.is_half_font Check.tests_of Check.tests_at_end Check.stepped Check.check_from Check.check
    Tables.next_linked Tables.first_linked Tables.linked Tables.appended Tables.entries_words Tables.entry_at Tables.value_of
    Tables.find_entry Tables.attribute_id Tables.attribute_of Tables.holder_from Tables.has_id_bytes Tables.last_with_id
    Tables.element_by_id
    Tables.node_room Tables.attribute_room Tables.text_room Tables.cleared Tables.rooted Tables.add_element Tables.add_text Tables.text_of
    Tables.set_text Tables.set_none Element.inherited_from Element.resolve_inherit Element.append_attribute Element.is_taken
    Element.has_entry
    Element.on_first Element.add_attribute Element.insert_entry Element.font_parts Element.write_declaration Element.entries_of
    Element.parse_svg_element Text.get_xmlspace Text.space_of Text.converted Text.trim_text_after Text.trim_text Text.total_size Text.joined
    Text.append_text Text.cut_text Text.run Text.depth_below Text.text_nodes Text.own_text_nodes Text.pairs Text.trimming
    Text.trim_text_nodes
    Repair.up_from Repair.all_named Repair.below_from Repair.descendants Repair.first_found Repair.readings_of_attribute Repair.element_id
    Repair.paints_with Repair.node_attribute Repair.recursive_pattern_at Repair.find_recursive_pattern Repair.recursive_link_at
    Repair.find_recursive_link Repair.any_reading Repair.recursive_fe_image Repair.fe_image_links Repair.cut_name Repair.cut_at
    Repair.apply_cut
    Repair.applied Repair.next_cut Repair.cuts_from Repair.cuts_of Repair.cuts_of_all Repair.repairs Repair.repaired Build.with_root
    Build.parsed Build.first_is_svg Build.tested Build.parse_tree Build.build Build.exchanged Build.exchange_fault Build.changed
    Build.exchange
computed = tt
