-- Elements (document 01, section 5): `parse_svg_element` whole.
use Rattle.std.specs.Prelude.{ℕ, ◌+◌, ◌-◌, Bool, true, false, not, List, [], ◌∷◌, ◌++◌, eqb, leb, ltb, length}
use Rattle.std.proofs.Math.Option.{Option, none, some}
use Rattle.model.specs.Base.{pick, and, or, given, folded, same_bytes, among_words, Pair, ◌gives◌}
use Rattle.model.specs.Names.{is_attribute, is_presentation, is_inheritable, allows_inherit_value, is_declared_only, inherit_default}
use Rattle.model.specs.Names.{font_resets, image_rendering_words}
use Rattle.model.specs.EId
use Rattle.model.specs.AId
use Rattle.model.specs.Drawing.{Part, Value, Attribute, Declaration, Element, reading_of}
use Rattle.model.specs.Tables.{Tree, Entry, fixed_entry, entry_at, attribute_id, holder_of, node_room, attribute_room, add_element, Out}
use Rattle.model.specs.Tables.{refused, done}

-- The bytes of `inherit`.
abbrev pub inherit_word : List ℕ
inherit_word = 105 ∷ 110 ∷ 104 ∷ 101 ∷ 114 ∷ 105 ∷ 116 ∷ []

-- The number that stands for `marker` among declarations.
abbrev pub marker : ℕ
marker = 254

module _ (t : Tree) (p : ℕ) where
  -- The node that a value `inherit` is taken from, its index plus 1: the nearest of p and its ancestors, or p alone.
  unfoldable pub inherited_from : ℕ → ℕ
  inherited_from a = pick (is_inheritable a) (λ u. holder_of t a p) (λ u. p + 1)

  -- The copy of that node's attribute, if it has one.
  abbrev pub copy_from : ℕ → ℕ → Option Entry
  copy_from a w =
      let j : ℕ = pick (eqb w 0) (λ u. 0) (λ u. attribute_id t (w - 1) a) in
      pick (eqb j 0) (λ u. none) (λ u. some (entry_at t (j - 1)))

  -- The fixed value with that number and importance 0; 0 drops the attribute.
  abbrev pub default_of : ℕ → ℕ → Option Entry
  default_of a n = pick (eqb n 0) (λ u. none) (λ u. some (fixed_entry a 0 n))

  -- `resolve_inherit`
  unfoldable pub resolve_inherit : ℕ → Option Entry
  resolve_inherit a = given (copy_from a (inherited_from a)) (λ e. some e) (λ u. default_of a (inherit_default a))

  -- `append_attribute`: the entry for a value under a command, if there is to be one. The element has the name `tag`.
  unfoldable pub append_attribute : ℕ → ℕ → ℕ → Part → ℕ → Option Entry
  append_attribute tag a i v c =
      pick (or (or (eqb a AId.Style) (eqb a AId.Class)) (and (eqb tag EId.Tspan) (eqb a AId.Href))) (λ u. none)
      (λ u. pick (and (allows_inherit_value a) (same_bytes v.bytes inherit_word)) (λ w. resolve_inherit a)
      (λ w. some (record { name = a; important = i; start = v.start; size = v.size; command = c })))

-- THE ATTRIBUTES

-- Is the attribute taken at all? In a used element an id is not.
unfoldable pub is_taken : Bool → Attribute → Bool
is_taken ignore_ids x =
    and (and (leb x.namespace 3) (is_attribute x.name))
    (and (not (and ignore_ids (eqb x.name AId.Id)))
    (and (not (is_declared_only x.name))
    (and (not (and (eqb x.name AId.ImageRendering) (among_words x.value.part.bytes image_rendering_words)))
    (not (and (eqb x.name AId.Href) (not (or (eqb x.namespace 0) (eqb x.namespace 2))))))))

-- Has one of the entries that name?
unfoldable pub has_entry : ℕ → List Entry → Bool
has_entry a [] = false
has_entry a (e ∷ es) = pick (eqb e.name a) (λ u. true) (λ u. has_entry a es)

-- The first entry with that name made anew; the others are kept.
unfoldable pub on_first : (Entry → Entry) → ℕ → List Entry → List Entry
on_first f a [] = []
on_first f a (e ∷ es) = pick (eqb e.name a) (λ u. f e ∷ es) (λ u. e ∷ on_first f a es)

-- The entry with another value and its command.
abbrev pub with_value : Value → Entry → Entry
with_value v e = record { name = e.name; important = e.important; start = v.part.start; size = v.part.size; command = v.command }

-- A kept href: an unprefixed one overwrites its value, an XLink one is skipped.
abbrev pub overwrite_href : Attribute → List Entry → List Entry
overwrite_href x es = pick (eqb x.namespace 0) (λ u. on_first (with_value x.value) AId.Href es) (λ u. es)

-- The entries with one more, where there is one.
abbrev pub with_more : List Entry → Option Entry → List Entry
with_more es none = es
with_more es (some e) = es ++ (e ∷ [])

-- One attribute: `es` are the element's entries so far.
unfoldable pub add_attribute : Tree → ℕ → ℕ → Bool → List Entry → Attribute → List Entry
add_attribute t p tag ignore_ids es x =
    pick (not (is_taken ignore_ids x)) (λ u. es)
    (λ u. pick (and (eqb x.name AId.Href) (has_entry AId.Href es)) (λ v. overwrite_href x es)
    (λ v. with_more es (append_attribute t p tag x.name 0 x.value.part x.value.command)))

-- THE DECLARATIONS

-- What stands of a new entry and an old one of the same name: the new one, unless the old one is important, even if both are.
abbrev pub standing : Entry → Entry → Entry
standing new old = pick (eqb old.important 0) (λ u. new) (λ u. old)

-- `insert_attribute` with what `append_attribute` gave for that name; a dropped one leaves the entries as they are.
unfoldable pub insert_entry : ℕ → List Entry → Option Entry → List Entry
insert_entry a es none = es
insert_entry a es (some e) = pick (has_entry a es) (λ u. on_first (standing e) a es) (λ u. es ++ (e ∷ []))

-- The kinds of reading that are parts of a font, in the order in which they are set, and the name of each.
unfoldable pub font_parts : List Pair
font_parts =
    5 gives AId.FontStretch ∷ 6 gives AId.FontWeight ∷ 7 gives AId.FontVariant ∷ 8 gives AId.FontStyle ∷ 9 gives AId.FontSize ∷
    10 gives AId.FontFamily ∷ []

module _ (t : Tree) (p : ℕ) (tag : ℕ) (d : Declaration) where
  -- `insert_attribute` of a value under the declaration's command.
  abbrev pub insert_attribute : List Entry → ℕ → Part → List Entry
  insert_attribute es a v = insert_entry a es (append_attribute t p tag a d.important v d.value.command)

  -- One of the resets of a font declaration: a fixed value with the declaration's importance.
  abbrev pub reset_to : List Entry → Pair → List Entry
  reset_to es r = insert_entry r.key es (some (fixed_entry r.key d.important r.value))

  -- A part of a font declaration, where there is a reading of that kind.
  abbrev pub insert_part : List Entry → Pair → List Entry
  insert_part es k = given (reading_of k.key d.value.readings) (λ v. insert_attribute es k.value v) (λ u. es)

  -- Is there a reading of that kind?
  abbrev pub is_read : ℕ → Bool
  is_read k = given (reading_of k d.value.readings) (λ v. true) (λ u. false)

  -- `write_declaration`
  unfoldable pub write_declaration : List Entry → List Entry
  write_declaration es =
      pick (eqb d.name marker)
      (λ u. folded (λ es a. insert_attribute es a d.value.part) es (AId.MarkerStart ∷ AId.MarkerMid ∷ AId.MarkerEnd ∷ []))
      (λ u. pick (eqb d.name AId.Font)
      (λ v. pick (and (is_read 9) (is_read 10)) (λ w. folded insert_part (folded reset_to es font_resets) font_parts) (λ w. es))
      (λ v. pick (is_presentation d.name) (λ w. insert_attribute es d.name d.value.part) (λ w. es)))

-- THE ELEMENT

-- The entries of an element below p that is to have the name `tag`: attributes, then declarations.
unfoldable pub entries_of : Tree → ℕ → ℕ → Bool → Element → List Entry
entries_of t p tag ignore_ids e =
    folded (λ es d. write_declaration t p tag d es) (folded (add_attribute t p tag ignore_ids) [] e.attributes) e.declarations

-- The nodes that may be present before an element is appended.
abbrev pub most_nodes : ℕ
most_nodes = 1000000

-- `parse_svg_element`: no entry left is 23, too many nodes 20, no record left 22, in this order.
unfoldable pub parse_svg_element : Element → ℕ → Bool → ℕ → Tree → Out Tree
parse_svg_element e tag ignore_ids p t =
    let es : List Entry = entries_of t p tag ignore_ids e in
    pick (leb (t.attribute_count + length es) (attribute_room t))
    (λ u. pick (leb t.node_count most_nodes)
    (λ v. pick (ltb t.node_count (node_room t)) (λ w. done (add_element tag es p t)) (λ w. refused 22)) (λ v. refused 20))
    (λ u. refused 23)
