-- What is read from two trees that share all but the bounds and bytes of texts, with characters that spell the same values, is the same.
use Prim.Native.Nat.{ℕ, zero, suc, ◌+◌, ◌-◌}
use Rattle.std.specs.Prelude.{◌≡◌, Bool, eqb}
use Rattle.std.proofs.Math.Path.{refl, ap}
use Rattle.std.proofs.Common.{◌∙◌, eqb-true}
use Rattle.std.proofs.Math.Bool.{true, false}
use mathlib.Core.List.{List, [], ◌∷◌}
use Rattle.std.proofs.Math.Option.{Option, none, some}
use Rattle.model.specs.Base.{pick, given, folded, Pair}
use Rattle.model.specs.Names.{font_resets}
use Rattle.model.specs.AId
use Rattle.model.specs.Drawing.{Part, Attribute, Declaration, Element, reading_of}
use Rattle.model.specs.Tables.{Tree, ELEMENT, kind_of, parent_of, from_of, to_of, is_named, Entry, entry_word}
use Rattle.model.specs.Tables.{entry_at, find_entry, attribute_id, value_at_entry, attribute_of, holder_from, has_id_bytes}
use Rattle.model.specs.Tables.{last_with_id, element_by_id}
use Rattle.model.specs.Element.{inherited_from, resolve_inherit, append_attribute, add_attribute, font_parts, insert_attribute, reset_to}
use Rattle.model.specs.Element.{insert_part, write_declaration, entries_of}
use Rattle.model.specs.Text.{XmlSpace, default, get_xmlspace, space_of, depth_below, text_nodes, own_text_nodes}
use Rattle.model.specs.Theorems.Same.{Same}

-- Folds by functions that do the same.
folded-same : {A B : Type 0} (f g : B → A → B) → ((b : B) (a : A) → f b a ≡ g b a) → (b : B) (xs : List A) → folded f b xs ≡ folded g b xs
folded-same f g h b [] = refl
folded-same f g h b (x ∷ xs) = ap (λ c. folded f c xs) (h b x) ∙ folded-same f g h (g b x) xs

module _ (one two : List ℕ) (s r : Tree) (h : Same one two s r) where
  word_same : (j k : ℕ) → entry_word s j k ≡ entry_word r j k
  word_same j k = rw h.attributes

  pub entry-same : (j : ℕ) → entry_at s j ≡ entry_at r j
  unfolding entry_at
  entry-same j = rw h.attributes

  pub value_same : (j : ℕ) → value_at_entry one s j ≡ value_at_entry two r j
  value_same j = rw (← entry-same (j - 1)) (h.safe (j - 1))

  find-same : (a j n : ℕ) → find_entry s a j n ≡ find_entry r a j n
  unfolding find_entry
  find-same a j zero = refl
  find-same a j (suc n) = rw (word_same j 0, find-same a (j + 1) n)

  pub attribute-id-same : (i a : ℕ) → attribute_id s i a ≡ attribute_id r i a
  unfolding attribute_id
  attribute-id-same i a = rw (← h.kind i) (go (eqb (kind_of s i) ELEMENT) (λ e. h.range i (eqb-true (kind_of s i) ELEMENT e)))
    where
      go : (b : Bool) → (b ≡ true → (from_of s i ≡ from_of r i) × (to_of s i ≡ to_of r i)) →
          pick b (λ u. find_entry s a (from_of s i) (to_of s i - from_of s i)) (λ u. 0)
          ≡ pick b (λ u. find_entry r a (from_of r i) (to_of r i - from_of r i)) (λ u. 0)
      go true f = rw ((f refl).0, (f refl).1) (find-same a (from_of r i) (to_of r i - from_of r i))
      go false f = refl

  pub attribute-of-same : (i a : ℕ) → attribute_of one s i a ≡ attribute_of two r i a
  unfolding attribute_of
  attribute-of-same i a = rw (attribute-id-same i a, value_same (attribute_id r i a))

  pub holder-same : (a n w : ℕ) → holder_from s a n w ≡ holder_from r a n w
  unfolding holder_from
  holder-same a zero w = refl
  holder-same a (suc n) w = rw (attribute-id-same (w - 1) a, h.parent (w - 1), holder-same a n (parent_of r (w - 1)))

  has-id-same : (id : List ℕ) (i : ℕ) → has_id_bytes one s id i ≡ has_id_bytes two r id i
  unfolding has_id_bytes
  has-id-same id i = rw (attribute-id-same i AId.Id, value_same (attribute_id r i AId.Id))

  last-same : (id : List ℕ) (n : ℕ) → last_with_id one s id n ≡ last_with_id two r id n
  unfolding last_with_id
  last-same id zero = refl
  last-same id (suc n) = rw (has-id-same id n, last-same id n)

  pub by-id-same : (id : List ℕ) → element_by_id one s id ≡ element_by_id two r id
  unfolding element_by_id
  by-id-same id = last-same id s.node_count ∙ ap (λ n. last_with_id two r id n) h.count

  pub named-same : (c i : ℕ) → is_named s c i ≡ is_named r c i
  named-same c i = rw (h.kind i, h.code i)

  -- ELEMENTS

  from-same : (p a : ℕ) → inherited_from s p a ≡ inherited_from r p a
  unfolding inherited_from
  from-same p a = rw (holder-same a (p + 1) (p + 1))

  resolve_same : (p a : ℕ) → resolve_inherit s p a ≡ resolve_inherit r p a
  unfolding resolve_inherit
  resolve_same p a = rw (from-same p a, attribute-id-same (inherited_from r p a - 1) a, entry-same (copied - 1))
    where
      copied : ℕ
      copied = pick (eqb (inherited_from r p a) 0) (λ u. 0) (λ u. attribute_id r (inherited_from r p a - 1) a)

  append-same : (p tag a i : ℕ) (v : Part) (c : ℕ) → append_attribute s p tag a i v c ≡ append_attribute r p tag a i v c
  unfolding append_attribute
  append-same p tag a i v c = rw (resolve_same p a)

  add_same : (p tag : ℕ) (g : Bool) (es : List Entry) (x : Attribute) → add_attribute s p tag g es x ≡ add_attribute r p tag g es x
  unfolding add_attribute
  add_same p tag g es x = rw (append-same p tag x.name 0 x.value.part x.value.command)

  insert-same : (p tag : ℕ) (d : Declaration) (es : List Entry) (a : ℕ) (v : Part) →
      insert_attribute s p tag d es a v ≡ insert_attribute r p tag d es a v
  insert-same p tag d es a v = rw (append-same p tag a d.important v d.value.command)

  part_same : (p tag : ℕ) (d : Declaration) (es : List Entry) (k : Pair) → insert_part s p tag d es k ≡ insert_part r p tag d es k
  part_same p tag d es k = go (reading_of k.key d.value.readings)
    where
      go : (o : Option Part) → given o (λ v. insert_attribute s p tag d es k.value v) (λ u. es)
          ≡ given o (λ v. insert_attribute r p tag d es k.value v) (λ u. es)
      go (some v) = insert-same p tag d es k.value v
      go none = refl

  write_same : (p tag : ℕ) (d : Declaration) (es : List Entry) → write_declaration s p tag d es ≡ write_declaration r p tag d es
  unfolding write_declaration
  write_same p tag d es = rw (
    folded-same (λ es a. insert_attribute s p tag d es a d.value.part) (λ es a. insert_attribute r p tag d es a d.value.part)
        (λ es a. insert-same p tag d es a d.value.part) es (AId.MarkerStart ∷ AId.MarkerMid ∷ AId.MarkerEnd ∷ []),
    folded-same (insert_part s p tag d) (insert_part r p tag d) (part_same p tag d) (folded (reset_to s p tag d) es font_resets) font_parts,
    insert-same p tag d es d.name d.value.part,
  )

  pub entries-same : (p tag : ℕ) (g : Bool) (e : Element) → entries_of s p tag g e ≡ entries_of r p tag g e
  unfolding entries_of
  entries-same p tag g e =
      folded-same (λ es d. write_declaration s p tag d es) (λ es d. write_declaration r p tag d es) (λ es d. write_same p tag d es) _
      e.declarations
      ∙ ap (λ es. folded (λ es d. write_declaration r p tag d es) es e.declarations)
      (folded-same (add_attribute s p tag g) (add_attribute r p tag g) (add_same p tag g) [] e.attributes)

  -- TEXTS

  pub get-space-same : (i : ℕ) (w : XmlSpace) → get_xmlspace one s i w ≡ get_xmlspace two r i w
  unfolding get_xmlspace
  get-space-same i w = rw (attribute-id-same i AId.Space, value_same (attribute_id r i AId.Space))

  pub space-same : (i : ℕ) → space_of one s i ≡ space_of two r i
  unfolding space_of
  space-same i = rw (holder-same AId.Space (i + 1) (i + 1), get-space-same (holder_from r AId.Space (i + 1) (i + 1) - 1) default)

  depth_same : (e n i : ℕ) → depth_below s e n i ≡ depth_below r e n i
  unfolding depth_below
  depth_same e zero i = refl
  depth_same e (suc n) i = rw (h.parent i, depth_same e n (parent_of r i - 1))

  text-nodes-same : (w : XmlSpace) (e i n : ℕ) → text_nodes one s w e i n ≡ text_nodes two r w e i n
  unfolding text_nodes
  text-nodes-same w e i zero = refl
  text-nodes-same w e i (suc n) =
      rw (h.kind i, h.parent i, depth_same e i i, get-space-same (parent_of r i - 1) w, text-nodes-same w e (i + 1) n)

  pub own-nodes-same : (w : XmlSpace) (e n : ℕ) → own_text_nodes one s w e n ≡ own_text_nodes two r w e n
  unfolding own_text_nodes
  own-nodes-same w e n = text-nodes-same w e _ _
