-- The entries of an element, as they stand in the tree: an attribute question reads the entry that stands by the cascade.
use Rattle.std.specs.Prelude.{ℕ, suc, ◌+◌, ◌-◌, ◌*◌, ◌≤◌, ◌<◌, ◌≡◌, Bool, true, false, List, [], ◌∷◌, eqb, leb, ltb, get_or}
use Rattle.std.proofs.Math.Path.{refl}
use Rattle.std.proofs.Common.{sym, ap, ◌∙◌, subst, ne_eqb, leb-true}
use Rattle.std.proofs.lemmas.Bool.{false≢true}
use Rattle.std.proofs.Math.Option.{none, some}
use native.Mathlib.Omega.{arith}
use Rattle.std.proofs.Math.ListN.{length}
use Rattle.model.specs.Base.{pick, and, same_bytes, among}
use Rattle.model.specs.Names.{is_presentation, allows_inherit_value}
use Rattle.model.specs.EId
use Rattle.model.specs.AId
use Rattle.model.specs.Drawing.{Part, Declaration, Element}
use Rattle.model.specs.Tables.{Tree, Out, refused, done, ELEMENT, word, Entry, entries_words, entry_word, entry_at, find_entry}
use Rattle.model.specs.Tables.{attribute_id}
use Rattle.model.specs.Tables.{node_room, attribute_room, add_element}
use Rattle.model.specs.Element.{inherit_word, resolve_inherit, append_attribute, entries_of, most_nodes, parse_svg_element}
use Rattle.model.proofs.Theorems.Laws.{appended-new, room_fits}
use Rattle.model.proofs.Theorems.Agree.{sets-in}
use Rattle.model.proofs.Theorems.Entries.{entries-long}
use Rattle.standards.proofs.Theorems.Inheritance.{own_entry}
use Rattle.standards.specs.Theorems.Cascade.{kept}
use Rattle.standards.proofs.Theorems.Cascade.{entry_of, is_important, longhand, all_applying, value-stands}

-- The entries from j on are these.
abbrev Stored : Tree → ℕ → List Entry → Type 0
Stored t j [] = Unit {0}
Stored t j (e ∷ es) = (entry_at t j ≡ e) × Stored t (j + 1) es

stored-words : (t : Tree) (es : List Entry) (j : ℕ) →
    ((w : ℕ) → w < 5 * length es → get_or t.attributes (5 * j + w) 0 ≡ get_or (entries_words es) w 0) → Stored t j es
unfolding entries_words entry_at
stored-words t [] j h = tt
stored-words t (e ∷ es) j h = (
  λ x. record {
    name = h 0 (omega arith) x;
    important = h 1 (omega arith) x;
    start = h 2 (omega arith) x;
    size =
        h 3 (omega arith) x;
    command = h 4 (omega arith) x;
  },
  stored-words t es (j + 1) (λ w l. ap (λ k. get_or t.attributes k 0) (place w) ∙ h (suc (suc (suc (suc (suc w))))) (omega arith)),
)
  where
    place : (w : ℕ) → 5 * (j + 1) + w ≡ 5 * j + suc (suc (suc (suc (suc w))))
    place w = omega arith

at_name : (t : Tree) (j : ℕ) (e : Entry) → entry_at t j ≡ e → entry_word t j 0 ≡ e.name
unfolding entry_at
at_name t j e h = ap (λ (x : Entry). x.name) h

-- What is found by name among stored entries is the entry of that name.
find-stored : (t : Tree) (a : ℕ) (es : List Entry) (j : ℕ) → Stored t j es →
    pick (eqb (find_entry t a j (length es)) 0) (λ u. none) (λ u. some (entry_at t (find_entry t a j (length es) - 1))) ≡ entry_of a es
unfolding find_entry entry_of
find-stored t a [] j h = refl
find-stored t a (e ∷ es) j h = rw (at_name t j e h.0) (go (eqb e.name a) (find-stored t a es (j + 1) h.1))
  where
    go : (b : Bool) → pick (eqb (find_entry t a (j + 1) (length es)) 0) (λ u. none)
        (λ u. some (entry_at t (find_entry t a (j + 1) (length es) - 1))) ≡ entry_of a es →
        pick (eqb (pick b (λ u. j + 1) (λ u. find_entry t a (j + 1) (length es))) 0) (λ u. none)
        (λ u. some (entry_at t (pick b (λ u. j + 1) (λ u. find_entry t a (j + 1) (length es)) - 1)))
        ≡ pick b (λ u. some e) (λ u. entry_of a es)
    go true r = let z : j + 1 - 1 ≡ j = omega arith in rw (ne_eqb (j + 1) 0 (omega arith), z) (ap (λ x. some x) h.0)
    go false r = r

module _ (c : ℕ) (es : List Entry) (p : ℕ) (t : Tree) (room : 8 * t.node_count + 8 ≤ length t.nodes)
    (space : 5 * (t.attribute_count + length es) ≤ length t.attributes) where
  new-stored : Stored (add_element c es p t) t.attribute_count es
  unfolding add_element
  new-stored = stored-words (add_element c es p t) es t.attribute_count (λ w l.
      sets-in (entries_words es) t.attributes (5 * t.attribute_count) w (omega (arith, entries-long es)) (omega (arith, entries-long es)))

  element-word : (k : ℕ) → k < 8 → (2 ≤ k → k ≤ 4 → ⊥) → word (add_element c es p t).nodes t.node_count k
      ≡ get_or (ELEMENT ∷ (p + 1) ∷ 0 ∷ 0 ∷ 0 ∷ c ∷ t.attribute_count ∷ (t.attribute_count + length es) ∷ []) k 0
  unfolding add_element
  element-word k b h = appended-new ELEMENT c t.attribute_count (t.attribute_count + length es) t.nodes p t.node_count k room b h

  found_at : (a : ℕ) → attribute_id (add_element c es p t) t.node_count a
      ≡ find_entry (add_element c es p t) a t.attribute_count (length es)
  unfolding attribute_id
  found_at a =
      let z : t.attribute_count + length es - t.attribute_count ≡ length es = omega arith in
      rw (
        element-word 0 (omega arith) (λ x y. omega arith),
        element-word 6 (omega arith) (λ x y. omega arith),
        element-word 7 (omega arith) (λ x y. omega arith),
        z,
      ) refl

  -- The new element has, for each name, the entry of that name.
  entry-in-tree : (a : ℕ) → own_entry (add_element c es p t) a t.node_count ≡ entry_of a es
  unfolding own_entry
  entry-in-tree a = rw (found_at a) (find-stored (add_element c es p t) a es t.attribute_count new-stored)

-- What a step made, or else s.
abbrev outcome : Tree → Out Tree → Tree
outcome s (refused k) = s
outcome s (done q) = q

-- Was something made?
abbrev is_done : Out Tree → Bool
is_done (refused k) = false
is_done (done q) = true

-- THEOREM, IN THE TREE. An element that is built below p, with the name `tag` in the tree: the entry that the tree has for any name is the
-- first important one of what applies, else the last. (Repairs later set some of them to none.)
pub tree-value-stands : (x : Element) (tag : ℕ) (g : Bool) (p : ℕ) (t q : Tree) → parse_svg_element x tag g p t ≡ done q →
    (a : ℕ) → own_entry q a t.node_count ≡ kept is_important (all_applying t p tag g a x)
unfolding parse_svg_element attribute_room
tree-value-stands x tag g p t q h a = first (leb (t.attribute_count + length es) (attribute_room t)) refl h
  where
    es : List Entry
    es = entries_of t p tag g x

    third : 5 * (t.attribute_count + length es) ≤ length t.attributes → (b : Bool) → ltb t.node_count (node_room t) ≡ b →
        pick b (λ u. done (add_element tag es p t)) (λ u. refused 22) ≡ done q →
        own_entry q a t.node_count ≡ kept is_important (all_applying t p tag g a x)
    third l true r k = subst (λ (s : Tree). own_entry s a t.node_count ≡ kept is_important (all_applying t p tag g a x)) (ap (outcome t) k)
        (entry-in-tree tag es p t (room_fits t r) l a ∙ value-stands t p tag g a x)
    third l false r k = absurd (false≢true (ap is_done k))

    second : 5 * (t.attribute_count + length es) ≤ length t.attributes → (b : Bool) →
        pick b (λ u. pick (ltb t.node_count (node_room t)) (λ w. done (add_element tag es p t)) (λ w. refused 22)) (λ u. refused 20)
        ≡ done q →
        own_entry q a t.node_count ≡ kept is_important (all_applying t p tag g a x)
    second l true k = third l (ltb t.node_count (node_room t)) refl k
    second l false k = absurd (false≢true (ap is_done k))

    first : (b : Bool) → leb (t.attribute_count + length es) (attribute_room t) ≡ b →
        pick b (λ u. pick (leb t.node_count most_nodes) (λ v. pick (ltb t.node_count (node_room t))
        (λ w. done (add_element tag es p t)) (λ w. refused 22)) (λ v. refused 20))
        (λ u. refused 23) ≡ done q → own_entry q a t.node_count ≡ kept is_important (all_applying t p tag g a x)
    first true r k = second (omega (arith, leb-true (t.attribute_count + length es) (attribute_room t) r)) (leb t.node_count most_nodes) k
    first false r k = absurd (false≢true (ap is_done k))

-- IMPORTANCE

-- A presentation name is none that is not.
pub not-name : (a k : ℕ) → is_presentation a ≡ true → is_presentation k ≡ false → eqb a k ≡ false
not-name a k h n = ne_eqb a k (λ e. false≢true (sym n ∙ subst (λ (b : ℕ). is_presentation b ≡ true) e h))

-- style, class and href are none.
pub no_such : (is_presentation AId.Style ≡ false) × (is_presentation AId.Class ≡ false) × (is_presentation AId.Href ≡ false)
unfolding is_presentation among
no_such = (refl, refl, refl)

-- A declaration of a presentation name whose value is not `inherit`, such as fill:red, comes to an entry with the declaration's own
-- importance: so what counts as important for the two rules is what is written in the drawing, and only `inherit` brings another one.
pub declared-importance : (t : Tree) (p tag : ℕ) (d : Declaration) (a : ℕ) (v : Part) → is_presentation a ≡ true →
    same_bytes v.bytes inherit_word ≡ false →
    (longhand t p tag d a v).entry ≡ some (record {
      name = a;
      important = d.important;
      start = v.start;
      size = v.size;
      command =
          d.value.command;
    })
unfolding append_attribute
declared-importance t p tag d a v h n =
    simp (not-name a AId.Style h no_such.0, not-name a AId.Class h no_such.1, not-name a AId.Href h no_such.2, n)
    (go (eqb tag EId.Tspan) (allows_inherit_value a))
  where
    go : (x y : Bool) → pick (and x false) (λ u. none) (λ u. pick (and y false) (λ w. resolve_inherit t p a)
        (λ w. some (record { name = a; important = d.important; start = v.start; size = v.size; command = d.value.command })))
        ≡ some (record { name = a; important = d.important; start = v.start; size = v.size; command = d.value.command })
    go true true = refl
    go true false = refl
    go false true = refl
    go false false = refl
