-- The cascade by the importance that is written in the drawing: for an element without `inherit` the value is the cascade's winner wherever
-- at most one declaration of the name is marked as important.
use Rattle.std.specs.Prelude.{ℕ, suc, ◌≤◌, ◌≡◌, Bool, not, eqb, length}
use Rattle.std.proofs.Math.Path.{refl, subst}
use Rattle.std.proofs.Common.{sym, ap, ◌∙◌}
use Rattle.std.proofs.Math.Bool.{true, false}
use Rattle.std.proofs.lemmas.Bool.{false≢true}
use mathlib.Core.List.{List, [], ◌∷◌, ◌++◌, map}
use Rattle.std.proofs.Math.Option.{Option, none, some}
use Rattle.model.specs.Base.{pick, and, or, given, or_else, same_bytes, among, Pair}
use Rattle.model.specs.Names.{is_presentation, allows_inherit_value, font_resets}
use Rattle.model.specs.EId
use Rattle.model.specs.AId
use Rattle.model.specs.Drawing.{Part, Reading, Attribute, Declaration, Element, reading_of}
use Rattle.model.specs.Tables.{Tree, Entry}
use Rattle.model.specs.Element.{inherit_word, marker, resolve_inherit, append_attribute, is_taken, font_parts, is_read, entries_of}
use Rattle.model.specs.Theorems.Sim.{Every}
use Rattle.standards.specs.CssCascade.{those, last_of, winner}
use Rattle.standards.proofs.Theorems.Cascade.{entry_of, is_important, Longhand, longhand, reset_longhand, part_longhands, written_out}
use Rattle.standards.proofs.Theorems.Cascade.{all_written_out, applying, as_list, attribute_entry, all_applying, value-wins}
use Rattle.standards.proofs.Theorems.Attributes.{first_made, attributes-first}
use Rattle.standards.proofs.Theorems.Stored.{not-name, no_such, declared-importance}

-- A value that is not `inherit`.
abbrev pub NotInherit : Part → Type 0
NotInherit v = same_bytes v.bytes inherit_word ≡ false

-- A declaration, and the parts that the host has read in it, are not.
abbrev pub PlainDeclaration : Declaration → Type 0
PlainDeclaration d = NotInherit d.value.part × Every (λ (r : Reading). NotInherit r.part) d.value.readings

-- An attribute is not.
abbrev pub PlainAttribute : Attribute → Type 0
PlainAttribute x = NotInherit x.value.part

-- Is a longhand marked as important in the drawing?
abbrev pub is_marked : Longhand → Bool
is_marked l = not (eqb l.important 0)

-- The longhands of a name, dropped ones too.
abbrev pub declared_for : ℕ → List Longhand → List Longhand
declared_for a ls = those (λ l. eqb l.name a) ls

-- A presentation attribute as the longhand that it stands for: it is never marked.
abbrev pub hint : ℕ → Entry → Longhand
hint a e = record { name = a; important = 0; entry = some e }

-- All that is declared for a name, in the order of weight.
abbrev pub all_declared : Tree → ℕ → ℕ → Bool → ℕ → Element → List Longhand
all_declared t p tag g a e = map (hint a) (as_list (attribute_entry t p tag g a e))
    ++ declared_for a (all_written_out t p tag e.declarations)

-- The entry that a longhand comes to.
abbrev pub entry_in : Option Longhand → Option Entry
entry_in none = none
entry_in (some l) = l.entry

-- A longhand comes to an entry with its own importance.
record Plain (l : Longhand) : Type 0 where
  pub made : Entry
  pub entry : l.entry ≡ some made
  pub same : made.important ≡ l.important

-- Longhands and entries, one for one.
abbrev Matches : List Longhand → List Entry → Type 0
Matches [] [] = Unit {0}
Matches [] (e ∷ es) = ⊥
Matches (l ∷ ls) [] = ⊥
Matches (l ∷ ls) (e ∷ es) = ((l.entry ≡ some e) × (e.important ≡ l.important)) × Matches ls es

-- A longhand that may be there, and its entry.
abbrev Match : Option Longhand → Option Entry → Type 0
Match none none = Unit {0}
Match none (some e) = ⊥
Match (some l) none = ⊥
Match (some l) (some e) = l.entry ≡ some e

match-else : (o q : Option Longhand) (x y : Option Entry) → Match o x → Match q y → Match (or_else o q) (or_else x y)
match-else none q none y h g = g
match-else none q (some e) y h g = absurd h
match-else (some l) q none y h g = absurd h
match-else (some l) q (some e) y h g = h

match-entry : (o : Option Longhand) (x : Option Entry) → Match o x → entry_in o ≡ x
match-entry none none h = refl
match-entry none (some e) h = absurd h
match-entry (some l) none h = absurd h
match-entry (some l) (some e) h = h

last-match : (ls : List Longhand) (es : List Entry) → Matches ls es → Match (last_of ls) (last_of es)
unfolding last_of
last-match [] [] h = tt
last-match [] (e ∷ es) h = absurd h
last-match (l ∷ ls) [] h = absurd h
last-match (l ∷ ls) (e ∷ es) h = match-else (last_of ls) (some l) (last_of es) (some e) (last-match ls es h.1) h.0.0

those-match : (ls : List Longhand) (es : List Entry) → Matches ls es → Matches (those is_marked ls) (those is_important es)
unfolding those
those-match [] [] h = tt
those-match [] (e ∷ es) h = absurd h
those-match (l ∷ ls) [] h = absurd h
those-match (l ∷ ls) (e ∷ es) h =
    let q : is_important e ≡ is_marked l = ap (λ (n : ℕ). not (eqb n 0)) h.0.1 in
    rw q (go (is_marked l) (those-match ls es h.1))
  where
    go : (b : Bool) → Matches (those is_marked ls) (those is_important es) →
        Matches (pick b (λ u. l ∷ those is_marked ls) (λ u. those is_marked ls))
        (pick b (λ u. e ∷ those is_important es) (λ u. those is_important es))
    go true r = (h.0, r)
    go false r = r

match-length : (ls : List Longhand) (es : List Entry) → Matches ls es → length ls ≡ length es
match-length [] [] h = refl
match-length [] (e ∷ es) h = absurd h
match-length (l ∷ ls) [] h = absurd h
match-length (l ∷ ls) (e ∷ es) h = ap suc (match-length ls es h.1)

winner-match : (ls : List Longhand) (es : List Entry) → Matches ls es → entry_in (winner is_marked ls) ≡ winner is_important es
unfolding winner
winner-match ls es h = match-entry (winner is_marked ls) (winner is_important es)
    (match-else (last_of (those is_marked ls)) (last_of ls) (last_of (those is_important es)) (last_of es)
    (last-match (those is_marked ls) (those is_important es) (those-match ls es h)) (last-match ls es h))

applying-match : (a : ℕ) (ls : List Longhand) → Every Plain ls → Matches (declared_for a ls) (applying a ls)
unfolding those applying
applying-match a [] h = tt
applying-match a (l ∷ ls) h = go (eqb l.name a) (applying-match a ls h.1)
  where
    go : (b : Bool) → Matches (those (λ l. eqb l.name a) ls) (applying a ls) →
        Matches (pick b (λ u. l ∷ those (λ l. eqb l.name a) ls) (λ u. those (λ l. eqb l.name a) ls))
        (pick b (λ u. given l.entry (λ e. e ∷ applying a ls) (λ v. applying a ls)) (λ u. applying a ls))
    go true r = rw h.0.entry ((refl, h.0.same), r)
    go false r = r

-- EVERY LONGHAND IS PLAIN

plain-append : (xs ys : List Longhand) → Every Plain xs → Every Plain ys → Every Plain (xs ++ ys)
plain-append [] ys h g = g
plain-append (x ∷ xs) ys h g = (h.0, plain-append xs ys h.1 g)

markers : (is_presentation AId.MarkerStart ≡ true) × (is_presentation AId.MarkerMid ≡ true) × (is_presentation AId.MarkerEnd ≡ true)
unfolding is_presentation among
markers = (refl, refl, refl)

parts-present : Every (λ (k : Pair). is_presentation k.value ≡ true) font_parts
unfolding is_presentation among font_parts
parts-present = (refl, (refl, (refl, (refl, (refl, (refl, tt))))))

empty-entry : (a : ℕ) → entry_of a [] ≡ none
unfolding entry_of
empty-entry a = refl

module _ (t : Tree) (p tag : ℕ) (d : Declaration) (h : PlainDeclaration d) where
  plain-long : (a : ℕ) (v : Part) → is_presentation a ≡ true → NotInherit v → Plain (longhand t p tag d a v)
  plain-long a v k n = record {
    made = record { name = a; important = d.important; start = v.start; size = v.size; command = d.value.command };
    entry = declared-importance t p tag d a v k n;
    same = refl;
  }

  plain-resets : (rs : List Pair) → Every Plain (map (reset_longhand t p tag d) rs)
  plain-resets [] = tt
  plain-resets (r ∷ rs) = (
    record { made = Rattle.model.specs.Tables.fixed_entry r.key d.important r.value; entry = refl; same = refl },
    plain-resets rs,
  )

  plain-reading : (k : ℕ) (rs : List Reading) → Every (λ (r : Reading). NotInherit r.part) rs → (v : Part) →
      reading_of k rs ≡ some v → NotInherit v
  unfolding reading_of
  plain-reading k [] g v e = absurd (false≢true (ap (λ (o : Option Part). given o (λ x. true) (λ u. false)) e))
  plain-reading k (r ∷ rs) g v e = go (eqb r.kind k) e (plain-reading k rs g.1 v)
    where
      go : (b : Bool) → pick b (λ u. some r.part) (λ u. reading_of k rs) ≡ some v → (reading_of k rs ≡ some v → NotInherit v) →
          NotInherit v
      go true e f = subst (λ (o : Part). NotInherit o) (ap (λ (o : Option Part). given o (λ x. x) (λ u. v)) e) g.0
      go false e f = f e

  plain-parts : (ks : List Pair) → Every (λ (k : Pair). is_presentation k.value ≡ true) ks → Every Plain (part_longhands t p tag d ks)
  unfolding part_longhands
  plain-parts [] g = tt
  plain-parts (k ∷ ks) g = go (reading_of k.key d.value.readings) refl (plain-parts ks g.1)
    where
      go : (o : Option Part) → reading_of k.key d.value.readings ≡ o → Every Plain (part_longhands t p tag d ks) →
          Every Plain (given o (λ v. longhand t p tag d k.value v ∷ part_longhands t p tag d ks) (λ u. part_longhands t p tag d ks))
      go (some v) e r = (plain-long k.value v g.0 (plain-reading k.key d.value.readings h.1 v e), r)
      go none e r = r

  plain_out : Every Plain (written_out t p tag d)
  unfolding written_out
  plain_out = go (eqb d.name marker) (eqb d.name AId.Font) (and (is_read t p tag d 9) (is_read t p tag d 10))
      (is_presentation d.name) refl
    where
      v : Part
      v = d.value.part

      go : (x y z w : Bool) → is_presentation d.name ≡ w → Every Plain (
          pick x (λ u. longhand t p tag d AId.MarkerStart v ∷ longhand t p tag d AId.MarkerMid v ∷ longhand t p tag d AId.MarkerEnd v ∷ [])
          (λ u. pick y (λ v. pick z (λ w. map (reset_longhand t p tag d) font_resets ++ part_longhands t p tag d font_parts) (λ w. []))
          (λ u. pick w (λ w. longhand t p tag d d.name v ∷ []) (λ w. []))))
      go true y z w e = (
        plain-long AId.MarkerStart v markers.0 h.0,
        (plain-long AId.MarkerMid v markers.1 h.0, (plain-long AId.MarkerEnd v markers.2 h.0, tt)),
      )
      go false true true w e =
          plain-append (map (reset_longhand t p tag d) font_resets) (part_longhands t p tag d font_parts) (plain-resets font_resets)
          (plain-parts font_parts parts-present)
      go false true false w e = tt
      go false false z true e = (plain-long d.name v e h.0, tt)
      go false false z false e = tt

plain-all : (t : Tree) (p tag : ℕ) (ds : List Declaration) → Every PlainDeclaration ds → Every Plain (all_written_out t p tag ds)
unfolding all_written_out
plain-all t p tag [] h = tt
plain-all t p tag (d ∷ ds) h = plain-append (written_out t p tag d) (all_written_out t p tag ds) (plain_out t p tag d h.0)
    (plain-all t p tag ds h.1)

-- THE PRESENTATION ATTRIBUTE

-- The entry, if there is one, is not important.
abbrev Unmarked : Option Entry → Type 0
Unmarked none = Unit {0}
Unmarked (some e) = e.important ≡ 0

unmarked-made : (t : Tree) (p tag a : ℕ) (v : Part) (c : ℕ) → NotInherit v → Unmarked (append_attribute t p tag a 0 v c)
unfolding append_attribute
unmarked-made t p tag a v c n =
    rw n (go (or (or (eqb a AId.Style) (eqb a AId.Class)) (and (eqb tag EId.Tspan) (eqb a AId.Href))) (allows_inherit_value a))
  where
    go : (x y : Bool) → Unmarked (pick x (λ u. none) (λ u. pick (and y false) (λ w. resolve_inherit t p a)
        (λ w. some (record { name = a; important = 0; start = v.start; size = v.size; command = c }))))
    go true y = tt
    go false true = refl
    go false false = refl

unmarked-else : (o q : Option Entry) → Unmarked o → Unmarked q → Unmarked (or_else o q)
unmarked-else none q h g = g
unmarked-else (some e) q h g = h

unmarked-first : (t : Tree) (p tag : ℕ) (g : Bool) (a : ℕ) (xs : List Attribute) → Every PlainAttribute xs →
    Unmarked (first_made t p tag g a xs)
unfolding first_made
unmarked-first t p tag g a [] h = tt
unmarked-first t p tag g a (x ∷ xs) h = go (and (is_taken g x) (eqb x.name a)) (unmarked-first t p tag g a xs h.1)
  where
    go : (b : Bool) → Unmarked (first_made t p tag g a xs) →
        Unmarked (pick b (λ u. or_else (append_attribute t p tag x.name 0 x.value.part x.value.command)
        (first_made t p tag g a xs)) (λ u. first_made t p tag g a xs))
    go true r = unmarked-else (append_attribute t p tag x.name 0 x.value.part x.value.command) (first_made t p tag g a xs)
        (unmarked-made t p tag x.name x.value.part x.value.command h.0) r
    go false r = r

hint-match : (a : ℕ) (o : Option Entry) (ls : List Longhand) (es : List Entry) → Unmarked o → Matches ls es →
    Matches (map (hint a) (as_list o) ++ ls) (as_list o ++ es)
hint-match a none ls es h g = g
hint-match a (some e) ls es h g = ((refl, h), g)

-- THEOREM. For every presentation name and every element none of whose values is `inherit`, as in <rect fill="red" style="fill:blue
-- !important"/>: where at most one declaration of the name is marked as important, the value is the cascade's winner by what is marked in
-- the drawing.
pub winner-as-written : (t : Tree) (p tag : ℕ) (g : Bool) (a : ℕ) (e : Element) → is_presentation a ≡ true →
    Every PlainAttribute e.attributes → Every PlainDeclaration e.declarations →
    length (those is_marked (all_declared t p tag g a e)) ≤ 1 →
    entry_of a (entries_of t p tag g e) ≡ entry_in (winner is_marked (all_declared t p tag g a e))
winner-as-written t p tag g a e k x y l =
    value-wins t p tag g a e (subst (λ (n : ℕ). n ≤ 1)
    (match-length (those is_marked (all_declared t p tag g a e)) (those is_important (all_applying t p tag g a e))
    (those-match (all_declared t p tag g a e) (all_applying t p tag g a e) match)) l)
    ∙ sym (winner-match (all_declared t p tag g a e) (all_applying t p tag g a e) match)
  where
    own : Unmarked (attribute_entry t p tag g a e)
    own = subst (λ (o : Option Entry). Unmarked o) (sym first) (unmarked-first t p tag g a e.attributes x)
      where
        first : attribute_entry t p tag g a e ≡ first_made t p tag g a e.attributes
        first = attributes-first t p tag g a (not-name a AId.Href k no_such.2) e.attributes []
            ∙ ap (λ (o : Option Entry). or_else o (first_made t p tag g a e.attributes)) (empty-entry a)

    match : Matches (all_declared t p tag g a e) (all_applying t p tag g a e)
    match = hint-match a (attribute_entry t p tag g a e) (declared_for a (all_written_out t p tag e.declarations))
        (applying a (all_written_out t p tag e.declarations))
        own (applying-match a (all_written_out t p tag e.declarations) (plain-all t p tag e.declarations y))
