-- CSS Cascade: which declaration stands in the tree, for every list of declarations of every element.
use Rattle.std.specs.Prelude.{ℕ, zero, suc, ◌+◌, ◌-◌, ◌≤◌, ◌≡◌, Bool, not, eqb, length}
use Rattle.std.proofs.Math.Path.{refl, sym, ap}
use Rattle.std.proofs.Common.{◌∙◌, subst, arith, eqb-true, eq-eqb}
use Rattle.std.proofs.Math.Bool.{true, false}
use Rattle.std.proofs.lemmas.Bool.{false≢true, eqb-false}
use mathlib.Core.List.{List, [], ◌∷◌, ◌++◌, map}
use Rattle.std.proofs.Math.Option.{Option, none, some}
use Rattle.model.specs.Base.{pick, and, or, given, or_else, folded, same_bytes, Pair}
use Rattle.model.specs.Names.{is_presentation, allows_inherit_value, inherit_default, font_resets}
use Rattle.model.specs.EId
use Rattle.model.specs.AId
use Rattle.model.specs.Drawing.{Part, Declaration, Element, reading_of}
use Rattle.model.specs.Tables.{Tree, ELEMENT, kind_of, from_of, to_of, Entry, fixed_entry, entry_word, entry_at, find_entry, attribute_id}
use Rattle.model.specs.Element.{inherit_word, marker, inherited_from, copy_from, default_of, resolve_inherit, append_attribute, has_entry}
use Rattle.model.specs.Element.{on_first}
use Rattle.model.specs.Element.{add_attribute, standing, insert_entry, font_parts, insert_attribute, reset_to, insert_part, is_read}
use Rattle.model.specs.Element.{write_declaration, entries_of}
use Rattle.standards.specs.CssCascade.{first_of, last_of, those, winner}
use Rattle.standards.specs.Theorems.Cascade.{kept}

-- THE TWO RULES

pub one-of-one : {A : Type 0} (xs : List A) → length xs ≤ 1 → first_of xs ≡ last_of xs
unfolding last_of
one-of-one [] h = refl
one-of-one (x ∷ []) h = refl
one-of-one (x ∷ y ∷ xs) h = absurd (omega arith)

-- Where at most one is important, the two rules keep the same one. Meets it: fill red, then fill blue !important, then fill green.
pub kept-is-winner : {A : Type 0} (important : A → Bool) (ds : List A) → length (those important ds) ≤ 1 →
    kept important ds ≡ winner important ds
unfolding kept winner
kept-is-winner important ds h = ap (λ o. or_else o (last_of ds)) (one-of-one (those important ds) h)

some-last : {A : Type 0} (o r : Option A) (x : A) → or_else (or_else o (some x)) r ≡ or_else o (some x)
some-last none r x = refl
some-last (some y) r x = refl

-- Where some are important, the Rust keeps the first of them and the cascade the last: no other difference. Meets it: fill red !important,
-- then fill blue !important.
pub several-important : {A : Type 0} (important : A → Bool) (ds : List A) (x : A) (xs : List A) → those important ds ≡ x ∷ xs →
    (kept important ds ≡ some x) × (winner important ds ≡ last_of (x ∷ xs))
unfolding kept winner last_of
several-important important ds x xs h = (
  ap (λ l. or_else (first_of l) (last_of ds)) h,
  ap (λ l. or_else (last_of l) (last_of ds)) h ∙ some-last (last_of xs) (last_of ds) x,
)

-- THE ENTRIES OF AN ELEMENT

-- The entry of a name: the first of that name, if there is one.
unfoldable pub entry_of : ℕ → List Entry → Option Entry
entry_of a [] = none
entry_of a (e ∷ es) = pick (eqb e.name a) (λ u. some e) (λ u. entry_of a es)

-- Is an entry important?
abbrev pub is_important : Entry → Bool
is_important e = not (eqb e.important 0)

-- A longhand that a declaration sets: the name, the importance that the declaration has, and the entry that it comes to; none where it is
-- dropped.
pub record Longhand : Type 0 where
  pub name : ℕ
  pub important : ℕ
  pub entry : Option Entry

module _ (t : Tree) (p tag : ℕ) (d : Declaration) where
  -- A longhand with the value v, which may be `inherit`.
  abbrev pub longhand : ℕ → Part → Longhand
  longhand a v = record { name = a; important = d.important; entry = append_attribute t p tag a d.important v d.value.command }

  -- A longhand that a font declaration resets.
  abbrev pub reset_longhand : Pair → Longhand
  reset_longhand r = record { name = r.key; important = d.important; entry = some (fixed_entry r.key d.important r.value) }

  -- The longhands of a font declaration that the host has read, in the order of the list.
  unfoldable pub part_longhands : List Pair → List Longhand
  part_longhands [] = []
  part_longhands (k ∷ ks) = given (reading_of k.key d.value.readings) (λ v. longhand k.value v ∷ part_longhands ks)
      (λ u. part_longhands ks)

  -- A declaration with its shorthand written out: `marker` sets three names, `font` resets twelve and sets those that the host has read,
  -- any other name sets itself if it is a presentation name.
  unfoldable pub written_out : List Longhand
  written_out =
      pick (eqb d.name marker)
      (λ u. longhand AId.MarkerStart d.value.part ∷ longhand AId.MarkerMid d.value.part ∷ longhand AId.MarkerEnd
      d.value.part ∷ [])
      (λ u. pick (eqb d.name AId.Font)
      (λ v. pick (and (is_read t p tag d 9) (is_read t p tag d 10)) (λ w. map reset_longhand font_resets ++ part_longhands font_parts)
      (λ w. []))
      (λ v. pick (is_presentation d.name) (λ w. longhand d.name d.value.part ∷ []) (λ w. [])))

-- All declarations with their shorthands written out, in their order.
unfoldable pub all_written_out : Tree → ℕ → ℕ → List Declaration → List Longhand
all_written_out t p tag [] = []
all_written_out t p tag (d ∷ ds) = written_out t p tag d ++ all_written_out t p tag ds

-- One longhand, into the entries so far.
abbrev inserted : List Entry → Longhand → List Entry
inserted es l = insert_entry l.name es l.entry

folded-append : {A B : Type 0} (f : B → A → B) (b : B) (xs ys : List A) → folded f b (xs ++ ys) ≡ folded f (folded f b xs) ys
folded-append f b [] ys = refl
folded-append f b (x ∷ xs) ys = folded-append f (f b x) xs ys

module _ (t : Tree) (p tag : ℕ) (d : Declaration) where
  resets-out : (rs : List Pair) (es : List Entry) → folded (reset_to t p tag d) es rs
      ≡ folded inserted es (map (reset_longhand t p tag d) rs)
  resets-out [] es = refl
  resets-out (r ∷ rs) es = resets-out rs (reset_to t p tag d es r)

  parts_out : (ks : List Pair) (es : List Entry) → folded (insert_part t p tag d) es ks ≡ folded inserted es (part_longhands t p tag d ks)
  unfolding part_longhands
  parts_out [] es = refl
  parts_out (k ∷ ks) es = go (reading_of k.key d.value.readings) (λ es. parts_out ks es)
    where
      go : (o : Option Part) → ((es : List Entry) → folded (insert_part t p tag d) es ks
          ≡ folded inserted es (part_longhands t p tag d ks)) →
          folded (insert_part t p tag d) (given o (λ v. insert_attribute t p tag d es k.value v) (λ u. es)) ks
          ≡ folded inserted es (given o (λ v. longhand t p tag d k.value v ∷ part_longhands t p tag d ks)
          (λ u. part_longhands t p tag d ks))
      go (some v) h = h (insert_attribute t p tag d es k.value v)
      go none h = h es

  -- `write_declaration` inserts the longhands one after another.
  write-out : (es : List Entry) → write_declaration t p tag d es ≡ folded inserted es (written_out t p tag d)
  unfolding write_declaration written_out
  write-out es = go (eqb d.name marker) (eqb d.name AId.Font) (and (is_read t p tag d 9) (is_read t p tag d 10))
      (is_presentation d.name)
    where
      go : (x y z w : Bool) →
          pick x (λ u. folded (λ es a. insert_attribute t p tag d es a d.value.part) es
          (AId.MarkerStart ∷ AId.MarkerMid ∷ AId.MarkerEnd ∷ []))
          (λ u. pick y (λ v. pick z (λ w. folded (insert_part t p tag d) (folded (reset_to t p tag d) es font_resets) font_parts) (λ w. es))
          (λ v. pick w (λ w. insert_attribute t p tag d es d.name d.value.part) (λ w. es)))
          ≡ folded inserted es (
          pick x (λ u. longhand t p tag d AId.MarkerStart d.value.part ∷ longhand t p tag d AId.MarkerMid d.value.part
          ∷ longhand t p tag d AId.MarkerEnd d.value.part ∷ [])
          (λ u. pick y (λ v. pick z (λ w. map (reset_longhand t p tag d) font_resets ++ part_longhands t p tag d font_parts) (λ w. []))
          (λ v. pick w (λ w. longhand t p tag d d.name d.value.part ∷ []) (λ w. []))))
      go true y z w = refl
      go false true true w =
          parts_out font_parts (folded (reset_to t p tag d) es font_resets)
          ∙ ap (λ es. folded inserted es (part_longhands t p tag d font_parts)) (resets-out font_resets es)
          ∙ sym (folded-append inserted es (map (reset_longhand t p tag d) font_resets) (part_longhands t p tag d font_parts))
      go false true false w = refl
      go false false z true = refl
      go false false z false = refl

all-out : (t : Tree) (p tag : ℕ) (ds : List Declaration) (es : List Entry) →
    folded (λ es d. write_declaration t p tag d es) es ds ≡ folded inserted es (all_written_out t p tag ds)
unfolding all_written_out
all-out t p tag [] es = refl
all-out t p tag (d ∷ ds) es =
    all-out t p tag ds (write_declaration t p tag d es)
    ∙ ap (λ es. folded inserted es (all_written_out t p tag ds)) (write-out t p tag d es)
    ∙ sym (folded-append inserted es (written_out t p tag d) (all_written_out t p tag ds))

-- THE ENTRY OF A NAME AFTER AN INSERTION

-- The entry, if there is one, has that name.
abbrev pub Called : ℕ → Option Entry → Type 0
Called a none = Unit {0}
Called a (some e) = e.name ≡ a

-- One more entry that applies: it stands unless an important one was there before.
abbrev stepped : Option Entry → Entry → Option Entry
stepped none e = some e
stepped (some old) e = some (standing e old)

pub entry-called : (a : ℕ) (es : List Entry) → Called a (entry_of a es)
unfolding entry_of
entry-called a [] = tt
entry-called a (e ∷ es) = go (eqb e.name a) refl (entry-called a es)
  where
    go : (b : Bool) → eqb e.name a ≡ b → Called a (entry_of a es) → Called a (pick b (λ u. some e) (λ u. entry_of a es))
    go true q h = eqb-true e.name a q
    go false q h = h

pub none-there : (a : ℕ) (es : List Entry) → has_entry a es ≡ false → entry_of a es ≡ none
unfolding has_entry entry_of
none-there a [] h = refl
none-there a (e ∷ es) h = go (eqb e.name a) h (none-there a es)
  where
    go : (b : Bool) → pick b (λ u. true) (λ u. has_entry a es) ≡ false → (has_entry a es ≡ false → entry_of a es ≡ none) →
        pick b (λ u. some e) (λ u. entry_of a es) ≡ none
    go true q h = absurd (false≢true (sym q))
    go false q h = h q

pub at-end : (a : ℕ) (es : List Entry) (e : Entry) →
    entry_of a (es ++ (e ∷ [])) ≡ or_else (entry_of a es) (pick (eqb e.name a) (λ u. some e) (λ u. none))
unfolding entry_of
at-end a [] e = refl
at-end a (x ∷ es) e = go (eqb x.name a) (at-end a es e)
  where
    go : (b : Bool) → entry_of a (es ++ (e ∷ [])) ≡ or_else (entry_of a es) (pick (eqb e.name a) (λ u. some e) (λ u. none)) →
        pick b (λ u. some x) (λ u. entry_of a (es ++ (e ∷ [])))
        ≡ or_else (pick b (λ u. some x) (λ u. entry_of a es)) (pick (eqb e.name a) (λ u. some e) (λ u. none))
    go true h = refl
    go false h = h

stood : (e old : Entry) (a : ℕ) → e.name ≡ a → old.name ≡ a → (standing e old).name ≡ a
stood e old a h g = go (eqb old.important 0)
  where
    go : (b : Bool) → (pick b (λ u. e) (λ u. old)).name ≡ a
    go true = h
    go false = g

on-first : (a : ℕ) (es : List Entry) (e : Entry) → e.name ≡ a → has_entry a es ≡ true →
    entry_of a (on_first (standing e) a es) ≡ stepped (entry_of a es) e
unfolding has_entry entry_of on_first
on-first a [] e h g = absurd (false≢true g)
on-first a (x ∷ es) e h g = go (eqb x.name a) refl g (on-first a es e h)
  where
    go : (b : Bool) → eqb x.name a ≡ b → pick b (λ u. true) (λ u. has_entry a es) ≡ true →
        (has_entry a es ≡ true → entry_of a (on_first (standing e) a es) ≡ stepped (entry_of a es) e) →
        entry_of a (pick b (λ u. standing e x ∷ es) (λ u. x ∷ on_first (standing e) a es))
        ≡ stepped (pick b (λ u. some x) (λ u. entry_of a es)) e
    go true q k r = rw (eq-eqb (standing e x).name a (stood e x a h (eqb-true x.name a q))) refl
    go false q k r = rw q (r k)

on-other : (a b : ℕ) (es : List Entry) (e : Entry) → e.name ≡ b → eqb b a ≡ false → entry_of a (on_first (standing e) b es) ≡ entry_of a es
unfolding entry_of on_first
on-other a b [] e h g = refl
on-other a b (x ∷ es) e h g = go (eqb x.name b) refl (on-other a b es e h g)
  where
    go : (c : Bool) → eqb x.name b ≡ c → entry_of a (on_first (standing e) b es) ≡ entry_of a es →
        entry_of a (pick c (λ u. standing e x ∷ es) (λ u. x ∷ on_first (standing e) b es))
        ≡ pick (eqb x.name a) (λ u. some x) (λ u. entry_of a es)
    go true q r =
        let z : (standing e x).name ≡ b = stood e x b h (eqb-true x.name b q) in
        let y : eqb x.name a ≡ false = rw (eqb-true x.name b q) g in
        rw (y, z, g) refl
    go false q r = rw r refl

insert-law : (a b : ℕ) (es : List Entry) (e : Entry) → e.name ≡ b →
    entry_of a (insert_entry b es (some e)) ≡ pick (eqb b a) (λ u. stepped (entry_of a es) e) (λ u. entry_of a es)
unfolding insert_entry
insert-law a b es e h = go (eqb b a) refl (has_entry b es) refl
  where
    go : (x : Bool) → eqb b a ≡ x → (y : Bool) → has_entry b es ≡ y →
        entry_of a (pick y (λ u. on_first (standing e) b es) (λ u. es ++ (e ∷ [])))
        ≡ pick x (λ u. stepped (entry_of a es) e) (λ u. entry_of a es)
    go true q true r =
        let z : b ≡ a = eqb-true b a q in
        subst (λ (c : ℕ). e.name ≡ c → has_entry c es ≡ true → entry_of a (on_first (standing e) c es) ≡ stepped (entry_of a es) e) (sym z)
        (on-first a es e) h r
    go true q false r =
        let z : b ≡ a = eqb-true b a q in
        at-end a es e ∙ rw (none-there a es (subst (λ (c : ℕ). has_entry c es ≡ false) z r), eq-eqb e.name a (h ∙ z)) refl
    go false q true r = on-other a b es e h q
    go false q false r = at-end a es e ∙ rw (h, q) (nothing (entry_of a es))
      where
        nothing : (o : Option Entry) → or_else o none ≡ o
        nothing none = refl
        nothing (some x) = refl

insert-none : (b : ℕ) (es : List Entry) → insert_entry b es none ≡ es
unfolding insert_entry
insert-none b es = refl

-- WHAT APPLIES

-- The entries that the longhands of a name come to, in their order; a dropped one is none.
unfoldable pub applying : ℕ → List Longhand → List Entry
applying a [] = []
applying a (l ∷ ls) = pick (eqb l.name a) (λ u. given l.entry (λ e. e ∷ applying a ls) (λ v. applying a ls)) (λ u. applying a ls)

-- Every longhand comes to an entry of its name.
abbrev AllCalled : List Longhand → Type 0
AllCalled [] = Unit {0}
AllCalled (l ∷ ls) = Called l.name l.entry × AllCalled ls

inserted-all : (a : ℕ) (ls : List Longhand) (es : List Entry) → AllCalled ls →
    entry_of a (folded inserted es ls) ≡ folded stepped (entry_of a es) (applying a ls)
unfolding applying
inserted-all a [] es h = refl
inserted-all a (l ∷ ls) es h = go l.entry h.0 (λ es. inserted-all a ls es h.1)
  where
    one : (b : Bool) (e : Entry) → folded stepped (pick b (λ u. stepped (entry_of a es) e) (λ u. entry_of a es)) (applying a ls)
        ≡ folded stepped (entry_of a es) (pick b (λ u. e ∷ applying a ls) (λ u. applying a ls))
    one true e = refl
    one false e = refl

    drops : (b : Bool) → folded stepped (entry_of a es) (applying a ls)
        ≡ folded stepped (entry_of a es) (pick b (λ u. applying a ls) (λ u. applying a ls))
    drops true = refl
    drops false = refl

    go : (o : Option Entry) → Called l.name o → ((es : List Entry) →
        entry_of a (folded inserted es ls) ≡ folded stepped (entry_of a es) (applying a ls)) →
        entry_of a (folded inserted (insert_entry l.name es o) ls)
        ≡ folded stepped (entry_of a es) (pick (eqb l.name a) (λ u. given o (λ e. e ∷ applying a ls) (λ v. applying a ls))
        (λ u. applying a ls))
    go none c k = k (insert_entry l.name es none) ∙ ap (λ es. folded stepped (entry_of a es) (applying a ls))
        (insert-none l.name es) ∙ drops (eqb l.name a)
    go (some e) c k =
        k (insert_entry l.name es (some e)) ∙ ap (λ o. folded stepped o (applying a ls)) (insert-law a l.name es e c)
        ∙ one (eqb l.name a) e

-- The list of what may be there.
abbrev pub as_list : {A : Type 0} → Option A → List A
as_list none = []
as_list (some x) = x ∷ []

important-stays : (x : Entry) (xs : List Entry) → is_important x ≡ true → folded stepped (some x) xs ≡ some x
important-stays x [] h = refl
important-stays x (y ∷ ys) h = ap (λ o. folded stepped (some o) ys) (same (eqb x.important 0) h) ∙ important-stays x ys h
  where
    same : (b : Bool) → not b ≡ true → pick b (λ u. y) (λ u. x) ≡ x
    same true q = absurd (false≢true q)
    same false q = refl

-- The first important one, else the last: what one insertion after another comes to.
steps-keep : (xs : List Entry) (x : Entry) → folded stepped (some x) xs ≡ kept is_important (x ∷ xs)
unfolding kept those last_of
steps-keep [] x = go (eqb x.important 0)
  where
    go : (b : Bool) → some x ≡ or_else (first_of (pick (not b) (λ u. x ∷ []) (λ u. []))) (some x)
    go true = refl
    go false = refl
steps-keep (y ∷ ys) x = go (eqb x.important 0) refl (steps-keep ys y)
  where
    go : (b : Bool) → eqb x.important 0 ≡ b → folded stepped (some y) ys ≡ kept is_important (y ∷ ys) →
        folded stepped (some (pick b (λ u. y) (λ u. x))) ys
        ≡ or_else (first_of (pick (not b) (λ u. x ∷ those is_important (y ∷ ys)) (λ u. those is_important (y ∷ ys)))) (last_of (x ∷ y ∷ ys))
    go true q h = h ∙ ap (λ o. or_else (first_of (those is_important (y ∷ ys))) o) (sym (some-last (last_of ys) (some x) y))
    go false q h = important-stays x ys (rw q refl)

steps_all : (o : Option Entry) (xs : List Entry) → folded stepped o xs ≡ kept is_important (as_list o ++ xs)
unfolding kept those last_of
steps_all none [] = refl
steps_all none (x ∷ xs) = steps-keep xs x
steps_all (some x) xs = steps-keep xs x

-- EVERY LONGHAND HAS ITS NAME

find-name : (t : Tree) (a j n : ℕ) → (find_entry t a j n ≡ 0 → ⊥) → (entry_at t (find_entry t a j n - 1)).name ≡ a
unfolding find_entry entry_at
find-name t a j zero h = absurd (h refl)
find-name t a j (suc n) h = go (eqb (entry_word t j 0) a) refl h (find-name t a (j + 1) n)
  where
    go : (b : Bool) → eqb (entry_word t j 0) a ≡ b → (pick b (λ u. j + 1) (λ u. find_entry t a (j + 1) n) ≡ 0 → ⊥) →
        ((find_entry t a (j + 1) n ≡ 0 → ⊥) → entry_word t (find_entry t a (j + 1) n - 1) 0 ≡ a) →
        entry_word t (pick b (λ u. j + 1) (λ u. find_entry t a (j + 1) n) - 1) 0 ≡ a
    go true q d r = let z : j + 1 - 1 ≡ j = omega arith in rw z (eqb-true (entry_word t j 0) a q)
    go false q d r = r d

pub id-name : (t : Tree) (i a : ℕ) → (attribute_id t i a ≡ 0 → ⊥) → (entry_at t (attribute_id t i a - 1)).name ≡ a
unfolding attribute_id
id-name t i a = go (eqb (kind_of t i) ELEMENT)
  where
    go : (b : Bool) → (pick b (λ u. find_entry t a (from_of t i) (to_of t i - from_of t i)) (λ u. 0) ≡ 0 → ⊥) →
        (entry_at t (pick b (λ u. find_entry t a (from_of t i) (to_of t i - from_of t i)) (λ u. 0) - 1)).name ≡ a
    go true h = find-name t a (from_of t i) (to_of t i - from_of t i) h
    go false h = absurd (h refl)

module _ (t : Tree) (p : ℕ) where
  default-called : (a n : ℕ) → Called a (default_of t p a n)
  default-called a n = go (eqb n 0)
    where
      go : (b : Bool) → Called a (pick b (λ u. none) (λ u. some (fixed_entry a 0 n)))
      go true = tt
      go false = refl

  copy-called : (a w : ℕ) → Called a (copy_from t p a w)
  copy-called a w = go (eqb w 0)
    where
      at : (i : ℕ) (b : Bool) → eqb (attribute_id t i a) 0 ≡ b →
          Called a (pick b (λ u. none) (λ u. some (entry_at t (attribute_id t i a - 1))))
      at i true q = tt
      at i false q = id-name t i a (eqb-false (attribute_id t i a) 0 q)

      go : (b : Bool) → Called a (let j : ℕ = pick b (λ u. 0) (λ u. attribute_id t (w - 1) a) in pick (eqb j 0) (λ u. none)
          (λ u. some (entry_at t (j - 1))))
      go true = tt
      go false = at (w - 1) (eqb (attribute_id t (w - 1) a) 0) refl

  resolve-called : (a : ℕ) → Called a (resolve_inherit t p a)
  unfolding resolve_inherit
  resolve-called a = go (copy_from t p a (inherited_from t p a)) (copy-called a (inherited_from t p a))
    where
      go : (o : Option Entry) → Called a o → Called a (given o (λ e. some e) (λ u. default_of t p a (inherit_default a)))
      go none h = default-called a (inherit_default a)
      go (some e) h = h

  pub append-called : (tag a i : ℕ) (v : Part) (c : ℕ) → Called a (append_attribute t p tag a i v c)
  unfolding append_attribute
  append-called tag a i v c = go (or (or (eqb a AId.Style) (eqb a AId.Class)) (and (eqb tag EId.Tspan) (eqb a AId.Href)))
      (and (allows_inherit_value a) (same_bytes v.bytes inherit_word))
    where
      go : (x y : Bool) → Called a (pick x (λ u. none) (λ u. pick y (λ w. resolve_inherit t p a)
          (λ w. some (record { name = a; important = i; start = v.start; size = v.size; command = c }))))
      go true y = tt
      go false true = resolve-called a
      go false false = refl

called-append : (xs ys : List Longhand) → AllCalled xs → AllCalled ys → AllCalled (xs ++ ys)
called-append [] ys h g = g
called-append (x ∷ xs) ys h g = (h.0, called-append xs ys h.1 g)

module _ (t : Tree) (p tag : ℕ) (d : Declaration) where
  long-called : (a : ℕ) (v : Part) → Called a (longhand t p tag d a v).entry
  long-called a v = append-called t p tag a d.important v d.value.command

  resets-called : (rs : List Pair) → AllCalled (map (reset_longhand t p tag d) rs)
  resets-called [] = tt
  resets-called (r ∷ rs) = (refl, resets-called rs)

  parts-called : (ks : List Pair) → AllCalled (part_longhands t p tag d ks)
  unfolding part_longhands
  parts-called [] = tt
  parts-called (k ∷ ks) = go (reading_of k.key d.value.readings) (parts-called ks)
    where
      go : (o : Option Part) → AllCalled (part_longhands t p tag d ks) →
          AllCalled (given o (λ v. longhand t p tag d k.value v ∷ part_longhands t p tag d ks) (λ u. part_longhands t p tag d ks))
      go (some v) h = (long-called k.value v, h)
      go none h = h

  out-called : AllCalled (written_out t p tag d)
  unfolding written_out
  out-called = go (eqb d.name marker) (eqb d.name AId.Font) (and (is_read t p tag d 9) (is_read t p tag d 10))
      (is_presentation d.name)
    where
      v : Part
      v = d.value.part

      go : (x y z w : Bool) → AllCalled (
          pick x (λ u. longhand t p tag d AId.MarkerStart v ∷ longhand t p tag d AId.MarkerMid v ∷ longhand t p tag d AId.MarkerEnd v ∷ [])
          (λ u. pick y (λ v. pick z (λ w. map (reset_longhand t p tag d) font_resets ++ part_longhands t p tag d font_parts) (λ w. []))
          (λ u. pick w (λ w. longhand t p tag d d.name v ∷ []) (λ w. []))))
      go true y z w = (long-called AId.MarkerStart v, (long-called AId.MarkerMid v, (long-called AId.MarkerEnd v, tt)))
      go false true true w = called-append (map (reset_longhand t p tag d) font_resets) (part_longhands t p tag d font_parts)
          (resets-called font_resets) (parts-called font_parts)
      go false true false w = tt
      go false false z true = (long-called d.name v, tt)
      go false false z false = tt

all-called : (t : Tree) (p tag : ℕ) (ds : List Declaration) → AllCalled (all_written_out t p tag ds)
unfolding all_written_out
all-called t p tag [] = tt
all-called t p tag (d ∷ ds) = called-append (written_out t p tag d) (all_written_out t p tag ds) (out-called t p tag d)
    (all-called t p tag ds)

-- THEOREMS

-- The entry that the attributes of an element leave for a name: its presentation attribute.
abbrev pub attribute_entry : Tree → ℕ → ℕ → Bool → ℕ → Element → Option Entry
attribute_entry t p tag g a e = entry_of a (folded (add_attribute t p tag g) [] e.attributes)

-- All that applies for a name: the presentation attribute first, then the declarations with their shorthands written out, `inherit`
-- resolved and dropped ones left out.
abbrev pub all_applying : Tree → ℕ → ℕ → Bool → ℕ → Element → List Entry
all_applying t p tag g a e = as_list (attribute_entry t p tag g a e) ++ applying a (all_written_out t p tag e.declarations)

-- WHICH ONE STANDS. For every element and every name: the first important one of what applies, else the last.
pub value-stands : (t : Tree) (p tag : ℕ) (g : Bool) (a : ℕ) (e : Element) →
    entry_of a (entries_of t p tag g e) ≡ kept is_important (all_applying t p tag g a e)
unfolding entries_of
value-stands t p tag g a e =
    ap (entry_of a) (all-out t p tag e.declarations (folded (add_attribute t p tag g) [] e.attributes))
    ∙ inserted-all a (all_written_out t p tag e.declarations) (folded (add_attribute t p tag g) [] e.attributes)
    (all-called t p tag e.declarations)
    ∙ steps_all (attribute_entry t p tag g a e) (applying a (all_written_out t p tag e.declarations))

-- SO IT IS THE CASCADE'S WINNER wherever at most one of what applies is important, as in <rect fill="red" style="fill:blue"/>.
pub value-wins : (t : Tree) (p tag : ℕ) (g : Bool) (a : ℕ) (e : Element) → length (those is_important (all_applying t p tag g a e)) ≤ 1 →
    entry_of a (entries_of t p tag g e) ≡ winner is_important (all_applying t p tag g a e)
value-wins t p tag g a e h = value-stands t p tag g a e ∙ kept-is-winner is_important (all_applying t p tag g a e) h

-- THE DIFFERENCE: where several are important the first of them stands, and the cascade's winner is the last of them.
pub value-differs : (t : Tree) (p tag : ℕ) (g : Bool) (a : ℕ) (e : Element) (x : Entry) (xs : List Entry) →
    those is_important (all_applying t p tag g a e) ≡ x ∷ xs →
    (entry_of a (entries_of t p tag g e) ≡ some x) × (winner is_important (all_applying t p tag g a e) ≡ last_of (x ∷ xs))
value-differs t p tag g a e x xs h =
    let k = several-important is_important (all_applying t p tag g a e) x xs h in (value-stands t p tag g a e ∙ k.0, k.1)
