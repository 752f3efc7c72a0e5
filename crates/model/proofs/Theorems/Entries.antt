-- One law for what holds of every entry of an element: what holds of the values that it is read from, of fixed values and of the
-- entries above it holds of all its entries.
use Prim.Native.Nat.{ℕ, zero, suc, ◌+◌, ◌-◌, ◌*◌, ◌≤◌, ◌<◌}
use Rattle.std.proofs.Math.Path.{◌≡◌, refl, ap}
use Rattle.std.proofs.Common.{sym, ◌∙◌, eqb-true, leb-true}
use Rattle.std.specs.Prelude.{Bool, eqb, leb, length}
use Rattle.std.proofs.Math.Bool.{true, false, not}
use mathlib.Core.List.{List, [], ◌∷◌, ◌++◌}
use Rattle.std.proofs.Math.Option.{Option, none, some}
use native.Mathlib.Omega.{arith}
use Rattle.std.proofs.lemmas.Bool.{eqb-false}
use Rattle.std.proofs.Math.ListN.{get_or}
use Rattle.std.proofs.lemmas.List.Edits.{sets}
use Rattle.model.specs.Base.{pick, and, or, given, folded, among, same_bytes, Pair, paired_with}
use Rattle.model.specs.Names.{is_attribute, allows_inherit_value, inherit_defaults, inherit_default, is_presentation, font_resets}
use Rattle.model.specs.EId
use Rattle.model.specs.AId
use Rattle.model.specs.Drawing.{Part, Reading, Attribute, Declaration, Element, reading_of}
use Rattle.model.specs.Tables.{Tree, Entry, entry_words, entries_words, entry_word, entry_at, attribute_id, has_attribute, parent_of}
use Rattle.model.specs.Tables.{holder_from, fixed_entry, add_element, set_none}
use Rattle.model.specs.Element.{inherit_word, marker, inherited_from, default_of, resolve_inherit, append_attribute, is_taken, has_entry}
use Rattle.model.specs.Element.{on_first, with_value, with_more, add_attribute, standing, insert_entry, font_parts, insert_attribute}
use Rattle.model.specs.Element.{reset_to, insert_part, is_read, write_declaration, entries_of}
use Rattle.model.specs.Theorems.Sim.{Every}
use Rattle.model.proofs.Theorems.Sim.{and_left, and_right}
use Rattle.model.proofs.Theorems.Agree.{sets-in, sets-out}
use Rattle.model.specs.Theorems.Entries.{Fixed, ReadFrom, Closed}

-- What is true is not false.
pub absurd-bool : {A : Type 0} → true ≡ false → A
absurd-bool h = let z : ◌≡◌ {A = ℕ} 0 1 = ap (λ (b : Bool). pick b (λ u. 0) (λ u. 1)) h in absurd (omega arith)

-- TABLES OF NAMES

-- Do all pass?
all_of : {A : Type 0} → (A → Bool) → List A → Bool
all_of f [] = true
all_of f (x ∷ xs) = and (f x) (all_of f xs)

-- What a computed test says of each.
all-every : {A : Type 0} (f : A → Bool) (xs : List A) → all_of f xs ≡ true → Every (λ x. f x ≡ true) xs
unfolding all_of
all-every f [] h = tt
all-every f (x ∷ xs) h = (and_left (f x) (all_of f xs) h, all-every f xs (and_right (f x) (all_of f xs) h))

among-all : (f : ℕ → Bool) (a : ℕ) (xs : List ℕ) → all_of f xs ≡ true → among a xs ≡ true → f a ≡ true
unfolding among all_of
among-all f a [] h g = let z : ◌≡◌ {A = ℕ} 0 1 = ap (λ (c : Bool). pick c (λ u. 1) (λ u. 0)) g in absurd (omega arith)
among-all f a (x ∷ xs) h g = go (eqb a x) refl g (among-all f a xs (and_right (f x) (all_of f xs) h))
  where
    go : (b : Bool) → eqb a x ≡ b → pick b (λ u. true) (λ u. among a xs) ≡ true → (among a xs ≡ true → f a ≡ true) → f a ≡ true
    go true e g r = rw (eqb-true a x e) (and_left (f x) (all_of f xs) h)
    go false e g r = r g

-- The number that a table gives for a key, where it gives one.
paired-all : (f : ℕ → Bool) (k : ℕ) (ps : List Pair) → all_of (λ (p : Pair). f p.value) ps ≡ true → (paired_with k ps ≡ 0 → ⊥) →
    f (paired_with k ps) ≡ true
unfolding paired_with all_of
paired-all f k [] h g = absurd (g refl)
paired-all f k (p ∷ ps) h g = go (eqb k p.key) g (paired-all f k ps (and_right (f p.value) (all_of (λ (q : Pair). f q.value) ps) h))
  where
    go : (b : Bool) → (pick b (λ u. p.value) (λ u. paired_with k ps) ≡ 0 → ⊥) → ((paired_with k ps ≡ 0 → ⊥) → f (paired_with k ps) ≡ true) →
        f (pick b (λ u. p.value) (λ u. paired_with k ps)) ≡ true
    go true g r = and_left (f p.value) (all_of (λ (q : Pair). f q.value) ps) h
    go false g r = r g

-- The names that declarations set are in the list of attributes.
presentation-attribute : (a : ℕ) → is_presentation a ≡ true → is_attribute a ≡ true
unfolding is_presentation all_of is_attribute
presentation-attribute a h = among-all is_attribute a _ refl h

-- A number of a fixed value.
is_fixed : ℕ → Bool
is_fixed n = and (leb 1 n) (leb n 18)

fixed-facts : (n : ℕ) → is_fixed n ≡ true → Fixed n
unfolding is_fixed
fixed-facts n h = (leb-true 1 n (and_left (leb 1 n) (leb n 18) h), leb-true n 18 (and_right (leb 1 n) (leb n 18) h))

default-fixed : (a : ℕ) → (inherit_default a ≡ 0 → ⊥) → Fixed (inherit_default a)
unfolding inherit_default inherit_defaults all_of is_fixed
default-fixed a h = fixed-facts (inherit_default a) (paired-all is_fixed a inherit_defaults refl h)

resets-fixed : Every (λ (r : Pair). and (is_attribute r.key) (is_fixed r.value) ≡ true) font_resets
unfolding font_resets all_of is_fixed is_attribute
resets-fixed = all-every (λ (r : Pair). and (is_attribute r.key) (is_fixed r.value)) font_resets refl

parts-attributes : Every (λ (k : Pair). is_attribute k.value ≡ true) font_parts
unfolding font_parts all_of is_attribute
parts-attributes = all-every (λ (k : Pair). is_attribute k.value) font_parts refl

markers-attributes : Every (λ a. is_attribute a ≡ true) (AId.MarkerStart ∷ AId.MarkerMid ∷ AId.MarkerEnd ∷ [])
unfolding is_attribute
markers-attributes = (refl, (refl, (refl, tt)))

-- The holder of an attribute is the node itself or one above it, where parents have smaller indexes.
pub holder-falls : (t : Tree) (a n w : ℕ) → ((i : ℕ) → i < w → parent_of t i ≤ i) → holder_from t a n w ≤ w
unfolding holder_from
holder-falls t a zero w h = omega arith
holder-falls t a (suc n) w h = at (eqb w 0) refl (holder-falls t a n (parent_of t (w - 1)))
  where
    at : (b : Bool) → eqb w 0 ≡ b → (((i : ℕ) → i < parent_of t (w - 1) → parent_of t i ≤ i) →
        holder_from t a n (parent_of t (w - 1)) ≤ parent_of t (w - 1)) →
        pick b (λ u. 0) (λ u. pick (has_attribute t (w - 1) a) (λ v. w) (λ v. holder_from t a n (parent_of t (w - 1)))) ≤ w
    at true e r = omega arith
    at false e r = on (has_attribute t (w - 1) a)
      where
        low : parent_of t (w - 1) ≤ w - 1
        low = let d : (w ≡ 0 → ⊥) = eqb-false w 0 e in h (w - 1) (omega arith)

        on : (b : Bool) → pick b (λ v. w) (λ v. holder_from t a n (parent_of t (w - 1))) ≤ w
        on true = omega arith
        on false = let f : holder_from t a n (parent_of t (w - 1)) ≤ parent_of t (w - 1) = r (λ i l. h i (omega (arith, low))) in
            omega (arith, low)

-- THE LAW

module _ (P : Entry → Type 0) (Q : Part → ℕ → Type 0) (k : Closed P Q) where
  abbrev IfAny : Option Entry → Type 0
  IfAny none = Unit {0}
  IfAny (some e) = P e

  if-pick : (b : Bool) (x y : Unit {0} → Option Entry) → (b ≡ true → IfAny (x tt)) → (b ≡ false → IfAny (y tt)) → IfAny (pick b x y)
  if-pick true x y h g = h refl
  if-pick false x y h g = g refl

  every-pick : (b : Bool) (x y : Unit {0} → List Entry) → (b ≡ true → Every P (x tt)) → (b ≡ false → Every P (y tt)) → Every P (pick b x y)
  every-pick true x y h g = h refl
  every-pick false x y h g = g refl

  every_more : (es : List Entry) (e : Entry) → Every P es → P e → Every P (es ++ (e ∷ []))
  every_more [] e h g = (g, tt)
  every_more (x ∷ es) e h g = (h.0, every_more es e h.1 g)

  every_first : (f : Entry → Entry) (a : ℕ) (es : List Entry) → ((e : Entry) → P e → P (f e)) → Every P es → Every P (on_first f a es)
  unfolding on_first
  every_first f a [] g h = tt
  every_first f a (e ∷ es) g h = every-pick (eqb e.name a) _ _ (λ b. (g e h.0, h.1)) (λ b. (h.0, every_first f a es g h.1))

  every-insert : (a : ℕ) (es : List Entry) (o : Option Entry) → Every P es → IfAny o → Every P (insert_entry a es o)
  unfolding insert_entry
  every-insert a es none h g = h
  every-insert a es (some e) h g =
      every-pick (has_entry a es) _ _ (λ b. every_first (standing e) a es (λ x s. old-or-new x s (eqb x.important 0)) h)
      (λ b. every_more es e h g)
    where
      old-or-new : (x : Entry) → P x → (b : Bool) → P (pick b (λ u. e) (λ u. x))
      old-or-new x s true = g
      old-or-new x s false = s

  every-folded : {A : Type 0} (f : List Entry → A → List Entry) (H : A → Type 0) → ((es : List Entry) (a : A) → H a → Every P es →
      Every P (f es a)) →
      (es : List Entry) (xs : List A) → Every H xs → Every P es → Every P (folded f es xs)
  every-folded f H g es [] h s = s
  every-folded f H g es (x ∷ xs) h s = every-folded f H g (f es x) xs h.1 (g es x h.0 s)

  every-with_more : (es : List Entry) (o : Option Entry) → Every P es → IfAny o → Every P (with_more es o)
  every-with_more es none h g = h
  every-with_more es (some e) h g = every_more es e h g

  -- P holds of what node p and those above it hold, and their parents have smaller indexes.
  module _ (t : Tree) (p tag : ℕ) (falls : (i : ℕ) → i ≤ p → parent_of t i ≤ i)
      (held : (i a : ℕ) → i ≤ p → (attribute_id t i a ≡ 0 → ⊥) → P (entry_at t (attribute_id t i a - 1))) where
    from_low : (a : ℕ) → inherited_from t p a ≤ p + 1
    unfolding inherited_from
    from_low a = go (Rattle.model.specs.Names.is_inheritable a)
      where
        go : (b : Bool) → pick b (λ u. holder_from t a (p + 1) (p + 1)) (λ u. p + 1) ≤ p + 1
        go true = holder-falls t a (p + 1) (p + 1) (λ i l. falls i (omega arith))
        go false = omega arith

    resolved : (a : ℕ) → is_attribute a ≡ true → IfAny (resolve_inherit t p a)
    unfolding resolve_inherit
    resolved a x = go (inherited_from t p a) (from_low a)
      where
        last : IfAny (default_of t p a (inherit_default a))
        last = if-pick (eqb (inherit_default a) 0) _ _ (λ b. tt)
            (λ b. k.fixed a 0 (inherit_default a) x (default-fixed a (eqb-false _ 0 b)))

        copied : (w : ℕ) → w ≤ p + 1 → (b : Bool) → eqb w 0 ≡ b →
            IfAny (given (let j : ℕ = pick b (λ u. 0) (λ u. attribute_id t (w - 1) a) in
            pick (eqb j 0) (λ u. none) (λ u. some (entry_at t (j - 1))))
            (λ e. some e) (λ u. default_of t p a (inherit_default a)))
        copied w l true e = last
        copied w l false e = one (eqb (attribute_id t (w - 1) a) 0) refl
          where
            one : (b : Bool) → eqb (attribute_id t (w - 1) a) 0 ≡ b →
                IfAny (given (pick b (λ u. none) (λ u. some (entry_at t (attribute_id t (w - 1) a - 1)))) (λ e. some e)
                (λ u. default_of t p a (inherit_default a)))
            one true f = last
            one false f = held (w - 1) a (omega arith) (eqb-false _ 0 f)

        go : (w : ℕ) → w ≤ p + 1 →
            IfAny (given (let j : ℕ = pick (eqb w 0) (λ u. 0) (λ u. attribute_id t (w - 1) a) in
            pick (eqb j 0) (λ u. none) (λ u. some (entry_at t (j - 1))))
            (λ e. some e) (λ u. default_of t p a (inherit_default a)))
        go w l = copied w l (eqb w 0) refl

    appending : (a i : ℕ) (v : Part) (c : ℕ) → is_attribute a ≡ true → Q v c → IfAny (append_attribute t p tag a i v c)
    unfolding append_attribute
    appending a i v c x h =
        if-pick (or (or (eqb a AId.Style) (eqb a AId.Class)) (and (eqb tag EId.Tspan) (eqb a AId.Href))) _ _ (λ b. tt)
        (λ b. if-pick (and (allows_inherit_value a) (same_bytes v.bytes inherit_word)) _ _ (λ b'. resolved a x) (λ b'. k.made a i v c x h))

    adding : (g : Bool) (es : List Entry) (x : Attribute) → Q x.value.part x.value.command → Every P es →
        Every P (add_attribute t p tag g es x)
    unfolding add_attribute is_taken
    adding g es x h s =
        every-pick (not (is_taken g x)) _ _ (λ b. s)
        (λ b. every-pick (and (eqb x.name AId.Href) (has_entry AId.Href es)) _ _
        (λ b'. every-pick (eqb x.namespace 0) _ _
        (λ b''. every_first (with_value x.value) AId.Href es (λ e q. k.over x.value e h q) s) (λ b''. s))
        (λ b'. every-with_more es (append_attribute t p tag x.name 0 x.value.part x.value.command) s
        (appending x.name 0 x.value.part x.value.command (taken (is_taken g x) refl b) h)))
      where
        taken : (b : Bool) → is_taken g x ≡ b → not b ≡ false → is_attribute x.name ≡ true
        taken true e f = and_right (leb x.namespace 3) (is_attribute x.name)
            (and_left (and (leb x.namespace 3) (is_attribute x.name)) _ e)
        taken false e f = let z : ◌≡◌ {A = ℕ} 0 1 = ap (λ (c : Bool). pick c (λ u. 1) (λ u. 0)) (sym f) in absurd (omega arith)

    module _ (d : Declaration) (h : Q d.value.part d.value.command) (hs : Every (λ (r : Reading). Q r.part d.value.command)
        d.value.readings) where
      inserting : (es : List Entry) (a : ℕ) (v : Part) → is_attribute a ≡ true → Q v d.value.command → Every P es →
          Every P (insert_attribute t p tag d es a v)
      inserting es a v x g s = every-insert a es _ s (appending a d.important v d.value.command x g)

      reading : (n : ℕ) (rs : List Reading) → Every (λ (r : Reading). Q r.part d.value.command) rs → (es : List Entry) (a : ℕ) →
          is_attribute a ≡ true →
          Every P es → Every P (given (reading_of n rs) (λ v. insert_attribute t p tag d es a v) (λ u. es))
      unfolding reading_of
      reading n [] g es a x s = s
      reading n (r ∷ rs) g es a x s = go (eqb r.kind n) (reading n rs g.1 es a x s)
        where
          go : (b : Bool) → Every P (given (reading_of n rs) (λ v. insert_attribute t p tag d es a v) (λ u. es)) →
              Every P (given (pick b (λ u. some r.part) (λ u. reading_of n rs)) (λ v. insert_attribute t p tag d es a v) (λ u. es))
          go true q = inserting es a r.part x g.0 s
          go false q = q

      resetting : (es : List Entry) (r : Pair) → and (is_attribute r.key) (is_fixed r.value) ≡ true → Every P es →
          Every P (reset_to t p tag d es r)
      resetting es r x s = every-insert r.key es (some (fixed_entry r.key d.important r.value)) s
          (k.fixed r.key d.important r.value (and_left (is_attribute r.key) _ x)
          (fixed-facts r.value (and_right (is_attribute r.key) _ x)))

      writing : (es : List Entry) → Every P es → Every P (write_declaration t p tag d es)
      unfolding write_declaration
      writing es s =
          every-pick (eqb d.name marker) _ _
          (λ b. every-folded (λ es a. insert_attribute t p tag d es a d.value.part) (λ a. is_attribute a ≡ true)
          (λ es a x q. inserting es a d.value.part x h q) es (AId.MarkerStart ∷ AId.MarkerMid ∷ AId.MarkerEnd ∷ []) markers-attributes
          s)
          (λ b. every-pick (eqb d.name AId.Font) _ _
          (λ b'. every-pick (and (is_read t p tag d 9) (is_read t p tag d 10)) _ _
          (λ b''. every-folded (insert_part t p tag d) (λ (n : Pair). is_attribute n.value ≡ true)
          (λ es n x q. reading n.key d.value.readings hs es n.value x q)
          (folded (reset_to t p tag d) es font_resets) font_parts parts-attributes
          (every-folded (reset_to t p tag d) (λ (r : Pair). and (is_attribute r.key) (is_fixed r.value) ≡ true) resetting es font_resets
          resets-fixed s))
          (λ b''. s))
          (λ b'. every-pick (is_presentation d.name) _ _
          (λ b''. inserting es d.name d.value.part (presentation-attribute d.name b'') h s) (λ b''. s)))

    -- What holds of all that an element is read from holds of its entries.
    pub every-entry : (g : Bool) (e : Element) → ReadFrom Q e → Every P (entries_of t p tag g e)
    unfolding entries_of
    every-entry g e h =
        every-folded (λ es d. write_declaration t p tag d es)
        (λ (d : Declaration). Q d.value.part d.value.command × Every (λ (r : Reading). Q r.part d.value.command)
        d.value.readings)
        (λ es d q s. writing d q.0 q.1 es s) (folded (add_attribute t p tag g) [] e.attributes) e.declarations h.1
        (every-folded (add_attribute t p tag g) (λ (a : Attribute). Q a.value.part a.value.command) (λ es a q s. adding g es a q s)
        [] e.attributes h.0 tt)

-- STORING ENTRIES

-- The words of an entry that is read are those of the table.
pub entry-word : (t : Tree) (j w : ℕ) → w < 5 → get_or (entry_words (entry_at t j)) w 0 ≡ entry_word t j w
unfolding entry_at
entry-word t j zero l = refl
entry-word t j (suc zero) l = refl
entry-word t j (suc (suc zero)) l = refl
entry-word t j (suc (suc (suc zero))) l = refl
entry-word t j (suc (suc (suc (suc zero)))) l = refl
entry-word t j (suc (suc (suc (suc (suc w))))) l = absurd (omega arith)

-- Two entries with the same words are the same.
pub entry-by-words : (s t : Tree) (i : ℕ) → ((k : ℕ) → k < 5 → entry_word s i k ≡ entry_word t i k) → entry_at s i ≡ entry_at t i
unfolding entry_at
entry-by-words s t i f = λ x. record {
  name = f 0 (omega arith) x;
  important = f 1 (omega arith) x;
  start = f 2 (omega arith) x;
  size = f 3 (omega arith) x;
  command = f 4 (omega arith) x;
}

pub entries-long : (es : List Entry) → length (entries_words es) ≡ 5 * length es
unfolding entries_words
entries-long [] = refl
entries-long (e ∷ es) = let h : length (entries_words es) ≡ 5 * length es = entries-long es in omega arith

-- Of the words of entries, those from 5 k on are the words of one of the entries.
words-every : (P : Entry → Type 0) (es : List Entry) → Every P es → (k : ℕ) → k < length es → (e : Entry) →
    ((w : ℕ) → w < 5 → get_or (entry_words e) w 0 ≡ get_or (entries_words es) (5 * k + w) 0) → P e
unfolding entries_words
words-every P [] h k l e f = absurd (omega arith)
words-every P (x ∷ es) h zero l e f =
    let q : e ≡ x = λ i. record {
      name = f 0 (omega arith) i;
      important = f 1 (omega arith) i;
      start = f 2 (omega arith) i;
      size = f 3 (omega arith) i;
      command = f 4 (omega arith) i;
    } in
    rw q h.0
words-every P (x ∷ es) h (suc k) l e f =
    words-every P es h.1 k (omega arith) e (λ w b. f w b ∙ ap (λ j. get_or (entries_words (x ∷ es)) j 0) (place w))
  where
    place : (w : ℕ) → 5 * suc k + w ≡ suc (suc (suc (suc (suc (5 * k + w)))))
    place w = omega arith

module _ (c : ℕ) (es : List Entry) (p : ℕ) (t : Tree) where
  -- An entry that is none of the new ones is as it was.
  pub old-entry : (j : ℕ) → ((t.attribute_count ≤ j → j < t.attribute_count + length es → ⊥)) →
      entry_at (add_element c es p t) j ≡ entry_at t j
  unfolding add_element
  old-entry j h = entry-by-words (add_element c es p t) t j (λ k b. sets-out (entries_words es) t.attributes (5 * t.attribute_count)
      (5 * j + k)
      (λ x y. h (omega arith) (omega (arith, entries-long es))))

  -- What holds of all new entries holds of each where it stands.
  pub new-entry : (P : Entry → Type 0) → Every P es → 5 * (t.attribute_count + length es) ≤ length t.attributes →
      (j : ℕ) → t.attribute_count ≤ j → j < t.attribute_count + length es → P (entry_at (add_element c es p t) j)
  unfolding add_element
  new-entry P h room j a b =
      words-every P es h (j - n) (omega arith) (entry_at (add_element c es p t) j) (λ w l.
      entry-word (add_element c es p t) j w l ∙ ap (λ q. get_or (sets t.attributes (5 * n) (entries_words es)) q 0) (place w)
      ∙ sets-in (entries_words es) t.attributes (5 * n) (5 * (j - n) + w) (omega (arith, entries-long es))
      (omega (arith, entries-long es)))
    where
      n : ℕ
      n = t.attribute_count

      place : (w : ℕ) → 5 * j + w ≡ 5 * n + (5 * (j - n) + w)
      place w = omega arith

-- A CUT VALUE

-- The other entries are as they were.
pub none-others : (j : ℕ) (t : Tree) (i : ℕ) → (i ≡ j → ⊥) → entry_at (set_none j t) i ≡ entry_at t i
unfolding set_none
none-others j t i d = entry-by-words (set_none j t) t i (λ k b. sets-out (1 ∷ 0 ∷ 0 ∷ []) t.attributes (5 * j + 2) (5 * i + k)
    (λ x y. d (omega arith)))

-- The entry itself has fixed value 1, its name and importance kept.
pub none-entry : (j : ℕ) (t : Tree) → 5 * j + 5 ≤ length t.attributes →
    entry_at (set_none j t) j ≡ fixed_entry (entry_at t j).name (entry_at t j).important 1
unfolding set_none entry_at
none-entry j t room = λ x. record {
  name = kept 0 (omega arith) x;
  important = kept 1 (omega arith) x;
  start = new 0 (omega arith) x;
  size = new 1 (omega arith) x;
  command = new 2 (omega arith) x;
}
  where
    kept : (w : ℕ) → w < 2 → get_or (sets t.attributes (5 * j + 2) (1 ∷ 0 ∷ 0 ∷ [])) (5 * j + w) 0 ≡ get_or t.attributes (5 * j + w) 0
    kept w b = sets-out (1 ∷ 0 ∷ 0 ∷ []) t.attributes (5 * j + 2) (5 * j + w) (λ x y. omega arith)

    new : (w : ℕ) → w < 3 → get_or (sets t.attributes (5 * j + 2) (1 ∷ 0 ∷ 0 ∷ [])) (5 * j + (2 + w)) 0 ≡ get_or (1 ∷ 0 ∷ 0 ∷ []) w 0
    new w b = ap (λ q. get_or (sets t.attributes (5 * j + 2) (1 ∷ 0 ∷ 0 ∷ [])) q 0) (place w) ∙ sets-in (1 ∷ 0 ∷ 0 ∷ []) t.attributes
        (5 * j + 2) w (omega arith) (omega arith)
      where
        place : (w : ℕ) → 5 * j + (2 + w) ≡ 5 * j + 2 + w
        place w = omega arith
