-- The attributes of an element: which one of a name stands, and SVG 2's rule for href.
use Rattle.std.specs.Prelude.{ℕ, ◌≤◌, ◌≡◌, ◌⊎◌, Bool, not, leb, length}
use Rattle.std.proofs.Math.Path.{refl, ap}
use Rattle.std.proofs.Common.{sym, ◌∙◌, inl, inr, arith, eqb-true, ne_eqb}
use Rattle.std.proofs.Math.Bool.{true, false}
use Rattle.std.proofs.lemmas.Bool.{false≢true, eqb-false}
use mathlib.Core.List.{List, [], ◌∷◌, ◌++◌}
use Rattle.std.proofs.Math.Option.{Option, none, some}
use Rattle.std.proofs.Math.Dec.{eqb}
use Rattle.model.specs.Base.{pick, and, or, given, or_else, folded, among}
use Rattle.model.specs.Names.{is_attribute, allows_inherit_value, is_declared_only}
use Rattle.model.specs.EId
use Rattle.model.specs.AId
use Rattle.model.specs.Drawing.{Value, Attribute, Element, attribute_in, iri_of, use_href, tref_href}
use Rattle.model.specs.Tables.{Tree, Entry}
use Rattle.model.specs.Element.{append_attribute, is_taken, has_entry, on_first, with_value, overwrite_href, with_more, add_attribute}
use Rattle.standards.specs.CssCascade.{first_of, last_of, those}
use Rattle.standards.specs.SvgHref.{NONE, XLINK, is_href, hrefs, value_in, used_href}
use Rattle.standards.proofs.Theorems.Cascade.{one-of-one, Called, append-called, entry_of, none-there, at-end}

-- WHAT A LINK FOLLOWS

first-in : (n : ℕ) (xs : List Attribute) → attribute_in n AId.Href xs ≡ value_in (first_of (hrefs n xs))
unfolding attribute_in hrefs those
first-in n [] = refl
first-in n (x ∷ xs) = go (eqb x.namespace n) (eqb x.name AId.Href) (first-in n xs)
  where
    go : (a b : Bool) → attribute_in n AId.Href xs ≡ value_in (first_of (those (is_href n) xs)) →
        pick (and a b) (λ u. some x.value) (λ u. attribute_in n AId.Href xs)
        ≡ value_in (first_of (pick (and b a) (λ u. x ∷ those (is_href n) xs) (λ u. those (is_href n) xs)))
    go true true h = refl
    go true false h = h
    go false true h = h
    go false false h = h

else-in : (a b : Option Attribute) → or_else (value_in a) (value_in b) ≡ value_in (or_else a b)
else-in none b = refl
else-in (some x) b = refl

-- USE. For every element, with its hrefs in any order: a `use` follows the href that SVG 2 says.
pub use-follows : (e : Element) → use_href e ≡ iri_of (used_href e.attributes)
unfolding use_href used_href
use-follows e =
    ap (λ o. iri_of o) (ap (λ o. or_else o (attribute_in XLINK AId.Href e.attributes)) (first-in NONE e.attributes)
    ∙ ap (λ o. or_else (value_in (first_of (hrefs NONE e.attributes))) o) (first-in XLINK e.attributes)
    ∙ else-in (first_of (hrefs NONE e.attributes)) (first_of (hrefs XLINK e.attributes)))

-- TREF, which SVG 2 no longer has, follows the href in XLink first. THE DIFFERENCE: it is the one in XLink wherever there is one.
pub tref-follows : (e : Element) → tref_href e ≡ iri_of
    (value_in (or_else (first_of (hrefs XLINK e.attributes)) (first_of (hrefs NONE e.attributes))))
unfolding tref_href
tref-follows e =
    ap (λ o. iri_of o) (ap (λ o. or_else o (attribute_in NONE AId.Href e.attributes)) (first-in XLINK e.attributes)
    ∙ ap (λ o. or_else (value_in (first_of (hrefs XLINK e.attributes))) o) (first-in NONE e.attributes)
    ∙ else-in (first_of (hrefs XLINK e.attributes)) (first_of (hrefs NONE e.attributes)))

-- Where an element has hrefs in one of the two namespaces alone, as nearly every drawing has, tref too follows the one that SVG 2 says.
pub tref-agrees : (e : Element) → (hrefs NONE e.attributes ≡ []) ⊎ (hrefs XLINK e.attributes ≡ []) →
    tref_href e ≡ iri_of (used_href e.attributes)
unfolding used_href
tref-agrees e (inl h) = tref-follows e ∙ rw h (ap (λ o. iri_of (value_in o)) (nothing (first_of (hrefs XLINK e.attributes))))
  where
    nothing : (o : Option Attribute) → or_else o none ≡ o
    nothing none = refl
    nothing (some x) = refl
tref-agrees e (inr h) = tref-follows e ∙ rw h (ap (λ o. iri_of (value_in o)) (nothing (first_of (hrefs NONE e.attributes))))
  where
    nothing : (o : Option Attribute) → o ≡ or_else o none
    nothing none = refl
    nothing (some x) = refl

-- WHAT THE TREE HAS

-- The entry of an href with that value.
abbrev pub href_entry : Value → Entry
href_entry v = record { name = AId.Href; important = 0; start = v.part.start; size = v.part.size; command = v.command }

-- The entry of an href that may be there.
abbrev pub href_entry_of : Option Value → Option Entry
href_entry_of none = none
href_entry_of (some v) = some (href_entry v)

-- The value so far, and one attribute more: an href in no namespace always, one in XLink if there was none.
abbrev href_step : Option Value → Attribute → Option Value
href_step o x = pick (is_href NONE x) (λ u. some x.value) (λ u. pick (is_href XLINK x) (λ u. or_else o (some x.value)) (λ u. o))

href-last : (o : Option Value) (xs : List Attribute) →
    folded href_step o xs ≡ or_else (value_in (last_of (hrefs NONE xs))) (or_else o (value_in (first_of (hrefs XLINK xs))))
unfolding hrefs those last_of
href-last none [] = refl
href-last (some v) [] = refl
href-last o (x ∷ xs) = go (eqb x.name AId.Href) (eqb x.namespace 0) refl (eqb x.namespace 2) refl (λ o. href-last o xs)
  where
    under : (b o : Option Value) (v : Value) → or_else (or_else b (some v)) o ≡ or_else b (some v)
    under none o v = refl
    under (some x) o v = refl

    last-value : (l : Option Attribute) (x : Attribute) → value_in (or_else l (some x)) ≡ or_else (value_in l) (some x.value)
    last-value none x = refl
    last-value (some y) x = refl

    else-more : (o : Option Value) (v : Value) (r : Option Value) → or_else (or_else o (some v)) r ≡ or_else o (some v)
    else-more none v r = refl
    else-more (some w) v r = refl

    go : (a b : Bool) → eqb x.namespace 0 ≡ b → (c : Bool) → eqb x.namespace 2 ≡ c →
        ((o : Option Value) → folded href_step o xs ≡ or_else (value_in (last_of (those (is_href NONE) xs)))
        (or_else o (value_in (first_of (those (is_href XLINK) xs))))) →
        folded href_step (pick (and a b) (λ u. some x.value) (λ u. pick (and a c) (λ u. or_else o (some x.value)) (λ u. o))) xs
        ≡ or_else (value_in (last_of (pick (and a b) (λ u. x ∷ those (is_href NONE) xs) (λ u. those (is_href NONE) xs))))
        (or_else o (value_in (first_of (pick (and a c) (λ u. x ∷ those (is_href XLINK) xs) (λ u. those (is_href XLINK) xs)))))
    go false b p c q k = k o
    go true true p true q k = absurd (omega (arith, eqb-true x.namespace 0 p, eqb-true x.namespace 2 q))
    go true true p false q k =
        k (some x.value) ∙ sym (ap (λ r. or_else r (or_else o (value_in (first_of (those (is_href XLINK) xs)))))
        (last-value (last_of (those (is_href NONE) xs)) x)
        ∙ under (value_in (last_of (those (is_href NONE) xs))) _ x.value)
    go true false p true q k =
        k (or_else o (some x.value)) ∙ ap (λ r. or_else (value_in (last_of (those (is_href NONE) xs))) r)
        (else-more o x.value (value_in (first_of (those (is_href XLINK) xs))))
    go true false p false q k = k o

-- ONE ATTRIBUTE

taken-href : (g : Bool) (x : Attribute) → x.name ≡ AId.Href → or (eqb x.namespace 0) (eqb x.namespace 2) ≡ true → is_taken g x ≡ true
unfolding is_taken is_attribute is_declared_only among
taken-href g x h n = rw (h, n, low) (go g)
  where
    low : leb x.namespace 3 ≡ true
    low = either (eqb x.namespace 0) (eqb x.namespace 2) refl refl n
      where
        either : (a b : Bool) → eqb x.namespace 0 ≡ a → eqb x.namespace 2 ≡ b → or a b ≡ true → leb x.namespace 3 ≡ true
        either true b p q k = rw (eqb-true x.namespace 0 p) refl
        either false true p q k = rw (eqb-true x.namespace 2 q) refl
        either false false p q k = absurd (false≢true k)

    go : (g : Bool) → and (not (and g false)) true ≡ true
    go true = refl
    go false = refl

other-href : (g : Bool) (x : Attribute) → x.name ≡ AId.Href → or (eqb x.namespace 0) (eqb x.namespace 2) ≡ false →
    is_taken g x ≡ false
unfolding is_taken is_attribute is_declared_only among
other-href g x h n = rw (h, n) (go (leb x.namespace 3) g)
  where
    go : (l g : Bool) → and (and l true) (and (not (and g false)) false) ≡ false
    go true true = refl
    go true false = refl
    go false g = refl

with_first : (v : Value) (es : List Entry) → has_entry AId.Href es ≡ true →
    entry_of AId.Href (on_first (with_value v) AId.Href es) ≡ given (entry_of AId.Href es) (λ e. some (with_value v e)) (λ u. none)
unfolding has_entry entry_of on_first
with_first v [] h = absurd (false≢true h)
with_first v (e ∷ es) h = go (eqb e.name AId.Href) refl h (with_first v es)
  where
    go : (b : Bool) → eqb e.name AId.Href ≡ b → pick b (λ u. true) (λ u. has_entry AId.Href es) ≡ true →
        (has_entry AId.Href es ≡ true → entry_of AId.Href (on_first (with_value v) AId.Href es)
        ≡ given (entry_of AId.Href es) (λ e. some (with_value v e)) (λ u. none)) →
        entry_of AId.Href (pick b (λ u. with_value v e ∷ es) (λ u. e ∷ on_first (with_value v) AId.Href es))
        ≡ given (pick b (λ u. some e) (λ u. entry_of AId.Href es)) (λ e. some (with_value v e)) (λ u. none)
    go true q k r = rw q refl
    go false q k r = rw q (r k)

has_some : (a : ℕ) (es : List Entry) → has_entry a es ≡ true → entry_of a es ≡ none → ⊥
unfolding has_entry entry_of
has_some a [] h g = false≢true h
has_some a (e ∷ es) h g = go (eqb e.name a) h g (has_some a es)
  where
    go : (b : Bool) → pick b (λ u. true) (λ u. has_entry a es) ≡ true → pick b (λ u. some e) (λ u. entry_of a es) ≡ none →
        (has_entry a es ≡ true → entry_of a es ≡ none → ⊥) → ⊥
    go true h g r = false≢true (sym (ap (λ o. given o (λ x. true) (λ u. false)) g))
    go false h g r = r h g

pub with-more : (a : ℕ) (es : List Entry) (o : Option Entry) (b : ℕ) → Called b o → eqb b a ≡ false →
    entry_of a (with_more es o) ≡ entry_of a es
with-more a es none b c h = refl
with-more a es (some e) b c h = at-end a es e ∙ rw (c, h) (nothing (entry_of a es))
  where
    nothing : (o : Option Entry) → or_else o none ≡ o
    nothing none = refl
    nothing (some x) = refl

module _ (t : Tree) (p tag : ℕ) (g : Bool) (span : eqb tag EId.Tspan ≡ false) where
  made-href : (v : Value) → append_attribute t p tag AId.Href 0 v.part v.command ≡ some (href_entry v)
  unfolding append_attribute allows_inherit_value among
  made-href v = rw span refl

  -- An href that is taken, behind the entries so far.
  href-taken : (es : List Entry) (o : Option Value) (x : Attribute) → x.name ≡ AId.Href → entry_of AId.Href es ≡ href_entry_of o →
      (z : Bool) → eqb x.namespace 0 ≡ z →
      entry_of AId.Href (pick (has_entry AId.Href es) (λ v. overwrite_href x es)
      (λ v. with_more es (append_attribute t p tag x.name 0 x.value.part x.value.command)))
      ≡ href_entry_of (pick z (λ u. some x.value) (λ u. or_else o (some x.value)))
  href-taken es o x h e z n = go (has_entry AId.Href es) refl z n o e
    where
      new : has_entry AId.Href es ≡ false → entry_of AId.Href
          (with_more es (append_attribute t p tag x.name 0 x.value.part x.value.command)) ≡ some (href_entry x.value)
      new q = rw (h, made-href x.value) (at-end AId.Href es (href_entry x.value) ∙ rw (none-there AId.Href es q) refl)

      go : (b : Bool) → has_entry AId.Href es ≡ b → (z : Bool) → eqb x.namespace 0 ≡ z → (o : Option Value) →
          entry_of AId.Href es ≡ href_entry_of o →
          entry_of AId.Href (pick b (λ v. overwrite_href x es)
          (λ v. with_more es (append_attribute t p tag x.name 0 x.value.part x.value.command)))
          ≡ href_entry_of (pick z (λ u. some x.value) (λ u. or_else o (some x.value)))
      go true q z n none e = absurd (has_some AId.Href es q e)
      go true q true n (some v) e = rw n (with_first x.value es q ∙ rw e refl)
      go true q false n (some v) e = rw n e
      go false q z n (some v) e = absurd (false≢true (sym (ap (λ o. given o (λ x. true) (λ u. false)) (sym e ∙ none-there AId.Href es q))))
      go false q true n none e = new q
      go false q false n none e = new q

  one-attribute : (es : List Entry) (o : Option Value) (x : Attribute) → entry_of AId.Href es ≡ href_entry_of o →
      entry_of AId.Href (add_attribute t p tag g es x) ≡ href_entry_of (href_step o x)
  unfolding add_attribute
  one-attribute es o x e = go (eqb x.name AId.Href) refl
    where
      others : (a : Bool) → eqb x.name AId.Href ≡ false →
          entry_of AId.Href (pick a (λ u. es) (λ u. with_more es
          (append_attribute t p tag x.name 0 x.value.part x.value.command))) ≡ href_entry_of o
      others true q = e
      others false q = with-more AId.Href es (append_attribute t p tag x.name 0 x.value.part x.value.command) x.name
          (append-called t p tag x.name 0 x.value.part x.value.command) q ∙ e

      spaces : (a b : Bool) → eqb x.name AId.Href ≡ true → eqb x.namespace 0 ≡ a → eqb x.namespace 2 ≡ b →
          entry_of AId.Href (add_attribute t p tag g es x) ≡ href_entry_of (href_step o x)
      spaces true b q m n = simp (taken-href g x (eqb-true x.name AId.Href q) (rw m refl), q, m)
          (simp m at (href-taken es o x (eqb-true x.name AId.Href q) e true m))
      spaces false true q m n =
          simp (taken-href g x (eqb-true x.name AId.Href q) (rw (m, n) refl), q, m, n)
          (simp m at (href-taken es o x (eqb-true x.name AId.Href q) e false m))
      spaces false false q m n = simp (other-href g x (eqb-true x.name AId.Href q) (rw (m, n) refl), q, m, n) e

      go : (b : Bool) → eqb x.name AId.Href ≡ b → entry_of AId.Href (add_attribute t p tag g es x) ≡ href_entry_of (href_step o x)
      go true q = spaces (eqb x.namespace 0) (eqb x.namespace 2) q refl refl
      go false q = simp q (others (not (is_taken g x)) q)

  many-attributes : (xs : List Attribute) (es : List Entry) (o : Option Value) → entry_of AId.Href es ≡ href_entry_of o →
      entry_of AId.Href (folded (add_attribute t p tag g) es xs) ≡ href_entry_of (folded href_step o xs)
  many-attributes [] es o h = h
  many-attributes (x ∷ xs) es o h = many-attributes xs (add_attribute t p tag g es x) (href_step o x) (one-attribute es o x h)

  -- THE TREE. For every list of attributes, in any order: the entry of href is the last one in no namespace, else the first one in XLink.
  pub tree-href : (xs : List Attribute) →
      entry_of AId.Href (folded (add_attribute t p tag g) [] xs)
      ≡ href_entry_of (or_else (value_in (last_of (hrefs NONE xs))) (value_in (first_of (hrefs XLINK xs))))
  unfolding entry_of
  tree-href xs = many-attributes xs [] none refl ∙ ap href_entry_of (href-last none xs)

  -- So it is the href that SVG 2 says, and the one that `use` follows, wherever there is at most one in no namespace, as in every XML
  -- document: <use xlink:href="#a" href="#b"/>, in either order.
  pub tree-href-used : (xs : List Attribute) → length (hrefs NONE xs) ≤ 1 → entry_of AId.Href (folded (add_attribute t p tag g) [] xs)
      ≡ href_entry_of (used_href xs)
  unfolding used_href
  tree-href-used xs h =
      tree-href xs ∙ ap (λ o. href_entry_of (or_else (value_in o) (value_in (first_of (hrefs XLINK xs)))))
      (sym (one-of-one (hrefs NONE xs) h))
      ∙ ap href_entry_of (else-in (first_of (hrefs NONE xs)) (first_of (hrefs XLINK xs)))

-- ATTRIBUTES OF ONE NAME

off : (a : ℕ) (v : Value) → eqb a AId.Href ≡ false → (es : List Entry) → entry_of a (on_first (with_value v) AId.Href es) ≡ entry_of a es
unfolding entry_of on_first
off a v h [] = refl
off a v h (e ∷ es) = go (eqb e.name AId.Href) refl (off a v h es)
  where
    go : (b : Bool) → eqb e.name AId.Href ≡ b → entry_of a (on_first (with_value v) AId.Href es) ≡ entry_of a es →
        entry_of a (pick b (λ u. with_value v e ∷ es) (λ u. e ∷ on_first (with_value v) AId.Href es)) ≡ entry_of a (e ∷ es)
    go true q k = rw (ne_eqb e.name a (λ z. eqb-false a AId.Href h (sym z ∙ eqb-true e.name AId.Href q))) refl
    go false q k = rw k refl

module _ (t : Tree) (p tag : ℕ) (g : Bool) where
  -- The entry of the first attribute of that name that is taken and not dropped. A document has one in each namespace at most.
  unfoldable pub first_made : ℕ → List Attribute → Option Entry
  first_made a [] = none
  first_made a (x ∷ xs) = pick (and (is_taken g x) (eqb x.name a))
      (λ u. or_else (append_attribute t p tag x.name 0 x.value.part x.value.command) (first_made a xs)) (λ u. first_made a xs)

  overwrite-other : (a : ℕ) (x : Attribute) (es : List Entry) → eqb a AId.Href ≡ false → entry_of a (overwrite_href x es) ≡ entry_of a es
  overwrite-other a x es h = go (eqb x.namespace 0) (changed es)
    where
      changed : (es : List Entry) → entry_of a (on_first (with_value x.value) AId.Href es) ≡ entry_of a es
      changed = off a x.value h

      go : (b : Bool) → entry_of a (on_first (with_value x.value) AId.Href es) ≡ entry_of a es →
          entry_of a (pick b (λ u. on_first (with_value x.value) AId.Href es) (λ u. es)) ≡ entry_of a es
      go true k = k
      go false k = refl

  -- For every name but href, such as fill, the first attribute of that name that is taken and not dropped stands.
  pub attributes-first : (a : ℕ) → eqb a AId.Href ≡ false → (xs : List Attribute) (es : List Entry) →
      entry_of a (folded (add_attribute t p tag g) es xs) ≡ or_else (entry_of a es) (first_made a xs)
  unfolding first_made add_attribute
  attributes-first a h [] es = nothing (entry_of a es)
    where
      nothing : (o : Option Entry) → o ≡ or_else o none
      nothing none = refl
      nothing (some x) = refl
  attributes-first a h (x ∷ xs) es = go (is_taken g x) (eqb x.name AId.Href) refl (λ es. attributes-first a h xs es)
    where
      made : Option Entry
      made = append_attribute t p tag x.name 0 x.value.part x.value.command

      assoc : (o q r : Option Entry) → or_else (or_else o q) r ≡ or_else o (or_else q r)
      assoc none q r = refl
      assoc (some y) q r = refl

      new : (o : Option Entry) → Called x.name o → ((es : List Entry) → entry_of a (folded (add_attribute t p tag g) es xs)
          ≡ or_else (entry_of a es) (first_made a xs)) →
          entry_of a (folded (add_attribute t p tag g) (with_more es o) xs)
          ≡ or_else (entry_of a es) (pick (eqb x.name a) (λ u. or_else o (first_made a xs)) (λ u. first_made a xs))
      new none c k = k es ∙ either (eqb x.name a)
        where
          either : (b : Bool) → or_else (entry_of a es) (first_made a xs)
              ≡ or_else (entry_of a es) (pick b (λ u. first_made a xs) (λ u. first_made a xs))
          either true = refl
          either false = refl
      new (some e) c k =
          let end : entry_of a (es ++ (e ∷ [])) ≡ or_else (entry_of a es) (pick (eqb x.name a) (λ u. some e) (λ u. none)) =
          at-end a es e ∙ rw c refl in
          k (es ++ (e ∷ [])) ∙ ap (λ o. or_else o (first_made a xs)) end
          ∙ assoc (entry_of a es) (pick (eqb x.name a) (λ u. some e) (λ u. none)) (first_made a xs)
          ∙ ap (λ o. or_else (entry_of a es) o) (either (eqb x.name a))
        where
          either : (b : Bool) → or_else (pick b (λ u. some e) (λ u. none)) (first_made a xs) ≡ pick b (λ u. some e) (λ u. first_made a xs)
          either true = refl
          either false = refl

      go : (y z : Bool) → eqb x.name AId.Href ≡ z →
          ((es : List Entry) → entry_of a (folded (add_attribute t p tag g) es xs) ≡ or_else (entry_of a es) (first_made a xs)) →
          entry_of a (folded (add_attribute t p tag g)
          (pick (not y) (λ u. es) (λ u. pick (and z (has_entry AId.Href es)) (λ v. overwrite_href x es) (λ v. with_more es made))) xs)
          ≡ or_else (entry_of a es) (pick (and y (eqb x.name a)) (λ u. or_else made (first_made a xs)) (λ u. first_made a xs))
      go false z q k = k es
      go true false q k = new made (append-called t p tag x.name 0 x.value.part x.value.command) k
      go true true q k = over (has_entry AId.Href es)
        where
          apart : eqb x.name a ≡ false
          apart = ne_eqb x.name a (λ e. eqb-false a AId.Href h (sym e ∙ eqb-true x.name AId.Href q))

          over : (b : Bool) → entry_of a (folded (add_attribute t p tag g) (pick b (λ v. overwrite_href x es) (λ v. with_more es made)) xs)
              ≡ or_else (entry_of a es) (pick (eqb x.name a) (λ u. or_else made (first_made a xs)) (λ u. first_made a xs))
          over true = k (overwrite_href x es) ∙ rw (overwrite-other a x es h, apart) refl
          over false = new made (append-called t p tag x.name 0 x.value.part x.value.command) k
