-- Spaces in one text: SVG 1.1's text, and what `trim_text` makes of it.
use Rattle.std.specs.Prelude.{ℕ, suc, ◌+◌, ◌≡◌, refl, ◌⊎◌, Bool, true, false, List, [], ◌∷◌, eqb, length}
use Rattle.std.proofs.Common.{sym, ap, ◌∙◌, inl, inr, arith, eqb-true, ne_eqb}
use Rattle.std.proofs.lemmas.Bool.{false≢true, eqb-false}
use Rattle.model.specs.Base.{pick, and, among}
use Rattle.model.specs.Text.{XmlSpace, default, preserve, converted, trim_text_after, trim_text}
use Rattle.standards.specs.SvgSpace.{NEWLINE, TAB, BLANK, RETURN, without, convert, no_leading, is_nothing, no_trailing, is_blank_next}
use Rattle.standards.specs.SvgSpace.{consolidated, as_default, as_preserve, Free, Place, ahead, in_word, in_gap, at_break, newline, blank}
use Rattle.standards.specs.SvgSpace.{visible, sort_of, seams_from, seams}

-- THE STANDARD'S DEFAULT AS ONE PASS

-- Where the pass is: nothing visible yet, in a word, behind a word and a space.
data Pass : Type 0 where
  front word gap : Pass

-- Each word, with one space between two of them.
words : Pass → List ℕ → List ℕ
words p [] = []
words front (b ∷ bs) = pick (eqb b BLANK) (λ u. words front bs) (λ u. b ∷ words word bs)
words word (b ∷ bs) = pick (eqb b BLANK) (λ u. words gap bs) (λ u. b ∷ words word bs)
words gap (b ∷ bs) = pick (eqb b BLANK) (λ u. words gap bs) (λ u. BLANK ∷ b ∷ words word bs)

-- What is left behind a space.
behind : List ℕ → List ℕ
behind r = pick (is_nothing r) (λ u. []) (λ u. BLANK ∷ r)

behind-twice : (r : List ℕ) → consolidated (behind (behind r)) ≡ consolidated (behind r)
unfolding consolidated behind
behind-twice [] = refl
behind-twice (c ∷ r) = refl

inner : (bs : List ℕ) → (consolidated (no_trailing bs) ≡ words word bs) × (consolidated (behind (no_trailing bs)) ≡ words gap bs)
unfolding consolidated no_trailing words behind
inner [] = (refl, refl)
inner (b ∷ bs) = go (eqb b BLANK) refl (inner bs)
  where
    go : (c : Bool) → eqb b BLANK ≡ c → (consolidated (no_trailing bs) ≡ words word bs)
        × (consolidated (behind (no_trailing bs)) ≡ words gap bs) →
        (consolidated (no_trailing (b ∷ bs)) ≡ words word (b ∷ bs)) × (consolidated (behind (no_trailing (b ∷ bs))) ≡ words gap (b ∷ bs))
    go true e h = rw (eqb-true b BLANK e) (h.1, behind-twice (no_trailing bs) ∙ h.1)
    go false e h = simp e (ap (λ r. b ∷ r) h.0, ap (λ r. BLANK ∷ b ∷ r) h.0)

-- Stripped and consolidated is: each word, with one space between two of them.
stripped : (bs : List ℕ) → consolidated (no_trailing (no_leading bs)) ≡ words front bs
unfolding consolidated no_trailing no_leading words
stripped [] = refl
stripped (b ∷ bs) = go (eqb b BLANK) refl (stripped bs)
  where
    go : (c : Bool) → eqb b BLANK ≡ c → consolidated (no_trailing (no_leading bs)) ≡ words front bs →
        consolidated (no_trailing (no_leading (b ∷ bs))) ≡ words front (b ∷ bs)
    go true e h = rw e h
    go false e h = simp e (ap (λ r. b ∷ r) (inner bs).0)

-- TRIM_TEXT

-- The text with each character converted as `trim_text` converts it.
spaced : List ℕ → List ℕ
spaced bs = convert TAB BLANK (convert NEWLINE BLANK (convert RETURN NEWLINE bs))

-- A space behind a space is dropped; p is what stands before.
squeezed : ℕ → List ℕ → List ℕ
squeezed p [] = []
squeezed p (b ∷ bs) = pick (and (eqb b BLANK) (eqb b p)) (λ u. squeezed p bs) (λ u. b ∷ squeezed b bs)

converted_as : (b : ℕ) (bs : List ℕ) → spaced (b ∷ bs) ≡ converted b ∷ spaced bs
unfolding spaced convert converted among
converted_as b bs = ap (λ c. c ∷ spaced bs) (go (eqb b 13) (eqb b 10) (eqb b 9) refl refl refl)
  where
    go : (x y z : Bool) → eqb b 13 ≡ x → eqb b 10 ≡ y → eqb b 9 ≡ z →
        pick (eqb (pick (eqb (pick (eqb b 13) (λ u. 10) (λ u. b)) 10) (λ u. 32) (λ u. pick (eqb b 13) (λ u. 10) (λ u. b))) 9) (λ u. 32)
        (λ u. pick (eqb (pick (eqb b 13) (λ u. 10) (λ u. b)) 10) (λ u. 32) (λ u. pick (eqb b 13) (λ u. 10) (λ u. b))) ≡ converted b
    go true y z e f g = simp e
    go false true z e f g = simp (e, f)
    go false false true e f g = simp (e, f, g)
    go false false false e f g = simp (e, f, g)

-- Preserve converts, and Default also drops a space behind a space.
trim-preserve : (p : ℕ) (bs : List ℕ) → trim_text_after preserve p bs ≡ spaced bs
unfolding trim_text_after spaced convert
trim-preserve p [] = refl
trim-preserve p (b ∷ bs) = rw (converted_as b bs) (ap (λ r. converted b ∷ r) (trim-preserve (converted b) bs))

trim-default : (p : ℕ) (bs : List ℕ) → trim_text_after default p bs ≡ squeezed p (spaced bs)
unfolding trim_text_after squeezed spaced convert
trim-default p [] = refl
trim-default p (b ∷ bs) =
    go (and (eqb (converted b) BLANK) (eqb (converted b) p)) (trim-default p bs) (trim-default (converted b) bs)
    ∙ sym (ap (squeezed p) (converted_as b bs))
  where
    go : (c : Bool) → trim_text_after default p bs ≡ squeezed p (spaced bs) →
        trim_text_after default (converted b) bs ≡ squeezed (converted b) (spaced bs) →
        pick c (λ u. trim_text_after default p bs) (λ u. converted b ∷ trim_text_after default (converted b) bs)
        ≡ pick c (λ u. squeezed p (spaced bs)) (λ u. converted b ∷ squeezed (converted b) (spaced bs))
    go true h g = h
    go false h g = ap (λ r. converted b ∷ r) g

-- THE EDGES

-- Without a space in front, if there is one.
abbrev pub no_first : List ℕ → List ℕ
no_first [] = []
no_first (b ∷ bs) = pick (eqb b BLANK) (λ u. bs) (λ u. b ∷ bs)

-- Without a space at the end, if there is one.
unfoldable pub no_last : List ℕ → List ℕ
no_last [] = []
no_last (b ∷ []) = pick (eqb b BLANK) (λ u. []) (λ u. b ∷ [])
no_last (b ∷ c ∷ bs) = b ∷ no_last (c ∷ bs)

-- The first space goes: what is left is squeezed as if a space stood before.
first_goes : (p : ℕ) (bs : List ℕ) → eqb BLANK p ≡ false → no_first (squeezed p bs) ≡ squeezed BLANK bs
unfolding squeezed
first_goes p [] h = refl
first_goes p (b ∷ bs) h = go (eqb b BLANK) refl
  where
    go : (c : Bool) → eqb b BLANK ≡ c → no_first (squeezed p (b ∷ bs)) ≡ squeezed BLANK (b ∷ bs)
    go true e = rw (eqb-true b BLANK e) (simp h)
    go false e = simp e

-- The last space goes: what is left are the words.
last_goes : (bs : List ℕ) (b : ℕ) → eqb b BLANK ≡ false →
    (no_last (b ∷ squeezed b bs) ≡ b ∷ words word bs) × (no_last (b ∷ BLANK ∷ squeezed BLANK bs) ≡ b ∷ words gap bs)
unfolding no_last squeezed words
last_goes [] b h = (rw h refl, refl)
last_goes (c ∷ bs) b h = go (eqb c BLANK) refl (last_goes bs b h) (λ e. last_goes bs c e)
  where
    go : (d : Bool) → eqb c BLANK ≡ d → (no_last (b ∷ squeezed b bs) ≡ b ∷ words word bs)
        × (no_last (b ∷ BLANK ∷ squeezed BLANK bs) ≡ b ∷ words gap bs) →
        (eqb c BLANK ≡ false → (no_last (c ∷ squeezed c bs) ≡ c ∷ words word bs)
        × (no_last (c ∷ BLANK ∷ squeezed BLANK bs) ≡ c ∷ words gap bs)) →
        (no_last (b ∷ squeezed b (c ∷ bs)) ≡ b ∷ words word (c ∷ bs))
        × (no_last (b ∷ BLANK ∷ squeezed BLANK (c ∷ bs)) ≡ b ∷ words gap (c ∷ bs))
    go true e k g =
        let n : eqb BLANK b ≡ false = ne_eqb BLANK b (λ q. eqb-false b BLANK h (sym q)) in
        rw (eqb-true c BLANK e) (simp n k.1, k.1)
    go false e k g = simp e (ap (λ r. b ∷ r) (g e).0, ap (λ r. b ∷ BLANK ∷ r) (g e).0)

edges-front : (bs : List ℕ) → no_last (squeezed BLANK bs) ≡ words front bs
unfolding no_last squeezed words
edges-front [] = refl
edges-front (b ∷ bs) = go (eqb b BLANK) refl (edges-front bs)
  where
    go : (c : Bool) → eqb b BLANK ≡ c → no_last (squeezed BLANK bs) ≡ words front bs →
        no_last (squeezed BLANK (b ∷ bs)) ≡ words front (b ∷ bs)
    go true e h = rw (eqb-true b BLANK e) h
    go false e h = simp e (last_goes bs b e).0

-- Nothing is removed where there is nothing to remove.
none-without : (c : ℕ) (bs : List ℕ) → Free c bs → without c bs ≡ bs
unfolding without
none-without c [] h = refl
none-without c (b ∷ bs) h = rw h.0 (ap (λ r. b ∷ r) (none-without c bs h.1))

pub none-converted : (c d : ℕ) (bs : List ℕ) → Free c bs → convert c d bs ≡ bs
unfolding convert
none-converted c d [] h = refl
none-converted c d (b ∷ bs) h = rw h.0 (ap (λ r. b ∷ r) (none-converted c d bs h.1))

-- What was converted is gone.
converted-free : (c d : ℕ) (bs : List ℕ) → eqb d c ≡ false → Free c (convert c d bs)
unfolding convert
converted-free c d [] h = tt
converted-free c d (b ∷ bs) h = (go (eqb b c) refl, converted-free c d bs h)
  where
    go : (x : Bool) → eqb b c ≡ x → eqb (pick (eqb b c) (λ u. d) (λ u. b)) c ≡ false
    go true e = rw e h
    go false e = simp e

-- The standard's default text, where newlines are first made spaces.
default-words : (bs : List ℕ) → as_default (convert NEWLINE BLANK bs) ≡ words front (convert TAB BLANK (convert NEWLINE BLANK bs))
unfolding as_default
default-words bs =
    ap (λ r. consolidated (no_trailing (no_leading (convert TAB BLANK r))))
    (none-without NEWLINE (convert NEWLINE BLANK bs) (converted-free NEWLINE BLANK bs refl))
    ∙ stripped _

-- THEOREMS

-- PRESERVE. What `trim_text` makes of any text under Preserve is the standard's text, with carriage returns taken as newlines.
pub preserve-is-standard : (bs : List ℕ) → trim_text preserve bs ≡ as_preserve (convert RETURN NEWLINE bs)
unfolding trim_text as_preserve spaced
preserve-is-standard bs = trim-preserve 48 bs

-- So it is the standard's text of every text that has no carriage return, such as "a\n b": XML 1.0 leaves none of its line ends behind.
pub preserve-without-return : (bs : List ℕ) → Free RETURN bs → trim_text preserve bs ≡ as_preserve bs
preserve-without-return bs h = preserve-is-standard bs ∙ ap as_preserve (none-converted RETURN NEWLINE bs h)

-- DEFAULT. `trim_text`, then a space off each end: the standard's text of the source with its newlines (and carriage returns) made spaces.
pub default-is-standard : (bs : List ℕ) → no_last (no_first (trim_text default bs))
    ≡ as_default (convert NEWLINE BLANK (convert RETURN NEWLINE bs))
unfolding trim_text spaced
default-is-standard bs =
    ap (λ r. no_last (no_first r)) (trim-default 48 bs) ∙ ap no_last (first_goes 48 (spaced bs) refl)
    ∙ edges-front (spaced bs) ∙ sym (default-words (convert RETURN NEWLINE bs))

-- NEWLINES. The text with newlines as spaces, and with newlines removed.
as_spaces : List ℕ → List ℕ
as_spaces bs = convert TAB BLANK (convert NEWLINE BLANK bs)

removed : List ℕ → List ℕ
removed bs = convert TAB BLANK (without NEWLINE bs)

-- What a character makes of both, by its kind.
by-sort : (b : ℕ) (bs : List ℕ) →
    ((sort_of b ≡ newline) × (as_spaces (b ∷ bs) ≡ BLANK ∷ as_spaces bs) × (removed (b ∷ bs) ≡ removed bs))
    ⊎ ((sort_of b ≡ blank) × (as_spaces (b ∷ bs) ≡ BLANK ∷ as_spaces bs) × (removed (b ∷ bs) ≡ BLANK ∷ removed bs))
    ⊎ ((sort_of b ≡ visible) × (as_spaces (b ∷ bs) ≡ b ∷ as_spaces bs) × (removed (b ∷ bs) ≡ b ∷ removed bs) × (eqb b BLANK ≡ false))
unfolding as_spaces removed convert without sort_of
by-sort b bs = go (eqb b 10) (eqb b 9) (eqb b 32) refl refl refl
  where
    go : (x y z : Bool) → eqb b 10 ≡ x → eqb b 9 ≡ y → eqb b 32 ≡ z →
        ((sort_of b ≡ newline) × (as_spaces (b ∷ bs) ≡ BLANK ∷ as_spaces bs) × (removed (b ∷ bs) ≡ removed bs))
        ⊎ ((sort_of b ≡ blank) × (as_spaces (b ∷ bs) ≡ BLANK ∷ as_spaces bs) × (removed (b ∷ bs) ≡ BLANK ∷ removed bs))
        ⊎ ((sort_of b ≡ visible) × (as_spaces (b ∷ bs) ≡ b ∷ as_spaces bs) × (removed (b ∷ bs) ≡ b ∷ removed bs) × (eqb b BLANK ≡ false))
    go true y z e f g = inl (simp e, simp e, simp e)
    go false true z e f g = inr (inl (simp (e, f), simp (e, f), simp (e, f)))
    go false false true e f g = inr (inl (simp (e, f, g), rw (eqb-true b 32 g) refl, rw (eqb-true b 32 g) refl))
    go false false false e f g = inr (inr (simp (e, f, g), simp (e, f), simp (e, f), g))

-- Where the pass over the text with newlines as spaces is.
abbrev spaces_pass : Place → Pass
spaces_pass ahead = front
spaces_pass in_word = word
spaces_pass in_gap = gap
spaces_pass at_break = gap

-- Where the pass over the text with newlines removed is.
abbrev removed_pass : Place → Pass
removed_pass ahead = front
removed_pass in_word = word
removed_pass in_gap = gap
removed_pass at_break = word

-- One character more for each seam, and the same text where there is none.
abbrev ApartBy : Place → ℕ → List ℕ → List ℕ → Type 0
ApartBy p n x y =
    (length (words (spaces_pass p) x) ≡ length (words (removed_pass p) y) + n)
    × (n ≡ 0 → words (spaces_pass p) x ≡ words (removed_pass p) y)

longer : (a b n : ℕ) (x y : List ℕ) → a ≡ b → (length x ≡ length y + n) × (n ≡ 0 → x ≡ y) →
    (length (a ∷ x) ≡ length (b ∷ y) + n) × (n ≡ 0 → a ∷ x ≡ b ∷ y)
longer a b n x y e h = (omega (arith, h.0), λ z. rw (e, h.1 z) refl)

seam-more : (b : ℕ) (n : ℕ) (x y : List ℕ) → (length x ≡ length y + n) × (n ≡ 0 → x ≡ y) →
    (length (BLANK ∷ b ∷ x) ≡ length (b ∷ y) + suc n) × (suc n ≡ 0 → BLANK ∷ b ∷ x ≡ b ∷ y)
seam-more b n x y h = (omega (arith, h.0), λ z. absurd (omega arith))

of-nothing : (as_spaces [] ≡ []) × (removed [] ≡ [])
unfolding as_spaces removed convert without
of-nothing = (refl, refl)

apart_by : (bs : List ℕ) (p : Place) → ApartBy p (seams_from p bs) (as_spaces bs) (removed bs)
unfolding words seams_from
apart_by [] p = rw (of-nothing.0, of-nothing.1) (refl, λ h. refl)
apart_by (b ∷ bs) p = go p (by-sort b bs) (λ q. apart_by bs q)
  where
    go : (p : Place) → ((sort_of b ≡ newline) × (as_spaces (b ∷ bs) ≡ BLANK ∷ as_spaces bs) × (removed (b ∷ bs) ≡ removed bs))
        ⊎ ((sort_of b ≡ blank) × (as_spaces (b ∷ bs) ≡ BLANK ∷ as_spaces bs) × (removed (b ∷ bs) ≡ BLANK ∷ removed bs))
        ⊎ ((sort_of b ≡ visible) × (as_spaces (b ∷ bs) ≡ b ∷ as_spaces bs) × (removed (b ∷ bs) ≡ b ∷ removed bs) × (eqb b BLANK ≡ false)) →
        ((q : Place) → ApartBy q (seams_from q bs) (as_spaces bs) (removed bs)) →
        ApartBy p (seams_from p (b ∷ bs)) (as_spaces (b ∷ bs)) (removed (b ∷ bs))
    go ahead (inl h) r = rw (h.0, h.1, h.2) (r ahead)
    go in_word (inl h) r = rw (h.0, h.1, h.2) (r at_break)
    go in_gap (inl h) r = rw (h.0, h.1, h.2) (r in_gap)
    go at_break (inl h) r = rw (h.0, h.1, h.2) (r at_break)
    go ahead (inr (inl h)) r = rw (h.0, h.1, h.2) (r ahead)
    go in_word (inr (inl h)) r = rw (h.0, h.1, h.2) (r in_gap)
    go in_gap (inr (inl h)) r = rw (h.0, h.1, h.2) (r in_gap)
    go at_break (inr (inl h)) r = rw (h.0, h.1, h.2) (r in_gap)
    go ahead (inr (inr h)) r = simp (h.0, h.1, h.2, h.3) (longer b b _ _ _ refl (r in_word))
    go in_word (inr (inr h)) r = simp (h.0, h.1, h.2, h.3) (longer b b _ _ _ refl (r in_word))
    go in_gap (inr (inr h)) r = simp (h.0, h.1, h.2, h.3) (longer BLANK BLANK _ _ _ refl (longer b b _ _ _ refl (r in_word)))
    go at_break (inr (inr h)) r = simp (h.0, h.1, h.2, h.3) (seam-more b _ _ _ (r in_word))

as-words : (bs : List ℕ) → (as_default (convert NEWLINE BLANK bs) ≡ words front (as_spaces bs)) × (as_default bs ≡ words front (removed bs))
unfolding as_spaces removed as_default
as-words bs = (default-words bs, stripped _)

-- Newlines made spaces instead of removed: one space more for each seam, and no other difference in length.
pub seams-longer : (bs : List ℕ) → length (as_default (convert NEWLINE BLANK bs)) ≡ length (as_default bs) + seams bs
unfolding seams
seams-longer bs = rw ((as-words bs).0, (as-words bs).1) (apart_by bs ahead).0

-- Where there is no seam the two are the same text.
pub seams-none : (bs : List ℕ) → seams bs ≡ 0 → as_default (convert NEWLINE BLANK bs) ≡ as_default bs
unfolding seams
seams-none bs h = rw ((as-words bs).0, (as-words bs).1) ((apart_by bs ahead).1 h)

-- The smallest case: "a", a newline, "b". The Rust's text is "a b", the standard's "ab"; there is one seam.
pub newline-case :
    (no_last (no_first (trim_text default (97 ∷ 10 ∷ 98 ∷ []))) ≡ 97 ∷ 32 ∷ 98 ∷ []) × (as_default (97 ∷ 10 ∷ 98 ∷ []) ≡ 97 ∷ 98 ∷ [])
    × (seams (97 ∷ 10 ∷ 98 ∷ []) ≡ 1)
unfolding trim_text trim_text_after converted among no_last as_default without convert no_leading no_trailing consolidated seams seams_from
    sort_of
newline-case = (refl, refl, refl)

-- A carriage return, which only a character reference can write, becomes a space; the standard names it nowhere and keeps it.
pub return-case : (trim_text preserve (13 ∷ []) ≡ 32 ∷ []) × (as_preserve (13 ∷ []) ≡ 13 ∷ [])
unfolding trim_text trim_text_after converted among as_preserve convert
return-case = (refl, refl)

-- WHAT STAYS UNDER DEFAULT AND PRESERVE

squeezed-visible : (p : ℕ) (bs : List ℕ) → without BLANK (squeezed p bs) ≡ without BLANK bs
unfolding squeezed without
squeezed-visible p [] = refl
squeezed-visible p (b ∷ bs) = go (eqb b BLANK) refl (squeezed-visible p bs) (squeezed-visible b bs)
  where
    drop-or-keep : (c : Bool) → without BLANK (squeezed p bs) ≡ without BLANK bs → without BLANK (squeezed BLANK bs) ≡ without BLANK bs →
        without BLANK (pick c (λ u. squeezed p bs) (λ u. BLANK ∷ squeezed BLANK bs)) ≡ without BLANK bs
    drop-or-keep true h g = h
    drop-or-keep false h g = g

    go : (c : Bool) → eqb b BLANK ≡ c → without BLANK (squeezed p bs) ≡ without BLANK bs →
        without BLANK (squeezed b bs) ≡ without BLANK bs →
        without BLANK (squeezed p (b ∷ bs)) ≡ without BLANK (b ∷ bs)
    go true e h g = let q = eqb-true b BLANK e in rw q (drop-or-keep (eqb BLANK p) h (rw q at g))
    go false e h g = simp e (ap (λ r. b ∷ r) g)

-- The characters other than white space are the source's, in their order, under both.
pub trim-visible : (w : XmlSpace) (bs : List ℕ) → without BLANK (trim_text w bs) ≡ without BLANK (as_preserve (convert RETURN NEWLINE bs))
unfolding trim_text as_preserve spaced
trim-visible default bs = ap (without BLANK) (trim-default 48 bs) ∙ squeezed-visible 48 (spaced bs)
trim-visible preserve bs = ap (without BLANK) (trim-preserve 48 bs)

-- No two spaces in a row.
abbrev pub NoTwo : List ℕ → Type 0
NoTwo [] = Unit {0}
NoTwo (b ∷ bs) = (eqb b BLANK ≡ true → is_blank_next bs ≡ false) × NoTwo bs

squeezed-no-two : (bs : List ℕ) (p : ℕ) → NoTwo (squeezed p bs) × (eqb p BLANK ≡ true → is_blank_next (squeezed p bs) ≡ false)
unfolding squeezed
squeezed-no-two [] p = (tt, λ e. refl)
squeezed-no-two (b ∷ bs) p = go (and (eqb b BLANK) (eqb b p)) refl (squeezed-no-two bs p) (squeezed-no-two bs b)
  where
    go : (c : Bool) → and (eqb b BLANK) (eqb b p) ≡ c → NoTwo (squeezed p bs)
        × (eqb p BLANK ≡ true → is_blank_next (squeezed p bs) ≡ false) →
        NoTwo (squeezed b bs) × (eqb b BLANK ≡ true → is_blank_next (squeezed b bs) ≡ false) →
        NoTwo (pick c (λ u. squeezed p bs) (λ u. b ∷ squeezed b bs))
        × (eqb p BLANK ≡ true → is_blank_next (pick c (λ u. squeezed p bs) (λ u. b ∷ squeezed b bs)) ≡ false)
    go true e h g = h
    go false e h g = (
      (g.1, g.0),
      λ q. ne_eqb b BLANK (λ z.
          let y : and (eqb b BLANK) (eqb b p) ≡ true = rw (z, eqb-true p BLANK q) refl in absurd (false≢true (sym e ∙ y))),
    )

-- Under Default no two spaces stand in a row.
pub trim-no-two : (bs : List ℕ) → NoTwo (trim_text default bs)
unfolding trim_text
trim-no-two bs = rw (trim-default 48 bs) (squeezed-no-two (spaced bs) 48).0
