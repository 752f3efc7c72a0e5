-- The texts inside an element, one after another, trimmed as one. Assumes nothing.
use Prim.Native.Nat.{ℕ, suc, ◌+◌, ◌-◌, ◌≤◌}
use mathlib.Core.Path.{◌≡◌, sym, ap, ◌∙◌, subst}
use mathlib.Core.List.{List, [], ◌∷◌, ◌++◌}
use native.Mathlib.Omega.{arith}
use lib.ListN.{length, take, drop, set, length-take, length-drop, length-append}
use lib.Seq.{sets, slice, length-sets}
use Rattle.model.specs.Drawing.{Source, source_at, texts_in}
use Rattle.model.specs.Text.{XmlSpace, trim_text, trim_text_after, total_size, joined}
use Rattle.model.specs.Theorems.Sim.{Every}
use Rattle.model.specs.Theorems.Inside.{LiesText}
use Rattle.script.specs.declared.drawing.Drawing.{Drawing}
use Rattle.script.specs.declared.cursor.Cursor.{Cursor}
use Rattle.script.specs.Step.{Fit, mark_of}
use Rattle.std.specs.Prelude.{Some, None}
use Rattle.walk.specs.declared.node.TextAt.{TextAt}
use Rattle.walk.specs.Values.{events_at}
use Rattle.text.specs.declared.Trimmed.{Trimmed}
use Rattle.text.specs.Spaces.{last_after, trimmed, trim_each}
use Rattle.text.proofs.Collapse.{trim-less, trim-sources}
use Rattle.text.proofs.Appending.{lent_back}
use Rattle.pieces.specs.Quotes.{texts_from}
use Rattle.pieces.proofs.Summing.{TextIs}

-- A run of stores behind another.
sets-on : (xs ys l : List ℕ) (n : ℕ) → sets (sets l n xs) (n + length xs) ys ≡ sets l n (xs ++ ys)
sets-on [] ys l n = let e : n + 0 ≡ n = omega arith in ap (λ k. sets l k ys) e
sets-on (x ∷ xs) ys l n =
    let e : n + suc (length xs) ≡ suc n + length xs = omega arith in
    ap (λ k. sets (sets (set l n x) (suc n) xs) k ys) e ∙ sets-on xs ys (set l n x) (suc n)

-- A part of the characters is no longer than it says.
slice-most : (a n : ℕ) (l : List ℕ) → length (slice a (a + n) l) ≤ n
slice-most a n l = omega (arith, length-drop a (take (a + n) l), length-take (a + n) l)

-- The texts together are no longer than their sizes.
joined-most : (chars : List ℕ) (from : List Source) → length (joined chars from) ≤ total_size from
unfolding joined total_size
joined-most chars [] = omega arith
joined-most chars (a ∷ more) =
    omega (
      arith,
      joined-most chars more,
      slice-most a.start a.size chars,
      length-append (slice a.start (a.start + a.size) chars) (joined chars more),
    )

pub quoted-most : (w : XmlSpace) (chars : List ℕ) (from : List Source) → length (trim_text w (joined chars from)) ≤ total_size from
unfolding trim_text
quoted-most w chars from = omega (arith, trim-less w 48 (joined chars from), joined-most chars from)

-- The texts up to c stand in the place, with k elements open there.
pub record Putting (w : XmlSpace) (drawing : Drawing) (place₀ : List ℕ) (from : Cursor) (place : List ℕ) (c : Cursor) (k : ℕ) (d : Trimmed) :
    Type 0 where
  pub fit : Fit drawing c
  pub low : k ≤ c.at
  pub lie : Every (LiesText (length drawing.characters.now)) (texts_in k (events_at drawing c))
  pub fits : d.size + total_size (texts_in k (events_at drawing c)) ≤ length place
  pub long : length place ≡ length place₀
  pub count : d.size + length (trim_each w d.prev drawing.characters.now (texts_in k (events_at drawing c)))
      ≡ length (trim_each w 48 drawing.characters.now (texts_from drawing from))
  pub text : sets place d.size (trim_each w d.prev drawing.characters.now (texts_in k (events_at drawing c)))
      ≡ sets place₀ 0 (trim_each w 48 drawing.characters.now (texts_from drawing from))

module _ (w : XmlSpace) (drawing : Drawing) (place₀ : List ℕ) (from : Cursor) (place : List ℕ) (c : Cursor) (k : ℕ) (d : Trimmed)
    (h : Putting w drawing place₀ from place c k d) where
  module _ (x : TextAt) (t : TextIs drawing c k (Some x)) where
    abbrev own : Cursor
    own = x.own

    abbrev l : ℕ
    l = x.len

    abbrev rest : List Source
    rest = texts_in x.open_elements (events_at drawing x.behind)

    abbrev part : List ℕ
    part = slice own.chars (own.chars + l) drawing.characters.now

    abbrev put : List ℕ
    put = trim_text_after w d.prev part

    all_lie : Every (LiesText (length drawing.characters.now)) (source_at drawing.characters.now (mark_of own) l ∷ rest)
    all_lie = subst (Every (LiesText (length drawing.characters.now))) (sym t.0) h.lie

    sizes : l + total_size rest ≡ total_size (texts_in k (events_at drawing c))
    unfolding total_size
    sizes = ap total_size t.0

    pub text-inside : (own.chars + l ≤ length drawing.characters.now) × (d.size + l ≤ length place)
    text-inside = (all_lie.0, omega (arith, h.fits, sizes))

    trims : put ++ trim_each w (last_after d.prev part) drawing.characters.now rest ≡ trim_each w d.prev drawing.characters.now (texts_in k (events_at drawing c))
    unfolding trim_each
    trims = ap (trim_each w d.prev drawing.characters.now) t.0

    fewer : length put ≤ l
    fewer = omega (arith, trim-less w d.prev part, slice-most own.chars l drawing.characters.now)

    pub putting-more : (d' : Trimmed) → d' ≡ trimmed w d part → (place' : List ℕ) → place' ≡ sets place d.size put →
        Putting w drawing place₀ from place' x.behind x.open_elements d'
    putting-more d' e place' q = rw (e, q) (record {
      fit = t.1.behind.fit;
      low = t.1.low;
      lie = all_lie.1;
      fits = omega (arith, h.fits, sizes, fewer, length-sets place d.size put);
      long = length-sets place d.size put ∙ h.long;
      count = omega (
        arith,
        h.count,
        ap length trims,
        length-append put (trim_each w (last_after d.prev part) drawing.characters.now rest),
      );
      text = sets-on put (trim_each w (last_after d.prev part) drawing.characters.now rest) place d.size ∙ ap (sets place d.size) trims ∙ h.text;
    })

  pub putting-all : TextIs drawing c k None →
      (d.size ≡ length (trim_text w (joined drawing.characters.now (texts_from drawing from))))
      × (place ≡ sets place₀ 0 (trim_text w (joined drawing.characters.now (texts_from drawing from))))
  unfolding trim_each
  putting-all t =
      let e : [] ≡ trim_each w d.prev drawing.characters.now (texts_in k (events_at drawing c)) = ap (trim_each w d.prev drawing.characters.now) t.0 in
      let a = trim-sources w drawing.characters.now (texts_from drawing from) in (
        omega (arith, h.count, ap length e, ap length a),
        ap (sets place d.size) e ∙ h.text ∙ ap (sets place₀ 0) a,
      )

-- THE PLACE IN THE TEXT TABLE

module _ (w : XmlSpace) (chars : List ℕ) (from : List Source) (first size : ℕ) (total : size ≡ total_size from) where
  pub place-back : (bs part : List ℕ) → first + size ≤ length bs →
      part ≡ sets (take (first + size - first) (drop first bs)) 0 (trim_text w (joined chars from)) →
      take first bs ++ (part ++ drop (first + size - first) (drop first bs)) ≡ sets bs first (trim_text w (joined chars from))
  place-back bs part h e =
      lent_back bs (trim_text w (joined chars from)) part first (first + size - first) (omega (arith, quoted-most w chars from))
      (omega arith) e
