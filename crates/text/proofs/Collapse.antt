-- Collapsing spaces: one byte after another, and one source after another. Assumes nothing.
use Prim.Native.Nat.{ℕ, suc, ◌+◌, ◌≤◌, ◌<◌}
use mathlib.Core.Path.{◌≡◌, refl, sym, ap, ◌∙◌}
use mathlib.Core.Bool.{Bool, true, false}
use mathlib.Core.List.{List, [], ◌∷◌, ◌++◌, append-nil}
use native.Mathlib.Numerals.{add-one}
use native.Mathlib.Omega.{arith}
use borrow.Author.Tests.{eqb-true}
use lib.Dec.{eqb}
use lib.ListN.{length, get_or, take, set, length-set, length-append}
use lib.Seq.{sets, slice, take-suc}
use Rattle.model.specs.Base.{pick, and}
use Rattle.model.specs.Drawing.{Source}
use Rattle.model.specs.Text.{XmlSpace, default, preserve, SPACE, is_default, converted, trim_text_after, trim_text, joined}
use Rattle.text.specs.Spaces.{space_by, is_dropped, last_after, trim_each}

-- ONE PART AFTER ANOTHER

dropped-same : (d : Bool) (p c : ℕ) → is_dropped d p c ≡ true → c ≡ p
dropped-same d p c e = eqb-true c p (go d (eqb c SPACE) (eqb c p) e)
  where
    go : (x y z : Bool) → and x (and y z) ≡ true → z ≡ true
    go true true z e = e
    go true false z e = cc
    go false y z e = cc

-- What is written for two parts, and the last byte behind them.
pub trim-on : (w : XmlSpace) (p : ℕ) (a b : List ℕ) →
    trim_text_after w p (a ++ b) ≡ trim_text_after w p a ++ trim_text_after w (last_after p a) b
unfolding trim_text_after last_after
trim-on w p [] b = refl
trim-on w p (x ∷ a) b = go (is_dropped (is_default w) p (converted x)) refl (trim-on w p a b) (trim-on w (converted x) a b)
  where
    go : (t : Bool) → is_dropped (is_default w) p (converted x) ≡ t →
        trim_text_after w p (a ++ b) ≡ trim_text_after w p a ++ trim_text_after w (last_after p a) b →
        trim_text_after w (converted x) (a ++ b) ≡ trim_text_after w (converted x) a ++ trim_text_after w (last_after (converted x) a) b →
        pick t (λ u. trim_text_after w p (a ++ b)) (λ u. converted x ∷ trim_text_after w (converted x) (a ++ b)) ≡
        pick t (λ u. trim_text_after w p a) (λ u. converted x ∷ trim_text_after w (converted x) a)
        ++ trim_text_after w (last_after (converted x) a) b
    go true e r s =
        r ∙ ap (λ k. trim_text_after w p a ++ trim_text_after w (last_after k a) b) (sym (dropped-same (is_default w) p (converted x) e))
    go false e r s = ap (λ l. converted x ∷ l) s

pub last_on : (p : ℕ) (a b : List ℕ) → last_after p (a ++ b) ≡ last_after (last_after p a) b
unfolding last_after
last_on p [] b = refl
last_on p (x ∷ a) b = last_on (converted x) a b

-- Sources one after another are trimmed as one text.
pub trim-joined : (w : XmlSpace) (p : ℕ) (chars : List ℕ) (from : List Source) →
    trim_each w p chars from ≡ trim_text_after w p (joined chars from)
unfolding trim_each joined trim_text_after
trim-joined w p chars [] = refl
trim-joined w p chars (a ∷ more) =
    let s = slice a.start (a.start + a.size) chars in
    ap (λ l. trim_text_after w p s ++ l) (trim-joined w (last_after p s) chars more) ∙ sym (trim-on w p s (joined chars more))

pub trim-sources : (w : XmlSpace) (chars : List ℕ) (from : List Source) → trim_each w 48 chars from ≡ trim_text w (joined chars from)
unfolding trim_text
trim-sources w chars from = trim-joined w 48 chars from

-- No more bytes are written than were read.
pub trim-less : (w : XmlSpace) (p : ℕ) (a : List ℕ) → length (trim_text_after w p a) ≤ length a
unfolding trim_text_after
trim-less w p [] = omega arith
trim-less w p (x ∷ a) = go (is_dropped (is_default w) p (converted x)) (trim-less w p a) (trim-less w (converted x) a)
  where
    go : (t : Bool) → length (trim_text_after w p a) ≤ length a → length (trim_text_after w (converted x) a) ≤ length a →
        length (pick t (λ u. trim_text_after w p a) (λ u. converted x ∷ trim_text_after w (converted x) a)) ≤ suc (length a)
    go true r s = omega arith
    go false r s = omega arith

-- ONE BYTE AFTER ANOTHER

-- One store more behind a run of stores.
sets_more : (xs l : List ℕ) (n c : ℕ) → sets l n (xs ++ (c ∷ [])) ≡ set (sets l n xs) (n + length xs) c
sets_more [] l n c = let e : n + 0 ≡ n = omega arith in sym (ap (λ k. set l k c) e)
sets_more (x ∷ xs) l n c =
    let e : suc n + length xs ≡ n + suc (length xs) = omega arith in
    sets_more xs (set l n x) (suc n) c ∙ ap (λ k. set (sets (set l n x) (suc n) xs) k c) e

default-by : (b : Bool) → is_default (space_by b) ≡ b
default-by true = refl
default-by false = refl

pub by_default : (w : XmlSpace) → space_by (is_default w) ≡ w
by_default default = refl
by_default preserve = refl

-- What one byte gives.
one-dropped : (b : Bool) (p x : ℕ) → is_dropped b p (converted x) ≡ true → trim_text_after (space_by b) p (x ∷ []) ≡ []
unfolding trim_text_after
one-dropped b p x e = rw (default-by b, e) refl

one_kept : (b : Bool) (p x : ℕ) → is_dropped b p (converted x) ≡ false → trim_text_after (space_by b) p (x ∷ []) ≡ converted x ∷ []
unfolding trim_text_after
one_kept b p x e = rw (default-by b, e) refl

-- The loop has read i bytes, and n bytes stand in the place.
pub record Trims (b : Bool) (source place₀ : List ℕ) (n₀ p₀ : ℕ) (place : List ℕ) (n p i : ℕ) : Type 0 where
  pub within : i ≤ length source
  pub low : n ≤ n₀ + i
  pub size : length place ≡ length place₀
  pub count : n ≡ n₀ + length (trim_text_after (space_by b) p₀ (take i source))
  pub last : p ≡ last_after p₀ (take i source)
  pub text : place ≡ sets place₀ n₀ (trim_text_after (space_by b) p₀ (take i source))

pub trims-none : (b : Bool) (source place : List ℕ) (n p : ℕ) → Trims b source place n p place n p 0
unfolding trim_text_after last_after
trims-none b source place n p =
    record { within = omega arith; low = omega arith; size = refl; count = omega arith; last = refl; text = refl }

module _ (b : Bool) (source place₀ : List ℕ) (n₀ p₀ : ℕ) (place : List ℕ) (n p i : ℕ) (t : Trims b source place₀ n₀ p₀ place n p i)
    (h : i < length source) (c : ℕ) (read : c ≡ converted (get_or source i 0)) where
  abbrev seen : List ℕ
  seen = take i source

  abbrev next : ℕ
  next = get_or source i 0

  more : take (i + 1) source ≡ seen ++ (next ∷ [])
  more = ap (λ k. take k source) (add-one i) ∙ take-suc source i 0 h

  trim-more : trim_text_after (space_by b) p₀ (take (i + 1) source) ≡
      trim_text_after (space_by b) p₀ seen ++ trim_text_after (space_by b) p (next ∷ [])
  trim-more =
      ap (trim_text_after (space_by b) p₀) more ∙ trim-on (space_by b) p₀ seen (next ∷ [])
      ∙ ap (λ k. trim_text_after (space_by b) p₀ seen ++ trim_text_after (space_by b) k (next ∷ [])) (sym t.last)

  last_more : c ≡ last_after p₀ (take (i + 1) source)
  unfolding last_after
  last_more = read ∙ sym (last_on p₀ seen (next ∷ [])) ∙ ap (last_after p₀) (sym more)

  pub trims-dropped : is_dropped b p c ≡ true → Trims b source place₀ n₀ p₀ place n c (i + 1)
  trims-dropped d =
      let same : trim_text_after (space_by b) p₀ (take (i + 1) source) ≡ trim_text_after (space_by b) p₀ seen =
      trim-more ∙ ap (λ l. trim_text_after (space_by b) p₀ seen ++ l) (one-dropped b p next (ap (is_dropped b p) (sym read) ∙ d))
      ∙ append-nil (trim_text_after (space_by b) p₀ seen) in
      record {
        within = omega arith;
        low = omega (arith, t.low);
        size = t.size;
        count = t.count ∙ ap (λ (l : List ℕ). n₀ + length l) (sym same);
        last = last_more;
        text = t.text ∙ ap (sets place₀ n₀) (sym same);
      }

  pub trims-kept : is_dropped b p c ≡ false → Trims b source place₀ n₀ p₀ (set place n c) (n + 1) c (i + 1)
  trims-kept d =
      let one : trim_text_after (space_by b) p₀ (take (i + 1) source) ≡ trim_text_after (space_by b) p₀ seen ++ (c ∷ []) =
      trim-more ∙ ap (λ l. trim_text_after (space_by b) p₀ seen ++ l) (one_kept b p next (ap (is_dropped b p) (sym read) ∙ d))
      ∙ ap (λ k. trim_text_after (space_by b) p₀ seen ++ (k ∷ [])) (sym read) in
      record {
        within = omega arith;
        low = omega (arith, t.low);
        size = length-set place n c ∙ t.size;
        count = omega (arith, t.count, ap length one, length-append (trim_text_after (space_by b) p₀ seen) (c ∷ []));
        last = last_more;
        text = ap (λ l. set l n c) t.text ∙ ap (λ k. set (sets place₀ n₀ (trim_text_after (space_by b) p₀ seen)) k c) t.count
            ∙ sym (sets_more (trim_text_after (space_by b) p₀ seen) place₀ n₀ c) ∙ ap (sets place₀ n₀) (sym one);
      }
