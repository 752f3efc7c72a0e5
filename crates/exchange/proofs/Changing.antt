-- A drawing in which one text is other bytes, as long and UTF-8: check takes it, it has the same events, and its build gives the same
-- number, whatever that is. Demand 3 has this for builds that give 0. Assumes nothing.
use Prim.Native.Nat.{ℕ, ◌+◌, ◌-◌, ◌<◌, ◌≤◌}
use mathlib.Core.Path.{◌≡◌, refl, sym, ap, ◌∙◌}
use mathlib.Core.Logic.{inl, inr}
use mathlib.Core.Bool.{Bool, true, false}
use mathlib.Core.List.{List, [], ◌∷◌}
use mathlib.Core.Option.{some}
use native.Mathlib.Omega.{arith}
use lib.Dec.{ltb}
use lib.ListN.{length, take}
use lib.Seq.{sets, slice, length-sets, length-slice, ext_get_or, get_or-drop, get_or-take}
use Rattle.model.specs.Base.{pick, or}
use Rattle.model.specs.Utf8.{is_utf8}
use Rattle.model.specs.Drawing.{Element, Source, Event, begin, text, other, close, Mark, commands, events, text_numbered}
use Rattle.model.specs.Check.{starting, check_from, most_bytes, check}
use Rattle.model.specs.Tables.{Tree, Out, cleared}
use Rattle.model.specs.Parse.{plain}
use Rattle.model.specs.Build.{with_repairs, Result, answered, build}
use Rattle.model.specs.Noted.{Noted, stripped, noted_tree}
use Rattle.model.specs.Theorems.Sim.{Rel, both, same, Events}
use Rattle.model.specs.Theorems.Agree.{Agree}
use Rattle.model.proofs.Theorems.Agree.{agree-sym, agree-outs, sets-in}
use Rattle.model.specs.Theorems.Inside.{LiesElement, LiesText}
use Rattle.model.proofs.Theorems.Inside.{bounded, check-walk, all-inside}
use Rattle.model.proofs.Theorems.Spelled.{SpelledElement}
use Rattle.model.proofs.Theorems.Related.{Outer, Fine, Harmless}
use Rattle.model.proofs.Theorems.Places.{Outside, Ahead, ahead, within, events-same, check-same}
use Rattle.model.proofs.Theorems.Whole.{trees-related, build-noted}
use Rattle.exchange.specs.Changes.{Changeable}

-- What a run of stores leaves in its place.
pub slice-sets : (vs xs : List ℕ) (p : ℕ) → p + length vs ≤ length xs → slice p (p + length vs) (sets xs p vs) ≡ vs
slice-sets vs xs p h =
    let long : length (slice p (p + length vs) (sets xs p vs)) ≡ length vs =
    length-slice p (p + length vs) (sets xs p vs) (rw (length-sets xs p vs) h) ∙ (let z : p + length vs - p ≡ length vs = omega arith in
    z) in
    ext_get_or 0 _ _ long (λ i l.
    let b : i < length vs = rw long at l in
    rw (get_or-drop p (take (p + length vs) (sets xs p vs)) i 0, get_or-take (p + length vs) (sets xs p vs) (p + i) 0 (omega arith))
    (sets-in vs xs p i h b))

-- check of other characters as long.
check-other : (script one two : List ℕ) → check script one ≡ 0 → length two ≡ length one →
    check_from two (length one) starting (commands script) ≡ 0 → check script two ≡ 0
unfolding check
check-other script one two h e k = rw e (go (or (ltb most_bytes (length script)) (ltb most_bytes (length one))) h)
  where
    go : (c : Bool) → pick c (λ u. 1) (λ u. check_from one (length one) starting (commands script)) ≡ 0 →
        pick c (λ u. 1) (λ u. check_from two (length one) starting (commands script)) ≡ 0
    go true g = absurd (omega arith)
    go false g = k

-- Two things that hold of all elements.
both-events : (G G' : Element → Type 0) (H H' : Source → Type 0) (xs : List Event) → Events G H xs → Events G' H' xs →
    Events (λ x. G x × G' x) H xs
both-events G G' H H' [] h k = tt
both-events G G' H H' (begin e ∷ xs) h k = ((h.0, k.0), both-events G G' H H' xs h.1 k.1)
both-events G G' H H' (text a ∷ xs) h k = (h.0, both-events G G' H H' xs h.1 k.1)
both-events G G' H H' (other ∷ xs) h k = both-events G G' H H' xs h k
both-events G G' H H' (close ∷ xs) h k = both-events G G' H H' xs h k

-- Related builds give one number.
numbers : (t : ℕ) (one two : List ℕ) (all : List Event) (empty : Tree) (x y : Out Noted) → Rel (Outer t one two) x y →
    (answered two empty (with_repairs two all (stripped y))).number ≡ (answered one empty (with_repairs one all (stripped x))).number
unfolding stripped
numbers t one two all empty x y (both k) = refl
numbers t one two all empty x y (same o) = refl

-- The number of a text that was found by it.
pub its-number : (script chars : List ℕ) (t : ℕ) (a : Source) → text_numbered t (events script chars) ≡ some a → a.number ≡ t
unfolding events
its-number script chars t a h = (ahead t a chars (record { number = 0; at = 0; texts = 0 }) (commands script) h).number

module _ (script chars : List ℕ) (t : ℕ) (a : Source) (new : List ℕ) (checked : check script chars ≡ 0)
    (found : text_numbered t (events script chars) ≡ some a) (long : length new ≡ a.size) (utf8 : is_utf8 new ≡ true) where
  abbrev two : List ℕ
  two = sets chars a.start new

  abbrev first : Mark
  first = record { number = 0; at = 0; texts = 0 }

  walk : check_from chars (length chars) starting (commands script) ≡ 0
  walk = check-walk script chars checked

  text-ahead : Ahead t a first (commands script)
  unfolding events
  text-ahead = ahead t a chars first (commands script) found

  place : a.start + length new ≤ length chars
  unfolding events starting
  place = rw long (within t a chars (length chars) starting first (commands script) refl walk found)

  agree : Agree (Outside a) chars two
  agree = agree-sym (agree-outs new chars a.start (λ j x y w. out j x y w))
    where
      out : (j : ℕ) → a.start ≤ j → j < a.start + length new → Outside a j → ⊥
      out j x y (inl w) = omega arith
      out j x y (inr w) = omega (arith, long)

  spelled : is_utf8 (slice a.start (a.start + a.size) two) ≡ true
  spelled = rw (← long, slice-sets new chars a.start place) utf8

  checked-two : check script two ≡ 0
  unfolding starting
  checked-two = check-other script chars two checked (length-sets chars a.start new)
      (check-same t a chars two agree (length chars) spelled starting first (commands script) refl tt text-ahead.clear walk)

  same-events : (events script chars ≡ events script two)
      × Events (SpelledElement chars two) (Harmless t chars two) (events script chars)
  unfolding events starting
  same-events = events-same t a chars two agree first 0 (commands script) text-ahead.clear
      (bounded chars (length chars) starting (commands script) walk)

  fine : Events (Fine t chars two) (Harmless t chars two) (events script chars)
  fine = both-events (SpelledElement chars two) (LiesElement (length chars)) (Harmless t chars two) (LiesText (length chars))
      (events script chars) same-events.1 (all-inside script chars checked)

  same_number : (n m b : ℕ) → (build script two n m b).number ≡ (build script chars n m b).number
  same_number n m b =
      let all = events script chars in
      ap (λ (r : Result). r.number) (build-noted script two n m b checked-two)
      ∙ ap (λ (xs : List Event). (answered two (cleared n m b) (with_repairs two xs (stripped (noted_tree (plain two) xs (cleared n m b))))
      ).number) (sym same-events.0)
      ∙ numbers t chars two all (cleared n m b) _ _ (trees-related t chars two all fine n m b)
      ∙ sym (ap (λ (r : Result). r.number) (build-noted script chars n m b checked))

  pub changeable : Changeable script chars a.start new
  changeable = record { within = place; before = checked; after = checked-two; number = same_number }
