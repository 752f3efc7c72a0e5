-- What check knows behind a command that passed, and a turn of check. Assumes nothing.
use mathlib.Core.Path.{◌≡◌, refl, sym, ap, ◌∙◌, subst}
use mathlib.Core.List.{List, [], ◌∷◌}
use mathlib.Core.Bool.{Bool, true, false, not}
use Prim.Native.Nat.{ℕ, ◌+◌, ◌-◌, ◌<◌, ◌≤◌}
use native.Mathlib.Nat.{add-zero}
use native.Mathlib.Omega.{arith}
use borrow.Author.Tests.{ltb-false, eq-eqb, ne_eqb, le-leb, le-ltb, lt-ltb}
use lib.Dec.{eqb, leb, ltb}
use lib.ListN.{length}
use Rattle.std.specs.Prelude.{Option, Some, None, Result, Ok, Err}
use lib.Seq.{slice}
use Rattle.model.specs.Base.{pick, and}
use Rattle.model.specs.Utf8.{is_utf8}
use Rattle.model.specs.Drawing.{Command, opening, attribute, declaration, reading, text, other, closing}
use Rattle.model.specs.Check.{◌if◌, first_of, string_tests, tests_of, tests_at_end, stepped, check_from, starting, check}
use Rattle.script.specs.declared.drawing.Drawing.{Drawing}
use Rattle.script.specs.declared.cursor.Cursor.{Cursor}
use Rattle.script.specs.declared.check.Stage.TheVariants.{Attributes, Declarations, Children}
use Rattle.script.specs.declared.check.LastValue.{LastValue}
use Rattle.script.specs.declared.check.State.{State}
use Rattle.refusal.specs.declared.Refusal.{Refusal}
use Rattle.refusal.specs.Number.{number_of}
use Rattle.refusal.proofs.Number.{number_nonzero}
use Rattle.script.specs.Step.{Fit, Here, commands_at, at_start}
use Rattle.script.specs.Known.{bit, Kinds, Held, Inside, state_of, test_of, Passing, Judged, onward_of, check_at}
use Rattle.script.specs.Known.{Onward, Turned}
use Rattle.script.proofs.Commands.{placed_first}
use Rattle.script.proofs.Mask.{none}
use Rattle.script.proofs.Parts.{hit}

-- A string that passed lies inside the characters.
pub string-inside : (chars : List ℕ) (a l : ℕ) → first_of (string_tests chars (length chars) a l) ≡ 0 → a + l ≤ length chars
unfolding first_of
string-inside chars a l e = go (ltb (length chars) (a + l)) refl e
  where
    go : (t : Bool) → ltb (length chars) (a + l) ≡ t → first_of (6 if t ∷ 9 if not (is_utf8 (slice a (a + l) chars)) ∷ []) ≡ 0
        → a + l ≤ length chars
    go true f z = absurd (omega arith)
    go false f z = ltb-false (length chars) (a + l) f

module _ (chars : List ℕ) (s : State) (at : ℕ) (ks : List ℕ) where
  pub open-passes : (c n : ℕ) → 0 ≡ test_of chars s at ks (opening c n)
      → Passing chars s at ks (opening c n) (record { depth = s.depth + 1; stage = Attributes; begun = true; last = None })
  unfolding stepped
  open-passes c n e = record { kinds = []; held = tt; inside = tt; none = sym e; state = rw (add-zero at) }

  pub attribute-passes : (a n l : ℕ) → 0 ≡ test_of chars s at ks (attribute a n l) → at + l ≤ length chars
      → Passing chars s at ks (attribute a n l) (record { depth = s.depth; stage = Attributes; begun = s.begun; last = Some (record { start = at; size = l; kinds = 0 }) })
  unfolding stepped
  attribute-passes a n l e h = record { kinds = []; held = none; inside = h; none = sym e; state = refl }

  pub declaration-passes : (a n l : ℕ) → 0 ≡ test_of chars s at ks (declaration a n l) → at + l ≤ length chars
      → Passing chars s at ks (declaration a n l) (record { depth = s.depth; stage = Declarations; begun = s.begun; last = Some (record { start = at; size = l; kinds = 0 }) })
  unfolding stepped
  declaration-passes a n l e h = record { kinds = []; held = none; inside = h; none = sym e; state = refl }

  pub text-passes : (l : ℕ) → 0 ≡ test_of chars s at ks (text l)
      → Passing chars s at ks (text l) (record { depth = s.depth; stage = Children; begun = s.begun; last = None })
  unfolding stepped
  text-passes l e = record { kinds = []; held = tt; inside = tt; none = sym e; state = refl }

  pub other-passes : 0 ≡ test_of chars s at ks other
      → Passing chars s at ks other (record { depth = s.depth; stage = Children; begun = s.begun; last = None })
  unfolding stepped
  other-passes e = record { kinds = []; held = tt; inside = tt; none = sym e; state = rw (add-zero at) }

  pub close-passes : 0 ≡ test_of chars s at ks closing
      → Passing chars s at ks closing (record { depth = s.depth - 1; stage = Children; begun = s.begun; last = None })
  unfolding stepped
  close-passes e = record { kinds = []; held = tt; inside = tt; none = sym e; state = rw (add-zero at) }

-- A reading behind a value.
module _ (chars : List ℕ) (s : State) (at : ℕ) (ks : List ℕ) (k o l : ℕ) (v : LastValue) (e : s.last ≡ Some v) (low : 1 ≤ k)
    (high : k ≤ 10) where
  pub reading-test : Held s.last ks → (t : ℕ)
      → t ≡ first_of (6 if ltb v.size (o + l) ∷ 7 if and (not (eqb k 4)) (bit v.kinds k)
      ∷ 9 if not (is_utf8 (slice (v.start + o) (v.start + o + l) chars)) ∷ [])
      → t ≡ test_of chars s at ks (reading k o l)
  unfolding tests_of first_of
  reading-test h t f =
      let w : Kinds v.kinds ks = subst (λ v. Held v ks) e h in
      rw (e, le-leb 1 k low, le-leb k 10 high, ← w.same k high) f

  pub reading-passes : (m' : ℕ) → 0 ≡ test_of chars s at ks (reading k o l) → Kinds m' (k ∷ ks) → v.start + v.size ≤ length chars
      → Passing chars s at ks (reading k o l) (record { depth = s.depth; stage = s.stage; begun = s.begun; last = Some (record { start = v.start; size = v.size; kinds = m' }) })
  unfolding stepped
  reading-passes m' f g h = record { kinds = k ∷ ks; held = g; inside = h; none = sym f; state = rw (add-zero at, e) }

pub reading-nowhere : (chars : List ℕ) (s : State) (at : ℕ) (ks : List ℕ) (k o l : ℕ) → s.last ≡ None → 1 ≤ k → k ≤ 10
    → 4 ≡ test_of chars s at ks (reading k o l)
unfolding tests_of first_of
reading-nowhere chars s at ks k o l e low high = rw (e, le-leb 1 k low, le-leb k 10 high)

pub reading-kind : (chars : List ℕ) (s : State) (at : ℕ) (ks : List ℕ) (k o l : ℕ) → not (and (leb 1 k) (leb k 10)) ≡ true
    → 3 ≡ test_of chars s at ks (reading k o l)
unfolding tests_of
reading-kind chars s at ks k o l e = hit 3 _ e

-- A TURN

module _ (drawing : Drawing) (s : State) (c : Cursor) (ks : List ℕ) where
  opened : (x : Command) (cs : List Command) → commands_at drawing c ≡ x ∷ cs
      → check_at drawing s c ks ≡ pick (eqb (test_of drawing.characters.now s c.chars ks x) 0)
      (λ u. check_from drawing.characters.now (length drawing.characters.now) (stepped drawing.characters.now (length drawing.characters.now) (state_of s c.chars ks) x) cs)
      (λ u. test_of drawing.characters.now s c.chars ks x)
  unfolding check_from
  opened x cs e = rw e

  pub stops : (x : Command) (cs : List Command) (r : Refusal) → commands_at drawing c ≡ x ∷ cs
      → number_of r ≡ test_of drawing.characters.now s c.chars ks x → number_of r ≡ check_at drawing s c ks
  stops x cs r e f =
      f ∙ sym (opened x cs e ∙ rw (ne_eqb (test_of drawing.characters.now s c.chars ks x) 0 (λ g. number_nonzero r (f ∙ g))))

  pub turned : (x : Command) (n : Cursor) (j : Result State Refusal) → Here drawing c x n → Fit drawing n → Judged drawing.characters.now s c.chars ks x j
      → Turned drawing s c ks (onward_of j n)
  turned x n (Err t) h f g = stops x (commands_at drawing n) t h.more g
  turned x n (Ok s') h f g = record {
    kinds = g.kinds;
    held = g.held;
    inside = g.inside;
    fit = f;
    further = h.further;
    same = ap (λ (k : Cursor). check_from drawing.characters.now (length drawing.characters.now) (state_of s' k.chars g.kinds) (commands_at drawing n)) h.next
        ∙ ap (λ v. check_from drawing.characters.now (length drawing.characters.now) v (commands_at drawing n)) g.state
        ∙ sym (opened x (commands_at drawing n) h.more ∙ rw (eq-eqb (test_of drawing.characters.now s c.chars ks x) 0 g.none));
  }

  pub turning : (x : Command) (n : Cursor) (j : Result State Refusal) (r : Result (Option (State × Cursor)) Refusal) → Here drawing c x n → Fit drawing n
      → Judged drawing.characters.now s c.chars ks x j → r ≡ onward_of j n → Turned drawing s c ks r
  turning x n j r h f g e = subst (Turned drawing s c ks) (sym e) (turned x n j h f g)

  pub ends : (n : ℕ) → commands_at drawing c ≡ [] → n ≡ first_of (tests_at_end drawing.characters.now (length drawing.characters.now) (state_of s c.chars ks))
      → n ≡ check_at drawing s c ks
  unfolding check_from
  ends n e f = f ∙ sym (rw e)

-- THE LOOP

pub record Checking (drawing : Drawing) (s : State) (c : Cursor) : Type 0 where
  pub kinds : List ℕ
  pub held : Held s.last kinds
  pub inside : Inside drawing.characters.now s.last
  pub fit : Fit drawing c
  pub same : check_at drawing s c kinds ≡ check drawing.script.now drawing.characters.now

pub checking : (drawing : Drawing) (s : State) (c : Cursor) → length drawing.script.now ≤ 1048576 → length drawing.characters.now ≤ 1048576
    → s ≡ record { depth = 0; stage = Children; begun = false; last = None } → c ≡ record { at = 0; chars = 0; number = 0; texts = 0 }
    → Checking drawing s c
unfolding check starting commands_at
checking drawing s c h l e f =
    subst (λ s. Checking drawing s c) (sym e)
    (subst (λ c. Checking drawing (record { depth = 0; stage = Children; begun = false; last = None }) c) (sym f) (record {
      kinds = [];
      held = tt;
      inside = tt;
      fit = placed_first drawing at_start refl h;
      same = sym (rw (le-ltb 1048576 (length drawing.script.now) h, le-ltb 1048576 (length drawing.characters.now) l));
    }))

pub checking-on : (drawing : Drawing) (s : State) (c : Cursor) (g : Checking drawing s c) (s' : State) (c' : Cursor)
    → Onward drawing s c g.kinds s' c' → Checking drawing s' c'
checking-on drawing s c g s' c' o = record {
  kinds = o.kinds;
  held = o.held;
  inside = o.inside;
  fit = o.fit;
  same = o.same
      ∙ g.same;
}

pub too_long : (drawing : Drawing) → 1048576 < length drawing.script.now → 1 ≡ check drawing.script.now drawing.characters.now
unfolding check
too_long drawing h = rw (lt-ltb 1048576 (length drawing.script.now) h)

pub too_many : (drawing : Drawing) → length drawing.script.now ≤ 1048576 → 1048576 < length drawing.characters.now → 1 ≡ check drawing.script.now drawing.characters.now
unfolding check
too_many drawing h l = rw (le-ltb 1048576 (length drawing.script.now) h, lt-ltb 1048576 (length drawing.characters.now) l)

-- Check, command by command.
pub ruleset checks = (checking, checking-on, too_long, too_many)
