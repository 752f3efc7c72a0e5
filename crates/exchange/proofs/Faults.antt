-- The faults of an exchange, in their order. Assumes nothing.
use Prim.Native.Nat.{ℕ, zero}
use mathlib.Core.Path.{◌≡◌, refl, sym, ap, ◌∙◌}
use mathlib.Core.Bool.{Bool, true, false, not}
use mathlib.Core.List.{List, [], ◌∷◌}
use mathlib.Core.Option.{some}
use borrow.Author.Tests.{eqb-true, ne_eqb, not-false}
use lib.Dec.{eqb}
use lib.ListN.{length}
use Rattle.model.specs.Utf8.{is_utf8}
use Rattle.model.specs.Drawing.{Source, source_at, events, text_numbered, is_in_style}
use Rattle.model.specs.Check.{◌if◌, Test, first_of, check}
use Rattle.model.specs.Build.{exchanged, exchange_fault, changed}
use Rattle.model.proofs.Refusals.{fault-30}
use Rattle.model.proofs.Theorems.Inside.{first-drop}
use Rattle.script.specs.Step.{mark_of}
use Rattle.places.specs.declared.seek.FoundText.{FoundText}
use Rattle.std.specs.Prelude.{Option, Some, None, Result, Ok, Err}
use Rattle.refusal.specs.declared.Refusal.{Refusal}
use Rattle.refusal.specs.Number.{number_of, answer_of}
use Rattle.refusal.proofs.Number.{number_nonzero}
use Rattle.places.specs.Seeks.{source_of, style_of}
use Rattle.exchange.specs.Changes.{Granted}
use Rattle.exchange.proofs.Changing.{its-number, changeable}

-- The first test applies, or does not.
pub first-hit : (n : ℕ) (b : Bool) (ts : List Test) → b ≡ true → n ≡ first_of (n if b ∷ ts)
unfolding first_of
first-hit n b ts e = rw e refl

pub first-miss : (n : ℕ) (b : Bool) (ts : List Test) → b ≡ false → first_of ts ≡ first_of (n if b ∷ ts)
unfolding first_of
first-miss n b ts e = rw e refl

-- The tests of a text of that length.
abbrev pub fault_of : Bool → ℕ → List ℕ → ℕ
fault_of style len new = first_of (31 if style ∷ 32 if not (eqb (length new) len) ∷ 33 if not (is_utf8 new) ∷ [])

module _ (script chars : List ℕ) (t : ℕ) (new : List ℕ) where
  pub check-fault : (r : Result (Unit {0}) Refusal) → answer_of r ≡ check script chars → (j : Refusal) → r ≡ Err j
      → exchange_fault script chars t new ≡ number_of j
  unfolding exchange_fault
  check-fault r e j q =
      let h : number_of j ≡ check script chars = sym (ap answer_of q) ∙ e in
      rw (← h, ne_eqb (number_of j) 0 (number_nonzero j)) refl

  module _ (checked : check script chars ≡ 0) (r : Option FoundText) (text : source_of chars r ≡ text_numbered t (events script chars))
      (style : style_of r ≡ is_in_style t zero (events script chars)) where
    pub no_text : r ≡ None → exchange_fault script chars t new ≡ 30
    no_text e = fault-30 script chars t new checked (sym text ∙ ap (source_of chars) e)

    module _ (x : FoundText) (at : r ≡ Some x) where
      abbrev a : Source
      a = source_at chars (mark_of x.own) x.len

      there : text_numbered t (events script chars) ≡ some a
      there = sym text ∙ ap (source_of chars) at

      is-fault : exchange_fault script chars t new ≡ fault_of x.in_style x.len new
      unfolding exchange_fault
      is-fault = rw (checked, there, its-number script chars t a there, sym style ∙ ap style_of at) refl

      module _ (f : Result (Unit {0}) Refusal) (told : answer_of f ≡ fault_of x.in_style x.len new) where
        pub text-fault : (j : Refusal) → f ≡ Err j → exchange_fault script chars t new ≡ number_of j
        text-fault j q = is-fault ∙ sym told ∙ ap answer_of q

        pub granted : f ≡ Ok tt → Granted script chars t new x.own.chars
        unfolding changed exchanged
        granted q =
            let z : fault_of x.in_style x.len new ≡ 0 = sym told ∙ ap answer_of q in
            let outside = first-drop 30 x.in_style _ z in
            let long = first-drop 31 _ _ outside.1 in
            let utf8 = first-drop 32 _ _ long.1 in
            record {
              fault = is-fault ∙ z;
              changed = rw there refl;
              change = changeable script chars t a new checked there (eqb-true _ _ (not-false _ long.0)) (not-false _ utf8.0);
            }
