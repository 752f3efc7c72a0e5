use native.Mathlib.Omega.{arith}
use mathlib.Core.Path.{ap, ◌∙◌, refl}
use Rattle.model.specs.Drawing.{opening, attribute, declaration, reading, text, other, closing, operands}
use Rattle.script.proofs.Commands.{ended, cut, nothing, open-here, attribute-here, declaration-here, reading-here, text-here}
use Rattle.script.proofs.Commands.{other-here, close-here, passing}
use borrow.Author.Rules.{rules}
use Rattle.script.proofs.cursor.Cursor.next_inlined.Goals as goal

pub returns-then-script-at : goal.returns-then-script-at
returns-then-script-at c =
    record {
      step = ended _ _ c.if-script-at.true;
      going = tt;
    }

pub returns-then-script-at-2 : goal.returns-then-script-at-2
returns-then-script-at-2 c =
    record {
      step = cut _ _ c.if-script-at.false (omega (arith, c.operands_of.ensures));
      going = tt;
    }

pub bounds-script-at-in-1 : goal.bounds-script-at-in-1
unfolding operands
bounds-script-at-in-1 c = omega (arith, c.operands_of.ensures ∙ ap operands c.in-1.is)

pub bounds-script-at-in-1-2 : goal.bounds-script-at-in-1-2
unfolding operands
bounds-script-at-in-1-2 c = omega (arith, c.operands_of.ensures ∙ ap operands c.in-1.is)

pub past-requires : goal.past-requires
unfolding operands
past-requires c =
    record {
      bytes_bound = omega (arith, c.operands_of.ensures ∙ ap operands c.in-1.is);
      texts_le_at = omega (arith, c.operands_of.ensures ∙ ap operands c.in-1.is);
    }

pub bounds-script-at-in-2 : goal.bounds-script-at-in-2
unfolding operands
bounds-script-at-in-2 c = omega (arith, c.operands_of.ensures ∙ ap operands c.in-2.is)

pub bounds-script-at-in-2-2 : goal.bounds-script-at-in-2-2
unfolding operands
bounds-script-at-in-2-2 c = omega (arith, c.operands_of.ensures ∙ ap operands c.in-2.is)

pub word-len-requires : goal.word-len-requires
unfolding operands
word-len-requires c = omega (arith, c.operands_of.ensures ∙ ap operands c.in-2.is)

pub past-requires-in-2 : goal.past-requires-in-2
unfolding operands
past-requires-in-2 c =
    record {
      bytes_bound = omega (arith, c.operands_of.ensures ∙ ap operands c.in-2.is);
      texts_le_at = omega (arith, c.operands_of.ensures ∙ ap operands c.in-2.is);
    }

pub bounds-script-at-in-3 : goal.bounds-script-at-in-3
unfolding operands
bounds-script-at-in-3 c = omega (arith, c.operands_of.ensures ∙ ap operands c.in-3.is)

pub bounds-script-at-in-3-2 : goal.bounds-script-at-in-3-2
unfolding operands
bounds-script-at-in-3-2 c = omega (arith, c.operands_of.ensures ∙ ap operands c.in-3.is)

pub word-len-requires-in-3 : goal.word-len-requires-in-3
unfolding operands
word-len-requires-in-3 c = omega (arith, c.operands_of.ensures ∙ ap operands c.in-3.is)

pub past-requires-in-3 : goal.past-requires-in-3
unfolding operands
past-requires-in-3 c =
    record {
      bytes_bound = omega (arith, c.operands_of.ensures ∙ ap operands c.in-3.is);
      texts_le_at = omega (arith, c.operands_of.ensures ∙ ap operands c.in-3.is);
    }

pub bounds-script-at-in-4 : goal.bounds-script-at-in-4
unfolding operands
bounds-script-at-in-4 c = omega (arith, c.operands_of.ensures ∙ ap operands c.in-4.is)

pub word-start-requires : goal.word-start-requires
unfolding operands
word-start-requires c = omega (arith, c.operands_of.ensures ∙ ap operands c.in-4.is)

pub word-len-requires-in-4 : goal.word-len-requires-in-4
unfolding operands
word-len-requires-in-4 c = omega (arith, c.operands_of.ensures ∙ ap operands c.in-4.is)

pub past-requires-in-4 : goal.past-requires-in-4
unfolding operands
past-requires-in-4 c =
    record {
      bytes_bound = omega (arith, c.operands_of.ensures ∙ ap operands c.in-4.is);
      texts_le_at = omega (arith, c.operands_of.ensures ∙ ap operands c.in-4.is);
    }

pub word-len-requires-in-5 : goal.word-len-requires-in-5
unfolding operands
word-len-requires-in-5 c = omega (arith, c.operands_of.ensures ∙ ap operands c.in-5.is)

pub past-requires-in-5 : goal.past-requires-in-5
unfolding operands
past-requires-in-5 c =
    record {
      bytes_bound = omega (arith, c.operands_of.ensures ∙ ap operands c.in-5.is);
      texts_le_at = omega (arith, c.operands_of.ensures ∙ ap operands c.in-5.is);
    }

pub returns-in-1 : goal.returns-in-1
unfolding operands
returns-in-1 c =
    let keys1 = c.in-1.is in let whole = passing _ _ (opening _ _) _ c.requires
    (open-here _ _ c.if-script-at.false keys1
    (omega (arith, c.operands_of.ensures ∙ ap operands keys1)) _ c.past.ensures) refl
    (omega (arith, c.operands_of.ensures ∙ ap operands keys1)) (search rules) in
    record { step = whole.0; going = whole.1 }

pub returns-in-2 : goal.returns-in-2
unfolding operands
returns-in-2 c =
    let keys2 = c.in-2.is in
    let operands-of-ensures = c.operands_of.ensures in let whole = passing _ _ (attribute _ _ _) _ c.requires
    (attribute-here _ _ c.if-script-at.false keys2 (omega (arith, operands-of-ensures ∙ ap operands keys2)) _
    c.word-len.ensures _ c.past-in-2.ensures) refl (omega (arith, operands-of-ensures ∙ ap operands keys2)) (search rules) in
    record { step = whole.0; going = whole.1 }

pub returns-in-3 : goal.returns-in-3
unfolding operands
returns-in-3 c =
    let keys3 = c.in-3.is in
    let operands-of-ensures = c.operands_of.ensures in let whole = passing _ _ (declaration _ _ _) _ c.requires
    (declaration-here _ _ c.if-script-at.false keys3 (omega (arith, operands-of-ensures ∙ ap operands keys3)) _
    c.word-len-in-3.ensures _ c.past-in-3.ensures) refl (omega (arith, operands-of-ensures ∙ ap operands keys3))
    (search rules) in
    record { step = whole.0; going = whole.1 }

pub returns-in-4 : goal.returns-in-4
unfolding operands
returns-in-4 c =
    let keys4 = c.in-4.is in
    let operands-of-ensures = c.operands_of.ensures in let whole = passing _ _ (reading _ _ _) _ c.requires
    (reading-here _ _ c.if-script-at.false keys4 (omega (arith, operands-of-ensures ∙ ap operands keys4)) _ _
    c.word-start.ensures c.word-len-in-4.ensures _ c.past-in-4.ensures) refl
    (omega (arith, operands-of-ensures ∙ ap operands keys4)) (search rules) in
    record { step = whole.0; going = whole.1 }

pub returns-in-5 : goal.returns-in-5
unfolding operands
returns-in-5 c =
    let whole = passing _ _ (text _) _ c.requires
    (text-here _ _ c.if-script-at.false c.in-5.is
    (omega (arith, c.operands_of.ensures ∙ ap operands c.in-5.is)) _
    c.word-len-in-5.ensures _ c.past-in-5.ensures) refl
    (omega (arith, c.operands_of.ensures ∙ ap operands c.in-5.is)) (search rules) in
    record { step = whole.0; going = whole.1 }

pub returns-in-6 : goal.returns-in-6
unfolding operands
returns-in-6 c =
    let whole = passing _ _ other _ c.requires
    (other-here _ _ c.if-script-at.false c.in-6.is _ c.past-in-6.ensures) refl
    (omega arith) (search rules) in
    record { step = whole.0; going = whole.1 }

pub returns-in-7 : goal.returns-in-7
unfolding operands
returns-in-7 c =
    let whole = passing _ _ closing _ c.requires
    (close-here _ _ c.if-script-at.false c.in-7.is _ c.past-in-7.ensures) refl
    (omega arith) (search rules) in
    record { step = whole.0; going = whole.1 }

pub returns-in_default : goal.returns-in_default
returns-in_default c =
    record {
      step = nothing _ _ c.if-script-at.false _ refl (omega (arith, c.operands_of.ensures))
          c.in_default.in_default-own.rest.0.0.0.0.0.0.1 c.in_default.in_default-own.rest.0.0.0.0.0.1
          c.in_default.in_default-own.rest.0.0.0.0.1
          c.in_default.in_default-own.rest.0.0.0.1 c.in_default.in_default-own.rest.0.0.1 c.in_default.in_default-own.rest.0.1
          c.in_default.in_default-own.rest.1;
      going = tt;
    }
