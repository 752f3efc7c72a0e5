use mathlib.Core.Path.{◌∙◌, sym, ap}
use mathlib.Core.Bool.{not}
use borrow.Author.Tests.{eq-eqb, ne_eqb}
use Rattle.model.proofs.Theorems.Inside.{first-none}
use Rattle.exchange.proofs.Faults.{first-hit, first-miss}
use Rattle.exchange.proofs.fault.text_fault.Goals as goal

pub returns-then-in_style : goal.returns-then-in_style
returns-then-in_style c = first-hit 31 _ _ c.if-in_style.true

pub returns-then-new-len : goal.returns-then-new-len
returns-then-new-len c = first-hit 32 _ _ (ap not (ne_eqb _ _ c.if-new-len.true)) ∙ first-miss 31 _ _ c.if-in_style.false

pub returns-then-not-is_utf8 : goal.returns-then-not-is_utf8
returns-then-not-is_utf8 c =
    first-hit 33 _ _ (ap not (sym c.is_utf8.ensures ∙ c.if-not-is_utf8.true))
    ∙ first-miss 32 _ _ (ap not (eq-eqb _ _ c.if-new-len.false))
    ∙ first-miss 31 _ _ c.if-in_style.false

pub returns : goal.returns
returns c =
    sym first-none ∙ first-miss 33 _ _ (ap not (sym c.is_utf8.ensures ∙ c.if-not-is_utf8.false))
    ∙ first-miss 32 _ _ (ap not (eq-eqb _ _ c.if-new-len.false))
    ∙ first-miss 31 _ _ c.if-in_style.false
