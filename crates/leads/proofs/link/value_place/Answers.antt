use mathlib.Core.Path.{sym}
use Rattle.std.proofs.Common.{Some, None}
use Rattle.ids.proofs.Hunting.{minus-one}
use Rattle.leads.proofs.Linking.{readings-fixed, readings-there}
use Rattle.leads.proofs.link.value_place.Goals as goal

pub returns-in_err-number-clause-none : goal.returns-in_err-number-clause-none
returns-in_err-number-clause-none c =
    rw c.from_residual-in_err-number.ensures (readings-fixed c.args.drawing.now _ _ _ _ c.in_ok-j.ensures.found c.requires.drawn.checked _
    c.entry_word.ensures (sym (minus-one _ None c.in_err-number.ensures)))

pub returns-clause-some : goal.returns-clause-some
returns-clause-some c =
    readings-there _ _ _ _ _ c.in_ok-j.ensures.found c.requires.drawn.checked _ c.entry_word.ensures _
    (sym (minus-one _ (Some c.in_ok-number.number) c.in_ok-number.ensures)) _ c.seek_near-c.ensures.same
