use Rattle.model.specs.Drawing.{operands}
use Rattle.script.proofs.Commands.{no-operands}
use Rattle.script.proofs.cursor.operands_of.Goals as goal

pub returns-in-1 : goal.returns-in-1
unfolding operands
returns-in-1 c = simp c.in-1.is

pub returns-in-2 : goal.returns-in-2
unfolding operands
returns-in-2 c = simp c.in-2.is

pub returns-in-3 : goal.returns-in-3
unfolding operands
returns-in-3 c = simp c.in-3.is

pub returns-in-4 : goal.returns-in-4
unfolding operands
returns-in-4 c = simp c.in-4.is

pub returns-in-5 : goal.returns-in-5
unfolding operands
returns-in-5 c = simp c.in-5.is

pub returns-in_default : goal.returns-in_default
returns-in_default c =
    no-operands _ c.in_default.in_default-own.rest.0.0.0.0.1 c.in_default.in_default-own.rest.0.0.0.1
    c.in_default.in_default-own.rest.0.0.1 c.in_default.in_default-own.rest.0.1
    c.in_default.in_default-own.rest.1
