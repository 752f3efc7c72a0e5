use mathlib.Core.Path.{refl}
use Rattle.script.proofs.Commands.{told}
use Rattle.places.proofs.Seeking.{none-behind}
use Rattle.places.proofs.seek.behind_command.Goals as goal

pub returns-in-Open-clause-some : goal.returns-in-Open-clause-some
returns-in-Open-clause-some c = record { command = _; here = told _ _ _ _ refl c.in-Open.ensures.step; fit = c.in-Open.ensures.going }

pub returns-in-Open-2-clause-some : goal.returns-in-Open-2-clause-some
returns-in-Open-2-clause-some c = record { command = _; here = told _ _ _ _ refl c.in-Open.ensures.step; fit = c.in-Open.ensures.going }

pub returns-in-Open-3-clause-some : goal.returns-in-Open-3-clause-some
returns-in-Open-3-clause-some c = record { command = _; here = told _ _ _ _ refl c.in-Open.ensures.step; fit = c.in-Open.ensures.going }

pub returns-in-Open-4-clause-some : goal.returns-in-Open-4-clause-some
returns-in-Open-4-clause-some c = record { command = _; here = told _ _ _ _ refl c.in-Open.ensures.step; fit = c.in-Open.ensures.going }

pub returns-in-Open-5-clause-some : goal.returns-in-Open-5-clause-some
returns-in-Open-5-clause-some c = record { command = _; here = told _ _ _ _ refl c.in-Open.ensures.step; fit = c.in-Open.ensures.going }

pub returns-in-Open-6-clause-some : goal.returns-in-Open-6-clause-some
returns-in-Open-6-clause-some c = record { command = _; here = told _ _ _ _ refl c.in-Open.ensures.step; fit = c.in-Open.ensures.going }

pub returns-in-Open-7-clause-some : goal.returns-in-Open-7-clause-some
returns-in-Open-7-clause-some c = record { command = _; here = told _ _ _ _ refl c.in-Open.ensures.step; fit = c.in-Open.ensures.going }

pub returns-in-Broken-clause-none : goal.returns-in-Broken-clause-none
returns-in-Broken-clause-none c = none-behind _ _ _ c.in-Broken.is c.next_inlined.ensures.step
