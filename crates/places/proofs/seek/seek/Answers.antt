use Rattle.std.proofs.Common.{rules}
use Rattle.places.proofs.Seeking.{sought-first, sought-last}
use Rattle.places.proofs.seek.seek.Goals as goal

pub loop-c-init : goal.loop-c-init
loop-c-init c = sought-first _ _ _ _ c.nearest-c.ensures c.requires

pub returns-in-loop-c-clause-same : goal.returns-in-loop-c-clause-same
returns-in-loop-c-clause-same c = sought-last _ _ _ c.loop-c.invariant (search rules)
