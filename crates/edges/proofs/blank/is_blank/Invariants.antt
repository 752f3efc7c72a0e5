use lib.ListN.{length}
use Rattle.std.proofs.Common.{◌≡◌}
use Rattle.model.specs.Utf8.{is_blank}
use Rattle.edges.proofs.blank.is_blank.Given as goal

abbrev pub invariant-loop-rest : goal.invariant-loop-rest
invariant-loop-rest l = is_blank l.rest ≡ is_blank l.fn.s

abbrev pub decreases-loop-rest : goal.decreases-loop-rest
decreases-loop-rest l = length l.rest
