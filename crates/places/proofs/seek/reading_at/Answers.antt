use Rattle.places.proofs.Seeking.{none_read}
use Rattle.places.proofs.seek.reading_at.Goals as goal

pub returns-in_err-behind-clause-same : goal.returns-in_err-behind-clause-same
returns-in_err-behind-clause-same c = rw c.from_residual.ensures (none_read _ _ c.in_err-behind.ensures.none)
