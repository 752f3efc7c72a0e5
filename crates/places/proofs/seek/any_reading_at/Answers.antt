use Rattle.places.proofs.Seeking.{none_any}
use Rattle.places.proofs.seek.any_reading_at.Goals as goal

pub returns-in-None : goal.returns-in-None
returns-in-None c = none_any _ _ _ c.in-None.ensures.none
