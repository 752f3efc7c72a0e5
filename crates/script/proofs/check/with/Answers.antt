use Rattle.script.proofs.Mask.{one_more}
use Rattle.script.proofs.check.with.Goals as goal

pub returns : goal.returns
returns c = λ ks k. rw c.from-n.ensures (one_more _ _ ks c.requires k)
