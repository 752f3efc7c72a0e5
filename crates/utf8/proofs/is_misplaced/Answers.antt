use Rattle.utf8.proofs.Blocks.{misplaced-is}
use Rattle.utf8.proofs.is_misplaced.Goals as goal

pub returns : goal.returns
returns c = rw (c.is_further.ensures, c.is_never.ensures, c.is_left_out.ensures) (misplaced-is _ _ _ _)
