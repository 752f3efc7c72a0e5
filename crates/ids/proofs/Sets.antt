-- The lemmas that the proof of a function is found with, a set for each function.
use Rattle.ids.proofs.Hunting.{hunt-id, hunt-low, hunt-none, hunting-at}
use Rattle.ids.proofs.Marking.{summing-done, summing-more}
use Rattle.tree.proofs.Alike.{held-value}

pub ruleset bucket_set = (summing-more, summing-done)

pub ruleset find_chained_set = (held-value, hunting-at, hunt-low, hunt-id, hunt-none)
