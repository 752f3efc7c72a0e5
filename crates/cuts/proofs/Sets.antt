-- The lemmas that the proof of a function is found with, a set for each function.
use Rattle.cuts.proofs.Aiming.{key-absent, key-empty}
use Rattle.cuts.proofs.Looking.{cutting-done}
use Rattle.cuts.proofs.Pairing.{covered-kept, pair-below, pair-nowhere, pairs-done, target-inside, target-nowhere, target-on}
use Rattle.cuts.proofs.Turning.{back-kept, back-told}
use Rattle.cuts.proofs.Writing.{cut-none}
use Rattle.tree.proofs.Facts.{readable}

pub ruleset cut_back_set = (back-told, back-kept, readable)

pub ruleset cut_below_set = (cutting-done)

pub ruleset cut_set = (cut-none)

pub ruleset key_of_set = (key-absent, key-empty)

pub ruleset cut_pair_set = (readable, back-told, target-nowhere, target-on, target-inside, pair-nowhere, pair-below)

pub ruleset cut_pairs_set = (pairs-done)

pub ruleset cut_target_set = (covered-kept)
