-- The lemmas that the proof of a function is found with, a set for each function.
use Rattle.model.proofs.Theorems.Sim.{and_left}
use Rattle.repair.proofs.Imaging.{href-found, href-none, image-back, image-not, image-nowhere}
use Rattle.repair.proofs.Mending.{before-first}
use Rattle.repair.proofs.Passing.{named_here, no-image, unsought_here}
use Rattle.repair.proofs.Preparing.{resolved-more, resolved-none}

pub ruleset image_of_set = (href-none, href-found, image-nowhere, image-back, image-not)

pub ruleset cut_image_set = (no-image)

pub ruleset cut_named_set = (and_left, named_here, unsought_here)

pub ruleset resolve_named_set = (resolved-none, resolved-more)

pub ruleset mend_set = (before-first)
