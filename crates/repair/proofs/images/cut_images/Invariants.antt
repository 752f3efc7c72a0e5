use Rattle.leads.specs.Links.{values_of}
use Rattle.repair.specs.Passes.{image_cuts}
use Rattle.repair.proofs.Passing.{Pass}
use Rattle.repair.proofs.images.cut_images.Given as goal

abbrev pub invariant-loop-i : goal.invariant-loop-i
invariant-loop-i l = Pass l.drawing l.marks l.heads l.nodes l.counts (image_cuts l.drawing.characters.now (values_of l.drawing)) l.initial.attributes l.attributes l.i l.c
