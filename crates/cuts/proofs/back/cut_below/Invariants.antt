use Prim.Native.Nat.{◌-◌}
use Rattle.cuts.proofs.Looking.{Cutting}
use Rattle.cuts.proofs.back.cut_below.Given as goal

abbrev pub invariant-loop-m : goal.invariant-loop-m
invariant-loop-m l = Cutting l.drawing l.marks l.heads l.nodes l.counts l.aim l.w l.end l.quiet l.initial.attributes
    l.attributes l.m

abbrev pub decreases-loop-m : goal.decreases-loop-m
decreases-loop-m l = l.end - l.m
