use Rattle.edges.proofs.Steps.{both-between, both-outer}
use Rattle.edges.proofs.step.trim_pair.Goals as goal

pub trim_outer-requires : goal.trim_outer-requires
trim_outer-requires c =
    let ranged = both-between c.args.p _ _ (c.requires.ranged, c.requires.ranged_2) in
    record { ranged = rw c.trim_between.ensures ranged.0; ranged_2 = rw c.trim_between.ensures ranged.1 }

pub trim_last_edge-requires : goal.trim_last_edge-requires
trim_last_edge-requires c =
    let ranged = both-outer c.args.p _ _ (both-between c.args.p _ _ (c.requires.ranged, c.requires.ranged_2)) in
    record {
      ranged = rw (c.trim_outer.ensures, c.trim_between.ensures) ranged.0;
      ranged_2 = rw (c.trim_outer.ensures, c.trim_between.ensures) ranged.1;
    }
