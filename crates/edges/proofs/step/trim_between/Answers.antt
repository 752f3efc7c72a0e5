use Rattle.edges.proofs.Steps.{first-filled, second-filled}
use Rattle.edges.proofs.step.trim_between.Goals as goal

pub remove_first_space-requires : goal.remove_first_space-requires
remove_first_space-requires c =
    second-filled _ c.args.p c.args.c (c.requires.ranged, c.requires.ranged_2) c.requires.c_value c.if-c.true

pub remove_last_space-requires : goal.remove_last_space-requires
remove_last_space-requires c =
    first-filled _ c.args.p c.args.c (c.requires.ranged, c.requires.ranged_2) c.requires.c_value c.if-c-2.true

pub remove_first_space-requires-else-p-4 : goal.remove_first_space-requires-else-p-4
remove_first_space-requires-else-p-4 c =
    second-filled _ c.args.p c.args.c (c.requires.ranged, c.requires.ranged_2) c.requires.c_value c.if-c-3.true
