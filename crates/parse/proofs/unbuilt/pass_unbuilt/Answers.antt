use Rattle.parse.proofs.Skipping.{skipped-past}
use Rattle.parse.proofs.unbuilt.pass_unbuilt.Goals as goal

pub returns : goal.returns
returns c =
    skipped-past _ _ _ c.if-left-eq0.false _ c.past_unbuilt-state.ensures.same c.past_unbuilt-state.ensures.fit c.past_unbuilt-state.ensures.further
