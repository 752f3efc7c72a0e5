use Rattle.parse.proofs.Meeting.{copy-found, copy-none}
use Rattle.parse.proofs.met.begin_copy.Goals as goal

pub returns : goal.returns
returns c = copy-found _ _ _ _ _ c.use_target.ensures.same c.use_target.ensures.fit _ c.in-Some.is

pub returns-in_default : goal.returns-in_default
returns-in_default c =
    copy-none _ _ _ _ _ c.use_target.ensures.same c.use_target.ensures.fit c.in_default.is _
    c.past_element-state.ensures.same c.past_element-state.ensures.fit c.past_element-state.ensures.further
