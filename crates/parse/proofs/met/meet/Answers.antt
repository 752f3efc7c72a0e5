use Rattle.parse.proofs.Finding.{first-begins, first-stands, first-met, text-met, other-met, close-met, end-met}
use Rattle.parse.proofs.met.meet.Goals as goal

pub begin_at-requires-clause-beginning : goal.begin_at-requires-clause-beginning
begin_at-requires-clause-beginning c =
    first-begins _ c.args.left _ _ _ _ c.args.state.now c.requires.underway _ c.next_item.ensures.same
    c.next_item.ensures.fit _ c.in-Begin.is

pub begin_at-requires-clause-standing : goal.begin_at-requires-clause-standing
begin_at-requires-clause-standing c =
    first-stands _ c.args.left _ _ _ _ c.args.state.now c.requires.underway _ c.next_item.ensures.same
    c.next_item.ensures.fit _ c.in-Begin.is

pub returns-in-Begin : goal.returns-in-Begin
returns-in-Begin c =
    first-met _ _ _ _ _ _ c.args.state.now c.requires.underway _ c.next_item.ensures.same c.next_item.ensures.fit _ c.in-Begin.is _ _ _
    c.begin_at.ensures

pub returns-in-Text : goal.returns-in-Text
returns-in-Text c =
    text-met _ _ _ _ _ _ _ c.requires.underway _ c.next_item.ensures.same c.next_item.ensures.fit _ _ _ c.in-Text.is _
    c.hand_over.result c.hand_over.ensures

pub returns-in-Other : goal.returns-in-Other
returns-in-Other c =
    other-met _ _ _ _ _ _ _ c.requires.underway _ c.next_item.ensures.same c.next_item.ensures.fit _ c.in-Other.is _
    c.hand_over-in-Other.result c.hand_over-in-Other.ensures

pub returns-in-Close : goal.returns-in-Close
returns-in-Close c =
    close-met _ _ _ _ _ _ _ c.requires.underway _ c.next_item.ensures.same c.next_item.ensures.fit _ c.in-Close.is

pub returns-in-End : goal.returns-in-End
returns-in-End c = end-met _ _ _ _ _ _ _ c.requires.underway _ c.next_item.ensures.same c.next_item.ensures.fit c.in-End.is
