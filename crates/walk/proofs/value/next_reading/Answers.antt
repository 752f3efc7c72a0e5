use Rattle.walk.proofs.Walks.{read_at, no-reading-at}
use borrow.Author.Rules.{rules}
use Rattle.walk.proofs.value.next_reading.Goals as goal

pub returns : goal.returns
returns c =
    let whole = read_at _ _ _ _ _ c.in-Reading.is (c.next.ensures.step, c.next.ensures.going)
    c.requires.fit_2 c.requires.start_le_most_place
    (search rules) in
    record { same = whole.0; fit = whole.1 }

pub returns-in_default : goal.returns-in_default
returns-in_default c =
    let whole = no-reading-at _ _ _ _ c.in_default.not-Reading (c.next.ensures.step, c.next.ensures.going)
    c.requires.fit_2 c.requires.start_le_most_place in
    record { same = whole.0; fit = whole.1 }
