use Rattle.walk.proofs.Walks.{item-told}
use Rattle.label.proofs.Holders.{reads}
use Rattle.label.proofs.Telling.{append-done}
use Rattle.label.proofs.Walking.{holds, space-read, goes-text, text-recalled, goes_other}
use Rattle.label.proofs.Walking.{ends_close, goes-up, goes-known, ends-none}
use Rattle.label.proofs.within.advance.Goals as goal

pub add_text-requires-clause-space_value : goal.add_text-requires-clause-space_value
add_text-requires-clause-space_value c = space-read _ _ _ _ _ _ c.requires.within

pub returns-then-s-e : goal.returns-then-s-e
returns-then-s-e c =
    let within = c.requires.within in
    let closed = item-told _ _ _ _ c.in-Close.is
    (c.next_item.ensures.same, c.next_item.ensures.fit) in
    ends_close _ _ _ _ _ _ within _ closed.1 closed.0 c.if-s-e.true

pub space_above-space-requires-clause-by_index : goal.space_above-space-requires-clause-by_index
space_above-space-requires-clause-by_index c = reads _ _ _ _ _ _ (holds _ _ _ _ _ _ c.requires.within)

pub space_above-space-requires-clause-space_value : goal.space_above-space-requires-clause-space_value
space_above-space-requires-clause-space_value c = space-read _ _ _ _ _ _ c.requires.within

pub returns-in_ok-counts-in-Text : goal.returns-in_ok-counts-in-Text
returns-in_ok-counts-in-Text c =
    let within = c.requires.within in
    let spoken = item-told _ _ _ _ c.in-Text.is (c.next_item.ensures.same, c.next_item.ensures.fit) in
    let done = append-done _ _ _ _ _ c.add_text.ensures _ c.in_ok-counts-in-Text.was in
    let on = goes-text _ _ _ _ _ _ within _ spoken.1.1 _ spoken.0 _ _ _ done in
    (on.0, on.1, text-recalled _ _ _ _ _ _ within _ spoken.1.1 _ spoken.0 _ _ _ done _ c.requires.recalled)

pub returns-in-Other : goal.returns-in-Other
returns-in-Other c =
    let within = c.requires.within in
    let recalled = c.requires.recalled in
    let passed = item-told _ _ _ _ c.in-Other.is (c.next_item.ensures.same, c.next_item.ensures.fit) in
    let on = goes_other _ _ _ _ _ _ within _ passed.1 passed.0 in
    (on.0, on.1, recalled)

pub returns-in-Some : goal.returns-in-Some
returns-in-Some c =
    let within = c.requires.within in
    let recalled = c.requires.recalled in
    let closed = item-told _ _ _ _
    c.in-Close.is
    (c.next_item.ensures.same, c.next_item.ensures.fit) in
    goes-known _ _ _ _ _ _ within _ closed.1 closed.0
    c.if-s-e.false _
    c.node_word-up.ensures _ recalled _ _ (rw c.in-Some.is at c.pop.ensures.above)

pub returns-in-None : goal.returns-in-None
returns-in-None c =
    let within = c.requires.within in
    let recalled = c.requires.recalled in
    let closed = item-told _ _ _ _
    c.in-Close.is
    (c.next_item.ensures.same, c.next_item.ensures.fit) in
    let on = goes-up _ _ _ _ _ _ within _ closed.1 closed.0
    c.if-s-e.false _
    c.node_word-up.ensures _ c.space_above-space.ensures in
    (on.0, on.1, c.nothing.ensures _)

pub returns-in-End : goal.returns-in-End
returns-in-End c =
    let within = c.requires.within in
    let ended = item-told _ _ _ _ c.in-End.is (c.next_item.ensures.same, c.next_item.ensures.fit) in
    ends-none _ _ _ _ _ _ within ended.0
