-- The lemmas that the proof of a function is found with, a set for each function.
use Rattle.memo.proofs.Entering.{id-full, id-put, id-shut, part-told}
use Rattle.memo.proofs.Filling.{blank-first, filling-at, filling-first, filling-past, memo-none, start-fit, wanted-on}
use Rattle.memo.proofs.Ids.{first_id, found-id, further-without, has, has-none, has-not, id-none, over-without, tested, value-fit}
use Rattle.memo.proofs.Knowing.{found-told, known-held, look-empty, look-nodes, look-placed, look-print, look-told, memo-found, memo-free, open-long, probe-first, probe-told}
use Rattle.memo.proofs.Parts.{apart_none, mark-put, mixed-all, mixed-turn, next-again, next-first, part_low, unit-low, unit-some}
use Rattle.memo.proofs.Passing.{along-past, past, seek-past}
use Rattle.memo.proofs.Probing.{at-another, at-look, at-over, free-first, free-here, free-next, free-none}
use Rattle.memo.proofs.Within.{seek-at, seek-miss, seek_hit, within-zero, within_end}
use Rattle.walk.proofs.Along.{along-start, at_item}
use Rattle.walk.proofs.Finding.{fit-chars}
use Rattle.walk.proofs.Walks.{item-told}

pub ruleset enter_id_set = (open-long, id-shut, id-full, id-put)

pub ruleset fill_set = (memo-none, blank-first)

pub ruleset free_slot_set = (free-first, free-here, free-next, free-none)

pub ruleset pass_all_set = (item-told, filling-first, filling-at, filling-past, start-fit, past)

pub ruleset want_link_set = (fit-chars, value-fit, part-told)

pub ruleset want_links_set = (item-told, apart_none, start-fit, wanted-on, past)

pub ruleset want_own_set = (fit-chars, value-fit)

pub ruleset key_of_set = (mixed-turn, mixed-all)

pub ruleset has_id_set = (fit-chars, value-fit, has, has-not, has-none)

pub ruleset find_set = (id-none, known-held, probe-told, memo-found, memo-free)

pub ruleset look_at_set = (found-told, look-empty, look-print, look-nodes, look-placed)

pub ruleset bit_of_set = (part_low, unit-some)

pub ruleset next_slot_set = (next-first, next-again)

pub ruleset put_mark_set = (mark-put)

pub ruleset start_of_set = (part_low, unit-some)

pub ruleset step_of_set = (part_low, unit-some, unit-low)

pub ruleset first_with_id_set = (item-told, along-start, at_item, first_id, tested, found-id, over-without, further-without, id-none, past, along-past)

pub ruleset within_set = (item-told, tested, seek-at, seek_hit, seek-miss, within-zero, within_end, past, seek-past)

pub ruleset look_for_set = (at-look, at-another, at-over, open-long, look-told, probe-first)
