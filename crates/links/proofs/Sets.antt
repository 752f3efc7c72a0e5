-- The lemmas that the proof of a function is found with, a set for each function.
use Rattle.links.proofs.Linking.{copies, copies-nothing, its-origin, itself, leads-itself, no-tag, node-led, node-stands}
use Rattle.links.proofs.Using.{uses-close, uses-end, uses-hit, uses-miss, uses-other, uses-out, uses-text}
use Rattle.walk.proofs.Along.{along-none, at_item, others-further, over, over-others}
use Rattle.walk.proofs.Walks.{item-told}

pub ruleset use_target_set = (node-stands, node-led, copies-nothing, no-tag, itself, its-origin, leads-itself, copies)

pub ruleset next_use_set = (item-told, along-none, at_item, over, over-others, others-further, uses-hit, uses-miss, uses-text, uses-other, uses-close, uses-out, uses-end)
