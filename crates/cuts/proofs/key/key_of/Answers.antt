use mathlib.Core.Path.{sym}
use Rattle.cuts.proofs.Aiming.{known_in, key_here, key-some}
use Rattle.cuts.proofs.key.key_of.Goals as goal

pub returns-then-not-is_pattern-clause-same : goal.returns-then-not-is_pattern-clause-same
returns-then-not-is_pattern-clause-same c =
    key_here _ _ _ _ (sym c.if-not-is_pattern.ensures) _ c.in_ok-attribute_id.ensures.found

pub last_of-requires-clause-by_index : goal.last_of-requires-clause-by_index
last_of-requires-clause-by_index c = λ k l. known_in _ _ c.requires.kept k l

pub returns-in-Some-clause-same : goal.returns-in-Some-clause-same
returns-in-Some-clause-same c = key-some _ _ _ _ (sym c.if-not-is_pattern.ensures) _ c.in-Some.ensures.same
