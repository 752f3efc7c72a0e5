use Rattle.std.proofs.Common.{rules}
use Rattle.model.specs.Names.{fixed_bytes, fixed_values}
use Rattle.model.specs.Tables.{entry_at, attribute_of}
use Rattle.tree.proofs.read.attribute_of.Goals as goal

pub returns-then-has_value-clause-found : goal.returns-then-has_value-clause-found
unfolding attribute_of entry_at fixed_bytes fixed_values
returns-then-has_value-clause-found c = search rules

pub returns-clause-found : goal.returns-clause-found
unfolding attribute_of entry_at fixed_bytes fixed_values
returns-clause-found c = search rules
