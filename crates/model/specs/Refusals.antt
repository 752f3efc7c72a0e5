-- What the refusals of exchange leave. The refusals of exchange and build, from their definitions, are in proofs/Refusals.antt.
use Rattle.std.specs.Prelude.{ℕ, List}
use Rattle.model.specs.Tables.{Tree}

-- Tables as they were lent, with counts of 0.
abbrev pub lent : List ℕ → List ℕ → List ℕ → Tree
lent ns ats ts = record { nodes = ns; attributes = ats; text = ts; node_count = 0; attribute_count = 0; text_count = 0 }
