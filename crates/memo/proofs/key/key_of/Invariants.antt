use Rattle.memo.specs.Words.{mixed}
use Rattle.model.specs.Base.{folded}
use mathlib.Core.Path.{◌≡◌}
use Prim.Native.Nat.{◌<◌}
use lib.ListN.{drop}
use Rattle.memo.proofs.key.key_of.Given as goal

abbrev pub invariant-loop-b : goal.invariant-loop-b
invariant-loop-b l = (folded mixed l.h (drop l.b-index l.id) ≡ folded mixed 0 l.id) × (l.h < 4294967296)
