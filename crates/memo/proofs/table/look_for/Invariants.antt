use mathlib.Core.Path.{◌≡◌}
use Prim.Native.Nat.{◌-◌, ◌<◌}
use Rattle.memo.specs.Words.{unit, slot_count, next_slot, probes}
use Rattle.memo.specs.Table.{sees, probing, probed}
use Rattle.memo.proofs.table.look_for.Given as goal

abbrev pub invariant-loop : goal.invariant-loop
invariant-loop l =
    (probing (sees l.drawing l.slots l.id) (next_slot (unit l.slots) l.step) l.i (probes - l.counter)
    ≡ probed l.drawing l.slots l.id)
    × (l.i < slot_count l.slots)
