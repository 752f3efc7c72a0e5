use mathlib.Core.Path.{◌≡◌}
use Prim.Native.Nat.{◌-◌, ◌<◌}
use Rattle.memo.specs.Words.{unit, slot_count, slot_in, next_slot, probes}
use Rattle.memo.specs.Table.{first_free, free_for}
use Rattle.memo.proofs.fill.free_slot.Given as goal

abbrev pub invariant-loop : goal.invariant-loop
invariant-loop l =
    (first_free (slot_in l.slots) (next_slot (unit l.slots) l.step) l.i (probes - l.counter) ≡ free_for l.slots l.key)
    × (l.i < slot_count l.slots)
