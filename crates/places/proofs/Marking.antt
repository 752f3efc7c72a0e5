-- Marks are cursors of the script. Assumes nothing.
use mathlib.Core.Path.{◌≡◌, refl, sym, ap, ◌∙◌, subst}
use Prim.Native.Nat.{ℕ, ◌*◌, ◌<◌, ◌≤◌}
use native.Mathlib.Omega.{arith}
use native.Mathlib.Decide.{ℕ_discrete}
use lib.ListN.{length, get_or, set, length-set, length-replicate, get_or-replicate}
use lib.Seq.{get_or-set_same, get_or-set_other}
use Rattle.model.specs.Check.{most_bytes}
use Rattle.script.specs.declared.drawing.Drawing.{Drawing}
use Rattle.script.specs.declared.cursor.Cursor.{Cursor}
use Rattle.script.specs.Step.{Fit, at_start}
use Rattle.script.proofs.Commands.{placed_first}
use Rattle.places.specs.declared.marks.Marks.{Marks}
use Rattle.places.specs.Marks.{Marked, unset}

-- Before any mark is set, each is the beginning of the script.
pub marked-none : (drawing : Drawing) → length drawing.script.now ≤ most_bytes → Marked drawing unset
marked-none drawing h = record {
  long = length-replicate {A = Cursor} 256 at_start;
  each = λ k l. subst (Fit drawing) (sym (get_or-replicate 256 k at_start at_start l)) (placed_first drawing at_start refl h);
}

-- One more.
pub marked_more : (drawing : Drawing) (ms : Marks) → Marked drawing ms → (k : ℕ) → k < 256 → (c : Cursor) → Fit drawing c →
    Marked drawing (record ms { places = set ms.places k c })
marked_more drawing ms m k l c f = record {
  long = length-set ms.places k c ∙ m.long;
  each = λ j h. go j h (ℕ_discrete j k);
}
  where
    go : (j : ℕ) → j < 256 → Dec (j ≡ k) → Fit drawing (get_or (set ms.places k c) j at_start)
    go j h (yes e) = subst (Fit drawing)
        (sym (ap (λ (i : ℕ). get_or (set ms.places k c) i at_start) e ∙ get_or-set_same ms.places k c at_start (omega (arith, l, m.long)))) f
    go j h (no d) = subst (Fit drawing) (sym (get_or-set_other ms.places k j c at_start d)) (m.each j h)

-- In the middle of the walk that sets them: mark k is next, behind that number of commands.
pub record Marking (drawing : Drawing) (ms : Marks) (c : Cursor) (number k : ℕ) : Type 0 where
  pub marked : Marked drawing ms
  pub fit : Fit drawing c
  pub low : number ≤ 4112 * k
