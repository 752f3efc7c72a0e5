-- Marks: the places of some commands of a script.
use Rattle.std.specs.Prelude.{◌≡◌, ℕ, ◌<◌, List, length, get_or, replicate}
use Rattle.script.specs.declared.drawing.Drawing.{Drawing}
use Rattle.script.specs.Step.{Fit, at_start}
use Rattle.places.specs.declared.marks.Marks.{Marks}

-- Each mark is a cursor of the script: it stands behind as many commands as it says.
pub record Marked (drawing : Drawing) (ms : Marks) : Type 0 where
  pub long : length ms.places ≡ 256
  pub each : (k : ℕ) → k < 256 → Fit drawing (get_or ms.places k at_start)

-- No mark is set.
abbrev pub unset : Marks
unset = record { stride = 0; places = replicate 256 at_start }
