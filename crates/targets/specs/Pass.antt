-- The passes of the repairs as the model has them.
use Rattle.std.specs.Prelude.{ℕ}
use Rattle.targets.specs.declared.name.Pass.{Pass}
use Rattle.targets.specs.declared.name.Pass.TheVariants.{PatternFill, PatternStroke, ClipPath, Mask, Filter, FeImage}

-- The number of a pass.
abbrev pub pass_number : Pass → ℕ
pass_number PatternFill = 1
pass_number PatternStroke = 2
pass_number ClipPath = 3
pass_number Mask = 4
pass_number Filter = 5
pass_number FeImage = 6
