-- What holds of every outcome. The law of the recursion is in proofs/Theorems/Always.antt.
use Rattle.std.specs.Prelude.{◌≡◌}
use Rattle.model.specs.Tables.{Out, refused, done}

-- P holds of what was made; a refusal's number is not 0.
abbrev pub Always : {S : Type 0} → (S → Type 0) → Out S → Type 0
Always P (refused k) = k ≡ 0 → ⊥
Always P (done s) = P s
