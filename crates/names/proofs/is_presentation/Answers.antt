use Rattle.std.proofs.Common.{rules}
use mathlib.Core.List.{List, [], ◌∷◌}
use Prim.Native.Nat.{ℕ}
use Rattle.model.specs.Base.{among}
use Rattle.model.specs.Names.{is_presentation}
use Rattle.names.proofs.Keys.{every, unlisted}
use Rattle.names.proofs.is_presentation.Goals as goal

-- the list of the definition
abbrev all : List ℕ
all =
    0 ∷ 5 ∷ 3 ∷ 9 ∷ 10 ∷ 12 ∷ 13 ∷ 14 ∷ 16 ∷ 21 ∷ 22 ∷ 24 ∷ 31 ∷ 32 ∷ 33 ∷ 34 ∷ 36 ∷ 37 ∷ 39 ∷ 41 ∷ 42 ∷ 43 ∷ 44 ∷ 45 ∷ 46 ∷ 48 ∷ 55 ∷
    54 ∷ 59 ∷ 60 ∷ 66 ∷ 71 ∷ 80 ∷ 81 ∷ 84 ∷ 85 ∷ 86 ∷ 90 ∷ 105 ∷ 108 ∷ 112 ∷ 116 ∷ 117 ∷ 146 ∷ 157 ∷ 158 ∷ 159 ∷ 160 ∷ 161 ∷ 162 ∷ 163 ∷
    164 ∷ 165 ∷ 166 ∷ 175 ∷ 176 ∷ 184 ∷ 185 ∷ 188 ∷ 190 ∷ 192 ∷ 195 ∷ 197 ∷ 198 ∷ 200 ∷ 201 ∷ []

abbrev keys1 : List ℕ
keys1 =
    0 ∷ 3 ∷ 5 ∷ 9 ∷ 12 ∷ 14 ∷ 16 ∷ 21 ∷ 24 ∷ 31 ∷ 33 ∷ 36 ∷ 39 ∷ 41 ∷ 43 ∷ 45 ∷ 48 ∷ 54 ∷ 59 ∷ 66 ∷ 71 ∷ 80 ∷ 84 ∷ 86 ∷ 90 ∷ 105 ∷ 108 ∷
    112 ∷ 116 ∷ 146 ∷ 157 ∷ 159 ∷ 161 ∷ 163 ∷ 165 ∷ 175 ∷ 184 ∷ 188 ∷ 190 ∷ 192 ∷ 195 ∷ 197 ∷ 200 ∷ []

abbrev keys2 : List ℕ
keys2 = 10 ∷ 13 ∷ 22 ∷ 32 ∷ 34 ∷ 37 ∷ 42 ∷ 44 ∷ 46 ∷ 55 ∷ 60 ∷ 81 ∷ 85 ∷ 117 ∷ 158 ∷ 160 ∷ 162 ∷ 164 ∷ 166 ∷ 176 ∷ 185 ∷ 198 ∷ 201 ∷ []

pub returns-in_default : goal.returns-in_default
unfolding is_presentation among every
returns-in_default c = unlisted (keys2 ∷ keys1 ∷ []) all c.args.a (search rules) tt
