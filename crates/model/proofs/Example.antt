-- The drawing of specs/Example.antt, computed: that its figure can be exchanged, and what the exchange changes.
use Rattle.std.specs.Prelude.{◌≡◌, refl, true, [], ◌∷◌}
use Rattle.model.specs.Tables.{text_of}
use Rattle.model.specs.Noted.{notes}
use Rattle.model.specs.Demand3.{Spared, Exchangeable, Demand3}
use Rattle.model.specs.Cases.{ascii, computed}
use Rattle.model.specs.Noted
use Rattle.model.proofs.Theorems.Spare
use Rattle.model.proofs.Theorems.Spare.{is_spared, test-spared}
use Rattle.model.proofs.Theorems.Whole.{demand3}
use Rattle.model.specs.Example.{drawing, words, load, heavier, before, after, made}

-- The load can be exchanged.
pub exchangeable : Exchangeable drawing.script drawing.chars words words words 3 load heavier
unfolding computed drawing load heavier
exchangeable = record { built = refl; text = refl; outside = refl; size = refl; utf8 = refl }

-- So demand 3 holds of it.
pub demanded : Demand3 drawing.script drawing.chars words words words 3 load heavier
demanded = demand3 drawing.script drawing.chars words words words 3 load heavier exchangeable

-- Node 3 is the weight, node 5 is "load ", node 7 is the load, quoted.
pub each-made : made ≡ (7 ∷ 3 ∷ []) ∷ (5 ∷ 2 ∷ []) ∷ (3 ∷ 1 ∷ []) ∷ []
unfolding computed drawing made Noted.noted_parsed Noted.noted_tree Noted.notes_of Noted.notes
each-made = refl

weight-test : is_spared (notes drawing.script drawing.chars words words words) before.tree 3 3 ≡ true
unfolding computed drawing before Noted.noted_parsed Noted.noted_tree Noted.notes_of Noted.notes Spare.upward Spare.is_held Spare.none_holds
    Spare.is_spared
weight-test = refl

-- The weight is spared.
pub weight-spared : Spared (notes drawing.script drawing.chars words words words) before.tree 3 3
weight-spared = test-spared (notes drawing.script drawing.chars words words words) before.tree 3 3 weight-test

-- It stays as it is, and the load changes.
pub texts-after :
    (text_of after.tree 3 ≡ text_of before.tree 3) × (text_of before.tree 7 ≡ ascii "7 kg") × (text_of after.tree 7 ≡ heavier)
unfolding computed drawing heavier before after
texts-after = (refl, refl, refl)
