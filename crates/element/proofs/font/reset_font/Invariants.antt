use lib.ListN.{drop}
use Rattle.model.specs.Base.{folded}
use Rattle.model.specs.Names.{font_resets}
use Rattle.entries.specs.Space.{so_far}
use Rattle.element.specs.Font.{reset_as}
use Rattle.entries.proofs.Steps.{Towards}
use Rattle.element.proofs.font.reset_font.Given as goal

abbrev pub invariant-loop-name : goal.invariant-loop-name
invariant-loop-name l = Towards (λ m. reset_as l.important) l.initial.attributes l.place
    (folded (reset_as l.important) (so_far l.initial.attributes l.place l.next) font_resets) (drop l.name-index font_resets) l.n
    l.attributes
