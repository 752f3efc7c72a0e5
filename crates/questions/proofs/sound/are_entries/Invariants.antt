use mathlib.Core.Path.{◌≡◌}
use Rattle.model.specs.Tables.{entry_at}
use Rattle.model.specs.Questions.{is_entry, all_below}
use Rattle.tree.specs.Lent.{entries_of}
use Rattle.questions.proofs.sound.are_entries.Given as goal

abbrev pub invariant-loop-n : goal.invariant-loop-n
invariant-loop-n l =
    all_below (λ j. is_entry l.size (entry_at (entries_of l.attributes) j)) l.n
    ≡ all_below (λ j. is_entry l.size (entry_at (entries_of l.attributes) j)) l.count
