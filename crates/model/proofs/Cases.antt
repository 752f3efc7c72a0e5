-- The claim that the definitions give the table of cases what it wants.
use Rattle.std.specs.Prelude.{◌≡◌, refl, true}
use Rattle.model.specs.Cases.{all_come_out, cases, comment_at, number_within, uses_itself, use_each_other, computed}

-- The definitions give what the table wants. With few levels, where build has 1025: of 5, a comment at depth 4 passes, and at depth 5
-- it is 20; of 9, a `use` of the `g` around it passes, the same in no namespace is 20, and so are two groups that use each other.
pub starred : (all_come_out cases ≡ true) × (comment_at 5 4 ≡ 0) × (comment_at 5 5 ≡ 20)
    × (number_within 9 (uses_itself 1) ≡ 0) × (number_within 9 (uses_itself 0) ≡ 20) × (number_within 9 use_each_other ≡ 20)
unfolding computed
starred = (refl, refl, refl, refl, refl, refl)
