use borrow.Author.Rules.{rules}
use Rattle.exchange.proofs.Settling.{not-refused, is-refused, after-put, change-made, change-refused, as_long}
use Rattle.exchange.proofs.whole.exchange_long.Goals as goal

pub returns-then-is_refused : goal.returns-then-is_refused
returns-then-is_refused c =
    change-refused _ _ _ _ c.requires _ _ _ _ _ _ _ c.build_with-before.ensures
    (is-refused _ (search rules))

pub build_with-requires : goal.build_with-requires
build_with-requires c =
    after-put _ _ _ _ c.requires 0 0 0 _ c.put_bytes.ensures

pub returns : goal.returns
returns c =
    change-made _ _ _ _ c.requires _ _ _ _ _ _ _ _ c.put_bytes.ensures
    (as_long _ _ _ _ _ _ _ _ _ (search rules) (search rules) (search rules) c.build_with.ensures) _ _ _ _
    c.build_with-before.ensures (not-refused _ (search rules))
