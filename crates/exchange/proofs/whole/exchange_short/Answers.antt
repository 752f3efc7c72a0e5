use borrow.Author.Rules.{rules}
use mathlib.Core.Path.{refl}
use Rattle.exchange.proofs.Bytes.{undone}
use Rattle.exchange.proofs.Settling.{not-refused, is-refused, after-put, change-stays, change-undone}
use Rattle.exchange.proofs.whole.exchange_short.Goals as goal

pub build_with-built-requires : goal.build_with-built-requires
build_with-built-requires c =
    let change = c.requires.changeable in
    after-put _ _ _ _ change 0 0 0 _ c.put_bytes.ensures

pub returns-then-is_refused : goal.returns-then-is_refused
returns-then-is_refused c =
    let change = c.requires.changeable in
    change-undone _ _ _ _ change _ _ _ _ _ _ _ _ c.put_bytes.ensures
    c.build_with-built.ensures (is-refused _ (search rules)) _
    (undone _ _ _ change.within _ _ _ _ _ refl c.copy_from_slice.ensures.after c.copy_from_slice-then-is_refused.ensures.after
    c.put_bytes.ensures)

pub returns-else-is_refused : goal.returns-else-is_refused
returns-else-is_refused c =
    let change = c.requires.changeable in
    change-stays _ _ _ _ change _ _ _ _ _ _ _ _ c.put_bytes.ensures
    c.build_with-built.ensures (not-refused _ (search rules))
