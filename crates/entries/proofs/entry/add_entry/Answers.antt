use Rattle.entries.proofs.Storing.{add-full, add-room}
use Rattle.tree.specs.Lent.{entry_of}
use borrow.Author.Rules.{rules}
use Rattle.entries.proofs.entry.add_entry.Goals as goal

pub returns-then-place-next : goal.returns-then-place-next
returns-then-place-next c = add-full _ _ _ c.requires (entry_of c.args.e) c.if-place-next.true

pub returns : goal.returns
returns c =
    add-room _ _ _ c.requires
    (entry_of c.args.e) (search rules) _
    c.put_entry.ensures
