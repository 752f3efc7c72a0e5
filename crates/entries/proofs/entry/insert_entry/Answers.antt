use Rattle.entries.proofs.Storing.{insert-new, insert-over, insert-stands}
use Rattle.tree.specs.Lent.{plus_one, entry_of}
use mathlib.Core.Path.{sym, ap, ◌∙◌}
use Rattle.entries.proofs.entry.insert_entry.Goals as goal

pub returns-in_default : goal.returns-in_default
returns-in_default c =
    insert-new _ _ _ c.requires c.args.name (sym (ap plus_one c.in_default.is) ∙ c.find_entry.ensures.found)
    (entry_of c.args.e) _ _ c.add_entry.ensures

pub returns-then-is_plain : goal.returns-then-is_plain
returns-then-is_plain c =
    insert-over _ _ _ c.requires c.args.name _ c.in-Some.ensures.found (entry_of c.args.e)
    (sym c.entry_word-is_plain.ensures ∙ c.if-is_plain.true) _ c.put_entry.ensures

pub returns-else-is_plain : goal.returns-else-is_plain
returns-else-is_plain c =
    insert-stands _ _ _ c.requires c.args.name _ c.in-Some.ensures.found (entry_of c.args.e)
    (λ z. c.if-is_plain.false (c.entry_word-is_plain.ensures ∙ z))
