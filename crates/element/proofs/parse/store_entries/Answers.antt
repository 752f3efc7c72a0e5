use Rattle.std.proofs.lemmas.Result.{err_from_is_err_and}
use Rattle.element.proofs.Whole.{entries-full, entries-behind, run-nodes}
use Rattle.element.proofs.parse.store_entries.Goals as goal

pub returns-in_err-run : goal.returns-in_err-run
returns-in_err-run c =
    let step = c.add_attributes.ensures.stored in
    let p = err_from_is_err_and c.from_residual.result c.from_residual.ensures.1 in
    record {
      stored = entries-full _ _ _ _ _ _ c.requires.first_le_room.1 c.requires.above _ _ step _ _ _ c.in_err-run.was p.1 p.2;
      behind = rw p.1 tt;
    }

pub returns : goal.returns
returns c =
    let step = c.add_attributes.ensures.stored in
    let rest = c.in_ok-run.ensures.behind in
    record {
      stored = entries-behind _ _ _ _ _ _ c.requires.first_le_room.1 c.requires.above _ _ step _ c.in_ok-run.was
          rest.declarations _ _ c.write_declarations.ensures.stored;
      behind = run-nodes _ _ _ c.write_declarations.result rest c.write_declarations.ensures.behind;
    }
