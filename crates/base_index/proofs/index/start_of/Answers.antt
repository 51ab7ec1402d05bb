use Rattle.base_index.proofs.Cuts.{start_at_place, start_at_gap}
use Rattle.base_index.proofs.index.start_of.Goals as goal

pub returns-in-Ok : goal.returns-in-Ok
returns-in-Ok c = start_at_place c.args.entries.now.rows c.args.entry c.in-Ok.at c.requires c.in-Ok.ensures.found

pub returns-in-Err : goal.returns-in-Err
returns-in-Err c = start_at_gap c.args.entries.now.rows c.args.entry c.in-Err.at c.in-Err.ensures.absent
