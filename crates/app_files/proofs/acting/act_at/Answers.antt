use Rattle.app_files.specs.Served.{handler_of}
use Rattle.app_files.proofs.ActLemmas.{acts_there}
use Rattle.app_files.proofs.acting.act_at.Goals as goal

pub returns : goal.returns
returns g c =
    acts_there _ _ _ c.args.tick (handler_of c.args.opened) _ _ _ c.act_over-tables.ensures c.into_connection.ensures
