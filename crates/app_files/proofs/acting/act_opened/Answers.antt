use Rattle.app_files.specs.Served.{handler_of}
use Rattle.app_files.proofs.ActLemmas.{at_tick, no_tick}
use Rattle.app_files.proofs.acting.act_opened.Goals as goal

pub returns-in-Some : goal.returns-in-Some
returns-in-Some g c =
    at_tick _ _ _ _ c.in-Some.tick (handler_of c.args.opened) _ _ c.in-Some.ensures c.act_at.ensures

pub returns-in-None : goal.returns-in-None
returns-in-None g c =
    no_tick _ _ _ _ (handler_of c.args.opened) _ c.in-None.ensures c.connection_of.ensures
