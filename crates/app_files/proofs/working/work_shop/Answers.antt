use Rattle.std.proofs.Common.{inr}
use Rattle.sqlite.specs.Held.{state}
use Rattle.app_files.specs.Served.{handler_of}
use Rattle.app_files.proofs.ActLemmas.{is_worked}
use Rattle.app_files.proofs.working.work_shop.Goals as goal

pub returns-in-Ok : goal.returns-in-Ok
returns-in-Ok g c =
    is_worked _ _ g.S.Store (state g.S.Store c.args.connection) (handler_of c.in-Ok.opened) _ _ c.in-Ok.ensures.opens c.act_opened.ensures

pub returns-in-Err : goal.returns-in-Err
returns-in-Err g c = inr c.in-Err.ensures.stays
