use Rattle.std.proofs.Common.{inr, refl}
use Rattle.sqlite.specs.Held.{state}
use Rattle.app_files.specs.Served.{handler_of}
use Rattle.app_files.proofs.ServeLemmas.{is_served}
use Rattle.app_files.proofs.serving.serve_shop.Goals as goal

pub returns-in-Ok-clause-served : goal.returns-in-Ok-clause-served
returns-in-Ok-clause-served g c =
    is_served _ _ _ g.S.Store (state g.S.Store c.args.connection) _ _ (handler_of c.in-Ok.opened) _ _ c.in-Ok.ensures.opens c.serve_opened.ensures.leads

pub returns-in-Err-clause-said : goal.returns-in-Err-clause-said
returns-in-Err-clause-said g c = inr (refl, (_, c.in-Err.ensures.stays.told))

pub returns-in-Err-clause-served : goal.returns-in-Err-clause-served
returns-in-Err-clause-served g c = inr (c.in-Err.ensures.stays, refl)
