use Rattle.std.proofs.Common.{◌∙◌}
use Rattle.sqlite.specs.Held.{state}
use Rattle.web_handler.specs.Streams.{handler_with}
use Rattle.web_connections.specs.Acts.{between}
use Rattle.app_files.proofs.laws.callers_go_on_after_a_crash.Goals as goal

pub returns-clause-goes_on : goal.returns-clause-goes_on
returns-clause-goes_on g c = λ house r came all first told organizer event s connections of running found name happening z opens clean.
    let ran = c.callers_run_on.ensures house r came first (between told (handler_with c.args.last.now organizer event s)) all connections found.clean of running in
    let ours = c.a_shop_runs_on_after_a_crash.ensures.known house ran.2.known found in
    let o = opens.opened clean (state g.S.Store c.args.fresh.now).now found.at ours in
    let known = c.a_shop_runs_on_after_a_crash.ensures.house house ran.2.known found z o in
    let again = c.a_shop_runs_on_after_a_crash.ensures.runs _ s ran.0 ran.3 found z o in (
      ran.0,
      again.0,
      ran.1,
      again.1,
      record { organizer = opens.organizer ∙ known.1; event = opens.event ∙ known.2; known = known.0 },
      again.2,
    )

pub returns-clause-unharmed : goal.returns-clause-unharmed
returns-clause-unharmed g c = λ house r came all first told organizer event s connections of running found error why.
    let ran = c.callers_run_on.ensures house r came first (between told (handler_with c.args.last.now organizer event s)) all connections found.clean of running in
    c.a_crash_damages_nothing.ensures house ran.2.known _ s ran.0 ran.3 found error why
