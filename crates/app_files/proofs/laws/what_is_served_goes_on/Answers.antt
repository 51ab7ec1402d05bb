use Rattle.std.proofs.Common.{◌++◌, ◌∷◌, [], None, subst}
use Rattle.sqlite.specs.Held.{state}
use Rattle.sqlite.specs.State.{HasCleanDisk}
use Rattle.office_deliveries.specs.Histories.{Crashed, running_from}
use Rattle.web_connection.specs.Run.{AtTick}
use Rattle.web_arrivals.specs.Streams.{ServesHistory}
use Rattle.web_handler.specs.Streams.{words_of}
use Rattle.web_server.specs.Rounds.{most_of}
use Rattle.web_connections.specs.Acts.{between}
use Rattle.app_files.specs.Served.{OpensAs}
use Rattle.app_files.proofs.ServedLemmas.{answers_by, runs_as, served_of}
use Rattle.app_files.proofs.laws.what_is_served_goes_on.Goals as goal

pub returns : goal.returns
returns g c = λ house begun r es most before after left outcome on found served is here clean.
    let opens = subst (λ d. OpensAs g.S.Store (state g.S.Store c.args.fresh.now) d) is served.opens in
    let x = c.a_history_goes_on_after_a_crash.ensures house begun r es before after on (record { found = found; opens = opens; clean = here }) in
    let events = es ++ Crashed ∷ [] in
    let running = running_from (words_of house) x.0 in
    let there = runs_as _ house begun events _ served.handler running is x.1 in
    let old = between None served.handler in
    let new = between None served.leads.last in
    let sure = subst (λ it. HasCleanDisk (state g.S.Store it)) served.leads.connection clean in
    let came = served_of _ (most_of most) old new outcome served.leads.serving in
    let y = c.callers_go_on_with_a_history.ensures house begun running events came.came old new came.all came.connections sure there.of there.happened there.running in (
      y.0,
      y.1,
      answers_by _ (AtTick g.K.Ticks.reads (ServesHistory house)) (most_of most) old new (between None events) (between None y.0) outcome served.leads.serving y.2,
      record { of = y.3; happened = y.4; running = y.5 },
    )
