use Rattle.std.proofs.Common.{◌∷◌, [], None, refl, subst}
use Rattle.office_deliveries.specs.Histories.{Crashed, MayLeave, Running, running_from}
use Rattle.office_deliveries.proofs.Crashes.{happens_on}
use Rattle.web_handler.specs.Streams.{words_of}
use Rattle.web_connections.specs.Acts.{between}
use Rattle.web_connections.specs.Connections.{history}
use Rattle.app_files.proofs.ServeLemmas.{nobody_came}
use Rattle.app_files.specs.Evening.{over}
use Rattle.app_files.proofs.laws.a_history_goes_on_after_a_crash.Goals as goal

-- no caller comes in between
pub returns : goal.returns
returns g c = λ house begun r es before after on again.
    let x =
    c.callers_go_on_after_a_crash.ensures.goes_on house r 0 (history [] [] []) (between None (over c.args.last.now before)) None before.organizer before.event before.state
    (nobody_came _ (between None (over c.args.last.now before))) on.of on.running again.found after.organizer after.event after.state again.opens again.clean in
    let may = subst (λ (q : Running). MayLeave (words_of house) q x.1) x.2.acted x.3 in
    (x.1, record { of = x.4; happened = happens_on (words_of house) begun es (Crashed ∷ []) r (running_from (words_of house) x.1) on.happened (x.1, may, refl); running = x.5 })
