use Rattle.std.proofs.Common.{None, subst}
use Rattle.sqlite.specs.Held.{state}
use Rattle.sqlite.specs.State.{HasCleanDisk}
use Rattle.web_connection.specs.Run.{AtTick}
use Rattle.web_arrivals.specs.Streams.{ServesList}
use Rattle.web_server.specs.Rounds.{most_of}
use Rattle.web_connections.specs.Acts.{between}
use Rattle.app_files.proofs.ServedLemmas.{answers_by, served_of}
use Rattle.app_files.proofs.laws.what_is_served_is_answered_once.Goals as goal

pub returns : goal.returns
returns g c = λ house p ds most left outcome served clean of has.
    let old = between None served.handler in
    let new = between None served.leads.last in
    let sure = subst (λ it. HasCleanDisk (state g.S.Store it)) served.leads.connection clean in
    let came = served_of _ (most_of most) old new outcome served.leads.serving in
    let x = c.callers_are_answered_once.ensures house p ds came.came old new came.all came.connections sure of has in
    (x.0, answers_by _ (AtTick g.K.Ticks.reads (ServesList house p)) (most_of most) old new (between None ds) (between None x.0) outcome served.leads.serving x.1, x.2, x.3)
