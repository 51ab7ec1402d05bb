-- What an insert leaves.
use Rattle.std.proofs.Common.{◌≡◌, Result, Ok, Err}
use Rattle.std.specs.Prelude.{OnOk}
use Rattle.matchit.specs.Route.{Scan}
use Rattle.matchit.specs.Router.{InsertsRead}
use Rattle.matchit.specs.declared.error.InsertError.{InsertError}
use Rattle.web_api.specs.declared.routes.Route.{Route}
use Rattle.web_api.specs.Routes.{Rows, with_read}

pub added : (read : Result Scan InsertError) (route : Route) (old new : Rows) (r : Result (Unit {0}) InsertError)
    → InsertsRead read route old new r → OnOk r (new ≡ with_read read route old)
added (Ok s) route old new (Ok u) x = x.1
added (Ok s) route old new (Err e) x = tt
added (Err f) route old new (Ok u) x = x.0
added (Err f) route old new (Err e) x = tt
