use Rattle.std.proofs.Common.{ap, ◌∙◌}
use Rattle.matchit.specs.Seek.{first}
use Rattle.web_api.specs.Routes.{route_found}
use Rattle.web_api.proofs.Utf8.{route_known, route_unknown}
use Rattle.web_api.proofs.routes.route_of.Goals as goal

pub returns-in-Ok : goal.returns-in-Ok
returns-in-Ok c =
    c.route_found.ensures ∙ ap (λ rows. route_found (first rows c.in-Ok.text.now)) c.requires
    ∙ route_known c.args.path.now c.in-Ok.text.now c.in-Ok.ensures.cases.0 c.in-Ok.ensures.cases.1

pub returns-in-Err : goal.returns-in-Err
returns-in-Err c = route_unknown c.args.path.now c.in-Err.ensures.cases.0
