use Rattle.matchit.specs.Route.{parse_route}
use Rattle.web_api.specs.Routes.{with_route}
use Rattle.web_api.proofs.Added.{added}
use Rattle.web_api.proofs.routes.add.Goals as goal

pub returns : goal.returns
unfolding with_route
returns c = added (parse_route c.args.text.now) c.args.route c.args.router.now c.insert.new.self c.insert.result c.insert.ensures
