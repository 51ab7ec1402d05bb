use Rattle.web_api.proofs.RoutePaths.{path_route}
use Rattle.web_api.proofs.laws.each_path_has_its_route.Goals as goal

pub returns : goal.returns
returns c = path_route
