use Rattle.std.proofs.Common.{refl}
use Rattle.web_api.specs.Routes.{waiting_routes}
use Rattle.web_api.proofs.routes.add_waiting.Goals as goal

pub returns : goal.returns
unfolding waiting_routes
returns c = rw (c.in_ok-add-4.ensures, c.in_ok-add-3.ensures, c.in_ok-add-2.ensures, c.in_ok-add.ensures) refl
