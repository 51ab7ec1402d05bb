use Rattle.std.proofs.Common.{refl}
use Rattle.web_api.specs.Routes.{door_routes}
use Rattle.web_api.proofs.routes.add_doors.Goals as goal

pub returns : goal.returns
unfolding door_routes
returns c = rw (c.in_ok-add-5.ensures, c.in_ok-add-4.ensures, c.in_ok-add-3.ensures, c.in_ok-add-2.ensures, c.in_ok-add.ensures) refl
