use Rattle.std.proofs.Common.{refl}
use Rattle.web_api.specs.Routes.{order_routes}
use Rattle.web_api.proofs.routes.add_orders.Goals as goal

pub returns : goal.returns
unfolding order_routes
returns c =
    rw (c.in_ok-add_move-5.ensures, c.in_ok-add_move-4.ensures, c.in_ok-add_move-3.ensures, c.in_ok-add_move-2.ensures, c.in_ok-add_move.ensures, c.in_ok-add-2.ensures, c.in_ok-add.ensures) refl
