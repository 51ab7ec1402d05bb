-- The routes of the shop, as rows of a router.
use Rattle.std.specs.Prelude.{ℕ, List, [], Option, Some, None, Result, Ok, Err, if◌then◌else◌, codes}
use Rattle.std.specs.Str.{is_utf8}
use Rattle.matchit.specs.Rows.{RowsOf}
use Rattle.matchit.specs.Route.{Scan, parse_route}
use Rattle.matchit.specs.Order.{placed}
use Rattle.matchit.specs.Router.{RouteOf, route_from}
use Rattle.matchit.specs.Seek.{first}
use Rattle.matchit.specs.declared.error.InsertError.{InsertError}
use Rattle.web_api.specs.declared.routes.Route.{Route}
use Rattle.web_api.specs.declared.routes.Route.TheVariants as routes
use Rattle.web_bodies.specs.declared.form.MoveName.TheVariants as names

-- the rows of the router, each with a pattern of names and one of the shop's routes
abbrev pub Rows : Type 0
Rows = RowsOf (RouteOf Route)

-- the rows with one more route, in its place among them; a text that is no pattern adds none
abbrev pub with_read : Result Scan InsertError → Route → Rows → Rows
with_read (Ok s) route rows = placed ((route_from s route).pattern, route_from s route) rows
with_read (Err e) route rows = rows

-- the rows with one more route
unfoldable pub with_route : List ℕ → Route → Rows → Rows
with_route text route rows = with_read (parse_route text) route rows

-- the rows with the routes of items and quotas
unfoldable pub catalogue_routes : Rows → Rows
catalogue_routes rows =
    with_route (codes "/quotas/{id}/availability/") routes.Availability (with_route (codes "/quotas/{id}/") routes.Quota (with_route (codes "/quotas/") routes.Quotas
    (with_route (codes "/items/{id}/variations/") routes.Variations (with_route (codes "/items/{id}/") routes.Item (with_route (codes "/items/") routes.Items rows)))))

-- the rows with the routes of vouchers and cart positions
unfoldable pub sale_routes : Rows → Rows
sale_routes rows =
    with_route (codes "/cartpositions/bulk_create/") routes.BulkCreate (with_route (codes "/cartpositions/{id}/") routes.CartPosition (with_route (codes "/cartpositions/") routes.CartPositions
    (with_route (codes "/vouchers/{id}/") routes.Voucher (with_route (codes "/vouchers/") routes.Vouchers rows))))

-- the rows with the routes of orders and their moves
unfoldable pub order_routes : Rows → Rows
order_routes rows =
    with_route (codes "/orders/{code}/extend/") (routes.Move names.Extend) (with_route (codes "/orders/{code}/mark_canceled/") (routes.Move names.MarkCanceled)
    (with_route (codes "/orders/{code}/mark_expired/") (routes.Move names.MarkExpired) (with_route (codes "/orders/{code}/mark_pending/") (routes.Move names.MarkPending)
    (with_route (codes "/orders/{code}/mark_paid/") (routes.Move names.MarkPaid) (with_route (codes "/orders/{code}/") routes.Order (with_route (codes "/orders/") routes.Orders rows))))))

-- the rows with the routes of the waiting list and of periodic work
unfoldable pub waiting_routes : Rows → Rows
waiting_routes rows =
    with_route (codes "/periodic/") routes.Periodic (with_route (codes "/waitinglistentries/{id}/send_voucher/") routes.SendVoucher
    (with_route (codes "/waitinglistentries/{id}/") routes.WaitingEntry (with_route (codes "/waitinglistentries/") routes.WaitingEntries rows)))

-- the rows with the routes of the doors
unfoldable pub door_routes : Rows → Rows
door_routes rows =
    with_route (codes "/checkinlists/{id}/positions/{pos}/redeem/") routes.Redeem (with_route (codes "/checkinlists/{id}/positions/") routes.Tickets
    (with_route (codes "/checkinlists/{id}/status/") routes.Status (with_route (codes "/checkinlists/{id}/") routes.CheckinList (with_route (codes "/checkinlists/") routes.CheckinLists rows))))

-- all routes
unfoldable pub all_routes : Rows
all_routes = door_routes (waiting_routes (order_routes (sale_routes (catalogue_routes []))))

-- what stands beside a route that was found
abbrev pub route_found : Option (RouteOf Route) → Option Route
route_found None = None
route_found (Some route) = Some route.value

-- the route of a path behind the slugs; a path that is no UTF-8 has none
unfoldable pub route_of : List ℕ → Option Route
route_of path = if is_utf8 path then route_found (first all_routes path) else None
