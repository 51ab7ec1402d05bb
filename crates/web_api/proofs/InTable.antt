-- That each row stands in the table.
use Rattle.std.proofs.Common.{refl}
use Rattle.matchit.proofs.OnLiterals.{matchit_on_literals}
use Rattle.web_api.specs.declared.routes.Route.{Route}
use Rattle.web_api.specs.declared.routes.Route.TheVariants as routes
use Rattle.web_bodies.specs.declared.form.MoveName.TheVariants as names
use Rattle.web_api.specs.Routes.{all_routes, catalogue_routes, sale_routes, order_routes, waiting_routes, door_routes, with_route}
use Rattle.web_api.specs.Table.{IsInTable}

pub in_table : (route : Route) → IsInTable route
unfolding matchit_on_literals all_routes catalogue_routes sale_routes order_routes waiting_routes door_routes with_route
in_table routes.Items = record { scan = _; read = refl; held = refl }
in_table routes.Item = record { scan = _; read = refl; held = refl }
in_table routes.Variations = record { scan = _; read = refl; held = refl }
in_table routes.Quotas = record { scan = _; read = refl; held = refl }
in_table routes.Quota = record { scan = _; read = refl; held = refl }
in_table routes.Availability = record { scan = _; read = refl; held = refl }
in_table routes.Vouchers = record { scan = _; read = refl; held = refl }
in_table routes.Voucher = record { scan = _; read = refl; held = refl }
in_table routes.CartPositions = record { scan = _; read = refl; held = refl }
in_table routes.CartPosition = record { scan = _; read = refl; held = refl }
in_table routes.BulkCreate = record { scan = _; read = refl; held = refl }
in_table routes.Orders = record { scan = _; read = refl; held = refl }
in_table routes.Order = record { scan = _; read = refl; held = refl }
in_table (routes.Move names.MarkPaid) = record { scan = _; read = refl; held = refl }
in_table (routes.Move names.MarkPending) = record { scan = _; read = refl; held = refl }
in_table (routes.Move names.MarkExpired) = record { scan = _; read = refl; held = refl }
in_table (routes.Move names.MarkCanceled) = record { scan = _; read = refl; held = refl }
in_table (routes.Move names.Extend) = record { scan = _; read = refl; held = refl }
in_table routes.WaitingEntries = record { scan = _; read = refl; held = refl }
in_table routes.WaitingEntry = record { scan = _; read = refl; held = refl }
in_table routes.SendVoucher = record { scan = _; read = refl; held = refl }
in_table routes.Periodic = record { scan = _; read = refl; held = refl }
in_table routes.CheckinLists = record { scan = _; read = refl; held = refl }
in_table routes.CheckinList = record { scan = _; read = refl; held = refl }
in_table routes.Status = record { scan = _; read = refl; held = refl }
in_table routes.Tickets = record { scan = _; read = refl; held = refl }
in_table routes.Redeem = record { scan = _; read = refl; held = refl }
