-- The rows of all routes, written out: computed once, and looked at from then on.
use Rattle.std.proofs.Common.{◌≡◌, ℕ, List, [], ◌∷◌, ◌++◌, codes, refl}
use Rattle.matchit.specs.Rows.{param_token}
use Rattle.matchit.specs.Router.{RouteOf}
use Rattle.matchit.proofs.OnLiterals.{matchit_on_literals}
use Rattle.web_api.specs.declared.routes.Route.{Route}
use Rattle.web_api.specs.declared.routes.Route.TheVariants as routes
use Rattle.web_bodies.specs.declared.form.MoveName.TheVariants as names
use Rattle.web_api.specs.Routes.{Rows, all_routes, catalogue_routes, sale_routes, order_routes, waiting_routes, door_routes, with_route}

-- a route's tokens, its text, where the names of its parameters stand in it, and its value
abbrev row : List ℕ → List ℕ → List (ℕ × ℕ) → Route → List ℕ × RouteOf Route
row pattern text names route = (pattern, record { pattern = pattern; text = text; names = names; value = route })

abbrev pub written : Rows
written =
    row (codes "/cartpositions/bulk_create/") (codes "/cartpositions/bulk_create/") [] routes.BulkCreate ∷
    row (codes "/cartpositions/" ++ (param_token ∷ codes "/")) (codes "/cartpositions/{id}/") ((16, 18) ∷ []) routes.CartPosition ∷
    row (codes "/cartpositions/") (codes "/cartpositions/") [] routes.CartPositions ∷
    row (codes "/checkinlists/" ++ (param_token ∷ codes "/positions/" ++ (param_token ∷ codes "/redeem/"))) (codes "/checkinlists/{id}/positions/{pos}/redeem/") ((15, 17) ∷ (30, 33) ∷ []) routes.Redeem ∷
    row (codes "/checkinlists/" ++ (param_token ∷ codes "/positions/")) (codes "/checkinlists/{id}/positions/") ((15, 17) ∷ []) routes.Tickets ∷
    row (codes "/checkinlists/" ++ (param_token ∷ codes "/status/")) (codes "/checkinlists/{id}/status/") ((15, 17) ∷ []) routes.Status ∷
    row (codes "/checkinlists/" ++ (param_token ∷ codes "/")) (codes "/checkinlists/{id}/") ((15, 17) ∷ []) routes.CheckinList ∷
    row (codes "/checkinlists/") (codes "/checkinlists/") [] routes.CheckinLists ∷
    row (codes "/items/" ++ (param_token ∷ codes "/variations/")) (codes "/items/{id}/variations/") ((8, 10) ∷ []) routes.Variations ∷
    row (codes "/items/" ++ (param_token ∷ codes "/")) (codes "/items/{id}/") ((8, 10) ∷ []) routes.Item ∷
    row (codes "/items/") (codes "/items/") [] routes.Items ∷
    row (codes "/orders/" ++ (param_token ∷ codes "/extend/")) (codes "/orders/{code}/extend/") ((9, 13) ∷ []) (routes.Move names.Extend) ∷
    row (codes "/orders/" ++ (param_token ∷ codes "/mark_canceled/")) (codes "/orders/{code}/mark_canceled/") ((9, 13) ∷ []) (routes.Move names.MarkCanceled) ∷
    row (codes "/orders/" ++ (param_token ∷ codes "/mark_expired/")) (codes "/orders/{code}/mark_expired/") ((9, 13) ∷ []) (routes.Move names.MarkExpired) ∷
    row (codes "/orders/" ++ (param_token ∷ codes "/mark_paid/")) (codes "/orders/{code}/mark_paid/") ((9, 13) ∷ []) (routes.Move names.MarkPaid) ∷
    row (codes "/orders/" ++ (param_token ∷ codes "/mark_pending/")) (codes "/orders/{code}/mark_pending/") ((9, 13) ∷ []) (routes.Move names.MarkPending) ∷
    row (codes "/orders/" ++ (param_token ∷ codes "/")) (codes "/orders/{code}/") ((9, 13) ∷ []) routes.Order ∷
    row (codes "/orders/") (codes "/orders/") [] routes.Orders ∷
    row (codes "/periodic/") (codes "/periodic/") [] routes.Periodic ∷
    row (codes "/quotas/" ++ (param_token ∷ codes "/availability/")) (codes "/quotas/{id}/availability/") ((9, 11) ∷ []) routes.Availability ∷
    row (codes "/quotas/" ++ (param_token ∷ codes "/")) (codes "/quotas/{id}/") ((9, 11) ∷ []) routes.Quota ∷
    row (codes "/quotas/") (codes "/quotas/") [] routes.Quotas ∷
    row (codes "/vouchers/" ++ (param_token ∷ codes "/")) (codes "/vouchers/{id}/") ((11, 13) ∷ []) routes.Voucher ∷
    row (codes "/vouchers/") (codes "/vouchers/") [] routes.Vouchers ∷
    row (codes "/waitinglistentries/" ++ (param_token ∷ codes "/send_voucher/")) (codes "/waitinglistentries/{id}/send_voucher/") ((21, 23) ∷ []) routes.SendVoucher ∷
    row (codes "/waitinglistentries/" ++ (param_token ∷ codes "/")) (codes "/waitinglistentries/{id}/") ((21, 23) ∷ []) routes.WaitingEntry ∷
    row (codes "/waitinglistentries/") (codes "/waitinglistentries/") [] routes.WaitingEntries ∷ []

pub all_written : all_routes ≡ written
unfolding all_routes catalogue_routes sale_routes order_routes waiting_routes door_routes with_route matchit_on_literals
all_written = refl
