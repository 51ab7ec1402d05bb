-- The table of routes: what each row's text is, and what the paths of each route are.
use Rattle.std.specs.Prelude.{◌≡◌, ◌≢◌, ◌<◌, ◌==◌, ℕ, Bool, false, List, ◌++◌, length, Some, Ok, codes}
use Rattle.std.specs.Str.{IsUtf8}
use Rattle.std.specs.List.{list_any}
use Rattle.matchit.specs.Level.{IsText}
use Rattle.matchit.specs.Order.{lookup}
use Rattle.matchit.specs.Route.{Scan, parse_route}
use Rattle.matchit.specs.Router.{route_from}
use Rattle.web_api.specs.declared.routes.Route.{Route}
use Rattle.web_api.specs.declared.routes.Route.TheVariants as routes
use Rattle.web_bodies.specs.declared.form.MoveName.{MoveName}
use Rattle.web_bodies.specs.declared.form.MoveName.TheVariants as names
use Rattle.web_api.specs.Routes.{all_routes}

-- how the path of a move ends
abbrev pub move_end : MoveName → List ℕ
move_end names.MarkPaid = codes "/mark_paid/"
move_end names.MarkPending = codes "/mark_pending/"
move_end names.MarkExpired = codes "/mark_expired/"
move_end names.MarkCanceled = codes "/mark_canceled/"
move_end names.Extend = codes "/extend/"

-- the path of a route, with the first text in the place of its id or code, and the second in the place of a ticket
abbrev pub path_with : List ℕ → List ℕ → Route → List ℕ
path_with id ticket routes.Items = codes "/items/"
path_with id ticket routes.Item = codes "/items/" ++ id ++ codes "/"
path_with id ticket routes.Variations = codes "/items/" ++ id ++ codes "/variations/"
path_with id ticket routes.Quotas = codes "/quotas/"
path_with id ticket routes.Quota = codes "/quotas/" ++ id ++ codes "/"
path_with id ticket routes.Availability = codes "/quotas/" ++ id ++ codes "/availability/"
path_with id ticket routes.Vouchers = codes "/vouchers/"
path_with id ticket routes.Voucher = codes "/vouchers/" ++ id ++ codes "/"
path_with id ticket routes.CartPositions = codes "/cartpositions/"
path_with id ticket routes.CartPosition = codes "/cartpositions/" ++ id ++ codes "/"
path_with id ticket routes.BulkCreate = codes "/cartpositions/bulk_create/"
path_with id ticket routes.Orders = codes "/orders/"
path_with id ticket routes.Order = codes "/orders/" ++ id ++ codes "/"
path_with id ticket (routes.Move name) = codes "/orders/" ++ id ++ move_end name
path_with id ticket routes.WaitingEntries = codes "/waitinglistentries/"
path_with id ticket routes.WaitingEntry = codes "/waitinglistentries/" ++ id ++ codes "/"
path_with id ticket routes.SendVoucher = codes "/waitinglistentries/" ++ id ++ codes "/send_voucher/"
path_with id ticket routes.Periodic = codes "/periodic/"
path_with id ticket routes.CheckinLists = codes "/checkinlists/"
path_with id ticket routes.CheckinList = codes "/checkinlists/" ++ id ++ codes "/"
path_with id ticket routes.Status = codes "/checkinlists/" ++ id ++ codes "/status/"
path_with id ticket routes.Tickets = codes "/checkinlists/" ++ id ++ codes "/positions/"
path_with id ticket routes.Redeem = codes "/checkinlists/" ++ id ++ (codes "/positions/" ++ ticket ++ codes "/redeem/")

-- how the place of an id or code is written in a row
abbrev pub place_word : Route → List ℕ
place_word routes.Order = codes "{code}"
place_word (routes.Move name) = codes "{code}"
place_word _ = codes "{id}"

-- the text of the table's row of a route
abbrev pub row_text : Route → List ℕ
row_text route = path_with (place_word route) (codes "{pos}") route

-- the text of the route's row is read, and the table has a row of that pattern with this route
pub record IsInTable (route : Route) : Type 0 where
  pub scan : Scan
  pub read : parse_route (row_text route) ≡ Ok scan
  pub held : lookup scan.pattern all_routes ≡ Some (route_from scan route)

-- the text has this byte
abbrev pub has : ℕ → List ℕ → Bool
has byte text = list_any (λ b. b == byte) text

-- a text that can stand between two slashes of a path: some bytes of UTF-8, no slash and no question mark among them
pub record IsSegment (text : List ℕ) : Type 0 where
  pub some : 0 < length text
  pub bytes : IsText text
  pub utf8 : IsUtf8 text
  pub slash : has 47 text ≡ false
  pub mark : has 63 text ≡ false

-- a segment that can stand in the place of an id or code: not the word that has a row of its own
pub record IsName (id : List ℕ) : Type 0 where
  pub segment : IsSegment id
  pub other : id ≢ codes "bulk_create"
