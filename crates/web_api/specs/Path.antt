-- What a path names.
use Rattle.std.specs.Prelude.{ℕ, ◌+◌, ◌==◌, ◌++◌, List, [], length, take, drop, position, Option, Some, None, if◌then◌else◌, codes, bytes_eq, slice_get}
use Rattle.std.specs.Borrow.{Bor}
use Rattle.std.specs.List.{slice_split}
use Rattle.std.specs.Result.{result_ok}
use Rattle.base_values.specs.Codes.{number_of_code}
use Rattle.base_values.specs.Digits.{number_of}
use Rattle.model_commands.specs.declared.requests.Resource.{Resource}
use Rattle.model_commands.specs.declared.requests.Resource.TheVariants as resources
use Rattle.web_api.specs.declared.routes.Route.{Route}
use Rattle.web_api.specs.declared.routes.Route.TheVariants as routes
use Rattle.web_api.specs.declared.path.Target.{Target}
use Rattle.web_api.specs.declared.path.Target.TheVariants as targets
use Rattle.web_api.specs.Routes.{route_of}

-- the bytes of a lent text
abbrev pub bytes_of : Bor (List ℕ) → List ℕ
bytes_of s = s.now

-- the next step, where there is one
infixl 10 ◌>>=◌
-- where one step gives nothing, neither does the whole
abbrev pub ◌>>=◌ : {A B : Type 0} → Option A → (A → Option B) → Option B
(Some x) >>= f = f x
None >>= f = None

-- the text up to a place
abbrev pub up_to : List ℕ → Option ℕ → List ℕ
up_to text None = text
up_to text (Some at) = take at text

-- the text behind a place
abbrev pub behind : List ℕ → Option ℕ → List ℕ
behind text None = []
behind text (Some at) = drop (at + 1) text

-- where the first question mark stands
abbrev pub mark_of : List ℕ → Option ℕ
mark_of target = position (λ b. b == 63) target

-- the path of a target: what stands before the first question mark
abbrev pub path_of : List ℕ → List ℕ
path_of target = up_to target (mark_of target)

-- the query of a target: what stands behind the first question mark
abbrev pub query_of : List ℕ → List ℕ
query_of target = behind target (mark_of target)

-- what follows the front, where the text begins with it
abbrev pub after : List ℕ → List ℕ → Option (List ℕ)
after front text = if bytes_eq (take (length front) text) front then Some (drop (length front) text) else None

-- the part of a path behind the slugs, where they are these
unfoldable pub within : List ℕ → List ℕ → List ℕ → Option (List ℕ)
within organizer event path = do
  a ← after (codes "/api/v1/organizers/") path
  b ← after organizer a
  c ← after (codes "/events/") b
  after event c

-- the nth of the texts between the slashes
abbrev pub segment : ℕ → List ℕ → Option (List ℕ)
segment n path = slice_get (slice_split (λ b. b == 47) path) n

-- the id that a name of a path writes: 1 to 18 digits
abbrev pub id_in : Option (List ℕ) → Option ℕ
id_in name = name >>= number_of

-- a row by its id; an id that isn't one makes the path unknown
abbrev pub one_in : Option (List ℕ) → Resource → Option Target
one_in name resource = id_in name >>= λ id. Some (targets.One resource id)

-- the number of the order with this code, where it is an order's code
abbrev pub order_named : List ℕ → Option ℕ
order_named code = result_ok (number_of_code code)

-- the number of the order whose code is a name of a path
abbrev pub order_in : Option (List ℕ) → Option ℕ
order_in name = name >>= order_named

-- what a path of that route names, by what stands behind its first name, the id or code; with another text in the place
-- of a code it names an order that there isn't
abbrev pub target_by : Option (List ℕ) → Route → Option Target
target_by name routes.Items = Some (targets.All resources.Items)
target_by name routes.Item = one_in name resources.Items
target_by name routes.Variations = id_in name >>= λ id. Some (targets.Variations id)
target_by name routes.Quotas = Some (targets.All resources.Quotas)
target_by name routes.Quota = one_in name resources.Quotas
target_by name routes.Availability = id_in name >>= λ id. Some (targets.Availability id)
target_by name routes.Vouchers = Some (targets.All resources.Vouchers)
target_by name routes.Voucher = one_in name resources.Vouchers
target_by name routes.CartPositions = Some (targets.All resources.Carts)
target_by name routes.CartPosition = one_in name resources.Carts
target_by name routes.BulkCreate = Some targets.Bulk
target_by name routes.Orders = Some (targets.All resources.Orders)
target_by name routes.Order = Some (targets.Order (order_in name))
target_by name (routes.Move move) = Some (targets.Moved (order_in name) move)
target_by name routes.WaitingEntries = Some (targets.All resources.WaitingEntries)
target_by name routes.WaitingEntry = one_in name resources.WaitingEntries
target_by name routes.SendVoucher = id_in name >>= λ id. Some (targets.Sending id)
target_by name routes.Periodic = Some targets.Periodic
target_by name routes.CheckinLists = Some (targets.All resources.CheckinLists)
target_by name routes.CheckinList = one_in name resources.CheckinLists
target_by name routes.Status = id_in name >>= λ id. Some (targets.Status id)
target_by name routes.Tickets = id_in name >>= λ id. Some (targets.All (resources.Tickets id))
target_by name routes.Redeem = id_in name >>= λ id. Some (targets.Redeem id)

-- what a target names, in the shop of those slugs
unfoldable pub target_of : List ℕ → List ℕ → List ℕ → Option Target
target_of organizer event target = do
  path ← within organizer event (path_of target)
  route ← route_of path
  target_by (segment 2 path) route

-- the text behind `positions/`, the fourth name in the path, in the shop of those slugs
unfoldable pub ticket_named : List ℕ → List ℕ → List ℕ → Option (List ℕ)
ticket_named organizer event target = within organizer event (path_of target) >>= segment 4

-- the target of a path in the shop of those slugs
abbrev pub in_shop : List ℕ → List ℕ → List ℕ → List ℕ
in_shop organizer event path = codes "/api/v1/organizers/" ++ organizer ++ codes "/events/" ++ event ++ path
