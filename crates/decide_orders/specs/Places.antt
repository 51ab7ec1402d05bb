-- Whether what was put may stay: of an order's vouchers no more is spent than their budgets (34), no quota is over (28), and then the
-- tables have room (16).
use Rattle.std.specs.Prelude.{◌≡◌, ℕ, Bool, false, List, map, Option, None, Result}
use Rattle.std.specs.List.{AllByRecursion}
use Rattle.base_values.specs.Deciding.{◌>>◌, check, refuse_some}
use Rattle.model_catalogue.specs.declared.refusal.CatalogueRefusal.TheVariants.{Full}
use Rattle.model_rows.specs.declared.rows.OrderPos.{OrderPos}
use Rattle.model_rows.specs.declared.rows.Own.{Own}
use Rattle.model_rows.specs.declared.rows.Own.TheVariants.{Position}
use Rattle.model_rows.specs.Lists.{Lists, State}
use Rattle.model_rows.specs.Over.{first_over, ignores}
use Rattle.model_commands.specs.declared.vouchers.VoucherRefusal.TheVariants.{Catalogue, OverBudget, SoldOut}
use Rattle.model_commands.specs.declared.orders.OrderRefusal.{OrderRefusal}
use Rattle.model_commands.specs.declared.orders.OrderRefusal.TheVariants.{Voucher as OfVoucher}

-- the positions, as rows of the request's own
abbrev pub own_positions : List OrderPos → List Own
own_positions rows = map (λ p. Position p.id) rows

-- from the one box office to the other too much is taken of no quota, where own rows don't weigh if their vouchers ignore quotas
abbrev pub NoneIsOver : List Own → State → State → Type 0
NoneIsOver own before after = first_over before.lists after.lists before.moment own ≡ None

-- all vouchers that these positions name heed quotas
abbrev pub AllHeed : Lists → List OrderPos → Type 0
AllHeed lists rows = AllByRecursion (λ p. ignores lists p.voucher ≡ false) rows

-- no quota may be taken too much of, and the tables have to take the rows
abbrev pub places_test : Option ℕ → Bool → Result (Unit {0}) OrderRefusal
places_test over takes = do
  refuse_some (λ quota. OfVoucher (SoldOut quota)) over
  check takes (OfVoucher (Catalogue Full))

-- an order's vouchers have to be within their budgets, and then it needs places
abbrev pub sale_test : Bool → Option ℕ → Bool → Result (Unit {0}) OrderRefusal
sale_test within over takes = do
  check within (OfVoucher OverBudget)
  places_test over takes
