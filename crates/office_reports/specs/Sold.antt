-- What was sold of each item.
use Rattle.std.specs.Prelude.{ℕ, ◌==◌, ◌&&◌, Bool, true, false, List, map, count_by, sum_by, Option, Some, None, if◌then◌else◌}
use Rattle.model_catalogue.specs.declared.rows.Item.{Item}
use Rattle.model_rows.specs.declared.rows.Status.{Status}
use Rattle.model_rows.specs.declared.rows.Status.TheVariants.{Pending, Paid, Expired, Cancelled}
use Rattle.model_rows.specs.declared.rows.Order.{Order}
use Rattle.model_rows.specs.declared.rows.OrderPos.{OrderPos}
use Rattle.model_rows.specs.Conditions.{is_paid, is_pending}
use Rattle.model_rows.specs.Lists.{Lists, order_at}
use Rattle.office_reports.specs.declared.sales.Sales.{Sales}
use Rattle.office_reports.specs.declared.sales.ItemSales.{ItemSales}

-- of the four statuses, this one alone
abbrev pub is_expired : Status → Bool
is_expired Pending = false
is_expired Paid = false
is_expired Expired = true
is_expired Cancelled = false

-- of the four statuses, this one alone
abbrev pub is_cancelled : Status → Bool
is_cancelled Pending = false
is_cancelled Paid = false
is_cancelled Expired = false
is_cancelled Cancelled = true

-- there is an order, and its status passes
abbrev pub status_passes : (Status → Bool) → Option Order → Bool
status_passes test None = false
status_passes test (Some order) = test order.status

-- the position is of this item, and its order's status passes
abbrev pub is_sold : ℕ → (Status → Bool) → Lists → OrderPos → Bool
is_sold item test lists position = position.product.item == item && status_passes test (order_at position.order lists)

-- how many of these positions are of the item, in orders of such a status
abbrev pub positions_sold : ℕ → (Status → Bool) → Lists → List OrderPos → ℕ
positions_sold item test lists positions = count_by (is_sold item test lists) positions

-- what those in paid orders cost
abbrev pub cents_earned : ℕ → Lists → List OrderPos → ℕ
cents_earned item lists positions = sum_by (λ p. if is_sold item is_paid lists p then p.price else 0) positions

-- an item's positions by the status of their orders, and what was paid for it
unfoldable pub sales_of : Lists → Item → Sales
sales_of lists item = record {
  paid = positions_sold item.id is_paid lists lists.positions;
  pending = positions_sold item.id is_pending lists lists.positions;
  expired = positions_sold item.id is_expired lists lists.positions;
  cancelled = positions_sold item.id is_cancelled lists lists.positions;
  amount = cents_earned item.id lists lists.positions;
}

-- an item's number, beside what was sold of it
abbrev pub item_sales : Lists → Item → ItemSales
item_sales lists item = record { item = item.id; sales = sales_of lists item }

-- each item, by id
abbrev pub all_sales : Lists → List ItemSales
all_sales lists = map (item_sales lists) lists.catalogue.items

-- no position is counted yet
abbrev pub nothing : Sales
nothing = record { paid = 0; pending = 0; expired = 0; cancelled = 0; amount = 0 }
