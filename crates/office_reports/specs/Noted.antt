-- What was sold, counted in one pass over the positions.
use Rattle.std.specs.Prelude.{ℕ, ◌+◌, ◌*◌, ◌≤◌, ◌==◌, List, [], ◌∷◌, Option, Some, None, if◌then◌else◌}
use Rattle.std.specs.List.{AllByRecursion}
use Rattle.base_values.specs.Money.{last_cents}
use Rattle.model_catalogue.specs.declared.rows.Item.{Item}
use Rattle.model_rows.specs.declared.rows.Status.{Status}
use Rattle.model_rows.specs.declared.rows.Status.TheVariants.{Pending, Paid, Expired, Cancelled}
use Rattle.model_rows.specs.declared.rows.Order.{Order}
use Rattle.model_rows.specs.declared.rows.OrderPos.{OrderPos}
use Rattle.model_rows.specs.Lists.{Lists, order_at}
use Rattle.office_reports.specs.declared.sales.Sales.{Sales}
use Rattle.office_reports.specs.declared.sales.ItemSales.{ItemSales}
use Rattle.office_reports.specs.Sold.{nothing}

-- an item, before any position
abbrev pub unsold : Item → ItemSales
unsold item = record { item = item.id; sales = nothing }

-- with one more position, in an order of this status
abbrev pub with_sale : Status → ℕ → Sales → Sales
with_sale Paid price s = record s { paid = s.paid + 1; amount = s.amount + price }
with_sale Pending price s = record s { pending = s.pending + 1 }
with_sale Expired price s = record s { expired = s.expired + 1 }
with_sale Cancelled price s = record s { cancelled = s.cancelled + 1 }

-- with a position of this item, in an order of this status
unfoldable pub sale_noted : Status → ℕ → ℕ → ItemSales → ItemSales
sale_noted status item price s = if item == s.item then record s { sales = with_sale status price s.sales } else s

-- with a position, where its order stands
abbrev pub noted_if : Option Order → OrderPos → ItemSales → ItemSales
noted_if None position s = s
noted_if (Some order) position s = sale_noted order.status position.product.item position.price s

-- with the next position, in its order
abbrev pub noted_next : Lists → OrderPos → ItemSales → ItemSales
noted_next lists position s = noted_if (order_at position.order lists) position s

-- with one position after another
abbrev pub noted_all : Lists → List OrderPos → ItemSales → ItemSales
noted_all lists [] s = s
noted_all lists (p ∷ ps) s = noted_all lists ps (noted_next lists p s)

-- no count is above n, and no more was paid than n times the greatest price
pub record IsFew (n : ℕ) (s : Sales) : Type 0 where
  pub paid : s.paid ≤ n
  pub pending : s.pending ≤ n
  pub expired : s.expired ≤ n
  pub cancelled : s.cancelled ≤ n
  pub amount : s.amount ≤ n * last_cents

-- no count of an item is beyond this
abbrev pub AreFew : ℕ → List ItemSales → Type 0
AreFew n rows = AllByRecursion (λ r. IsFew n r.sales) rows
