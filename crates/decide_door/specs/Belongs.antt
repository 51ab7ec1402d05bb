-- Which positions belong to a check-in list.
use Rattle.std.specs.Prelude.{ℕ, Bool, ◌&&◌, ◌||◌, List, filter}
use Rattle.base_tables.specs.Tables.{has}
use Rattle.model_rows.specs.declared.rows.Status.{Status}
use Rattle.model_rows.specs.declared.rows.OrderPos.{OrderPos}
use Rattle.model_rows.specs.declared.rows.CheckinList.{CheckinList}
use Rattle.model_rows.specs.Conditions.{is_paid, is_pending}
use Rattle.model_rows.specs.Lists.{Lists, order_at}
use Rattle.model_rows.specs.Usage.{stands_as}

-- the list is for this item: it is for all, or names it
abbrev pub is_for : CheckinList → ℕ → Bool
is_for list item = list.all_products || has item list.limit_products

-- an order of this status counts: a paid one, and a pending one where the list includes such
abbrev pub includes : CheckinList → Status → Bool
includes list status = is_paid status || (is_pending status && list.include_pending)

-- the list is for the position's item, and its order is there and counts
unfoldable pub belongs : CheckinList → Lists → OrderPos → Bool
belongs list lists position = is_for list position.product.item && stands_as (includes list) (order_at position.order lists)

-- the positions that belong to the list, by id
abbrev pub belonging : CheckinList → Lists → List OrderPos
belonging list lists = filter (belongs list lists) lists.positions
