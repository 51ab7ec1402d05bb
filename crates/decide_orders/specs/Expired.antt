-- What is overdue: pending orders that have ended expire, and dead cart positions go.
use Rattle.std.specs.Prelude.{ℕ, List, map, filter, if◌then◌else◌}
use Rattle.model_rows.specs.declared.changes.Change.{Change}
use Rattle.model_rows.specs.declared.changes.Change.TheVariants.{PutOrder, DropCart}
use Rattle.model_rows.specs.declared.rows.Order.{Order}
use Rattle.model_rows.specs.declared.rows.Status.TheVariants.{Expired}
use Rattle.model_rows.specs.Conditions.{is_live_cart}
use Rattle.model_rows.specs.Lists.{Lists, State}
use Rattle.model_rows.specs.Due.{is_due, dead_carts}

-- an order with the status expired, and all else as it was
abbrev pub expired_row : Order → Order
expired_row order = record order { status = Expired }

-- a pending order that ended before the moment is expired
abbrev pub expired_if_due : ℕ → Order → Order
expired_if_due at order = if is_due at order then expired_row order else order

-- the box office with all of them expired
unfoldable pub orders_expired : State → State
orders_expired state = record state { lists = record state.lists { orders = map (expired_if_due state.moment) state.lists.orders } }

-- the changes that lead there
abbrev pub expired_rows : ℕ → Lists → List Order
expired_rows at lists = map expired_row (filter (is_due at) lists.orders)

-- each overdue order is put with the status expired, in their order
abbrev pub expired_changes : State → List Change
expired_changes state = map PutOrder (expired_rows state.moment state.lists)

-- the box office without the cart positions that are dead at its moment
unfoldable pub carts_dropped : State → State
carts_dropped state = record state { lists = record state.lists { carts = filter (is_live_cart state.moment) state.lists.carts } }

-- the cart positions that are dead at its moment, by their ids
abbrev pub dead_now : State → List ℕ
dead_now state = dead_carts state.moment state.lists

-- the changes that lead there
abbrev pub dropped_changes : State → List Change
dropped_changes state = map DropCart (dead_now state)
