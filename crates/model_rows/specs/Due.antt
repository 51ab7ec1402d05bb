-- The rows whose time has passed at a moment: pending orders that ended before it, and dead cart positions.
use Rattle.std.specs.Prelude.{ℕ, Bool, ◌&&◌, not, nat_lt, List, filter, map}
use Rattle.model_rows.specs.declared.rows.Order.{Order}
use Rattle.model_rows.specs.Conditions.{is_pending, is_live_cart}
use Rattle.model_rows.specs.Lists.{Lists}

-- a pending order that ended before the moment
abbrev pub is_due : ℕ → Order → Bool
is_due at order = is_pending order.status && nat_lt order.expires at

-- the numbers of these orders, in order
abbrev pub due_orders : ℕ → Lists → List ℕ
due_orders at lists = map (λ o. o.id) (filter (is_due at) lists.orders)

-- the ids of the cart positions that are dead at the moment
abbrev pub dead_carts : ℕ → Lists → List ℕ
dead_carts at lists = map (λ c. c.id) (filter (λ c. not (is_live_cart at c)) lists.carts)
