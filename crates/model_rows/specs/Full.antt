-- When a table takes one more row.
use Rattle.std.specs.Prelude.{ℕ, Bool, ◌&&◌, length, nat_lt, nat_le}
use Rattle.base_values.specs.Codes.{last_order}
use Rattle.model_catalogue.specs.Limits.{takes_row, takes_rows}
use Rattle.model_rows.specs.Lists.{State}

-- fewer stand than a table may have, and there is an id for one more
abbrev pub takes_cart : State → Bool
takes_cart state = takes_row state.next.cart state.lists.carts

-- the table of vouchers takes one more, and there is an id for it
abbrev pub takes_voucher : State → Bool
takes_voucher state = takes_row state.next.voucher state.lists.vouchers

-- each order has a code, and there are no more codes than this
abbrev pub takes_order : State → Bool
takes_order state = nat_lt (length state.lists.orders) last_order && nat_le state.next.order last_order

-- the table takes as many order positions more, whose ids count on
abbrev pub takes_positions : ℕ → State → Bool
takes_positions count state = takes_rows count state.next.position state.lists.positions

-- the waiting list takes one more entry, and there is an id for it
abbrev pub takes_waiting : State → Bool
takes_waiting state = takes_row state.next.waiting state.lists.waiting

-- the table of check-in lists takes one more, and there is an id for it
abbrev pub takes_checkin_list : State → Bool
takes_checkin_list state = takes_row state.next.list state.lists.checkin_lists

-- the table of check-ins takes one more, and there is an id for it
abbrev pub takes_checkin : State → Bool
takes_checkin state = takes_row state.next.checkin state.lists.checkins
