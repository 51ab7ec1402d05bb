-- The row that a change puts, if it puts one of that table.
use Rattle.std.specs.Prelude.{Bool, false, Option, Some, None}
use Rattle.model_catalogue.specs.declared.rows.Quota.{Quota}
use Rattle.model_rows.specs.declared.rows.Voucher.{Voucher}
use Rattle.model_rows.specs.declared.rows.CartPos.{CartPos}
use Rattle.model_rows.specs.declared.rows.Order.{Order}
use Rattle.model_rows.specs.declared.rows.OrderPos.{OrderPos}
use Rattle.model_rows.specs.declared.rows.Waiting.{Waiting}
use Rattle.model_rows.specs.declared.rows.CheckinList.{CheckinList}
use Rattle.model_rows.specs.declared.rows.Checkin.{Checkin}
use Rattle.model_rows.specs.declared.changes.Change.{Change}
use Rattle.model_rows.specs.declared.changes.Change.TheVariants.{PutQuota, PutVoucher, PutCart, PutOrder, PutPosition, PutWaiting, PutCheckinList, PutCheckin}

-- the quota that a change puts
abbrev pub quota_put : Change → Option Quota
quota_put (PutQuota row) = Some row
quota_put _ = None

-- the voucher that a change puts
abbrev pub voucher_put : Change → Option Voucher
voucher_put (PutVoucher row) = Some row
voucher_put _ = None

-- the cart position that a change puts
abbrev pub cart_put : Change → Option CartPos
cart_put (PutCart row) = Some row
cart_put _ = None

-- the waiting entry that a change puts
abbrev pub waiting_put : Change → Option Waiting
waiting_put (PutWaiting row) = Some row
waiting_put _ = None

-- the order that a change puts
abbrev pub order_put : Change → Option Order
order_put (PutOrder row) = Some row
order_put _ = None

-- the order position that a change puts
abbrev pub position_put : Change → Option OrderPos
position_put (PutPosition row) = Some row
position_put _ = None

-- the change puts an order position that passes
abbrev pub puts : (OrderPos → Bool) → Change → Bool
puts passes (PutPosition row) = passes row
puts passes _ = false

-- the check-in list that a change puts
abbrev pub checkin_list_put : Change → Option CheckinList
checkin_list_put (PutCheckinList row) = Some row
checkin_list_put _ = None

-- the check-in that a change puts
abbrev pub checkin_put : Change → Option Checkin
checkin_put (PutCheckin row) = Some row
checkin_put _ = None
