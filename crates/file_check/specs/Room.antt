-- A voucher's headroom, named as one thing where it goes over all vouchers.
use Rattle.model_rows.specs.declared.rows.Voucher.{Voucher}
use Rattle.model_rows.specs.Headroom.{HasHeadroom}
use Rattle.model_rows.specs.Lists.{State}

-- its uses in orders, and in carts that are live at the office's moment, are no more than it may have
unfoldable pub HasRoom : State → Voucher → Type 0
HasRoom state voucher = HasHeadroom state.moment state.lists voucher
