-- Which changes can come: those that keep headroom.
use Rattle.std.proofs.Common.{◌≡◌, ℕ, true}
use Rattle.std.specs.Prelude.{◌||◌, not, None}
use Rattle.base_tables.specs.Tables.{AreInOrder}
use Rattle.model_rows.specs.declared.rows.Voucher.{Voucher}
use Rattle.model_rows.specs.declared.rows.CartPos.{CartPos}
use Rattle.model_rows.specs.declared.rows.Order.{Order}
use Rattle.model_rows.specs.declared.rows.OrderPos.{OrderPos}
use Rattle.model_rows.specs.declared.rows.Waiting.{Waiting}
use Rattle.model_rows.specs.declared.rows.CheckinList.{CheckinList}
use Rattle.model_rows.specs.declared.rows.Checkin.{Checkin}
use Rattle.model_rows.specs.declared.changes.Change.{Change}
use Rattle.model_rows.specs.declared.changes.Change.TheVariants.{PutItem, PutVariation, PutQuota, PutVoucher, PutCart, PutOrder, PutPosition, PutWaiting, DropVoucher, DropCart, DropWaiting, PutCheckinList, PutCheckin}
use Rattle.model_rows.specs.Change.{after_change}
use Rattle.model_rows.specs.Headroom.{HasHeadroom, AllHaveHeadroom, has_use}
use Rattle.model_rows.specs.Lists.{position_at, checkin_at}
use Rattle.model_rows.specs.Conditions.{is_live_cart}
use Rattle.model_rows.proofs.EachRow.{all-with_row, all-without_row}
use Rattle.model_rows.proofs.Headroom.{headroom_put, headroom_drop}
use Rattle.draft_counts.specs.Logs.{Log, rows_of, IsSale}
use Rattle.draft_changes.specs.CanCome.{CanCome}

module _ (at : ℕ) (log : Log) (before : AllHaveHeadroom at (rows_of log)) where
  pub can_put_voucher : (row : Voucher) → HasHeadroom at (rows_of log) row → CanCome at log (PutVoucher row)
  can_put_voucher row room = record { before = before; after = all-with_row (λ r. r.id) (HasHeadroom at (rows_of log)) row (rows_of log).vouchers room before }

  pub can_drop_voucher : (id : ℕ) → CanCome at log (DropVoucher id)
  can_drop_voucher id = record { before = before; after = all-without_row (λ r. r.id) (HasHeadroom at (rows_of log)) id (rows_of log).vouchers before }

  pub can_put_cart : (row : CartPos) → AreInOrder (λ r. r.id) (rows_of log).carts → AreInOrder (λ r. r.id) (rows_of log).vouchers → (not (is_live_cart at row) || has_use at (rows_of log) row.voucher) ≡ true → CanCome at log (PutCart row)
  can_put_cart row carts vouchers test = record { before = before; after = headroom_put at (rows_of log) row carts vouchers test before }

  pub can_drop_cart : (id : ℕ) → AreInOrder (λ r. r.id) (rows_of log).carts → CanCome at log (DropCart id)
  can_drop_cart id carts = record { before = before; after = headroom_drop at (rows_of log) id carts before }

  pub can_put_order : (row : Order) → AllHaveHeadroom at (after_change (PutOrder row) (rows_of log)) → CanCome at log (PutOrder row)
  can_put_order row after = record { before = before; after = after }

  pub can_put_position : (row : OrderPos) → position_at row.id (rows_of log) ≡ None → AllHaveHeadroom at (after_change (PutPosition row) (rows_of log)) → CanCome at log (PutPosition row)
  can_put_position row new after = (new, record { before = before; after = after })

  pub can_put_waiting : (row : Waiting) → CanCome at log (PutWaiting row)
  can_put_waiting row = record { before = before; after = before }

  pub can_drop_waiting : (id : ℕ) → CanCome at log (DropWaiting id)
  can_drop_waiting id = record { before = before; after = before }

  pub can_put_checkin_list : (row : CheckinList) → CanCome at log (PutCheckinList row)
  can_put_checkin_list row = record { before = before; after = before }

  pub can_put_checkin : (row : Checkin) → checkin_at row.id (rows_of log) ≡ None → CanCome at log (PutCheckin row)
  can_put_checkin row new = (new, record { before = before; after = before })

-- whatever can come leaves headroom
pub headroom_after : (at : ℕ) (log : Log) (change : Change) → CanCome at log change → AllHaveHeadroom at (after_change change (rows_of log))
headroom_after at log (PutItem row) can = absurd can
headroom_after at log (PutVariation row) can = absurd can
headroom_after at log (PutQuota row) can = absurd can
headroom_after at log (PutVoucher row) can = can.after
headroom_after at log (DropVoucher id) can = can.after
headroom_after at log (PutCart row) can = can.after
headroom_after at log (DropCart id) can = can.after
headroom_after at log (PutOrder row) can = can.after
headroom_after at log (PutPosition row) can = can.1.after
headroom_after at log (PutWaiting row) can = can.after
headroom_after at log (DropWaiting id) can = can.after
headroom_after at log (PutCheckinList row) can = can.after
headroom_after at log (PutCheckin row) can = can.1.after

-- it is a change of sales
pub can_sell : (at : ℕ) (log : Log) (change : Change) → CanCome at log change → IsSale change (rows_of log)
can_sell at log (PutItem row) can = absurd can
can_sell at log (PutVariation row) can = absurd can
can_sell at log (PutQuota row) can = absurd can
can_sell at log (PutVoucher row) can = tt
can_sell at log (DropVoucher id) can = tt
can_sell at log (PutCart row) can = tt
can_sell at log (DropCart id) can = tt
can_sell at log (PutOrder row) can = tt
can_sell at log (PutPosition row) can = can.0
can_sell at log (PutWaiting row) can = tt
can_sell at log (DropWaiting id) can = tt
can_sell at log (PutCheckinList row) can = tt
can_sell at log (PutCheckin row) can = can.0
