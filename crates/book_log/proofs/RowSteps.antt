-- Look-ups after changes: what the last change of the row puts, or what stood before.
use Rattle.std.proofs.Common.{◌≡◌, ℕ, List, Option, Some, None, get_or, if◌then◌else◌, refl}
use Rattle.base_tables.proofs.Edits.{row_at-with_row, row_at-without_row}
use Rattle.model_catalogue.specs.declared.rows.Quota.{Quota}
use Rattle.model_catalogue.specs.CatalogueLists.{quota_at}
use Rattle.model_rows.specs.declared.changes.Change.{Change}
use Rattle.model_rows.specs.declared.changes.Change.TheVariants.{PutQuota, PutVoucher, PutCart, PutOrder, PutPosition, PutWaiting, DropVoucher, DropCart, DropWaiting, PutCheckinList, PutCheckin}
use Rattle.model_rows.specs.Lists.{Lists, voucher_at, cart_at, order_at, position_at, waiting_at, checkin_list_at, checkin_at}
use Rattle.model_rows.specs.Change.{after_change, after_all}
use Rattle.book_log.specs.Places.{touches, last_place}
use Rattle.book_log.specs.Puts.{quota_put, voucher_put, cart_put, order_put, position_put, waiting_put, checkin_list_put, checkin_put}
use Rattle.book_log.proofs.LastPlaces.{as_put, as_before}

abbrev quota_in : ℕ → Lists → Option Quota
quota_in id lists = quota_at id lists.catalogue

quota_step : (id : ℕ) (change : Change) (lists : Lists) → quota_in id (after_change change lists) ≡ (if touches 2 id change then quota_put change else quota_in id lists)
quota_step id (PutQuota row) lists = row_at-with_row (λ r. r.id) id row lists.catalogue.quotas
quota_step id _ lists = refl

pub quota_touched : (id : ℕ) (log : List Change) (lists : Lists) (d : Change) (i : ℕ) → last_place (touches 2 id) log ≡ Some i → quota_in id (after_all log lists) ≡ quota_put (get_or log i d)
quota_touched id = as_put (quota_in id) (touches 2 id) quota_put (quota_step id)

pub quota_kept : (id : ℕ) (log : List Change) (lists : Lists) → last_place (touches 2 id) log ≡ None → quota_in id (after_all log lists) ≡ quota_in id lists
quota_kept id log lists is = as_before (quota_in id) (touches 2 id) quota_put (quota_step id) log lists (DropWaiting 0) is

voucher_step : (id : ℕ) (change : Change) (lists : Lists) → voucher_at id (after_change change lists) ≡ (if touches 3 id change then voucher_put change else voucher_at id lists)
voucher_step id (PutVoucher row) lists = row_at-with_row (λ r. r.id) id row lists.vouchers
voucher_step id (DropVoucher gone) lists = row_at-without_row (λ r. r.id) id gone lists.vouchers
voucher_step id _ lists = refl

pub voucher_touched : (id : ℕ) (log : List Change) (lists : Lists) (d : Change) (i : ℕ) → last_place (touches 3 id) log ≡ Some i → voucher_at id (after_all log lists) ≡ voucher_put (get_or log i d)
voucher_touched id = as_put (voucher_at id) (touches 3 id) voucher_put (voucher_step id)

pub voucher_kept : (id : ℕ) (log : List Change) (lists : Lists) → last_place (touches 3 id) log ≡ None → voucher_at id (after_all log lists) ≡ voucher_at id lists
voucher_kept id log lists is = as_before (voucher_at id) (touches 3 id) voucher_put (voucher_step id) log lists (DropWaiting 0) is

cart_step : (id : ℕ) (change : Change) (lists : Lists) → cart_at id (after_change change lists) ≡ (if touches 4 id change then cart_put change else cart_at id lists)
cart_step id (PutCart row) lists = row_at-with_row (λ r. r.id) id row lists.carts
cart_step id (DropCart gone) lists = row_at-without_row (λ r. r.id) id gone lists.carts
cart_step id _ lists = refl

pub cart_touched : (id : ℕ) (log : List Change) (lists : Lists) (d : Change) (i : ℕ) → last_place (touches 4 id) log ≡ Some i → cart_at id (after_all log lists) ≡ cart_put (get_or log i d)
cart_touched id = as_put (cart_at id) (touches 4 id) cart_put (cart_step id)

pub cart_kept : (id : ℕ) (log : List Change) (lists : Lists) → last_place (touches 4 id) log ≡ None → cart_at id (after_all log lists) ≡ cart_at id lists
cart_kept id log lists is = as_before (cart_at id) (touches 4 id) cart_put (cart_step id) log lists (DropWaiting 0) is

order_step : (id : ℕ) (change : Change) (lists : Lists) → order_at id (after_change change lists) ≡ (if touches 5 id change then order_put change else order_at id lists)
order_step id (PutOrder row) lists = row_at-with_row (λ r. r.id) id row lists.orders
order_step id _ lists = refl

pub order_touched : (id : ℕ) (log : List Change) (lists : Lists) (d : Change) (i : ℕ) → last_place (touches 5 id) log ≡ Some i → order_at id (after_all log lists) ≡ order_put (get_or log i d)
order_touched id = as_put (order_at id) (touches 5 id) order_put (order_step id)

pub order_kept : (id : ℕ) (log : List Change) (lists : Lists) → last_place (touches 5 id) log ≡ None → order_at id (after_all log lists) ≡ order_at id lists
order_kept id log lists is = as_before (order_at id) (touches 5 id) order_put (order_step id) log lists (DropWaiting 0) is

position_step : (id : ℕ) (change : Change) (lists : Lists) → position_at id (after_change change lists) ≡ (if touches 6 id change then position_put change else position_at id lists)
position_step id (PutPosition row) lists = row_at-with_row (λ r. r.id) id row lists.positions
position_step id _ lists = refl

pub position_touched : (id : ℕ) (log : List Change) (lists : Lists) (d : Change) (i : ℕ) → last_place (touches 6 id) log ≡ Some i → position_at id (after_all log lists) ≡ position_put (get_or log i d)
position_touched id = as_put (position_at id) (touches 6 id) position_put (position_step id)

pub position_kept : (id : ℕ) (log : List Change) (lists : Lists) → last_place (touches 6 id) log ≡ None → position_at id (after_all log lists) ≡ position_at id lists
position_kept id log lists is = as_before (position_at id) (touches 6 id) position_put (position_step id) log lists (DropWaiting 0) is

waiting_step : (id : ℕ) (change : Change) (lists : Lists) → waiting_at id (after_change change lists) ≡ (if touches 7 id change then waiting_put change else waiting_at id lists)
waiting_step id (PutWaiting row) lists = row_at-with_row (λ r. r.id) id row lists.waiting
waiting_step id (DropWaiting gone) lists = row_at-without_row (λ r. r.id) id gone lists.waiting
waiting_step id _ lists = refl

pub waiting_touched : (id : ℕ) (log : List Change) (lists : Lists) (d : Change) (i : ℕ) → last_place (touches 7 id) log ≡ Some i → waiting_at id (after_all log lists) ≡ waiting_put (get_or log i d)
waiting_touched id = as_put (waiting_at id) (touches 7 id) waiting_put (waiting_step id)

pub waiting_kept : (id : ℕ) (log : List Change) (lists : Lists) → last_place (touches 7 id) log ≡ None → waiting_at id (after_all log lists) ≡ waiting_at id lists
waiting_kept id log lists is = as_before (waiting_at id) (touches 7 id) waiting_put (waiting_step id) log lists (DropWaiting 0) is

checkin_list_step : (id : ℕ) (change : Change) (lists : Lists) → checkin_list_at id (after_change change lists) ≡ (if touches 8 id change then checkin_list_put change else checkin_list_at id lists)
checkin_list_step id (PutCheckinList row) lists = row_at-with_row (λ r. r.id) id row lists.checkin_lists
checkin_list_step id _ lists = refl

pub checkin_list_touched : (id : ℕ) (log : List Change) (lists : Lists) (d : Change) (i : ℕ) → last_place (touches 8 id) log ≡ Some i → checkin_list_at id (after_all log lists) ≡ checkin_list_put (get_or log i d)
checkin_list_touched id = as_put (checkin_list_at id) (touches 8 id) checkin_list_put (checkin_list_step id)

pub checkin_list_kept : (id : ℕ) (log : List Change) (lists : Lists) → last_place (touches 8 id) log ≡ None → checkin_list_at id (after_all log lists) ≡ checkin_list_at id lists
checkin_list_kept id log lists is = as_before (checkin_list_at id) (touches 8 id) checkin_list_put (checkin_list_step id) log lists (DropWaiting 0) is

checkin_step : (id : ℕ) (change : Change) (lists : Lists) → checkin_at id (after_change change lists) ≡ (if touches 9 id change then checkin_put change else checkin_at id lists)
checkin_step id (PutCheckin row) lists = row_at-with_row (λ r. r.id) id row lists.checkins
checkin_step id _ lists = refl

pub checkin_touched : (id : ℕ) (log : List Change) (lists : Lists) (d : Change) (i : ℕ) → last_place (touches 9 id) log ≡ Some i → checkin_at id (after_all log lists) ≡ checkin_put (get_or log i d)
checkin_touched id = as_put (checkin_at id) (touches 9 id) checkin_put (checkin_step id)

pub checkin_kept : (id : ℕ) (log : List Change) (lists : Lists) → last_place (touches 9 id) log ≡ None → checkin_at id (after_all log lists) ≡ checkin_at id lists
checkin_kept id log lists is = as_before (checkin_at id) (touches 9 id) checkin_put (checkin_step id) log lists (DropWaiting 0) is
