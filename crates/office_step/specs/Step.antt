-- What each command does.
use Rattle.std.specs.Prelude.{◌≡◌, ℕ, max, min, List, [], Result, Ok, Err}
use Rattle.base_values.specs.declared.draw.Draw.{Draw}
use Rattle.base_values.specs.Moments.{last_moment}
use Rattle.model_catalogue.specs.declared.rows.Item.{Item}
use Rattle.model_catalogue.specs.declared.rows.ItemRows.{ItemRows}
use Rattle.model_catalogue.specs.declared.rows.PricedVariation.{PricedVariation}
use Rattle.model_catalogue.specs.declared.rows.Quota.{Quota}
use Rattle.model_catalogue.specs.declared.refusal.CatalogueRefusal.{CatalogueRefusal}
use Rattle.model_catalogue.specs.ItemAdded.{item_added}
use Rattle.model_catalogue.specs.ItemChanged.{item_changed}
use Rattle.model_catalogue.specs.VariationAdded.{variation_added}
use Rattle.model_catalogue.specs.QuotaAdded.{quota_added}
use Rattle.model_catalogue.specs.Resized.{quota_resized}
use Rattle.model_rows.specs.declared.rows.CartPos.{CartPos}
use Rattle.model_rows.specs.declared.rows.OrderRows.{OrderRows}
use Rattle.model_rows.specs.declared.rows.Voucher.{Voucher}
use Rattle.model_rows.specs.declared.rows.Waiting.{Waiting}
use Rattle.model_rows.specs.declared.rows.CheckinList.{CheckinList}
use Rattle.model_rows.specs.declared.rows.OrderPos.{OrderPos}
use Rattle.model_rows.specs.declared.changes.Change.TheVariants.{PutItem, PutQuota}
use Rattle.model_rows.specs.Lists.{State}
use Rattle.model_rows.specs.Change.{Changed, change_applied}
use Rattle.model_rows.specs.Numbered.{with_item, with_variation, with_quota}
use Rattle.model_commands.specs.declared.vouchers.Verdict.{Verdict}
use Rattle.model_commands.specs.declared.vouchers.VoucherRefusal.{VoucherRefusal}
pub use Rattle.decide_vouchers.specs.Made.{voucher_made}
pub use Rattle.decide_vouchers.specs.Changed.{voucher_changed}
use Rattle.decide_vouchers.specs.Deleted.{voucher_deleted}
pub use Rattle.decide_vouchers.specs.Imported.{rows_imported}
use Rattle.model_commands.specs.declared.orders.OrderRefusal.{OrderRefusal}
use Rattle.model_commands.specs.declared.carts.Outcome.{Outcome}
use Rattle.decide_orders.specs.Bulk.{many_added}
use Rattle.decide_orders.specs.Carts.{position_added}
use Rattle.decide_orders.specs.Created.{order_created}
use Rattle.decide_orders.specs.Dropped.{position_dropped}
use Rattle.decide_orders.specs.Moves.{order_moved}
use Rattle.model_commands.specs.declared.doors.DoorRefusal.{DoorRefusal}
use Rattle.model_commands.specs.declared.waiting.WaitingRefusal.{WaitingRefusal}
use Rattle.model_commands.specs.declared.waiting.PeriodicCounts.{PeriodicCounts}
use Rattle.decide_waiting.specs.Joined.{entry_joined}
use Rattle.decide_waiting.specs.Changed.{entry_changed}
use Rattle.decide_waiting.specs.Left.{entry_left}
use Rattle.decide_waiting.specs.Sending.{voucher_sent}
use Rattle.decide_door.specs.ListAdded.{list_added}
use Rattle.decide_door.specs.Scanned.{ticket_scanned}
use Rattle.model_commands.specs.declared.requests.Command.{Command}
use Rattle.model_commands.specs.declared.requests.Command.TheVariants as commands
use Rattle.model_commands.specs.declared.requests.Kind.{Kind}
use Rattle.model_commands.specs.declared.requests.Kind.TheVariants as kinds
use Rattle.model_commands.specs.declared.replies.Refusal.{Refusal}
use Rattle.model_commands.specs.declared.replies.Refusal.TheVariants as refusals
use Rattle.model_commands.specs.declared.replies.Reply.{Reply}
use Rattle.model_commands.specs.declared.replies.Reply.TheVariants.{Made, Found, Results, Imported, Gone, Periodic as TheCounts, Admitted, Refused}
use Rattle.model_commands.specs.declared.replies.Shown.TheVariants as rows
use Rattle.office_step.specs.PeriodicWork.{periodic_done}
use Rattle.office_step.specs.ShownRows.{show_item, show_voucher}

-- no row is put, and the next ids stay
abbrev pub no_change : State → Changed
no_change state = record { list = []; next = state.next }

-- where the reply is a refusal, no row is put, and the next ids stay
abbrev pub RefusesWithoutChange : State → Changed × Reply → Type 0
RefusesWithoutChange state answer = (kind : Kind) (refusal : Refusal) → answer.1 ≡ Refused kind refusal → answer.0 ≡ no_change state

-- a new item is stored with its variations, and shown with them; a refusal leaves the office as it was
abbrev pub item_step : State → Result ItemRows CatalogueRefusal → State × Reply
item_step state (Ok made) = (with_item made state, Made (rows.Item made))
item_step state (Err refusal) = (state, Refused kinds.AddItem (refusals.Catalogue refusal))

-- the changed item takes its own place, and is shown with its variations; a refusal leaves the office as it was
abbrev pub item_change_step : State → Result Item CatalogueRefusal → State × Reply
item_change_step state (Ok row) = (change_applied (PutItem row) state, Found (show_item state.lists row))
item_change_step state (Err refusal) = (state, Refused kinds.ChangeItem (refusals.Catalogue refusal))

-- a new variation is stored, and shown with its price; a refusal leaves the office as it was
abbrev pub variation_step : State → Result PricedVariation CatalogueRefusal → State × Reply
variation_step state (Ok made) = (with_variation made.row state, Made (rows.Variation made))
variation_step state (Err refusal) = (state, Refused kinds.AddVariation (refusals.Catalogue refusal))

-- a new quota is stored, and shown; a refusal leaves the office as it was
abbrev pub quota_step : State → Result Quota CatalogueRefusal → State × Reply
quota_step state (Ok row) = (with_quota row state, Made (rows.Quota row))
quota_step state (Err refusal) = (state, Refused kinds.AddQuota (refusals.Catalogue refusal))

-- the quota with its new size takes its own place, and is shown; a refusal leaves the office as it was
abbrev pub resize_step : State → Result Quota CatalogueRefusal → State × Reply
resize_step state (Ok row) = (change_applied (PutQuota row) state, Found (rows.Quota row))
resize_step state (Err refusal) = (state, Refused kinds.ResizeQuota (refusals.Catalogue refusal))

-- a new voucher is shown with its uses in the office that has it; a refusal leaves the office as it was
abbrev pub voucher_step : State → Result (State × Voucher) VoucherRefusal → State × Reply
voucher_step state (Ok (new, row)) = (new, Made (show_voucher new.lists row))
voucher_step state (Err refusal) = (state, Refused kinds.AddVoucher (refusals.Voucher refusal))

-- a changed voucher is shown with its uses in the office that has it; a refusal leaves the office as it was
abbrev pub voucher_change_step : State → Result (State × Voucher) VoucherRefusal → State × Reply
voucher_change_step state (Ok (new, row)) = (new, Found (show_voucher new.lists row))
voucher_change_step state (Err refusal) = (state, Refused kinds.ChangeVoucher (refusals.Voucher refusal))

-- a voucher is gone, and nothing is shown; a refusal leaves the office as it was
abbrev pub voucher_drop_step : State → Result State VoucherRefusal → State × Reply
voucher_drop_step state (Ok new) = (new, Gone)
voucher_drop_step state (Err refusal) = (state, Refused kinds.DropVoucher (refusals.Voucher refusal))

-- an import is never refused as a whole: its reply is what became of each row
abbrev pub import_step : State × List Verdict → State × Reply
import_step imported = (imported.0, Imported imported.1)

-- a new cart position is in the office, and shown; a refusal leaves the office as it was
abbrev pub cart_step : State → Result (State × CartPos) OrderRefusal → State × Reply
cart_step state (Ok (new, row)) = (new, Made (rows.Cart row))
cart_step state (Err refusal) = (state, Refused kinds.AddCart (refusals.Order refusal))

-- a cart position is gone, and nothing is shown; a refusal leaves the office as it was
abbrev pub cart_drop_step : State → Result State OrderRefusal → State × Reply
cart_drop_step state (Ok new) = (new, Gone)
cart_drop_step state (Err refusal) = (state, Refused kinds.DropCart (refusals.Order refusal))

-- what could be added is in the office, and the reply is what became of each entry;
-- a call that is refused as a whole leaves the office as it was
abbrev pub bulk_step : State → Result (State × List Outcome) OrderRefusal → State × Reply
bulk_step state (Ok (new, outcomes)) = (new, Results outcomes)
bulk_step state (Err refusal) = (state, Refused kinds.AddCarts (refusals.Order refusal))

-- a new order is in the office, and shown with its positions; a refusal leaves the office as it was
abbrev pub order_step : State → Result (State × OrderRows) OrderRefusal → State × Reply
order_step state (Ok (new, made)) = (new, Made (rows.Order made))
order_step state (Err refusal) = (state, Refused kinds.AddOrder (refusals.Order refusal))

-- a moved order is in the office, and shown with its positions; a refusal leaves the office as it was
abbrev pub move_step : State → Result (State × OrderRows) OrderRefusal → State × Reply
move_step state (Ok (new, moved)) = (new, Found (rows.Order moved))
move_step state (Err refusal) = (state, Refused kinds.MoveOrder (refusals.Order refusal))

-- a new entry of the waiting list is in the office, and shown; a refusal leaves the office as it was
abbrev pub join_step : State → Result (State × Waiting) WaitingRefusal → State × Reply
join_step state (Ok (new, row)) = (new, Made (rows.Waiting row))
join_step state (Err refusal) = (state, Refused kinds.AddWaiting (refusals.Waiting refusal))

-- an entry with its new priority is in the office, and shown; a refusal leaves the office as it was
abbrev pub priority_step : State → Result (State × Waiting) WaitingRefusal → State × Reply
priority_step state (Ok (new, row)) = (new, Found (rows.Waiting row))
priority_step state (Err refusal) = (state, Refused kinds.ChangeWaiting (refusals.Waiting refusal))

-- an entry of the waiting list is gone, and nothing is shown; a refusal leaves the office as it was
abbrev pub leave_step : State → Result State WaitingRefusal → State × Reply
leave_step state (Ok new) = (new, Gone)
leave_step state (Err refusal) = (state, Refused kinds.DropWaiting (refusals.Waiting refusal))

-- an entry was sent its voucher, and nothing is shown; a refusal leaves the office as it was
abbrev pub send_step : State → Result (State × Waiting) WaitingRefusal → State × Reply
send_step state (Ok (new, row)) = (new, Gone)
send_step state (Err refusal) = (state, Refused kinds.SendVoucher (refusals.Waiting refusal))

-- periodic work is never refused: its reply is how many orders expired, cart positions were deleted, vouchers were sent
abbrev pub periodic_step : State × PeriodicCounts → State × Reply
periodic_step (new, counts) = (new, TheCounts counts)

-- a new check-in list is in the office, and shown; a refusal leaves the office as it was
abbrev pub checkin_list_step : State → Result (State × CheckinList) DoorRefusal → State × Reply
checkin_list_step state (Ok (new, row)) = (new, Made (rows.CheckinList row))
checkin_list_step state (Err refusal) = (state, Refused kinds.AddCheckinList (refusals.Door refusal))

-- a ticket was let in or out, and the reply is its position; a refusal leaves the office as it was
abbrev pub redeem_step : State → Result (State × OrderPos) DoorRefusal → State × Reply
redeem_step state (Ok (new, position)) = (new, Admitted position)
redeem_step state (Err refusal) = (state, Refused kinds.Redeem (refusals.Door refusal))

-- the step of a command, in the office at its moment; a refusal changes nothing
abbrev pub step_now : Command → Draw → State → State × Reply
step_now (commands.AddItem new) draw state = item_step state (item_added new state.next.item state.next.variation state.lists.catalogue)
step_now (commands.ChangeItem id patch) draw state = item_change_step state (item_changed id patch state.lists.catalogue)
step_now (commands.AddVariation item new) draw state = variation_step state (variation_added item new state.next.variation state.lists.catalogue)
step_now (commands.AddQuota new) draw state = quota_step state (quota_added new state.next.quota state.lists.catalogue)
step_now (commands.ResizeQuota id patch) draw state = resize_step state (quota_resized id patch state.lists.catalogue)
step_now (commands.AddVoucher new) draw state = voucher_step state (voucher_made new draw state)
step_now (commands.ChangeVoucher id patch) draw state = voucher_change_step state (voucher_changed id patch state)
step_now (commands.DropVoucher id) draw state = voucher_drop_step state (voucher_deleted id state)
step_now (commands.ImportVouchers vouchers) draw state = import_step (rows_imported vouchers draw state)
step_now (commands.AddCart new) draw state = cart_step state (position_added new draw state)
step_now (commands.AddCarts entries) draw state = bulk_step state (many_added entries draw state)
step_now (commands.DropCart id) draw state = cart_drop_step state (position_dropped id state)
step_now (commands.AddOrder new) draw state = order_step state (order_created new draw state)
step_now (commands.MoveOrder number change) draw state = move_step state (order_moved number change state)
step_now (commands.AddWaiting new) draw state = join_step state (entry_joined new state)
step_now (commands.ChangeWaiting id patch) draw state = priority_step state (entry_changed id patch state)
step_now (commands.DropWaiting id) draw state = leave_step state (entry_left id state)
step_now (commands.SendVoucher id) draw state = send_step state (voucher_sent id draw state)
step_now commands.Periodic draw state = periodic_step (periodic_done draw state)
step_now (commands.AddCheckinList new) draw state = checkin_list_step state (list_added new state)
step_now (commands.Redeem list ticket scan) draw state = redeem_step state (ticket_scanned list ticket scan state)

-- the step of a command at a moment, with a draw: the office after it, and its reply; the moment is stored in any case
abbrev pub step : Command → ℕ → Draw → State → State × Reply
step command at draw state = step_now command draw (record state { moment = at })

-- a command's moment is the clock's, but never before the office's; a clock beyond the last moment counts as that one
abbrev pub moment_at : ℕ → State → ℕ
moment_at clock state = max state.moment (min clock last_moment)
