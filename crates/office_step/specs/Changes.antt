-- The changes of each command, in the order in which they are made.
use Rattle.std.specs.Prelude.{List, [], ◌∷◌, Result, Ok, Err}
use Rattle.base_values.specs.declared.draw.Draw.{Draw}
use Rattle.model_rows.specs.declared.changes.Change.{Change}
use Rattle.model_rows.specs.declared.changes.Change.TheVariants.{PutItem, PutVariation, PutQuota, PutVoucher, PutCart, PutOrder, PutWaiting, PutCheckinList, DropVoucher as VoucherGoes, DropCart as CartGoes, DropWaiting as EntryGoes}
use Rattle.model_rows.specs.declared.rows.Waiting.{Waiting}
use Rattle.model_rows.specs.Lists.{State}
use Rattle.model_rows.specs.Numbered.{puts_of}
use Rattle.decide_vouchers.specs.Imported.{import_changes}
use Rattle.decide_orders.specs.Bulk.{bulk_changes}
use Rattle.decide_orders.specs.Created.{order_changes}
use Rattle.model_commands.specs.declared.waiting.WaitingRefusal.{WaitingRefusal}
use Rattle.decide_waiting.specs.Sending.{sent_changes, voucher_sent}
use Rattle.decide_door.specs.Scanned.{scan_puts}
use Rattle.model_commands.specs.declared.requests.Command.{Command}
use Rattle.model_commands.specs.declared.requests.Command.TheVariants.{AddItem, ChangeItem, AddVariation, AddQuota, ResizeQuota, AddVoucher, ChangeVoucher, DropVoucher, ImportVouchers, AddCart, AddCarts, DropCart, AddOrder, MoveOrder, AddWaiting, ChangeWaiting, DropWaiting, SendVoucher, Periodic, AddCheckinList, Redeem}
use Rattle.model_commands.specs.declared.replies.Reply.{Reply}
use Rattle.model_commands.specs.declared.replies.Reply.TheVariants.{Made, Found, Results, Imported, Gone, Periodic as TheCounts, Admitted, Refused}
use Rattle.model_commands.specs.declared.replies.Shown.TheVariants as rows
use Rattle.office_step.specs.PeriodicWork.{periodic_changes}

-- a sending puts its voucher and then the entry that has it
abbrev pub sending_changes : Draw → State → Result (State × Waiting) WaitingRefusal → List Change
sending_changes draw state (Ok (after, row)) = sent_changes draw state row
sending_changes draw state (Err refusal) = []

-- What a command changes, told by the command and its draw, the office at its moment and what it is answered: one line for each
-- command, and none where it is refused. A row comes after those that it names: an item and then its variations; an order
-- and then its positions, behind the cart positions that it consumes, which go; of a bulk call each row that was added, in turn,
-- and so of an import; a voucher that is sent, and then the entry that has it; of a scan its check-in, if it is a new one.
abbrev pub changes_of : Command → Draw → State → Reply → List Change
changes_of command draw state (Refused kind refusal) = []
changes_of (AddItem new) draw state (Made (rows.Item made)) = puts_of made
changes_of (ChangeItem id patch) draw state (Found (rows.Item shown)) = PutItem shown.item ∷ []
changes_of (AddVariation item new) draw state (Made (rows.Variation made)) = PutVariation made.row ∷ []
changes_of (AddQuota new) draw state (Made (rows.Quota row)) = PutQuota row ∷ []
changes_of (ResizeQuota id patch) draw state (Found (rows.Quota row)) = PutQuota row ∷ []
changes_of (AddVoucher new) draw state (Made (rows.Voucher row redeemed)) = PutVoucher row ∷ []
changes_of (ChangeVoucher id patch) draw state (Found (rows.Voucher row redeemed)) = PutVoucher row ∷ []
changes_of (DropVoucher id) draw state Gone = VoucherGoes id ∷ []
changes_of (ImportVouchers vouchers) draw state (Imported verdicts) = import_changes verdicts
changes_of (AddCart new) draw state (Made (rows.Cart row)) = PutCart row ∷ []
changes_of (AddCarts entries) draw state (Results outcomes) = bulk_changes outcomes
changes_of (DropCart id) draw state Gone = CartGoes id ∷ []
changes_of (AddOrder new) draw state (Made (rows.Order made)) = order_changes new.consume_carts made.order made.positions state.lists
changes_of (MoveOrder number change) draw state (Found (rows.Order moved)) = PutOrder moved.order ∷ []
changes_of (AddWaiting new) draw state (Made (rows.Waiting row)) = PutWaiting row ∷ []
changes_of (ChangeWaiting id patch) draw state (Found (rows.Waiting row)) = PutWaiting row ∷ []
changes_of (DropWaiting id) draw state Gone = EntryGoes id ∷ []
changes_of (SendVoucher id) draw state Gone = sending_changes draw state (voucher_sent id draw state)
changes_of Periodic draw state (TheCounts counts) = periodic_changes draw state
changes_of (AddCheckinList new) draw state (Made (rows.CheckinList row)) = PutCheckinList row ∷ []
changes_of (Redeem list ticket scan) draw state (Admitted position) = scan_puts list ticket scan state
changes_of command draw state reply = []
