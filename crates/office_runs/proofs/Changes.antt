-- The changes of each step can be made one after another, and lead to the rows that it leaves.
use Rattle.std.proofs.Common.{◌≡◌, ℕ, List, [], ◌∷◌, ◌++◌, Result, Ok, Err, refl, sym, ap, subst, arith}
use Rattle.std.specs.List.{AllByRecursion}
use Rattle.base_values.specs.Draws.{IsDraw}
use Rattle.base_values.specs.declared.draw.Draw.{Draw}
use Rattle.model_catalogue.specs.declared.rows.Item.{Item}
use Rattle.model_catalogue.specs.declared.rows.ItemRows.{ItemRows}
use Rattle.model_catalogue.specs.declared.rows.PricedVariation.{PricedVariation}
use Rattle.model_catalogue.specs.declared.rows.Quota.{Quota}
use Rattle.model_catalogue.specs.declared.refusal.CatalogueRefusal.{CatalogueRefusal}
use Rattle.model_catalogue.specs.declared.requests.ItemPatch.{ItemPatch}
use Rattle.model_catalogue.specs.declared.requests.NewItem.{NewItem}
use Rattle.model_catalogue.specs.declared.requests.NewQuota.{NewQuota}
use Rattle.model_catalogue.specs.declared.requests.NewVariation.{NewVariation}
use Rattle.model_catalogue.specs.declared.requests.QuotaPatch.{QuotaPatch}
use Rattle.model_catalogue.specs.FitRequests.{IsFitVariation, IsFitQuota, IsFitQuotaPatch}
use Rattle.model_catalogue.specs.ItemAdded.{item_rows, item_added}
use Rattle.model_catalogue.specs.ItemChanged.{item_changed}
use Rattle.model_catalogue.specs.VariationAdded.{variation_added}
use Rattle.model_catalogue.specs.QuotaAdded.{quota_added}
use Rattle.model_catalogue.specs.Resized.{quota_resized}
use Rattle.model_catalogue.proofs.Added.{item_added_is}
use Rattle.model_rows.specs.declared.rows.CartPos.{CartPos}
use Rattle.model_rows.specs.declared.rows.CheckinList.{CheckinList}
use Rattle.model_rows.specs.declared.rows.OrderPos.{OrderPos}
use Rattle.model_rows.specs.declared.rows.OrderRows.{OrderRows}
use Rattle.model_rows.specs.declared.rows.Voucher.{Voucher}
use Rattle.model_rows.specs.declared.rows.Waiting.{Waiting}
use Rattle.model_rows.specs.declared.changes.Change.TheVariants.{PutVariation, PutQuota, PutVoucher, PutOrder, PutWaiting, DropVoucher as VoucherGoes, DropCart as CartGoes, DropWaiting as EntryGoes}
use Rattle.model_rows.specs.Change.{change_applied, after_all}
use Rattle.model_rows.specs.Lists.{Lists, State}
use Rattle.model_rows.specs.Numbered.{puts_of, with_variation, with_quota}
use Rattle.model_invariant.specs.Changes.{LeadTo}
use Rattle.model_invariant.specs.Sound.{IsSound}
use Rattle.model_invariant.proofs.Changes.{leads_one, leads_nowhere, leads_joined, item_leads}
use Rattle.model_invariant.proofs.Varied.{made_of_it}
use Rattle.decide_vouchers.specs.Made.{voucher_made}
use Rattle.decide_vouchers.specs.Changed.{voucher_changed}
use Rattle.decide_vouchers.specs.Deleted.{voucher_deleted}
use Rattle.decide_vouchers.proofs.Made.{made_is, made_sound}
use Rattle.decide_vouchers.proofs.Changed.{changed_is, changed_sound}
use Rattle.decide_vouchers.proofs.Deleted.{deleted_is, deleted_sound}
use Rattle.decide_vouchers.proofs.Imports.{rows_lead}
use Rattle.decide_orders.specs.Bulk.{bulk_changes, many_added}
use Rattle.decide_orders.specs.Carts.{position_added}
use Rattle.decide_orders.specs.Created.{order_created}
use Rattle.decide_orders.specs.Dropped.{position_dropped}
use Rattle.decide_orders.specs.Moves.{order_moved}
use Rattle.decide_orders.proofs.BulkChanges.{added_leads, entries_lead}
use Rattle.decide_orders.proofs.BulkSound.{many_is}
use Rattle.decide_orders.proofs.CreatedChanges.{created_leads}
use Rattle.decide_orders.proofs.Dropped.{dropped_is, dropped_sound}
use Rattle.decide_orders.proofs.Moved.{moved_is, moved_sound}
use Rattle.decide_orders.specs.Expired.{expired_changes, orders_expired, dropped_changes}
use Rattle.decide_orders.proofs.Expires.{expired_leads, dropped_carts_lead}
use Rattle.decide_orders.proofs.Expires.{expired_sound, dropped_carts_sound}
use Rattle.decide_waiting.specs.Joined.{entry_joined}
use Rattle.decide_waiting.specs.Changed.{entry_changed}
use Rattle.decide_waiting.specs.Left.{entry_left}
use Rattle.decide_waiting.specs.Sending.{voucher_sent}
use Rattle.decide_waiting.specs.Serving.{all_served, served_changes}
use Rattle.decide_waiting.proofs.Joins.{joined_is}
use Rattle.decide_waiting.proofs.Leaves.{changed_is as entry_is, left_is}
use Rattle.decide_waiting.proofs.SentSound.{sent_leads, served_leads}
use Rattle.decide_door.specs.ListAdded.{list_added}
use Rattle.decide_door.specs.Scanned.{ticket_scanned}
use Rattle.decide_door.proofs.Added.{added_leads as list_added_leads}
use Rattle.decide_door.proofs.Admitted.{admitted_leads}
use Rattle.model_commands.specs.Fit.{IsFit}
use Rattle.model_commands.specs.FitRequests.{IsFitVoucher, IsFitVoucherPatch, IsFitCart, IsFitEntry, IsFitOrder, IsFitMove, IsFitCheckinList, IsFitScan}
use Rattle.model_commands.specs.declared.carts.Entry.{Entry}
use Rattle.model_commands.specs.declared.carts.NewCart.{NewCart}
use Rattle.model_commands.specs.declared.carts.Outcome.{Outcome}
use Rattle.model_commands.specs.declared.orders.Move.{Move}
use Rattle.model_commands.specs.declared.orders.NewOrder.{NewOrder}
use Rattle.model_commands.specs.declared.orders.OrderRefusal.{OrderRefusal}
use Rattle.model_commands.specs.declared.doors.DoorRefusal.{DoorRefusal}
use Rattle.model_commands.specs.declared.doors.NewCheckinList.{NewCheckinList}
use Rattle.model_commands.specs.declared.doors.Scan.{Scan}
use Rattle.model_commands.specs.declared.doors.Ticket.{Ticket}
use Rattle.model_commands.specs.declared.replies.Reply.{Reply}
use Rattle.model_commands.specs.declared.requests.Command.{Command}
use Rattle.model_commands.specs.declared.requests.Command.TheVariants.{AddItem, ChangeItem, AddVariation, AddQuota, ResizeQuota, AddVoucher, ChangeVoucher, DropVoucher, ImportVouchers, AddCart, AddCarts, DropCart, AddOrder, MoveOrder, AddWaiting, ChangeWaiting, DropWaiting, SendVoucher, Periodic, AddCheckinList, Redeem}
use Rattle.model_commands.specs.declared.vouchers.NewVoucher.{NewVoucher}
use Rattle.model_commands.specs.declared.vouchers.VoucherPatch.{VoucherPatch}
use Rattle.model_commands.specs.declared.vouchers.VoucherRefusal.{VoucherRefusal}
use Rattle.model_commands.specs.declared.waiting.NewWaiting.{NewWaiting}
use Rattle.model_commands.specs.declared.waiting.WaitingPatch.{WaitingPatch}
use Rattle.model_commands.specs.declared.waiting.WaitingRefusal.{WaitingRefusal}
use Rattle.office_step.specs.Changes.{sending_changes, changes_of}
use Rattle.office_runs.specs.Changes.{MakesItsChanges}
use Rattle.office_step.specs.PeriodicWork.{pending_ended, periodic_changes}
use Rattle.office_runs.specs.Runs.{Arrival, IsFitArrival, office_stepped, trace}
use Rattle.office_step.specs.ShownRows.{show_voucher}
use Rattle.office_step.specs.Step.{item_step, item_change_step, variation_step, quota_step, resize_step, voucher_step, voucher_change_step, voucher_drop_step, cart_step, cart_drop_step, bulk_step, order_step, move_step, join_step, priority_step, leave_step, send_step, checkin_list_step, redeem_step, step_now, moment_at}
use Rattle.office_step.proofs.Catalogue.{variation_sound, quota_sound, resize_sound}
use Rattle.office_step.proofs.SoundSteps.{step_sound}
use Rattle.office_runs.proofs.Runs.{sound_at, sound_after}

-- what a step led to is where its changes lead
abbrev Leads : Command → Draw → State → State × Reply → Type 0
Leads command draw state made = LeadTo (changes_of command draw state made.1) state.lists made.0.lists

abbrev lists_of : State → Lists
lists_of s = s.lists

module _ (draw : Draw) (state : State) (sixteen : IsDraw draw) (sound : IsSound state) where
  item_leads_on : (new : NewItem) (r : Result ItemRows CatalogueRefusal) → item_added new state.next.item state.next.variation state.lists.catalogue ≡ r → Leads (AddItem new) draw state (item_step state r)
  item_leads_on new (Err refusal) h = leads_nowhere state.lists
  item_leads_on new (Ok made) h =
      let a = item_added_is new state.next.item state.next.variation state.lists.catalogue made h in
      subst (λ (rows : ItemRows). LeadTo (puts_of rows) state.lists (after_all (puts_of rows) state.lists)) a.is_rows (item_leads (item_rows new state.next.item state.next.variation) state.lists (made_of_it new.variations state.next.item state.next.variation))

  item_change_leads : (id : ℕ) (patch : ItemPatch) (r : Result Item CatalogueRefusal) → Leads (ChangeItem id patch) draw state (item_change_step state r)
  item_change_leads id patch (Err refusal) = leads_nowhere state.lists
  item_change_leads id patch (Ok row) = record { can = (tt, tt); is = refl }

  variation_leads : (item : ℕ) (new : NewVariation) → IsFitVariation new → (r : Result PricedVariation CatalogueRefusal) → variation_added item new state.next.variation state.lists.catalogue ≡ r → Leads (AddVariation item new) draw state (variation_step state r)
  variation_leads item new fit (Err refusal) h = leads_nowhere state.lists
  variation_leads item new fit (Ok made) h = leads_one (PutVariation made.row) state (with_variation made.row state) refl (variation_sound item new state made h fit sound)

  quota_leads : (new : NewQuota) → IsFitQuota new → (r : Result Quota CatalogueRefusal) → quota_added new state.next.quota state.lists.catalogue ≡ r → Leads (AddQuota new) draw state (quota_step state r)
  quota_leads new fit (Err refusal) h = leads_nowhere state.lists
  quota_leads new fit (Ok row) h = leads_one (PutQuota row) state (with_quota row state) refl (quota_sound new state row h fit sound)

  resize_leads : (id : ℕ) (patch : QuotaPatch) → IsFitQuotaPatch patch → (r : Result Quota CatalogueRefusal) → quota_resized id patch state.lists.catalogue ≡ r → Leads (ResizeQuota id patch) draw state (resize_step state r)
  resize_leads id patch fit (Err refusal) h = leads_nowhere state.lists
  resize_leads id patch fit (Ok row) h = leads_one (PutQuota row) state (change_applied (PutQuota row) state) refl (resize_sound id patch state row h fit sound)

  voucher_leads : (new : NewVoucher) → IsFitVoucher new → (r : Result (State × Voucher) VoucherRefusal) → voucher_made new draw state ≡ r → Leads (AddVoucher new) draw state (voucher_step state r)
  unfolding show_voucher
  voucher_leads new fit (Err refusal) h = leads_nowhere state.lists
  voucher_leads new fit (Ok (after, row)) h = leads_one (PutVoucher row) state after (ap lists_of (made_is new draw state after row h).is_after) (made_sound new draw state after row fit sixteen sound h)

  voucher_change_leads : (id : ℕ) (patch : VoucherPatch) → IsFitVoucherPatch patch → (r : Result (State × Voucher) VoucherRefusal) → voucher_changed id patch state ≡ r → Leads (ChangeVoucher id patch) draw state (voucher_change_step state r)
  unfolding show_voucher
  voucher_change_leads id patch fit (Err refusal) h = leads_nowhere state.lists
  voucher_change_leads id patch fit (Ok (after, row)) h = leads_one (PutVoucher row) state after (ap lists_of (changed_is id patch state after row h).is_after) (changed_sound id patch state after row fit sound h)

  voucher_drop_leads : (id : ℕ) (r : Result State VoucherRefusal) → voucher_deleted id state ≡ r → Leads (DropVoucher id) draw state (voucher_drop_step state r)
  voucher_drop_leads id (Err refusal) h = leads_nowhere state.lists
  voucher_drop_leads id (Ok after) h = leads_one (VoucherGoes id) state after (ap lists_of (deleted_is id state after h).is_after) (deleted_sound id state after sound h)

  cart_leads : (new : NewCart) → IsFitCart new → (r : Result (State × CartPos) OrderRefusal) → position_added new draw state ≡ r → Leads (AddCart new) draw state (cart_step state r)
  cart_leads new fit (Err refusal) h = leads_nowhere state.lists
  cart_leads new fit (Ok (after, row)) h = added_leads new draw state after row fit sixteen sound h

  bulk_leads : (entries : List Entry) → AllByRecursion IsFitEntry entries → (r : Result (State × List Outcome) OrderRefusal) → many_added entries draw state ≡ r → Leads (AddCarts entries) draw state (bulk_step state r)
  bulk_leads entries fit (Err refusal) h = leads_nowhere state.lists
  bulk_leads entries fit (Ok (after, outcomes)) h = subst (λ (made : State × List Outcome). LeadTo (bulk_changes made.1) state.lists made.0.lists) (many_is entries draw state (after, outcomes) h) (entries_lead entries draw state fit sixteen sound)

  cart_drop_leads : (id : ℕ) (r : Result State OrderRefusal) → position_dropped id state ≡ r → Leads (DropCart id) draw state (cart_drop_step state r)
  cart_drop_leads id (Err refusal) h = leads_nowhere state.lists
  cart_drop_leads id (Ok after) h = leads_one (CartGoes id) state after (ap lists_of (dropped_is id state after h)) (dropped_sound id state after sound h)

  order_leads : (new : NewOrder) → IsFitOrder new → (r : Result (State × OrderRows) OrderRefusal) → order_created new draw state ≡ r → Leads (AddOrder new) draw state (order_step state r)
  order_leads new fit (Err refusal) h = leads_nowhere state.lists
  order_leads new fit (Ok (after, made)) h = created_leads new draw state after made fit sixteen sound h

  move_leads : (number : ℕ) (change : Move) → IsFitMove change → (r : Result (State × OrderRows) OrderRefusal) → order_moved number change state ≡ r → Leads (MoveOrder number change) draw state (move_step state r)
  move_leads number change fit (Err refusal) h = leads_nowhere state.lists
  move_leads number change fit (Ok (after, moved)) h = leads_one (PutOrder moved.order) state after (ap lists_of (moved_is number change state after moved h).is_after) (moved_sound number change state after moved fit sound h)

-- of a sound office that the step led to
module _ (draw : Draw) (state : State) where
  join_leads : (new : NewWaiting) (r : Result (State × Waiting) WaitingRefusal) → entry_joined new state ≡ r → IsSound (join_step state r).0 → Leads (AddWaiting new) draw state (join_step state r)
  join_leads new (Err refusal) h made = leads_nowhere state.lists
  join_leads new (Ok (after, row)) h made = leads_one (PutWaiting row) state after (ap lists_of (joined_is new state after row h).is_after) made

  priority_leads : (id : ℕ) (patch : WaitingPatch) (r : Result (State × Waiting) WaitingRefusal) → entry_changed id patch state ≡ r → IsSound (priority_step state r).0 → Leads (ChangeWaiting id patch) draw state (priority_step state r)
  priority_leads id patch (Err refusal) h made = leads_nowhere state.lists
  priority_leads id patch (Ok (after, row)) h made = leads_one (PutWaiting row) state after (ap lists_of (entry_is id patch state after row h).is_after) made

  leave_leads : (id : ℕ) (r : Result State WaitingRefusal) → entry_left id state ≡ r → IsSound (leave_step state r).0 → Leads (DropWaiting id) draw state (leave_step state r)
  leave_leads id (Err refusal) h made = leads_nowhere state.lists
  leave_leads id (Ok after) h made = leads_one (EntryGoes id) state after (ap lists_of (left_is id state after h).is_after) made

  send_leads : (id : ℕ) → IsDraw draw → IsSound state → (r : Result (State × Waiting) WaitingRefusal) → voucher_sent id draw state ≡ r → Leads (SendVoucher id) draw state (send_step state r)
  send_leads id sixteen sound (Err refusal) h = leads_nowhere state.lists
  send_leads id sixteen sound (Ok (after, row)) h = subst (λ (made : Result (State × Waiting) WaitingRefusal). LeadTo (sending_changes draw state made) state.lists after.lists) (sym h) (sent_leads draw sixteen id state after row sound h)

  -- orders expire, cart positions go, and then all are served
  work_leads : IsDraw draw → IsSound state → LeadTo (periodic_changes draw state) state.lists (all_served draw (pending_ended state)).0.lists
  work_leads sixteen sound =
      let expired = orders_expired state in
      let left = expired_sound state sound in
      let overdue = leads_joined (expired_changes state) (dropped_changes expired) state.lists expired.lists (pending_ended state).lists (expired_leads state sound.ids.orders.in_order) (dropped_carts_lead expired left.ids.carts.in_order) in
      leads_joined (expired_changes state ++ dropped_changes expired) (served_changes draw (pending_ended state)) state.lists (pending_ended state).lists (all_served draw (pending_ended state)).0.lists overdue (served_leads draw sixteen (pending_ended state) (dropped_carts_sound expired left))

  list_leads : (new : NewCheckinList) → IsFitCheckinList new → IsSound state → (r : Result (State × CheckinList) DoorRefusal) → list_added new state ≡ r → Leads (AddCheckinList new) draw state (checkin_list_step state r)
  list_leads new fit sound (Err refusal) h = leads_nowhere state.lists
  list_leads new fit sound (Ok (after, row)) h = list_added_leads new state after row fit sound h

  redeem_leads : (list : ℕ) (ticket : Ticket) (scan : Scan) → IsFitScan scan → IsSound state → (r : Result (State × OrderPos) DoorRefusal) → ticket_scanned list ticket scan state ≡ r → Leads (Redeem list ticket scan) draw state (redeem_step state r)
  redeem_leads list ticket scan fit sound (Err refusal) h = leads_nowhere state.lists
  redeem_leads list ticket scan fit sound (Ok (after, position)) h = admitted_leads list ticket scan state after position fit sound h

-- each step leads from sound to sound
now_sound : (command : Command) (draw : Draw) (state : State) → IsFit command → IsDraw draw → IsSound state → IsSound (step_now command draw state).0
now_sound command draw state fit sixteen sound = step_sound command state.moment draw state fit sixteen (omega arith) sound.range.moment sound

step_leads : (command : Command) (draw : Draw) (state : State) → IsFit command → IsDraw draw → IsSound state → Leads command draw state (step_now command draw state)
step_leads (AddItem new) draw state fit sixteen sound = item_leads_on draw state sixteen sound new (item_added new state.next.item state.next.variation state.lists.catalogue) refl
step_leads (ChangeItem id patch) draw state fit sixteen sound = item_change_leads draw state sixteen sound id patch (item_changed id patch state.lists.catalogue)
step_leads (AddVariation item new) draw state fit sixteen sound = variation_leads draw state sixteen sound item new fit (variation_added item new state.next.variation state.lists.catalogue) refl
step_leads (AddQuota new) draw state fit sixteen sound = quota_leads draw state sixteen sound new fit (quota_added new state.next.quota state.lists.catalogue) refl
step_leads (ResizeQuota id patch) draw state fit sixteen sound = resize_leads draw state sixteen sound id patch fit (quota_resized id patch state.lists.catalogue) refl
step_leads (AddVoucher new) draw state fit sixteen sound = voucher_leads draw state sixteen sound new fit (voucher_made new draw state) refl
step_leads (ChangeVoucher id patch) draw state fit sixteen sound = voucher_change_leads draw state sixteen sound id patch fit (voucher_changed id patch state) refl
step_leads (DropVoucher id) draw state fit sixteen sound = voucher_drop_leads draw state sixteen sound id (voucher_deleted id state) refl
step_leads (ImportVouchers vouchers) draw state fit sixteen sound = rows_lead vouchers draw state fit sixteen sound
step_leads (AddCart new) draw state fit sixteen sound = cart_leads draw state sixteen sound new fit (position_added new draw state) refl
step_leads (AddCarts entries) draw state fit sixteen sound = bulk_leads draw state sixteen sound entries fit (many_added entries draw state) refl
step_leads (DropCart id) draw state fit sixteen sound = cart_drop_leads draw state sixteen sound id (position_dropped id state) refl
step_leads (AddOrder new) draw state fit sixteen sound = order_leads draw state sixteen sound new fit (order_created new draw state) refl
step_leads (MoveOrder number change) draw state fit sixteen sound = move_leads draw state sixteen sound number change fit (order_moved number change state) refl
step_leads (AddWaiting new) draw state fit sixteen sound = join_leads draw state new (entry_joined new state) refl (now_sound (AddWaiting new) draw state fit sixteen sound)
step_leads (ChangeWaiting id patch) draw state fit sixteen sound = priority_leads draw state id patch (entry_changed id patch state) refl (now_sound (ChangeWaiting id patch) draw state fit sixteen sound)
step_leads (DropWaiting id) draw state fit sixteen sound = leave_leads draw state id (entry_left id state) refl (now_sound (DropWaiting id) draw state fit sixteen sound)
step_leads (SendVoucher id) draw state fit sixteen sound = send_leads draw state id sixteen sound (voucher_sent id draw state) refl
step_leads Periodic draw state fit sixteen sound = work_leads draw state sixteen sound
step_leads (AddCheckinList new) draw state fit sixteen sound = list_leads draw state new fit sound (list_added new state) refl
step_leads (Redeem list ticket scan) draw state fit sixteen sound = redeem_leads draw state list ticket scan fit sound (ticket_scanned list ticket scan state) refl

pub changes_all : (arrivals : List Arrival) (state : State) → AllByRecursion IsFitArrival arrivals → IsSound state → AllByRecursion MakesItsChanges (trace arrivals state)
changes_all [] state fit sound = tt
changes_all (arrival ∷ arrivals) state fit sound = (
  step_leads arrival.command arrival.draw (record state { moment = moment_at arrival.clock state }) fit.0.command fit.0.draw (sound_at arrival state sound),
  changes_all arrivals (office_stepped arrival state).after fit.1 (sound_after arrival state fit.0 sound),
)
