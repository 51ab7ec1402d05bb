-- What each step leaves: a sound office, where it was one, and its moment.
use Rattle.std.proofs.Common.{◌≡◌, ℕ, ◌≤◌, List, [], ◌∷◌, Result, Ok, Err, refl, sym, ap, subst}
use Rattle.base_values.specs.Draws.{IsDraw}
use Rattle.base_values.specs.declared.draw.Draw.{Draw}
use Rattle.base_values.specs.Moments.{last_moment}
use Rattle.model_catalogue.specs.declared.rows.Item.{Item}
use Rattle.model_catalogue.specs.declared.rows.ItemRows.{ItemRows}
use Rattle.model_catalogue.specs.declared.rows.PricedVariation.{PricedVariation}
use Rattle.model_catalogue.specs.declared.rows.Quota.{Quota}
use Rattle.model_catalogue.specs.declared.refusal.CatalogueRefusal.{CatalogueRefusal}
use Rattle.model_catalogue.specs.ItemAdded.{item_added}
use Rattle.model_catalogue.specs.ItemChanged.{item_changed}
use Rattle.model_catalogue.specs.VariationAdded.{variation_added}
use Rattle.model_catalogue.specs.QuotaAdded.{quota_added}
use Rattle.model_catalogue.specs.Resized.{quota_resized}
use Rattle.model_rows.specs.declared.rows.CartPos.{CartPos}
use Rattle.model_rows.specs.declared.rows.OrderPos.{OrderPos}
use Rattle.model_rows.specs.declared.rows.OrderRows.{OrderRows}
use Rattle.model_rows.specs.declared.rows.Voucher.{Voucher}
use Rattle.model_rows.specs.declared.rows.Waiting.{Waiting}
use Rattle.model_rows.specs.declared.rows.CheckinList.{CheckinList}
use Rattle.model_rows.specs.declared.changes.Change.TheVariants.{PutItem, PutQuota}
use Rattle.model_rows.specs.Change.{change_applied}
use Rattle.model_rows.specs.Lists.{State}
use Rattle.model_rows.specs.Numbered.{with_item, with_variation, with_quota}
use Rattle.model_invariant.specs.Sound.{IsSound}
use Rattle.model_invariant.proofs.Sound.{sound_later}
use Rattle.model_commands.specs.declared.vouchers.VoucherRefusal.{VoucherRefusal}
use Rattle.decide_vouchers.specs.Made.{voucher_made}
use Rattle.decide_vouchers.specs.Changed.{voucher_changed}
use Rattle.decide_vouchers.specs.Deleted.{voucher_deleted}
pub use Rattle.decide_vouchers.proofs.Made.{made_is}
use Rattle.decide_vouchers.proofs.Made.{made_sound, made_moment}
pub use Rattle.decide_vouchers.proofs.Changed.{changed_is}
use Rattle.decide_vouchers.proofs.Changed.{changed_sound, changed_moment}
use Rattle.decide_vouchers.proofs.Deleted.{deleted_sound, deleted_moment}
use Rattle.decide_vouchers.proofs.Imports.{rows_sound, rows_moment}
use Rattle.model_commands.specs.declared.orders.OrderRefusal.{OrderRefusal}
use Rattle.model_commands.specs.declared.carts.Outcome.{Outcome}
use Rattle.decide_orders.specs.Bulk.{many_added}
use Rattle.decide_orders.specs.Carts.{position_added}
use Rattle.decide_orders.specs.Created.{order_created}
use Rattle.decide_orders.specs.Dropped.{position_dropped}
use Rattle.decide_orders.specs.Expired.{orders_expired, carts_dropped}
use Rattle.decide_orders.specs.Moves.{order_moved}
use Rattle.decide_orders.proofs.BulkSound.{many_is, all_sound, all_moment}
use Rattle.decide_orders.proofs.Added.{added_sound, added_moment}
use Rattle.decide_orders.proofs.Created.{created_moment, created_sound}
use Rattle.decide_orders.proofs.Dropped.{dropped_sound, dropped_moment}
pub use Rattle.decide_orders.proofs.Expires.{expired_sound, dropped_carts_sound}
use Rattle.decide_orders.proofs.Moved.{moved_moment, moved_sound}
use Rattle.model_commands.specs.Fit.{IsFit}
use Rattle.model_commands.specs.declared.requests.Command.{Command}
use Rattle.model_commands.specs.declared.requests.Command.TheVariants.{AddItem, ChangeItem, AddVariation, AddQuota, ResizeQuota, AddVoucher, ChangeVoucher, DropVoucher, ImportVouchers, AddCart, AddCarts, DropCart, AddOrder, MoveOrder, AddWaiting, ChangeWaiting, DropWaiting, SendVoucher, Periodic, AddCheckinList, Redeem}
use Rattle.model_commands.specs.declared.doors.DoorRefusal.{DoorRefusal}
use Rattle.model_commands.specs.declared.waiting.PeriodicCounts.{PeriodicCounts}
use Rattle.model_commands.specs.declared.waiting.WaitingRefusal.{WaitingRefusal}
use Rattle.decide_waiting.specs.Joined.{entry_joined}
use Rattle.decide_waiting.specs.Changed.{entry_changed}
use Rattle.decide_waiting.specs.Left.{entry_left}
use Rattle.decide_waiting.specs.Sending.{with_sent, voucher_sent}
use Rattle.decide_waiting.specs.Serving.{entries_served, all_sent, all_served}
use Rattle.decide_waiting.proofs.Joins.{joined_sound, joined_moment}
use Rattle.decide_waiting.proofs.Leaves.{changed_sound as changed_entry_sound, changed_moment as changed_entry_moment, left_sound, left_moment}
use Rattle.decide_waiting.proofs.Sent.{sent_is}
use Rattle.decide_waiting.proofs.SentSound.{sent_sound, served_sound}
use Rattle.decide_door.specs.ListAdded.{list_added}
use Rattle.decide_door.specs.Scanned.{ticket_scanned}
use Rattle.decide_door.proofs.Added.{added_sound as list_sound, added_moment as list_moment}
use Rattle.decide_door.proofs.Admitted.{admitted_sound, admitted_moment}
use Rattle.office_step.specs.Step.{step, step_now, item_step, item_change_step, variation_step, quota_step, resize_step, voucher_step, voucher_change_step, voucher_drop_step, cart_step, bulk_step, order_step, move_step, cart_drop_step, join_step, priority_step, leave_step, send_step, periodic_step, checkin_list_step, redeem_step}
use Rattle.office_step.specs.PeriodicWork.{pending_ended, periodic_done}
use Rattle.office_step.proofs.Catalogue.{item_sound, item_change_sound, variation_sound, quota_sound, resize_sound}

-- ---- sending and periodic work

pub sent_moment : (id : ℕ) (draw : Draw) (state after : State) (row : Waiting) → voucher_sent id draw state ≡ Ok (after, row) → after.moment ≡ state.moment
sent_moment id draw state after row h = ap (λ (s : State). s.moment) (sym (sent_is id draw state after row h).to.is_after)

served_moment : (draw : Draw) (entries : List Waiting) (state : State) → (all_sent draw entries state).moment ≡ state.moment
served_moment draw [] state = refl
served_moment draw (e ∷ es) state = served_moment draw es (with_sent draw e state)

pub ended_sound : (state : State) → IsSound state → IsSound (pending_ended state)
ended_sound state sound = dropped_carts_sound (orders_expired state) (expired_sound state sound)

pub worked_moment : (draw : Draw) (state : State) → (periodic_done draw state).0.moment ≡ state.moment
unfolding all_served orders_expired carts_dropped
worked_moment draw state = served_moment draw (entries_served (pending_ended state)) (pending_ended state)

-- ---- each step

-- what a step leaves, where the command is fit
pub record IsSoundStep (fit : Type 0) (state after : State) : Type 0 where
  pub sound : fit → IsSound state → IsSound after
  pub moment : after.moment ≡ state.moment

module _ (fit : Type 0) (state : State) where
  as_it_was : IsSoundStep fit state state
  as_it_was = record { sound = λ fits sound. sound; moment = refl }

  item_after : (r : Result ItemRows CatalogueRefusal) → ((made : ItemRows) → r ≡ Ok made → fit → IsSound state → IsSound (with_item made state)) → IsSoundStep fit state (item_step state r).0
  item_after (Err refusal) known = as_it_was
  item_after (Ok made) known = record { sound = known made refl; moment = refl }

  item_change_after : (r : Result Item CatalogueRefusal) → ((row : Item) → r ≡ Ok row → fit → IsSound state → IsSound (change_applied (PutItem row) state)) → IsSoundStep fit state (item_change_step state r).0
  item_change_after (Err refusal) known = as_it_was
  item_change_after (Ok row) known = record { sound = known row refl; moment = refl }

  variation_after : (r : Result PricedVariation CatalogueRefusal) → ((made : PricedVariation) → r ≡ Ok made → fit → IsSound state → IsSound (with_variation made.row state)) → IsSoundStep fit state (variation_step state r).0
  variation_after (Err refusal) known = as_it_was
  variation_after (Ok made) known = record { sound = known made refl; moment = refl }

  quota_after : (r : Result Quota CatalogueRefusal) → ((row : Quota) → r ≡ Ok row → fit → IsSound state → IsSound (with_quota row state)) → IsSoundStep fit state (quota_step state r).0
  quota_after (Err refusal) known = as_it_was
  quota_after (Ok row) known = record { sound = known row refl; moment = refl }

  resize_after : (r : Result Quota CatalogueRefusal) → ((row : Quota) → r ≡ Ok row → fit → IsSound state → IsSound (change_applied (PutQuota row) state)) → IsSoundStep fit state (resize_step state r).0
  resize_after (Err refusal) known = as_it_was
  resize_after (Ok row) known = record { sound = known row refl; moment = refl }

  voucher_after : (r : Result (State × Voucher) VoucherRefusal) → ((after : State) (row : Voucher) → r ≡ Ok (after, row) → IsSoundStep fit state after) → IsSoundStep fit state (voucher_step state r).0
  voucher_after (Err refusal) known = as_it_was
  voucher_after (Ok (after, row)) known = known after row refl

  voucher_change_after : (r : Result (State × Voucher) VoucherRefusal) → ((after : State) (row : Voucher) → r ≡ Ok (after, row) → IsSoundStep fit state after) → IsSoundStep fit state (voucher_change_step state r).0
  voucher_change_after (Err refusal) known = as_it_was
  voucher_change_after (Ok (after, row)) known = known after row refl

  cart_after : (r : Result (State × CartPos) OrderRefusal) → ((after : State) (row : CartPos) → r ≡ Ok (after, row) → IsSoundStep fit state after) → IsSoundStep fit state (cart_step state r).0
  cart_after (Err refusal) known = as_it_was
  cart_after (Ok (after, row)) known = known after row refl

  bulk_after : (r : Result (State × List Outcome) OrderRefusal) → ((after : State) (row : List Outcome) → r ≡ Ok (after, row) → IsSoundStep fit state after) → IsSoundStep fit state (bulk_step state r).0
  bulk_after (Err refusal) known = as_it_was
  bulk_after (Ok (after, row)) known = known after row refl

  order_after : (r : Result (State × OrderRows) OrderRefusal) → ((after : State) (row : OrderRows) → r ≡ Ok (after, row) → IsSoundStep fit state after) → IsSoundStep fit state (order_step state r).0
  order_after (Err refusal) known = as_it_was
  order_after (Ok (after, row)) known = known after row refl

  move_after : (r : Result (State × OrderRows) OrderRefusal) → ((after : State) (row : OrderRows) → r ≡ Ok (after, row) → IsSoundStep fit state after) → IsSoundStep fit state (move_step state r).0
  move_after (Err refusal) known = as_it_was
  move_after (Ok (after, row)) known = known after row refl

  join_after : (r : Result (State × Waiting) WaitingRefusal) → ((after : State) (row : Waiting) → r ≡ Ok (after, row) → IsSoundStep fit state after) → IsSoundStep fit state (join_step state r).0
  join_after (Err refusal) known = as_it_was
  join_after (Ok (after, row)) known = known after row refl

  priority_after : (r : Result (State × Waiting) WaitingRefusal) → ((after : State) (row : Waiting) → r ≡ Ok (after, row) → IsSoundStep fit state after) → IsSoundStep fit state (priority_step state r).0
  priority_after (Err refusal) known = as_it_was
  priority_after (Ok (after, row)) known = known after row refl

  send_after : (r : Result (State × Waiting) WaitingRefusal) → ((after : State) (row : Waiting) → r ≡ Ok (after, row) → IsSoundStep fit state after) → IsSoundStep fit state (send_step state r).0
  send_after (Err refusal) known = as_it_was
  send_after (Ok (after, row)) known = known after row refl

  checkin_list_after : (r : Result (State × CheckinList) DoorRefusal) → ((after : State) (row : CheckinList) → r ≡ Ok (after, row) → IsSoundStep fit state after) → IsSoundStep fit state (checkin_list_step state r).0
  checkin_list_after (Err refusal) known = as_it_was
  checkin_list_after (Ok (after, row)) known = known after row refl

  redeem_after : (r : Result (State × OrderPos) DoorRefusal) → ((after : State) (row : OrderPos) → r ≡ Ok (after, row) → IsSoundStep fit state after) → IsSoundStep fit state (redeem_step state r).0
  redeem_after (Err refusal) known = as_it_was
  redeem_after (Ok (after, row)) known = known after row refl

  voucher_drop_after : (r : Result State VoucherRefusal) → ((after : State) → r ≡ Ok after → IsSoundStep fit state after) → IsSoundStep fit state (voucher_drop_step state r).0
  voucher_drop_after (Err refusal) known = as_it_was
  voucher_drop_after (Ok after) known = known after refl

  cart_drop_after : (r : Result State OrderRefusal) → ((after : State) → r ≡ Ok after → IsSoundStep fit state after) → IsSoundStep fit state (cart_drop_step state r).0
  cart_drop_after (Err refusal) known = as_it_was
  cart_drop_after (Ok after) known = known after refl

  leave_after : (r : Result State WaitingRefusal) → ((after : State) → r ≡ Ok after → IsSoundStep fit state after) → IsSoundStep fit state (leave_step state r).0
  leave_after (Err refusal) known = as_it_was
  leave_after (Ok after) known = known after refl

  periodic_after : (made : State × PeriodicCounts) → IsSoundStep fit state made.0 → IsSoundStep fit state (periodic_step made).0
  periodic_after (after, counts) known = known

-- what the step of a command may rest on
abbrev Fits : Command → Draw → Type 0
Fits command draw = IsFit command × IsDraw draw

pub sound_step : (command : Command) (draw : Draw) (state : State) → IsSoundStep (Fits command draw) state (step_now command draw state).0
sound_step (AddItem new) draw state = item_after (Fits (AddItem new) draw) state (item_added new state.next.item state.next.variation state.lists.catalogue) (λ made h fit. item_sound new state made h fit.0)
sound_step (ChangeItem id patch) draw state = item_change_after (Fits (ChangeItem id patch) draw) state (item_changed id patch state.lists.catalogue) (λ row h fit. item_change_sound id patch state row h fit.0)
sound_step (AddVariation item new) draw state = variation_after (Fits (AddVariation item new) draw) state (variation_added item new state.next.variation state.lists.catalogue) (λ made h fit. variation_sound item new state made h fit.0)
sound_step (AddQuota new) draw state = quota_after (Fits (AddQuota new) draw) state (quota_added new state.next.quota state.lists.catalogue) (λ row h fit. quota_sound new state row h fit.0)
sound_step (ResizeQuota id patch) draw state = resize_after (Fits (ResizeQuota id patch) draw) state (quota_resized id patch state.lists.catalogue) (λ row h fit. resize_sound id patch state row h fit.0)
sound_step (AddVoucher new) draw state = voucher_after (Fits (AddVoucher new) draw) state (voucher_made new draw state) (λ after row h. record {
  sound = λ fit sound. made_sound new draw state after row fit.0 fit.1 sound h;
  moment = made_moment new draw state after row h;
})
sound_step (ChangeVoucher id patch) draw state = voucher_change_after (Fits (ChangeVoucher id patch) draw) state (voucher_changed id patch state) (λ after row h. record {
  sound = λ fit sound. changed_sound id patch state after row fit.0 sound h;
  moment = changed_moment id patch state after row h;
})
sound_step (DropVoucher id) draw state = voucher_drop_after (Fits (DropVoucher id) draw) state (voucher_deleted id state) (λ after h. record {
  sound = λ fit sound. deleted_sound id state after sound h;
  moment = deleted_moment id state after h;
})
sound_step (ImportVouchers vouchers) draw state = record {
  sound = λ fit sound. rows_sound vouchers draw state fit.0 fit.1 sound;
  moment = rows_moment vouchers draw state;
}
sound_step (AddCart new) draw state = cart_after (Fits (AddCart new) draw) state (position_added new draw state) (λ after row h. record {
  sound = λ fit sound. added_sound new draw state after row fit.0 fit.1 sound h;
  moment = added_moment new draw state after row h;
})
sound_step (AddCarts entries) draw state = bulk_after (Fits (AddCarts entries) draw) state (many_added entries draw state) (λ after outcomes h. record {
  sound = λ fit sound. subst (λ (m : State × List Outcome). IsSound m.0) (many_is entries draw state (after, outcomes) h) (all_sound entries draw state fit.0 fit.1 sound);
  moment = subst (λ (m : State × List Outcome). m.0.moment ≡ state.moment) (many_is entries draw state (after, outcomes) h) (all_moment entries draw state);
})
sound_step (DropCart id) draw state = cart_drop_after (Fits (DropCart id) draw) state (position_dropped id state) (λ after h. record {
  sound = λ fit sound. dropped_sound id state after sound h;
  moment = dropped_moment id state after h;
})
sound_step (AddOrder new) draw state = order_after (Fits (AddOrder new) draw) state (order_created new draw state) (λ after rows h. record {
  sound = λ fit sound. created_sound new draw state after rows fit.0 fit.1 sound h;
  moment = created_moment new draw state after rows h;
})
sound_step (MoveOrder number change) draw state = move_after (Fits (MoveOrder number change) draw) state (order_moved number change state) (λ after rows h. record {
  sound = λ fit sound. moved_sound number change state after rows fit.0 sound h;
  moment = moved_moment number change state after rows h;
})
sound_step (AddWaiting new) draw state = join_after (Fits (AddWaiting new) draw) state (entry_joined new state) (λ after row h. record {
  sound = λ fit sound. joined_sound new state after row fit.0 sound h;
  moment = joined_moment new state after row h;
})
sound_step (ChangeWaiting id patch) draw state = priority_after (Fits (ChangeWaiting id patch) draw) state (entry_changed id patch state) (λ after row h. record {
  sound = λ fit sound. changed_entry_sound id patch state after row fit.0 sound h;
  moment = changed_entry_moment id patch state after row h;
})
sound_step (DropWaiting id) draw state = leave_after (Fits (DropWaiting id) draw) state (entry_left id state) (λ after h. record {
  sound = λ fit sound. left_sound id state after sound h;
  moment = left_moment id state after h;
})
sound_step (SendVoucher id) draw state = send_after (Fits (SendVoucher id) draw) state (voucher_sent id draw state) (λ after row h. record {
  sound = λ fit sound. sent_sound draw fit.1 id state after row sound h;
  moment = sent_moment id draw state after row h;
})
sound_step Periodic draw state = periodic_after (Fits Periodic draw) state (periodic_done draw state) (record {
  sound = λ fit sound. served_sound draw fit.1 (pending_ended state) (ended_sound state sound);
  moment = worked_moment draw state;
})
sound_step (AddCheckinList new) draw state = checkin_list_after (Fits (AddCheckinList new) draw) state (list_added new state) (λ after row h. record {
  sound = λ fit sound. list_sound new state after row fit.0 sound h;
  moment = list_moment new state after row h;
})
sound_step (Redeem list ticket scan) draw state = redeem_after (Fits (Redeem list ticket scan) draw) state (ticket_scanned list ticket scan state) (λ after position h. record {
  sound = λ fit sound. admitted_sound list ticket scan state after position fit.0 sound h;
  moment = admitted_moment list ticket scan state after position h;
})

-- each step leads from sound to sound
pub step_sound : (command : Command) (at : ℕ) (draw : Draw) (state : State) → IsFit command → IsDraw draw → state.moment ≤ at → at ≤ last_moment → IsSound state → IsSound (step command at draw state).0
step_sound command at draw state fit sixteen le last sound = (sound_step command draw (record state { moment = at })).sound (fit, sixteen) (sound_later state at le last sound)
