-- What each step does to the tables of the doors: rows are added at the end, and none changes or goes.
use Rattle.std.proofs.Common.{◌≡◌, ℕ, ◌+◌, ◌<◌, inl, inr, List, [], ◌∷◌, ◌++◌, append_assoc, append-nil, map, Result, Ok, Err, refl, sym, ap, ◌∙◌, subst, arith}
use Rattle.std.specs.List.{AllByRecursion}
use Rattle.std.proofs.lemmas.Bool.Decides.{nat_tests}
use Rattle.base_tables.specs.Tables.{with_row}
use Rattle.base_values.specs.declared.draw.Draw.{Draw}
use Rattle.model_catalogue.specs.declared.rows.Item.{Item}
use Rattle.model_catalogue.specs.declared.rows.ItemRows.{ItemRows}
use Rattle.model_catalogue.specs.declared.rows.PricedVariation.{PricedVariation}
use Rattle.model_catalogue.specs.declared.rows.Quota.{Quota}
use Rattle.model_catalogue.specs.declared.rows.Variation.{Variation}
use Rattle.model_catalogue.specs.declared.refusal.CatalogueRefusal.{CatalogueRefusal}
use Rattle.model_catalogue.specs.ItemAdded.{item_added}
use Rattle.model_catalogue.specs.ItemChanged.{item_changed}
use Rattle.model_catalogue.specs.VariationAdded.{variation_added}
use Rattle.model_catalogue.specs.QuotaAdded.{quota_added}
use Rattle.model_catalogue.specs.Resized.{quota_resized}
use Rattle.model_rows.specs.declared.changes.Change.TheVariants.{PutItem, PutVariation, PutVoucher, PutOrder, PutWaiting, DropCart, DropVoucher as VoucherGoes, DropWaiting as EntryGoes}
use Rattle.model_rows.specs.declared.rows.CartPos.{CartPos}
use Rattle.model_rows.specs.declared.rows.CheckinList.{CheckinList}
use Rattle.model_rows.specs.declared.rows.Checkin.{Checkin}
use Rattle.model_rows.specs.declared.rows.OrderPos.{OrderPos}
use Rattle.model_rows.specs.declared.rows.OrderRows.{OrderRows}
use Rattle.model_rows.specs.declared.rows.Voucher.{Voucher}
use Rattle.model_rows.specs.declared.rows.Waiting.{Waiting}
use Rattle.model_rows.specs.Change.{after_change, after_all, change_applied}
use Rattle.model_rows.specs.Consumed.{carts_consumed}
use Rattle.model_rows.specs.Lists.{Lists, State}
use Rattle.model_rows.specs.Numbered.{with_voucher, with_cart, with_waiting}
use Rattle.model_rows.proofs.EachRow.{all_weaker, all-with_row}
use Rattle.model_invariant.specs.Sound.{IsSound}
use Rattle.model_commands.specs.declared.carts.Entry.{Entry}
use Rattle.model_commands.specs.declared.carts.Entry.TheVariants.{New, Faulty}
use Rattle.model_commands.specs.declared.carts.Outcome.{Outcome}
use Rattle.model_commands.specs.declared.carts.NewCart.{NewCart}
use Rattle.model_commands.specs.declared.doors.DoorRefusal.{DoorRefusal}
use Rattle.model_commands.specs.declared.doors.NewCheckinList.{NewCheckinList}
use Rattle.model_commands.specs.declared.doors.Scan.{Scan}
use Rattle.model_commands.specs.declared.doors.Ticket.{Ticket}
use Rattle.model_commands.specs.declared.orders.Move.{Move}
use Rattle.model_commands.specs.declared.orders.NewOrder.{NewOrder}
use Rattle.model_commands.specs.declared.orders.OrderRefusal.{OrderRefusal}
use Rattle.model_commands.specs.declared.requests.Command.{Command}
use Rattle.model_commands.specs.declared.requests.Command.TheVariants.{AddItem, ChangeItem, AddVariation, AddQuota, ResizeQuota, AddVoucher, ChangeVoucher, DropVoucher, ImportVouchers, AddCart, AddCarts, DropCart as DropCartCommand, AddOrder, MoveOrder, AddWaiting, ChangeWaiting, DropWaiting, SendVoucher, Periodic, AddCheckinList, Redeem}
use Rattle.model_commands.specs.declared.vouchers.NewVoucher.{NewVoucher}
use Rattle.model_commands.specs.declared.vouchers.VoucherPatch.{VoucherPatch}
use Rattle.model_commands.specs.declared.vouchers.VoucherRefusal.{VoucherRefusal}
use Rattle.model_commands.specs.declared.waiting.NewWaiting.{NewWaiting}
use Rattle.model_commands.specs.declared.waiting.WaitingPatch.{WaitingPatch}
use Rattle.model_commands.specs.declared.waiting.WaitingRefusal.{WaitingRefusal}
use Rattle.decide_vouchers.specs.Made.{voucher_made}
use Rattle.decide_vouchers.specs.Changed.{voucher_changed}
use Rattle.decide_vouchers.specs.Deleted.{voucher_deleted}
use Rattle.decide_vouchers.specs.Imported.{row_imported, rows_imported}
use Rattle.model_commands.specs.declared.vouchers.Verdict.{Verdict}
use Rattle.decide_vouchers.proofs.Imports.{of_row}
use Rattle.decide_vouchers.proofs.Made.{made_is}
use Rattle.decide_vouchers.proofs.Changed.{changed_is}
use Rattle.decide_vouchers.proofs.Deleted.{deleted_is}
use Rattle.decide_orders.specs.Bulk.{outcome_of, entry_added, all_added, many_added}
use Rattle.decide_orders.specs.Carts.{position_added}
use Rattle.decide_orders.specs.Created.{position_put, with_positions, with_order_row, order_created}
use Rattle.decide_orders.specs.Steps.{AreCounted}
use Rattle.decide_orders.specs.Dropped.{position_dropped}
use Rattle.decide_orders.specs.Moves.{order_moved}
use Rattle.decide_orders.proofs.Added.{added_is}
use Rattle.decide_orders.proofs.BulkSound.{many_is}
use Rattle.decide_orders.proofs.Created.{created_is}
use Rattle.decide_orders.proofs.Dropped.{dropped_is}
use Rattle.decide_orders.proofs.Moved.{moved_is}
use Rattle.decide_orders.proofs.Puts.{put_is}
use Rattle.decide_orders.proofs.Rows.{counted}
use Rattle.decide_waiting.specs.Joined.{entry_joined}
use Rattle.decide_waiting.specs.Changed.{entry_changed}
use Rattle.decide_waiting.specs.Left.{entry_left}
use Rattle.decide_waiting.specs.Sending.{with_sent, voucher_sent}
use Rattle.decide_waiting.specs.Serving.{entries_served, all_sent, all_served}
use Rattle.decide_waiting.proofs.Joins.{joined_is}
use Rattle.decide_waiting.proofs.Leaves.{changed_is as entry_changed_is, left_is}
use Rattle.decide_waiting.proofs.Sent.{sent_is}
use Rattle.decide_orders.specs.Expired.{orders_expired, carts_dropped}
use Rattle.decide_door.specs.ListAdded.{list_added}
use Rattle.decide_door.specs.Scanned.{checkin_row, ticket_scanned}
use Rattle.decide_door.proofs.Added.{added_is as list_is, added_id as list_id}
use Rattle.decide_door.proofs.Admitted.{IsEitherOf, admitted_is}
use Rattle.office_runs.specs.Doors.{Grows, DoorGrows}
use Rattle.office_step.specs.PeriodicWork.{pending_ended, periodic_done}
use Rattle.office_step.specs.Step.{step_now, item_step, item_change_step, variation_step, quota_step, resize_step, voucher_step, voucher_change_step, voucher_drop_step, cart_step, bulk_step, order_step, move_step, cart_drop_step, join_step, priority_step, leave_step, send_step, checkin_list_step, redeem_step}

-- ---- rows that are added at the end

same_rows : {T : Type 0} (rows after : List T) → after ≡ rows → Grows rows after
same_rows rows after e = record { more = []; is = e ∙ sym (append-nil rows) }

grows_more : {T : Type 0} (before mid after : List T) → Grows before mid → Grows mid after → Grows before after
grows_more {T} before mid after a b = record { more = a.more ++ b.more; is = b.is ∙ (ap (λ (rows : List T). rows ++ b.more) a.is ∙ append_assoc before a.more b.more) }

-- a row whose id is above all others stands behind them
put_behind : {T : Type 0} (key : T → ℕ) (row : T) (rows : List T) → AllByRecursion (λ r. key r < key row) rows → with_row key row rows ≡ rows ++ (row ∷ [])
put_behind key row [] h = refl
put_behind key row (r ∷ rs) h = grind (arith, nat_tests, h.0, put_behind key row rs h.1)

put_grows : {T : Type 0} (key : T → ℕ) (row : T) (next : ℕ) (rows : List T) → key row ≡ next → AllByRecursion (λ r. key r < next) rows → Grows rows (with_row key row rows)
put_grows {T} key row next rows own below = record { more = row ∷ []; is = put_behind key row rows (subst (λ (n : ℕ). AllByRecursion (λ r. key r < n) rows) (sym own) below) }

-- ---- box offices

-- nothing of the doors changes
record SameDoor (before after : Lists) : Type 0 where
  lists : after.checkin_lists ≡ before.checkin_lists
  positions : after.positions ≡ before.positions
  checkins : after.checkins ≡ before.checkins

pub door_more : (a b c : State) → DoorGrows a b → DoorGrows b c → DoorGrows a c
door_more a b c first second = record {
  lists = grows_more a.lists.checkin_lists b.lists.checkin_lists c.lists.checkin_lists first.lists second.lists;
  positions = grows_more a.lists.positions b.lists.positions c.lists.positions first.positions second.positions;
  checkins = grows_more a.lists.checkins b.lists.checkins c.lists.checkins first.checkins second.checkins;
}

same_door : (before after : State) → SameDoor before.lists after.lists → DoorGrows before after
same_door before after same = record {
  lists = same_rows before.lists.checkin_lists after.lists.checkin_lists same.lists;
  positions = same_rows before.lists.positions after.lists.positions same.positions;
  checkins = same_rows before.lists.checkins after.lists.checkins same.checkins;
}

no_change : (lists : Lists) → SameDoor lists lists
no_change lists = record { lists = refl; positions = refl; checkins = refl }

pub door_still : (state : State) → DoorGrows state state
door_still state = same_door state state (no_change state.lists)

variations_keep : (rows : List Variation) (lists : Lists) → SameDoor lists (after_all (map PutVariation rows) lists)
variations_keep [] lists = no_change lists
variations_keep (row ∷ rows) lists =
    let more = variations_keep rows (after_change (PutVariation row) lists) in
    record { lists = more.lists; positions = more.positions; checkins = more.checkins }

carts_keep : (ids : List ℕ) (lists : Lists) → SameDoor lists (after_all (map DropCart ids) lists)
carts_keep [] lists = no_change lists
carts_keep (id ∷ ids) lists =
    let more = carts_keep ids (after_change (DropCart id) lists) in
    record { lists = more.lists; positions = more.positions; checkins = more.checkins }

served_keep : (draw : Draw) (entries : List Waiting) (state : State) → SameDoor state.lists (all_sent draw entries state).lists
served_keep draw [] state = no_change state.lists
served_keep draw (e ∷ es) state =
    let more = served_keep draw es (with_sent draw e state) in
    record { lists = more.lists; positions = more.positions; checkins = more.checkins }

-- positions that are put behind those that stand
positions_grow : (rows : List OrderPos) (id : ℕ) (state put : State) → AreCounted id rows → AllByRecursion (λ r. r.id < id) state.lists.positions → with_positions rows (Ok state) ≡ Ok put → DoorGrows state put
positions_grow [] id state put counted below h = let same : state ≡ put = cc (h) in subst (λ (s : State). DoorGrows state s) same (door_still state)
positions_grow (row ∷ rows) id state put counted below h = by_put (position_put row state) refl h (λ made on. positions_grow rows (id + 1) made put counted.1 on)
  where
    by_put : (done : Result State OrderRefusal) → position_put row state ≡ done → with_positions rows done ≡ Ok put → ((made : State) → AllByRecursion (λ r. r.id < id + 1) made.lists.positions → with_positions rows (Ok made) ≡ Ok put → DoorGrows made put) → DoorGrows state put
    by_put (Err refusal) e h more = absurd (cc (h))
    by_put (Ok made) e h more =
        let is = (put_is row state made e).is in
        let later = all-with_row (λ r. r.id) (λ r. r.id < id + 1) row state.lists.positions (omega (arith, counted.0)) (all_weaker (λ r. r.id < id) (λ r. r.id < id + 1) (λ r lt. omega (arith, lt)) state.lists.positions below) in
        let one : DoorGrows state made = subst (λ (s : State). DoorGrows state s) is (record {
          lists = same_rows state.lists.checkin_lists state.lists.checkin_lists refl;
          positions = put_grows (λ (r : OrderPos). r.id) row id state.lists.positions counted.0 below;
          checkins = same_rows state.lists.checkins state.lists.checkins refl;
        }) in
        door_more state made put one (more made (subst (λ (s : State). AllByRecursion (λ r. r.id < id + 1) s.lists.positions) is later) h)

-- ---- each command

module _ (state : State) where
  item : (r : Result ItemRows CatalogueRefusal) → DoorGrows state (item_step state r).0
  item (Err refusal) = door_still state
  item (Ok made) =
      let more = variations_keep made.variations (after_change (PutItem made.item) state.lists) in
      same_door state (item_step state (Ok made)).0 (record { lists = more.lists; positions = more.positions; checkins = more.checkins })

  item_change : (r : Result Item CatalogueRefusal) → DoorGrows state (item_change_step state r).0
  item_change (Err refusal) = door_still state
  item_change (Ok row) = same_door state (item_change_step state (Ok row)).0 (record { lists = refl; positions = refl; checkins = refl })

  variation : (r : Result PricedVariation CatalogueRefusal) → DoorGrows state (variation_step state r).0
  variation (Err refusal) = door_still state
  variation (Ok made) = same_door state (variation_step state (Ok made)).0 (record { lists = refl; positions = refl; checkins = refl })

  quota : (r : Result Quota CatalogueRefusal) → DoorGrows state (quota_step state r).0
  quota (Err refusal) = door_still state
  quota (Ok row) = same_door state (quota_step state (Ok row)).0 (record { lists = refl; positions = refl; checkins = refl })

  resize : (r : Result Quota CatalogueRefusal) → DoorGrows state (resize_step state r).0
  resize (Err refusal) = door_still state
  resize (Ok row) = same_door state (resize_step state (Ok row)).0 (record { lists = refl; positions = refl; checkins = refl })

  voucher : (r : Result (State × Voucher) VoucherRefusal) → ((after : State) (row : Voucher) → r ≡ Ok (after, row) → DoorGrows state after) → DoorGrows state (voucher_step state r).0
  voucher (Err refusal) known = door_still state
  voucher (Ok (after, row)) known = known after row refl

  voucher_change : (r : Result (State × Voucher) VoucherRefusal) → ((after : State) (row : Voucher) → r ≡ Ok (after, row) → DoorGrows state after) → DoorGrows state (voucher_change_step state r).0
  voucher_change (Err refusal) known = door_still state
  voucher_change (Ok (after, row)) known = known after row refl

  voucher_drop : (r : Result State VoucherRefusal) → ((after : State) → r ≡ Ok after → DoorGrows state after) → DoorGrows state (voucher_drop_step state r).0
  voucher_drop (Err refusal) known = door_still state
  voucher_drop (Ok after) known = known after refl

  cart : (r : Result (State × CartPos) OrderRefusal) → ((after : State) (row : CartPos) → r ≡ Ok (after, row) → DoorGrows state after) → DoorGrows state (cart_step state r).0
  cart (Err refusal) known = door_still state
  cart (Ok (after, row)) known = known after row refl

  bulk : (r : Result (State × List Outcome) OrderRefusal) → ((made : State × List Outcome) → r ≡ Ok made → DoorGrows state made.0) → DoorGrows state (bulk_step state r).0
  bulk (Err refusal) known = door_still state
  bulk (Ok (after, outcomes)) known = known (after, outcomes) refl

  cart_drop : (r : Result State OrderRefusal) → ((after : State) → r ≡ Ok after → DoorGrows state after) → DoorGrows state (cart_drop_step state r).0
  cart_drop (Err refusal) known = door_still state
  cart_drop (Ok after) known = known after refl

  order : (r : Result (State × OrderRows) OrderRefusal) → ((after : State) (rows : OrderRows) → r ≡ Ok (after, rows) → DoorGrows state after) → DoorGrows state (order_step state r).0
  order (Err refusal) known = door_still state
  order (Ok (after, rows)) known = known after rows refl

  move : (r : Result (State × OrderRows) OrderRefusal) → ((after : State) (rows : OrderRows) → r ≡ Ok (after, rows) → DoorGrows state after) → DoorGrows state (move_step state r).0
  move (Err refusal) known = door_still state
  move (Ok (after, rows)) known = known after rows refl

  joins : (r : Result (State × Waiting) WaitingRefusal) → ((after : State) (row : Waiting) → r ≡ Ok (after, row) → DoorGrows state after) → DoorGrows state (join_step state r).0
  joins (Err refusal) known = door_still state
  joins (Ok (after, row)) known = known after row refl

  priority : (r : Result (State × Waiting) WaitingRefusal) → ((after : State) (row : Waiting) → r ≡ Ok (after, row) → DoorGrows state after) → DoorGrows state (priority_step state r).0
  priority (Err refusal) known = door_still state
  priority (Ok (after, row)) known = known after row refl

  leaves : (r : Result State WaitingRefusal) → ((after : State) → r ≡ Ok after → DoorGrows state after) → DoorGrows state (leave_step state r).0
  leaves (Err refusal) known = door_still state
  leaves (Ok after) known = known after refl

  sends : (r : Result (State × Waiting) WaitingRefusal) → ((after : State) (row : Waiting) → r ≡ Ok (after, row) → DoorGrows state after) → DoorGrows state (send_step state r).0
  sends (Err refusal) known = door_still state
  sends (Ok (after, row)) known = known after row refl

  lists_more : (r : Result (State × CheckinList) DoorRefusal) → ((after : State) (row : CheckinList) → r ≡ Ok (after, row) → DoorGrows state after) → DoorGrows state (checkin_list_step state r).0
  lists_more (Err refusal) known = door_still state
  lists_more (Ok (after, row)) known = known after row refl

  scans : (r : Result (State × OrderPos) DoorRefusal) → ((after : State) (position : OrderPos) → r ≡ Ok (after, position) → DoorGrows state after) → DoorGrows state (redeem_step state r).0
  scans (Err refusal) known = door_still state
  scans (Ok (after, position)) known = known after position refl

-- what each decision leads to
module _ (draw : Draw) (state : State) where
  made_grows : (new : NewVoucher) (after : State) (row : Voucher) → voucher_made new draw state ≡ Ok (after, row) → DoorGrows state after
  made_grows new after row h = subst (λ (s : State). DoorGrows state s) (made_is new draw state after row h).is_after (same_door state (with_voucher row state) (record { lists = refl; positions = refl; checkins = refl }))

  changed_grows : (id : ℕ) (patch : VoucherPatch) (after : State) (row : Voucher) → voucher_changed id patch state ≡ Ok (after, row) → DoorGrows state after
  changed_grows id patch after row h = subst (λ (s : State). DoorGrows state s) (changed_is id patch state after row h).is_after (same_door state (change_applied (PutVoucher row) state) (record { lists = refl; positions = refl; checkins = refl }))

  deleted_grows : (id : ℕ) (after : State) → voucher_deleted id state ≡ Ok after → DoorGrows state after
  deleted_grows id after h = subst (λ (s : State). DoorGrows state s) (deleted_is id state after h).is_after (same_door state (change_applied (VoucherGoes id) state) (record { lists = refl; positions = refl; checkins = refl }))

  cart_grows : (new : NewCart) (after : State) (row : CartPos) → position_added new draw state ≡ Ok (after, row) → DoorGrows state after
  cart_grows new after row h = subst (λ (s : State). DoorGrows state s) (added_is new draw state after row h).is_after (same_door state (with_cart row state) (record { lists = refl; positions = refl; checkins = refl }))

  cart_drop_grows : (id : ℕ) (after : State) → position_dropped id state ≡ Ok after → DoorGrows state after
  cart_drop_grows id after h = subst (λ (s : State). DoorGrows state s) (dropped_is id state after h) (same_door state (change_applied (DropCart id) state) (record { lists = refl; positions = refl; checkins = refl }))

  move_grows : (number : ℕ) (change : Move) (after : State) (rows : OrderRows) → order_moved number change state ≡ Ok (after, rows) → DoorGrows state after
  move_grows number change after rows h = subst (λ (s : State). DoorGrows state s) (moved_is number change state after rows h).is_after (same_door state (change_applied (PutOrder rows.order) state) (record { lists = refl; positions = refl; checkins = refl }))

  order_grows : (new : NewOrder) (after : State) (made : OrderRows) → IsSound state → order_created new draw state ≡ Ok (after, made) → DoorGrows state after
  order_grows new after made sound h =
      let m = created_is new draw state after made h in
      let placed = with_order_row made.order new.consume_carts state in
      let ids = carts_consumed new.consume_carts state.lists in
      let keep = carts_keep ids state.lists in
      let free : SameDoor state.lists placed.lists = record { lists = keep.lists; positions = keep.positions; checkins = keep.checkins } in
      let below = subst (λ (rows : List OrderPos). AllByRecursion (λ r. r.id < state.next.position) rows) (sym keep.positions) sound.ids.positions.below in
      let put = positions_grow made.positions state.next.position placed m.put (counted draw state [] state.next.position 1 new.positions made.positions m.are_rows) below m.puts in
      let whole = door_more state placed m.put (same_door state placed free) put in
      subst (λ (s : State). DoorGrows state s) m.is_after (record { lists = whole.lists; positions = whole.positions; checkins = whole.checkins })

  join_grows : (new : NewWaiting) (after : State) (row : Waiting) → entry_joined new state ≡ Ok (after, row) → DoorGrows state after
  join_grows new after row h = subst (λ (s : State). DoorGrows state s) (joined_is new state after row h).is_after (same_door state (with_waiting row state) (record { lists = refl; positions = refl; checkins = refl }))

  priority_grows : (id : ℕ) (patch : WaitingPatch) (after : State) (row : Waiting) → entry_changed id patch state ≡ Ok (after, row) → DoorGrows state after
  priority_grows id patch after row h = subst (λ (s : State). DoorGrows state s) (entry_changed_is id patch state after row h).is_after (same_door state (change_applied (PutWaiting row) state) (record { lists = refl; positions = refl; checkins = refl }))

  leave_grows : (id : ℕ) (after : State) → entry_left id state ≡ Ok after → DoorGrows state after
  leave_grows id after h = subst (λ (s : State). DoorGrows state s) (left_is id state after h).is_after (same_door state (change_applied (EntryGoes id) state) (record { lists = refl; positions = refl; checkins = refl }))

  send_grows : (id : ℕ) (after : State) (row : Waiting) → voucher_sent id draw state ≡ Ok (after, row) → DoorGrows state after
  send_grows id after row h =
      let v = sent_is id draw state after row h in
      subst (λ (s : State). DoorGrows state s) v.to.is_after (same_door state (with_sent draw v.old state) (record { lists = refl; positions = refl; checkins = refl }))

  work_grows : DoorGrows state (periodic_done draw state).0
  unfolding all_served orders_expired carts_dropped
  work_grows =
      let keep = served_keep draw (entries_served (pending_ended state)) (pending_ended state) in
      same_door state (periodic_done draw state).0 (record { lists = keep.lists; positions = keep.positions; checkins = keep.checkins })

  list_grows : (new : NewCheckinList) (after : State) (row : CheckinList) → IsSound state → list_added new state ≡ Ok (after, row) → DoorGrows state after
  list_grows new after row sound h = subst (λ (s : State). DoorGrows state s) (list_is new state after row h).is_after (record {
    lists = put_grows (λ (r : CheckinList). r.id) row state.next.list state.lists.checkin_lists (list_id new state after row h) sound.ids.checkin_lists.below;
    positions = same_rows state.lists.positions state.lists.positions refl;
    checkins = same_rows state.lists.checkins state.lists.checkins refl;
  })

  scan_grows : (list : ℕ) (ticket : Ticket) (scan : Scan) (after : State) (position : OrderPos) → IsSound state → ticket_scanned list ticket scan state ≡ Ok (after, position) → DoorGrows state after
  scan_grows list ticket scan after position sound h = by_kind (admitted_is list ticket scan state after position h).1
    where
      by_kind : IsEitherOf list scan state after position → DoorGrows state after
      by_kind (inl same) = subst (λ (s : State). DoorGrows state s) same.1 (door_still state)
      by_kind (inr new) = subst (λ (s : State). DoorGrows state s) new.is_after (record {
        lists = same_rows state.lists.checkin_lists state.lists.checkin_lists refl;
        positions = same_rows state.lists.positions state.lists.positions refl;
        checkins = put_grows (λ (r : Checkin). r.id) (checkin_row list position scan state) state.next.checkin state.lists.checkins refl sound.ids.checkins.below;
      })

one_grows : (new : NewCart) (draw : Draw) (state : State) (made : Result (State × CartPos) OrderRefusal) → position_added new draw state ≡ made → DoorGrows state (outcome_of state made).0
one_grows new draw state (Err refusal) h = door_still state
one_grows new draw state (Ok (after, row)) h = cart_grows draw state new after row h

entry_grows : (entry : Entry) (draw : Draw) (state : State) → DoorGrows state (entry_added entry draw state).0
entry_grows (New new) draw state = one_grows new draw state (position_added new draw state) refl
entry_grows (Faulty fault) draw state = door_still state

entries_grow : (entries : List Entry) (draw : Draw) (state : State) → DoorGrows state (all_added entries draw state).0
entries_grow [] draw state = door_still state
entries_grow (entry ∷ entries) draw state =
    let next = (entry_added entry draw state).0 in
    door_more state next (all_added entries draw next).0 (entry_grows entry draw state) (entries_grow entries draw next)

row_grows : (new : NewVoucher) (draw : Draw) (state : State) → DoorGrows state (row_imported new draw state).0
row_grows new draw state = of_row new draw state (λ (m : State × Verdict). DoorGrows state m.0) (λ verdict none. door_still state) (made_grows draw state new)

rows_grow : (vouchers : List NewVoucher) (draw : Draw) (state : State) → DoorGrows state (rows_imported vouchers draw state).0
rows_grow [] draw state = door_still state
rows_grow (new ∷ more) draw state =
    let next = (row_imported new draw state).0 in
    door_more state next (rows_imported more draw next).0 (row_grows new draw state) (rows_grow more draw next)

-- each step of a sound office
pub door_step : (command : Command) (draw : Draw) (state : State) → IsSound state → DoorGrows state (step_now command draw state).0
door_step (AddItem new) draw state sound = item state (item_added new state.next.item state.next.variation state.lists.catalogue)
door_step (ChangeItem id patch) draw state sound = item_change state (item_changed id patch state.lists.catalogue)
door_step (AddVariation of new) draw state sound = variation state (variation_added of new state.next.variation state.lists.catalogue)
door_step (AddQuota new) draw state sound = quota state (quota_added new state.next.quota state.lists.catalogue)
door_step (ResizeQuota id patch) draw state sound = resize state (quota_resized id patch state.lists.catalogue)
door_step (AddVoucher new) draw state sound = voucher state (voucher_made new draw state) (made_grows draw state new)
door_step (ChangeVoucher id patch) draw state sound = voucher_change state (voucher_changed id patch state) (changed_grows draw state id patch)
door_step (DropVoucher id) draw state sound = voucher_drop state (voucher_deleted id state) (deleted_grows draw state id)
door_step (ImportVouchers vouchers) draw state sound = rows_grow vouchers draw state
door_step (AddCart new) draw state sound = cart state (position_added new draw state) (cart_grows draw state new)
door_step (AddCarts entries) draw state sound = bulk state (many_added entries draw state) (λ made h. subst (λ (m : State × List Outcome). DoorGrows state m.0) (many_is entries draw state made h) (entries_grow entries draw state))
door_step (DropCartCommand id) draw state sound = cart_drop state (position_dropped id state) (cart_drop_grows draw state id)
door_step (AddOrder new) draw state sound = order state (order_created new draw state) (λ after made h. order_grows draw state new after made sound h)
door_step (MoveOrder number change) draw state sound = move state (order_moved number change state) (move_grows draw state number change)
door_step (AddWaiting new) draw state sound = joins state (entry_joined new state) (join_grows draw state new)
door_step (ChangeWaiting id patch) draw state sound = priority state (entry_changed id patch state) (priority_grows draw state id patch)
door_step (DropWaiting id) draw state sound = leaves state (entry_left id state) (leave_grows draw state id)
door_step (SendVoucher id) draw state sound = sends state (voucher_sent id draw state) (send_grows draw state id)
door_step Periodic draw state sound = work_grows draw state
door_step (AddCheckinList new) draw state sound = lists_more state (list_added new state) (λ after row h. list_grows draw state new after row sound h)
door_step (Redeem list ticket scan) draw state sound = scans state (ticket_scanned list ticket scan state) (λ after position h. scan_grows draw state list ticket scan after position sound h)
