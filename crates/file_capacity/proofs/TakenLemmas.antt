-- A file takes the changes of each step.
use Rattle.std.proofs.Common.{◌≡◌, ℕ, Bool, true, false, List, [], ◌∷◌, ◌++◌, map, Result, Ok, Err, refl, ◌∙◌, subst}
use Rattle.std.specs.List.{AllByRecursion}
use Rattle.base_values.specs.declared.draw.Draw.{Draw}
use Rattle.base_tables.specs.Tables.{AreInOrder}
use Rattle.base_tables.proofs.RisingLemmas.{rising_in_order}
use Rattle.model_catalogue.specs.declared.rows.Item.{Item}
use Rattle.model_catalogue.specs.declared.rows.ItemRows.{ItemRows}
use Rattle.model_catalogue.specs.declared.rows.PricedVariation.{PricedVariation}
use Rattle.model_catalogue.specs.declared.rows.Quota.{Quota}
use Rattle.model_catalogue.specs.declared.refusal.CatalogueRefusal.{CatalogueRefusal}
use Rattle.model_catalogue.specs.declared.requests.ItemPatch.{ItemPatch}
use Rattle.model_catalogue.specs.declared.requests.NewItem.{NewItem}
use Rattle.model_catalogue.specs.declared.requests.NewQuota.{NewQuota}
use Rattle.model_catalogue.specs.declared.requests.NewVariation.{NewVariation}
use Rattle.model_catalogue.specs.declared.requests.QuotaPatch.{QuotaPatch}
use Rattle.model_catalogue.specs.ItemAdded.{item_added}
use Rattle.model_catalogue.specs.ItemChanged.{item_changed}
use Rattle.model_catalogue.specs.VariationAdded.{variation_added}
use Rattle.model_catalogue.specs.QuotaAdded.{quota_added}
use Rattle.model_catalogue.specs.Resized.{quota_resized}
use Rattle.model_catalogue.specs.CatalogueLists.{CatalogueLists}
use Rattle.model_catalogue.proofs.Added.{resized_is}
use Rattle.model_rows.specs.declared.changes.Change.{Change}
use Rattle.model_rows.specs.declared.changes.Change.TheVariants.{PutItem, PutVariation, PutQuota, PutVoucher, PutCart, PutOrder, PutPosition, PutWaiting, DropVoucher as VoucherGoes, DropCart as CartGoes, DropWaiting as EntryGoes, PutCheckinList, PutCheckin}
use Rattle.model_rows.specs.declared.rows.CartPos.{CartPos}
use Rattle.model_rows.specs.declared.rows.CheckinList.{CheckinList}
use Rattle.model_rows.specs.declared.rows.OrderPos.{OrderPos}
use Rattle.model_rows.specs.declared.rows.OrderRows.{OrderRows}
use Rattle.model_rows.specs.declared.rows.Voucher.{Voucher}
use Rattle.model_rows.specs.declared.rows.Waiting.{Waiting}
use Rattle.model_rows.specs.Consumed.{carts_consumed}
use Rattle.model_rows.specs.Due.{dead_carts}
use Rattle.model_rows.specs.Lists.{State}
use Rattle.model_rows.proofs.EachRow.{all-row_at}
use Rattle.model_invariant.specs.Members.{HasMembers}
use Rattle.model_invariant.specs.Sound.{IsSound}
use Rattle.decide_vouchers.specs.Changed.{voucher_changed}
use Rattle.decide_vouchers.specs.Deleted.{voucher_deleted}
use Rattle.decide_vouchers.specs.Imported.{import_changes, rows_imported}
use Rattle.decide_vouchers.specs.Made.{voucher_made}
use Rattle.decide_orders.specs.Bulk.{bulk_changes, many_added}
use Rattle.decide_orders.specs.Carts.{position_added}
use Rattle.decide_orders.specs.Created.{order_changes, order_created}
use Rattle.decide_orders.specs.Dropped.{position_dropped}
use Rattle.decide_orders.specs.Expired.{expired_rows, orders_expired}
use Rattle.decide_orders.specs.Moves.{order_moved}
use Rattle.decide_waiting.specs.Joined.{entry_joined}
use Rattle.decide_waiting.specs.Changed.{entry_changed}
use Rattle.decide_waiting.specs.Left.{entry_left}
use Rattle.decide_waiting.specs.Sending.{voucher_sent, with_sent}
use Rattle.decide_waiting.specs.Serving.{all_changes, entries_served, served_changes}
use Rattle.decide_door.specs.ListAdded.{list_added}
use Rattle.decide_door.specs.Scanned.{puts_by, scan_puts, ticket_scanned, verdict_of}
use Rattle.decide_door.specs.declared.verdict.Admission.{Admission}
use Rattle.decide_door.specs.declared.verdict.Admission.TheVariants as admission
use Rattle.decide_door.proofs.Added.{added_is}
use Rattle.model_commands.specs.declared.carts.Entry.{Entry}
use Rattle.model_commands.specs.declared.carts.NewCart.{NewCart}
use Rattle.model_commands.specs.declared.carts.Outcome.{Outcome}
use Rattle.model_commands.specs.declared.carts.Outcome.TheVariants as outcomes
use Rattle.model_commands.specs.declared.doors.DoorRefusal.{DoorRefusal}
use Rattle.model_commands.specs.declared.doors.NewCheckinList.{NewCheckinList}
use Rattle.model_commands.specs.declared.doors.Scan.{Scan}
use Rattle.model_commands.specs.declared.doors.Ticket.{Ticket}
use Rattle.model_commands.specs.declared.orders.Move.{Move}
use Rattle.model_commands.specs.declared.orders.NewOrder.{NewOrder}
use Rattle.model_commands.specs.declared.orders.OrderRefusal.{OrderRefusal}
use Rattle.model_commands.specs.declared.replies.Reply.{Reply}
use Rattle.model_commands.specs.declared.requests.Command.{Command}
use Rattle.model_commands.specs.declared.requests.Command.TheVariants.{AddItem, ChangeItem, AddVariation, AddQuota, ResizeQuota, AddVoucher, ChangeVoucher, DropVoucher, ImportVouchers, AddCart, AddCarts, DropCart, AddOrder, MoveOrder, AddWaiting, ChangeWaiting, DropWaiting, SendVoucher, Periodic, AddCheckinList, Redeem}
use Rattle.model_commands.specs.declared.vouchers.NewVoucher.{NewVoucher}
use Rattle.model_commands.specs.declared.vouchers.Verdict.{Verdict}
use Rattle.model_commands.specs.declared.vouchers.Verdict.TheVariants as verdicts
use Rattle.model_commands.specs.declared.vouchers.VoucherPatch.{VoucherPatch}
use Rattle.model_commands.specs.declared.vouchers.VoucherRefusal.{VoucherRefusal}
use Rattle.model_commands.specs.declared.waiting.NewWaiting.{NewWaiting}
use Rattle.model_commands.specs.declared.waiting.WaitingPatch.{WaitingPatch}
use Rattle.model_commands.specs.declared.waiting.WaitingRefusal.{WaitingRefusal}
use Rattle.office_step.specs.Changes.{changes_of, sending_changes}
use Rattle.office_step.specs.PeriodicWork.{pending_ended, periodic_changes}
use Rattle.office_step.specs.ShownRows.{show_voucher}
use Rattle.office_step.specs.Step.{item_step, item_change_step, variation_step, quota_step, resize_step, voucher_step, voucher_change_step, voucher_drop_step, cart_step, cart_drop_step, bulk_step, order_step, move_step, join_step, priority_step, leave_step, send_step, checkin_list_step, redeem_step, step_now, moment_at}
use Rattle.office_step.proofs.Members.{added_members}
use Rattle.office_runs.specs.Runs.{Arrival, IsFitArrival, office_stepped, trace}
use Rattle.office_runs.proofs.Runs.{sound_at, sound_after}
use Rattle.file_meaning.specs.Lawful.{puts_come_first}
use Rattle.file_meaning.specs.Stands.{IsRising, MembersRise}
use Rattle.file_capacity.specs.Taken.{IsTaken, TakesItsChanges}

-- ---- changes that a file takes whatever they are

-- it puts no members, and no voucher goes
abbrev is_plain : Change → Bool
is_plain (PutQuota row) = false
is_plain (VoucherGoes id) = false
is_plain (PutCheckinList row) = false
is_plain change = true

abbrev ArePlain : List Change → Type 0
ArePlain changes = AllByRecursion (λ (c : Change). is_plain c ≡ true) changes

plain_rises : (change : Change) → is_plain change ≡ true → IsRising change
plain_rises (PutQuota row) e = absurd cc
plain_rises (PutCheckinList row) e = absurd cc
plain_rises (VoucherGoes id) e = absurd cc
plain_rises (PutItem row) e = tt
plain_rises (PutVariation row) e = tt
plain_rises (PutVoucher row) e = tt
plain_rises (PutCart row) e = tt
plain_rises (PutOrder row) e = tt
plain_rises (PutPosition row) e = tt
plain_rises (PutWaiting row) e = tt
plain_rises (CartGoes id) e = tt
plain_rises (EntryGoes id) e = tt
plain_rises (PutCheckin row) e = tt

plain_first : (change : Change) (more : List Change) → is_plain change ≡ true → puts_come_first false (change ∷ more) ≡ puts_come_first false more
plain_first (PutQuota row) more e = absurd cc
plain_first (PutCheckinList row) more e = absurd cc
plain_first (VoucherGoes id) more e = absurd cc
plain_first (PutItem row) more e = refl
plain_first (PutVariation row) more e = refl
plain_first (PutVoucher row) more e = refl
plain_first (PutCart row) more e = refl
plain_first (PutOrder row) more e = refl
plain_first (PutPosition row) more e = refl
plain_first (PutWaiting row) more e = refl
plain_first (CartGoes id) more e = refl
plain_first (EntryGoes id) more e = refl
plain_first (PutCheckin row) more e = refl

plain : (changes : List Change) → ArePlain changes → IsTaken changes
plain [] h = record { rising = tt; first = refl }
plain (change ∷ changes) h =
    let rest = plain changes h.1 in
    record { rising = (plain_rises change h.0, rest.rising); first = plain_first change changes h.0 ∙ rest.first }

none : IsTaken []
none = record { rising = tt; first = refl }

joined : (xs ys : List Change) → ArePlain xs → ArePlain ys → ArePlain (xs ++ ys)
joined [] ys h k = k
joined (x ∷ xs) ys h k = (h.0, joined xs ys h.1 k)

mapped : {A : Type 0} (f : A → Change) → ((a : A) → is_plain (f a) ≡ true) → (xs : List A) → ArePlain (map f xs)
mapped f all [] = tt
mapped f all (x ∷ xs) = (all x, mapped f all xs)

imported : (verdicts : List Verdict) → ArePlain (import_changes verdicts)
imported [] = tt
imported (verdicts.Added row ∷ more) = (refl, imported more)
imported (verdicts.Same ∷ more) = imported more
imported (verdicts.Other ∷ more) = imported more
imported (verdicts.Refused refusal ∷ more) = imported more

carts_put : (told : List Outcome) → ArePlain (bulk_changes told)
carts_put [] = tt
carts_put (outcomes.Added row ∷ more) = (refl, carts_put more)
carts_put (outcomes.Refused refusal ∷ more) = carts_put more
carts_put (outcomes.Faulty fault ∷ more) = carts_put more

sent : (draw : Draw) (entries : List Waiting) (state : State) → ArePlain (all_changes draw entries state)
sent draw [] state = tt
sent draw (e ∷ es) state = (refl, (refl, sent draw es (with_sent draw e state)))

served_so : (draw : Draw) (state : State) → ArePlain (served_changes draw state)
unfolding served_changes
served_so draw state = sent draw (entries_served state) state

worked : (draw : Draw) (state : State) → ArePlain (periodic_changes draw state)
worked draw state =
    joined _ _ (joined _ _ (mapped PutOrder (λ _. refl) (expired_rows state.moment state.lists)) (mapped CartGoes (λ _. refl) (dead_carts (orders_expired state).moment (orders_expired state).lists)))
    (served_so draw (pending_ended state))

let_in : (list : ℕ) (scan : Scan) (state : State) (v : Result Admission DoorRefusal) → ArePlain (puts_by list scan state v)
let_in list scan state (Err refusal) = tt
let_in list scan state (Ok (admission.Again position)) = tt
let_in list scan state (Ok (admission.New position)) = (refl, tt)

scanned_so : (list : ℕ) (ticket : Ticket) (scan : Scan) (state : State) → ArePlain (scan_puts list ticket scan state)
unfolding scan_puts
scanned_so list ticket scan state = let_in list scan state (verdict_of list ticket scan state)

ordered : (carts : List (List ℕ)) (made : OrderRows) (state : State) → ArePlain (order_changes carts made.order made.positions state.lists)
ordered carts made state = joined _ _ (mapped CartGoes (λ _. refl) (carts_consumed carts state.lists)) (refl, mapped PutPosition (λ _. refl) made.positions)

-- ---- quotas

-- a new quota's members rise
added_rises : (new : NewQuota) (id : ℕ) (lists : CatalogueLists) (row : Quota) → quota_added new id lists ≡ Ok row → MembersRise row
added_rises new id lists row h =
    let its = added_members new id lists row h in
    record { items = its.items_rise; variations = its.variations_rise }

-- so do those of one that is resized, as they did before
resized_rises : (id : ℕ) (patch : QuotaPatch) (state : State) (row : Quota) → IsSound state → quota_resized id patch state.lists.catalogue ≡ Ok row → MembersRise row
resized_rises id patch state row sound h =
    let r = resized_is id patch state.lists.catalogue row h in
    let old = all-row_at (λ (q : Quota). q.id) (HasMembers state.lists.catalogue) id state.lists.catalogue.quotas r.old r.stood sound.members in
    subst MembersRise r.is_row (record { items = old.items_rise; variations = old.variations_rise })

-- ---- each step

abbrev Taken : Command → Draw → State → State × Reply → Type 0
Taken command draw state made = IsTaken (changes_of command draw state made.1)

module _ (draw : Draw) (state : State) where
  item_taken : (new : NewItem) (r : Result ItemRows CatalogueRefusal) → Taken (AddItem new) draw state (item_step state r)
  item_taken new (Err refusal) = none
  item_taken new (Ok made) = plain _ (refl, mapped PutVariation (λ _. refl) made.variations)

  item_change_taken : (id : ℕ) (patch : ItemPatch) (r : Result Item CatalogueRefusal) → Taken (ChangeItem id patch) draw state (item_change_step state r)
  item_change_taken id patch (Err refusal) = none
  item_change_taken id patch (Ok row) = plain _ (refl, tt)

  variation_taken : (item : ℕ) (new : NewVariation) (r : Result PricedVariation CatalogueRefusal) → Taken (AddVariation item new) draw state (variation_step state r)
  variation_taken item new (Err refusal) = none
  variation_taken item new (Ok made) = plain _ (refl, tt)

  quota_taken : (new : NewQuota) (r : Result Quota CatalogueRefusal) → quota_added new state.next.quota state.lists.catalogue ≡ r → Taken (AddQuota new) draw state (quota_step state r)
  quota_taken new (Err refusal) h = none
  quota_taken new (Ok row) h = record { rising = (added_rises new state.next.quota state.lists.catalogue row h, tt); first = refl }

  resize_taken : (id : ℕ) (patch : QuotaPatch) → IsSound state → (r : Result Quota CatalogueRefusal) → quota_resized id patch state.lists.catalogue ≡ r → Taken (ResizeQuota id patch) draw state (resize_step state r)
  resize_taken id patch sound (Err refusal) h = none
  resize_taken id patch sound (Ok row) h = record { rising = (resized_rises id patch state row sound h, tt); first = refl }

  voucher_taken : (new : NewVoucher) (r : Result (State × Voucher) VoucherRefusal) → Taken (AddVoucher new) draw state (voucher_step state r)
  unfolding show_voucher
  voucher_taken new (Err refusal) = none
  voucher_taken new (Ok (after, row)) = plain _ (refl, tt)

  voucher_change_taken : (id : ℕ) (patch : VoucherPatch) (r : Result (State × Voucher) VoucherRefusal) → Taken (ChangeVoucher id patch) draw state (voucher_change_step state r)
  unfolding show_voucher
  voucher_change_taken id patch (Err refusal) = none
  voucher_change_taken id patch (Ok (after, row)) = plain _ (refl, tt)

  -- a voucher that goes goes alone
  voucher_drop_taken : (id : ℕ) (r : Result State VoucherRefusal) → Taken (DropVoucher id) draw state (voucher_drop_step state r)
  voucher_drop_taken id (Err refusal) = none
  voucher_drop_taken id (Ok after) = record { rising = (tt, tt); first = refl }

  cart_taken : (new : NewCart) (r : Result (State × CartPos) OrderRefusal) → Taken (AddCart new) draw state (cart_step state r)
  cart_taken new (Err refusal) = none
  cart_taken new (Ok (after, row)) = plain _ (refl, tt)

  bulk_taken : (entries : List Entry) (r : Result (State × List Outcome) OrderRefusal) → Taken (AddCarts entries) draw state (bulk_step state r)
  bulk_taken entries (Err refusal) = none
  bulk_taken entries (Ok (after, told)) = plain _ (carts_put told)

  cart_drop_taken : (id : ℕ) (r : Result State OrderRefusal) → Taken (DropCart id) draw state (cart_drop_step state r)
  cart_drop_taken id (Err refusal) = none
  cart_drop_taken id (Ok after) = plain _ (refl, tt)

  order_taken : (new : NewOrder) (r : Result (State × OrderRows) OrderRefusal) → Taken (AddOrder new) draw state (order_step state r)
  order_taken new (Err refusal) = none
  order_taken new (Ok (after, made)) = plain _ (ordered new.consume_carts made state)

  move_taken : (number : ℕ) (change : Move) (r : Result (State × OrderRows) OrderRefusal) → Taken (MoveOrder number change) draw state (move_step state r)
  move_taken number change (Err refusal) = none
  move_taken number change (Ok (after, moved)) = plain _ (refl, tt)

  join_taken : (new : NewWaiting) (r : Result (State × Waiting) WaitingRefusal) → Taken (AddWaiting new) draw state (join_step state r)
  join_taken new (Err refusal) = none
  join_taken new (Ok (after, row)) = plain _ (refl, tt)

  priority_taken : (id : ℕ) (patch : WaitingPatch) (r : Result (State × Waiting) WaitingRefusal) → Taken (ChangeWaiting id patch) draw state (priority_step state r)
  priority_taken id patch (Err refusal) = none
  priority_taken id patch (Ok (after, row)) = plain _ (refl, tt)

  leave_taken : (id : ℕ) (r : Result State WaitingRefusal) → Taken (DropWaiting id) draw state (leave_step state r)
  leave_taken id (Err refusal) = none
  leave_taken id (Ok after) = plain _ (refl, tt)

  sending_plain : (made : Result (State × Waiting) WaitingRefusal) → ArePlain (sending_changes draw state made)
  sending_plain (Err refusal) = tt
  sending_plain (Ok (after, row)) = (refl, (refl, tt))

  send_taken : (id : ℕ) (r : Result (State × Waiting) WaitingRefusal) → Taken (SendVoucher id) draw state (send_step state r)
  send_taken id (Err refusal) = none
  send_taken id (Ok (after, row)) = plain _ (sending_plain (voucher_sent id draw state))

  list_taken : (new : NewCheckinList) (r : Result (State × CheckinList) DoorRefusal) → list_added new state ≡ r → Taken (AddCheckinList new) draw state (checkin_list_step state r)
  list_taken new (Err refusal) h = none
  list_taken new (Ok (after, row)) h =
      let its = added_is new state after row h in
      record { rising = (subst (λ (l : CheckinList). AreInOrder (λ n. n) l.limit_products) its.is_row (rising_in_order new.limit_products), tt); first = refl }

  redeem_taken : (list : ℕ) (ticket : Ticket) (scan : Scan) (r : Result (State × OrderPos) DoorRefusal) → Taken (Redeem list ticket scan) draw state (redeem_step state r)
  redeem_taken list ticket scan (Err refusal) = none
  redeem_taken list ticket scan (Ok (after, position)) = plain _ (scanned_so list ticket scan state)

step_taken : (command : Command) (draw : Draw) (state : State) → IsSound state → Taken command draw state (step_now command draw state)
step_taken (AddItem new) draw state sound = item_taken draw state new (item_added new state.next.item state.next.variation state.lists.catalogue)
step_taken (ChangeItem id patch) draw state sound = item_change_taken draw state id patch (item_changed id patch state.lists.catalogue)
step_taken (AddVariation item new) draw state sound = variation_taken draw state item new (variation_added item new state.next.variation state.lists.catalogue)
step_taken (AddQuota new) draw state sound = quota_taken draw state new (quota_added new state.next.quota state.lists.catalogue) refl
step_taken (ResizeQuota id patch) draw state sound = resize_taken draw state id patch sound (quota_resized id patch state.lists.catalogue) refl
step_taken (AddVoucher new) draw state sound = voucher_taken draw state new (voucher_made new draw state)
step_taken (ChangeVoucher id patch) draw state sound = voucher_change_taken draw state id patch (voucher_changed id patch state)
step_taken (DropVoucher id) draw state sound = voucher_drop_taken draw state id (voucher_deleted id state)
step_taken (ImportVouchers vouchers) draw state sound = plain _ (imported (rows_imported vouchers draw state).1)
step_taken (AddCart new) draw state sound = cart_taken draw state new (position_added new draw state)
step_taken (AddCarts entries) draw state sound = bulk_taken draw state entries (many_added entries draw state)
step_taken (DropCart id) draw state sound = cart_drop_taken draw state id (position_dropped id state)
step_taken (AddOrder new) draw state sound = order_taken draw state new (order_created new draw state)
step_taken (MoveOrder number change) draw state sound = move_taken draw state number change (order_moved number change state)
step_taken (AddWaiting new) draw state sound = join_taken draw state new (entry_joined new state)
step_taken (ChangeWaiting id patch) draw state sound = priority_taken draw state id patch (entry_changed id patch state)
step_taken (DropWaiting id) draw state sound = leave_taken draw state id (entry_left id state)
step_taken (SendVoucher id) draw state sound = send_taken draw state id (voucher_sent id draw state)
step_taken Periodic draw state sound = plain _ (worked draw state)
step_taken (AddCheckinList new) draw state sound = list_taken draw state new (list_added new state) refl
step_taken (Redeem list ticket scan) draw state sound = redeem_taken draw state list ticket scan (ticket_scanned list ticket scan state)

pub all_taken : (arrivals : List Arrival) (state : State) → AllByRecursion IsFitArrival arrivals → IsSound state → AllByRecursion TakesItsChanges (trace arrivals state)
all_taken [] state fit sound = tt
all_taken (arrival ∷ arrivals) state fit sound = (
  step_taken arrival.command arrival.draw (record state { moment = moment_at arrival.clock state }) (sound_at arrival state sound),
  all_taken arrivals (office_stepped arrival state).after fit.1 (sound_after arrival state fit.0 sound),
)
