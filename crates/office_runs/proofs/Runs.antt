-- Laws of every step, and of every run by induction.
use Rattle.std.proofs.Common.{◌≡◌, ℕ, ◌≤◌, Bool, true, false, List, [], ◌∷◌, map, Option, Some, None, Result, Ok, Err, refl, sym, ap, ◌∙◌, subst, arith}
use Rattle.std.specs.Prelude.{max, min, is_some, ◌||◌, length, nat_lt, if◌then◌else◌}
use Rattle.std.specs.List.{AllByRecursion, list_any}
use Rattle.base_values.specs.declared.draw.Draw.{Draw}
use Rattle.base_values.specs.Moments.{last_moment}
use Rattle.model_catalogue.specs.declared.rows.Item.{Item}
use Rattle.model_catalogue.specs.declared.rows.ItemRows.{ItemRows}
use Rattle.model_catalogue.specs.declared.rows.PricedVariation.{PricedVariation}
use Rattle.model_catalogue.specs.declared.rows.Quota.{Quota}
use Rattle.model_catalogue.specs.declared.refusal.CatalogueRefusal.{CatalogueRefusal}
use Rattle.model_catalogue.specs.CatalogueLists.{quota_at}
use Rattle.model_catalogue.specs.ItemAdded.{item_added}
use Rattle.model_catalogue.specs.ItemChanged.{item_changed}
use Rattle.model_catalogue.specs.VariationAdded.{variation_added}
use Rattle.model_catalogue.specs.QuotaAdded.{quota_added}
use Rattle.model_catalogue.specs.Resized.{quota_resized}
use Rattle.model_rows.specs.declared.rows.CartPos.{CartPos}
use Rattle.model_rows.specs.declared.rows.OrderPos.{OrderPos}
use Rattle.model_rows.specs.declared.rows.OrderRows.{OrderRows}
use Rattle.model_rows.specs.declared.rows.Own.{Own}
use Rattle.model_rows.specs.declared.rows.Own.TheVariants.{Cart as OwnCart, Position as OwnPosition}
use Rattle.model_rows.specs.declared.rows.Voucher.{Voucher}
use Rattle.model_rows.specs.declared.rows.Waiting.{Waiting}
use Rattle.model_rows.specs.declared.rows.CheckinList.{CheckinList}
use Rattle.model_rows.specs.declared.changes.Change.TheVariants.{PutItem, PutQuota}
use Rattle.model_rows.specs.Change.{change_applied}
use Rattle.model_rows.specs.Lists.{Lists, State}
use Rattle.model_rows.specs.Numbered.{with_item, with_variation, with_quota}
use Rattle.model_rows.specs.Over.{first_over, ignores}
use Rattle.model_invariant.specs.Sound.{IsSound}
use Rattle.model_rows.specs.Takes.{places_used, TakesNoMore}
use Rattle.model_rows.proofs.EachRow.{all_of}
use Rattle.model_invariant.proofs.Sound.{sound_later}
use Rattle.model_commands.specs.declared.vouchers.VoucherRefusal.{VoucherRefusal}
use Rattle.decide_vouchers.specs.Made.{voucher_made}
use Rattle.decide_vouchers.specs.Changed.{voucher_changed}
use Rattle.decide_vouchers.specs.Deleted.{voucher_deleted}
use Rattle.model_commands.specs.declared.vouchers.NewVoucher.{NewVoucher}
use Rattle.model_commands.specs.declared.vouchers.Verdict.{Verdict}
use Rattle.decide_vouchers.specs.Imported.{namesake, rows_imported}
use Rattle.decide_vouchers.proofs.Made.{made_not_over, made_takes_no_more}
use Rattle.decide_vouchers.proofs.Changed.{changed_not_over, changed_takes_no_more}
use Rattle.decide_vouchers.proofs.Deleted.{deleted_lowers}
use Rattle.model_commands.specs.declared.orders.OrderRefusal.{OrderRefusal}
use Rattle.model_commands.specs.declared.carts.Outcome.{Outcome}
use Rattle.model_commands.specs.declared.carts.Entry.{Entry}
use Rattle.model_commands.specs.declared.carts.Entry.TheVariants.{New, Faulty}
use Rattle.model_commands.specs.declared.orders.OrderRefusal.TheVariants.{TooMany}
use Rattle.decide_orders.specs.Bulk.{most_entries, all_added, many_added}
use Rattle.decide_orders.specs.Carts.{position_added}
use Rattle.decide_orders.specs.Created.{order_created}
use Rattle.decide_orders.specs.Moves.{order_moved}
use Rattle.decide_orders.specs.Dropped.{position_dropped}
use Rattle.decide_orders.proofs.BulkSound.{many_is}
use Rattle.decide_orders.proofs.Added.{added_none_over, added_takes_no_more}
use Rattle.decide_orders.proofs.Dropped.{dropped_lowers}
use Rattle.model_commands.specs.declared.requests.Command.{Command}
use Rattle.model_commands.specs.declared.requests.Command.TheVariants.{AddItem, ChangeItem, AddVariation, AddQuota, ResizeQuota, AddVoucher, ChangeVoucher, DropVoucher, ImportVouchers, AddCart, AddCarts, DropCart, AddOrder, MoveOrder, AddWaiting, ChangeWaiting, DropWaiting, SendVoucher, Periodic, AddCheckinList, Redeem}
use Rattle.model_commands.specs.declared.doors.DoorRefusal.{DoorRefusal}
use Rattle.model_commands.specs.declared.waiting.PeriodicCounts.{PeriodicCounts}
use Rattle.model_commands.specs.declared.waiting.WaitingRefusal.{WaitingRefusal}
use Rattle.decide_waiting.specs.Joined.{entry_joined}
use Rattle.decide_waiting.specs.Changed.{entry_changed}
use Rattle.decide_waiting.specs.Left.{entry_left}
use Rattle.decide_waiting.specs.Sending.{voucher_sent}
use Rattle.decide_waiting.proofs.Leaves.{changed_keeps_used, left_lowers}
use Rattle.decide_waiting.proofs.Sent.{sending_keeps_used}
use Rattle.decide_door.specs.ListAdded.{list_added}
use Rattle.decide_door.specs.Scanned.{ticket_scanned}
use Rattle.decide_door.proofs.Added.{added_used as list_used}
use Rattle.model_commands.specs.declared.requests.Kind.{Kind}
use Rattle.model_commands.specs.declared.replies.Refusal.{Refusal}
use Rattle.model_commands.specs.declared.replies.Reply.{Reply}
use Rattle.model_commands.specs.declared.replies.Reply.TheVariants.{Made, Found, Gone, Periodic as TheCounts, Admitted, Refused}
use Rattle.model_commands.specs.declared.replies.Shown.TheVariants as rows
use Rattle.office_step.specs.ShownRows.{show_voucher}
use Rattle.office_step.specs.Step.{step, step_now, item_step, item_change_step, variation_step, quota_step, resize_step, voucher_step, voucher_change_step, voucher_drop_step, import_step, cart_step, bulk_step, order_step, move_step, cart_drop_step, join_step, priority_step, leave_step, send_step, periodic_step, checkin_list_step, redeem_step, moment_at}
use Rattle.office_step.specs.PeriodicWork.{periodic_done}
use Rattle.office_runs.specs.NewIds.{AllIdsGoOn}
use Rattle.office_runs.specs.Takings.{OwnRow, cart_own, position_own, cart_taken, order_taken, voucher_taken, brings_back, rows_taken, voucher_ignores, is_joined, may_raise, fills_again}
use Rattle.office_runs.specs.Runs.{Arrival, IsFitArrival, Stepped, office_stepped, office_at, trace, after_run, alone, made_alone, import_trace, steps_of}
use Rattle.office_runs.specs.Promises.{Each, NoneOver, StaysWithin, RaisesNothing, GivesNewIds, LeavesSound, NeverGoesBack, StoresItsMoment, ChangesNothingElse}
use Rattle.office_step.proofs.SoundSteps.{sound_step, step_sound}
use Rattle.office_runs.proofs.OrderSteps.{IsOrderFine, made_fine, moved_fine}
use Rattle.office_runs.proofs.NewIds.{all_same, all_more, item_ids, item_change_ids, variation_ids, quota_ids, resize_ids, made_ids, rows_ids, changed_ids, deleted_ids, added_ids, entries_ids, dropped_ids, joined_ids, changed_entry_ids, left_ids, sending_ids}
use Rattle.office_runs.proofs.QuietSteps.{worked_ids, worked_lowers, list_ids, scanned_ids, scan_lowers}
use Rattle.office_runs.proofs.CatalogueLowers.{as_before, item_lowers, item_change_lowers, variation_lowers, quota_lowers, resize_lowers}

-- what holds of each step, from the office at its moment: where it took places, with these own rows; and else, where it is a
-- step by itself, and may raise no usage, of quotas of which it takes no places again
record IsFine (state : State) (made : State × Reply) (own : Option (List OwnRow)) (itself may : Bool) (again : Quota → Bool) : Type 0 where
  refused : (kind : Kind) (refusal : Refusal) → made.1 ≡ Refused kind refusal → made.0 ≡ state
  ids : AllIdsGoOn state made.0
  none_over : (rows : List OwnRow) → own ≡ Some rows → first_over state.lists made.0.lists state.moment (map (λ r. r.own) rows) ≡ None
  within : IsSound state → (rows : List OwnRow) → own ≡ Some rows → list_any (λ r. ignores made.0.lists r.voucher) rows ≡ false → TakesNoMore state made.0
  lowers : IsSound state → itself ≡ true → own ≡ None → may ≡ false → (quota : Quota) → quota_at quota.id state.lists.catalogue ≡ Some quota → again quota ≡ false → places_used made.0 quota ≤ places_used state quota

no_list : (own : List OwnRow) → (let none : Option (List OwnRow) = None in none ≡ Some own) → ⊥
no_list own e = cc

a_list : (own : List OwnRow) → (let all : Option (List OwnRow) = Some own in all ≡ None) → ⊥
a_list own e = cc

true_and_false : (b : Bool) → b ≡ true → b ≡ false → ⊥
true_and_false b e f = cc (e, f)

no_more : (n : ℕ) → n ≤ n
no_more n = omega arith

same_list : (a b : List OwnRow) → (let all : Option (List OwnRow) = Some a in all ≡ Some b) → a ≡ b
same_list a b e = cc

none_or_own : (free : Bool) (own : List OwnRow) → (if free then None else Some []) ≡ Some own → (free ≡ false) × ([] ≡ own)
none_or_own true own e = absurd (cc)
none_or_own false own e = (refl, cc)

-- a voucher takes places or ignores quotas
takes_or_ignores : (free : Bool) → (let own : Option (List OwnRow) = if free then None else Some [] in own ≡ None) → free ≡ false → ⊥
takes_or_ignores true e f = cc (f)
takes_or_ignores false e f = a_list [] e

-- where no row passes a test, each fails it
each_fails : {T : Type 0} (test : T → Bool) (rows : List T) → list_any test rows ≡ false → AllByRecursion (λ row. test row ≡ false) rows
each_fails test [] e = tt
each_fails test (row ∷ rows) e = by_test (test row) refl e (each_fails test rows)
  where
    by_test : (passes : Bool) → test row ≡ passes → (passes || list_any test rows) ≡ false → (list_any test rows ≡ false → AllByRecursion (λ row. test row ≡ false) rows) → AllByRecursion (λ row. test row ≡ false) (row ∷ rows)
    by_test true is e more = absurd (cc (e))
    by_test false is e more = (is, more e)

-- the own rows of an order are its positions
positions_are : (positions : List OrderPos) → map (λ p. OwnPosition p.id) positions ≡ map (λ r. r.own) (map position_own positions)
positions_are [] = refl
positions_are (position ∷ positions) = ap (λ (more : List Own). OwnPosition position.id ∷ more) (positions_are positions)

positions_heed : (lists : Lists) (positions : List OrderPos) → AllByRecursion (λ r. ignores lists r.voucher ≡ false) (map position_own positions) → AllByRecursion (λ p. ignores lists p.voucher ≡ false) positions
positions_heed lists [] h = tt
positions_heed lists (position ∷ positions) h = (h.0, positions_heed lists positions h.1)

-- none of a quota
abbrev never : Quota → Bool
never quota = false

module _ (state : State) where
  refused_fine : (kind : Kind) (refusal : Refusal) (itself may : Bool) (again : Quota → Bool) → IsFine state (state, Refused kind refusal) None itself may again
  refused_fine kind refusal itself may again = record {
    refused = λ k r e. refl;
    ids = all_same state;
    none_over = λ rows e. absurd (no_list rows e);
    within = λ sound rows e. absurd (no_list rows e);
    lowers = λ sound one e may quota stands none. no_more (places_used state quota);
  }

  item_fine : (r : Result ItemRows CatalogueRefusal) → ((made : ItemRows) → r ≡ Ok made → AllIdsGoOn state (with_item made state)) → IsFine state (item_step state r) None true false never
  item_fine (Err refusal) ids = refused_fine _ _ _ _ _
  item_fine (Ok made) ids = record {
    refused = λ k r e. absurd (cc);
    ids = ids made refl;
    none_over = λ rows e. absurd (no_list rows e);
    within = λ sound rows e. absurd (no_list rows e);
    lowers = λ sound one e may quota stands none. item_lowers state quota made;
  }

  item_change_fine : (r : Result Item CatalogueRefusal) → ((row : Item) → r ≡ Ok row → AllIdsGoOn state (change_applied (PutItem row) state)) → IsFine state (item_change_step state r) None true false never
  item_change_fine (Err refusal) ids = refused_fine _ _ _ _ _
  item_change_fine (Ok row) ids = record {
    refused = λ k r e. absurd (cc);
    ids = ids row refl;
    none_over = λ rows e. absurd (no_list rows e);
    within = λ sound rows e. absurd (no_list rows e);
    lowers = λ sound one e may quota stands none. item_change_lowers state quota row;
  }

  variation_fine : (r : Result PricedVariation CatalogueRefusal) → ((made : PricedVariation) → r ≡ Ok made → AllIdsGoOn state (with_variation made.row state)) → IsFine state (variation_step state r) None true false never
  variation_fine (Err refusal) ids = refused_fine _ _ _ _ _
  variation_fine (Ok made) ids = record {
    refused = λ k r e. absurd (cc);
    ids = ids made refl;
    none_over = λ rows e. absurd (no_list rows e);
    within = λ sound rows e. absurd (no_list rows e);
    lowers = λ sound one e may quota stands none. variation_lowers state quota made.row;
  }

  quota_fine : (r : Result Quota CatalogueRefusal) → ((row : Quota) → r ≡ Ok row → AllIdsGoOn state (with_quota row state)) → IsFine state (quota_step state r) None true false never
  quota_fine (Err refusal) ids = refused_fine _ _ _ _ _
  quota_fine (Ok row) ids = record {
    refused = λ k r e. absurd (cc);
    ids = ids row refl;
    none_over = λ rows e. absurd (no_list rows e);
    within = λ sound rows e. absurd (no_list rows e);
    lowers = λ sound one e may quota stands none. quota_lowers state quota row;
  }

  resize_fine : (r : Result Quota CatalogueRefusal) → ((row : Quota) → r ≡ Ok row → AllIdsGoOn state (change_applied (PutQuota row) state)) → IsFine state (resize_step state r) None true false never
  resize_fine (Err refusal) ids = refused_fine _ _ _ _ _
  resize_fine (Ok row) ids = record {
    refused = λ k r e. absurd (cc);
    ids = ids row refl;
    none_over = λ rows e. absurd (no_list rows e);
    within = λ sound rows e. absurd (no_list rows e);
    lowers = λ sound one e may quota stands none. resize_lowers state quota row;
  }

  -- where a voucher was made or changed
  record IsVoucherFine (after : State) (row : Voucher) : Type 0 where
    ids : AllIdsGoOn state after
    not_over : row.allow_ignore_quota ≡ false → first_over state.lists after.lists state.moment [] ≡ None
    within : row.allow_ignore_quota ≡ false → TakesNoMore state after

  voucher_not_over : (after : State) (row : Voucher) → IsVoucherFine after row → (rows : List OwnRow) → (if row.allow_ignore_quota then None else Some []) ≡ Some rows → first_over state.lists after.lists state.moment (map (λ r. r.own) rows) ≡ None
  voucher_not_over after row known rows e =
      let which = none_or_own row.allow_ignore_quota rows e in
      subst (λ (own : List OwnRow). first_over state.lists after.lists state.moment (map (λ r. r.own) own) ≡ None) which.1 (known.not_over which.0)

  voucher_fine : (r : Result (State × Voucher) VoucherRefusal) → ((after : State) (row : Voucher) → r ≡ Ok (after, row) → IsVoucherFine after row) → IsFine state (voucher_step state r) (voucher_taken r) true (voucher_ignores r) never
  unfolding show_voucher
  voucher_fine (Err refusal) known = refused_fine _ _ _ _ _
  voucher_fine (Ok (after, row)) known = record {
    refused = λ k r e. absurd (cc);
    ids = (known after row refl).ids;
    none_over = voucher_not_over after row (known after row refl);
    within = λ sound rows e heeds. (known after row refl).within (none_or_own row.allow_ignore_quota rows e).0;
    lowers = λ sound one e may. absurd (takes_or_ignores row.allow_ignore_quota e may);
  }

  voucher_change_fine : (r : Result (State × Voucher) VoucherRefusal) → ((after : State) (row : Voucher) → r ≡ Ok (after, row) → IsVoucherFine after row) → IsFine state (voucher_change_step state r) (voucher_taken r) true (voucher_ignores r) never
  unfolding show_voucher
  voucher_change_fine (Err refusal) known = refused_fine _ _ _ _ _
  voucher_change_fine (Ok (after, row)) known = record {
    refused = λ k r e. absurd (cc);
    ids = (known after row refl).ids;
    none_over = voucher_not_over after row (known after row refl);
    within = λ sound rows e heeds. (known after row refl).within (none_or_own row.allow_ignore_quota rows e).0;
    lowers = λ sound one e may. absurd (takes_or_ignores row.allow_ignore_quota e may);
  }

  voucher_drop_fine : (r : Result State VoucherRefusal) → ((after : State) → r ≡ Ok after → AllIdsGoOn state after) → ((after : State) → r ≡ Ok after → (quota : Quota) → places_used after quota ≤ places_used state quota) → IsFine state (voucher_drop_step state r) None true false never
  voucher_drop_fine (Err refusal) ids lowers = refused_fine _ _ _ _ _
  voucher_drop_fine (Ok after) ids lowers = record {
    refused = λ k r e. absurd (cc);
    ids = ids after refl;
    none_over = λ rows e. absurd (no_list rows e);
    within = λ sound rows e. absurd (no_list rows e);
    lowers = λ sound one e may quota stands none. lowers after refl quota;
  }

  -- where a cart position was added
  record IsCartFine (after : State) (row : CartPos) : Type 0 where
    ids : AllIdsGoOn state after
    not_over : first_over state.lists after.lists state.moment (OwnCart row.id ∷ []) ≡ None
    within : ignores after.lists row.voucher ≡ false → TakesNoMore state after

  cart_not_over : (after : State) (row : CartPos) → IsCartFine after row → (rows : List OwnRow) → Some (cart_own row ∷ []) ≡ Some rows → first_over state.lists after.lists state.moment (map (λ r. r.own) rows) ≡ None
  cart_not_over after row known rows e =
      subst (λ (own : List OwnRow). first_over state.lists after.lists state.moment (map (λ r. r.own) own) ≡ None) (same_list (cart_own row ∷ []) rows e) known.not_over

  cart_within : (after : State) (row : CartPos) → IsCartFine after row → (rows : List OwnRow) → Some (cart_own row ∷ []) ≡ Some rows → list_any (λ r. ignores after.lists r.voucher) rows ≡ false → TakesNoMore state after
  cart_within after row known rows e heed =
      let own : list_any (λ r. ignores after.lists r.voucher) (cart_own row ∷ []) ≡ false = ap (λ (own : List OwnRow). list_any (λ r. ignores after.lists r.voucher) own) (same_list (cart_own row ∷ []) rows e) ∙ heed in
      known.within (each_fails (λ (r : OwnRow). ignores after.lists r.voucher) (cart_own row ∷ []) own).0

  cart_fine : (r : Result (State × CartPos) OrderRefusal) → ((after : State) (row : CartPos) → r ≡ Ok (after, row) → IsCartFine after row) → IsFine state (cart_step state r) (cart_taken r) true false never
  cart_fine (Err refusal) known = refused_fine _ _ _ _ _
  cart_fine (Ok (after, row)) known = record {
    refused = λ k r e. absurd (cc);
    ids = (known after row refl).ids;
    none_over = cart_not_over after row (known after row refl);
    within = λ sound. cart_within after row (known after row refl);
    lowers = λ sound one e. absurd (a_list (cart_own row ∷ []) e);
  }

  -- where many cart positions were added
  record IsManyFine (after : State) (itself : Bool) : Type 0 where
    ids : AllIdsGoOn state after
    entries : itself ≡ false

  bulk_fine : (itself : Bool) (r : Result (State × List Outcome) OrderRefusal) → ((made : State × List Outcome) → r ≡ Ok made → IsManyFine made.0 itself) → IsFine state (bulk_step state r) None itself false never
  bulk_fine itself (Err refusal) known = refused_fine _ _ _ _ _
  bulk_fine itself (Ok (after, outcomes)) known = record {
    refused = λ k r e. absurd (cc);
    ids = (known (after, outcomes) refl).ids;
    none_over = λ rows e. absurd (no_list rows e);
    within = λ sound rows e. absurd (no_list rows e);
    lowers = λ sound one. absurd (true_and_false itself one (known (after, outcomes) refl).entries);
  }

  -- where the vouchers of a file were added
  import_fine : (made : State × List Verdict) → AllIdsGoOn state made.0 → IsFine state (import_step made) None false false never
  import_fine (after, verdicts) ids = record {
    refused = λ k r e. absurd (cc (e));
    ids = ids;
    none_over = λ rows e. absurd (no_list rows e);
    within = λ sound rows e. absurd (no_list rows e);
    lowers = λ sound one. absurd (cc (one));
  }

  module _ (after : State) (rows : OrderRows) (again : Quota → Bool) (known : IsOrderFine state after rows true again) where
    order_not_over : (own : List OwnRow) → Some (map position_own rows.positions) ≡ Some own → first_over state.lists after.lists state.moment (map (λ r. r.own) own) ≡ None
    order_not_over own e =
        let over = ap (λ (ids : List Own). first_over state.lists after.lists state.moment ids) (sym (positions_are rows.positions)) ∙ known.not_over refl in
        subst (λ (own : List OwnRow). first_over state.lists after.lists state.moment (map (λ r. r.own) own) ≡ None) (same_list (map position_own rows.positions) own e) over

    order_within : IsSound state → (own : List OwnRow) → Some (map position_own rows.positions) ≡ Some own → list_any (λ r. ignores after.lists r.voucher) own ≡ false → TakesNoMore state after
    order_within sound own e heed =
        let mine : list_any (λ r. ignores after.lists r.voucher) (map position_own rows.positions) ≡ false = ap (λ (own : List OwnRow). list_any (λ r. ignores after.lists r.voucher) own) (same_list (map position_own rows.positions) own e) ∙ heed in
        known.within refl sound (positions_heed after.lists rows.positions (each_fails (λ (r : OwnRow). ignores after.lists r.voucher) (map position_own rows.positions) mine))

  order_fine : (r : Result (State × OrderRows) OrderRefusal) → ((after : State) (rows : OrderRows) → r ≡ Ok (after, rows) → IsOrderFine state after rows true never) → IsFine state (order_step state r) (order_taken r) true false never
  order_fine (Err refusal) known = refused_fine _ _ _ _ _
  order_fine (Ok (after, rows)) known = record {
    refused = λ k r e. absurd (cc);
    ids = (known after rows refl).ids;
    none_over = order_not_over after rows _ (known after rows refl);
    within = order_within after rows _ (known after rows refl);
    lowers = λ sound one e. absurd (a_list (map position_own rows.positions) e);
  }

  move_fine : (back : Bool) (again : Quota → Bool) (r : Result (State × OrderRows) OrderRefusal) → ((after : State) (rows : OrderRows) → r ≡ Ok (after, rows) → IsOrderFine state after rows back again) → IsFine state (move_step state r) (if back then order_taken r else None) true false again
  move_fine true again (Err refusal) known = refused_fine _ _ _ _ _
  move_fine false again (Err refusal) known = refused_fine _ _ _ _ _
  move_fine true again (Ok (after, rows)) known = record {
    refused = λ k r e. absurd (cc);
    ids = (known after rows refl).ids;
    none_over = order_not_over after rows _ (known after rows refl);
    within = order_within after rows _ (known after rows refl);
    lowers = λ sound one e. absurd (a_list (map position_own rows.positions) e);
  }
  move_fine false again (Ok (after, rows)) known = record {
    refused = λ k r e. absurd (cc);
    ids = (known after rows refl).ids;
    none_over = λ own e. absurd (no_list own e);
    within = λ sound own e. absurd (no_list own e);
    lowers = λ sound one e may. (known after rows refl).lowers refl sound;
  }

  cart_drop_fine : (r : Result State OrderRefusal) → ((after : State) → r ≡ Ok after → AllIdsGoOn state after) → ((after : State) → r ≡ Ok after → (quota : Quota) → places_used after quota ≤ places_used state quota) → IsFine state (cart_drop_step state r) None true false never
  cart_drop_fine (Err refusal) ids lowers = refused_fine _ _ _ _ _
  cart_drop_fine (Ok after) ids lowers = record {
    refused = λ k r e. absurd (cc);
    ids = ids after refl;
    none_over = λ rows e. absurd (no_list rows e);
    within = λ sound rows e. absurd (no_list rows e);
    lowers = λ sound one e may quota stands none. lowers after refl quota;
  }

  -- where a step was made that takes no places, but some of these quotas again
  record IsQuiet (after : State) (again : Quota → Bool) : Type 0 where
    ids : AllIdsGoOn state after
    lowers : IsSound state → (quota : Quota) → quota_at quota.id state.lists.catalogue ≡ Some quota → again quota ≡ false → places_used after quota ≤ places_used state quota

  quiet_fine : (after : State) (reply : Reply) (again : Quota → Bool) → ((kind : Kind) (refusal : Refusal) → reply ≡ Refused kind refusal → ⊥) → IsQuiet after again → IsFine state (after, reply) None true false again
  quiet_fine after reply again told known = record {
    refused = λ k r e. absurd (told k r e);
    ids = known.ids;
    none_over = λ rows e. absurd (no_list rows e);
    within = λ sound rows e. absurd (no_list rows e);
    lowers = λ sound one e may. known.lowers sound;
  }

  -- where an entry was added to the waiting list
  record IsJoinFine (after : State) : Type 0 where
    ids : AllIdsGoOn state after

  join_fine : (r : Result (State × Waiting) WaitingRefusal) → ((after : State) (row : Waiting) → r ≡ Ok (after, row) → IsJoinFine after) → IsFine state (join_step state r) None true (is_joined r) never
  join_fine (Err refusal) known = refused_fine _ _ _ _ _
  join_fine (Ok (after, row)) known = record {
    refused = λ k r e. absurd (cc);
    ids = (known after row refl).ids;
    none_over = λ rows e. absurd (no_list rows e);
    within = λ sound rows e. absurd (no_list rows e);
    lowers = λ sound one e may. absurd (cc (may));
  }

  priority_fine : (r : Result (State × Waiting) WaitingRefusal) → ((after : State) (row : Waiting) → r ≡ Ok (after, row) → IsQuiet after never) → IsFine state (priority_step state r) None true false never
  priority_fine (Err refusal) known = refused_fine _ _ _ _ _
  priority_fine (Ok (after, row)) known = quiet_fine after (Found (rows.Waiting row)) never (λ k r e. cc (e)) (known after row refl)

  leave_fine : (r : Result State WaitingRefusal) → ((after : State) → r ≡ Ok after → IsQuiet after never) → IsFine state (leave_step state r) None true false never
  leave_fine (Err refusal) known = refused_fine _ _ _ _ _
  leave_fine (Ok after) known = quiet_fine after Gone never (λ k r e. cc (e)) (known after refl)

  send_fine : (r : Result (State × Waiting) WaitingRefusal) → ((after : State) (row : Waiting) → r ≡ Ok (after, row) → IsQuiet after never) → IsFine state (send_step state r) None true false never
  send_fine (Err refusal) known = refused_fine _ _ _ _ _
  send_fine (Ok (after, row)) known = quiet_fine after Gone never (λ k r e. cc (e)) (known after row refl)

  periodic_fine : (made : State × PeriodicCounts) → IsQuiet made.0 never → IsFine state (periodic_step made) None true false never
  periodic_fine (after, counts) known = quiet_fine after (TheCounts counts) never (λ k r e. cc (e)) known

  checkin_list_fine : (r : Result (State × CheckinList) DoorRefusal) → ((after : State) (row : CheckinList) → r ≡ Ok (after, row) → IsQuiet after never) → IsFine state (checkin_list_step state r) None true false never
  checkin_list_fine (Err refusal) known = refused_fine _ _ _ _ _
  checkin_list_fine (Ok (after, row)) known = quiet_fine after (Made (rows.CheckinList row)) never (λ k r e. cc (e)) (known after row refl)

  redeem_fine : (again : Quota → Bool) (r : Result (State × OrderPos) DoorRefusal) → ((after : State) (position : OrderPos) → r ≡ Ok (after, position) → IsQuiet after again) → IsFine state (redeem_step state r) None true false again
  redeem_fine again (Err refusal) known = refused_fine _ _ _ _ _
  redeem_fine again (Ok (after, position)) known = quiet_fine after (Admitted position) again (λ k r e. cc (e)) (known after position refl)

-- a bulk call that is refused as a whole is a step by itself, and so is any other command but an import
abbrev is_itself : Command → Bool
is_itself (AddCarts entries) = nat_lt most_entries (length entries)
is_itself (ImportVouchers vouchers) = false
is_itself other = true

-- where it wasn't refused as a whole, it had no more entries than it may have
few_entries : (entries : List Entry) (draw : Draw) (state : State) (made : State × List Outcome) → many_added entries draw state ≡ Ok made → nat_lt most_entries (length entries) ≡ false
unfolding many_added
few_entries entries draw state made h = by_count (nat_lt most_entries (length entries)) h
  where
    by_count : (many : Bool) → (if many then Err TooMany else Ok (all_added entries draw state)) ≡ Ok made → many ≡ false
    by_count true e = absurd (cc (e))
    by_count false e = refl

step_fine : (command : Command) (draw : Draw) (state : State) → IsFine state (step_now command draw state) (rows_taken command draw state) (is_itself command) (may_raise command draw state) (λ quota. fills_again command state quota)
step_fine (AddItem new) draw state = item_fine state (item_added new state.next.item state.next.variation state.lists.catalogue) (λ made h. item_ids new state made h)
step_fine (ChangeItem id patch) draw state = item_change_fine state (item_changed id patch state.lists.catalogue) (λ row h. item_change_ids id patch state row h)
step_fine (AddVariation item new) draw state = variation_fine state (variation_added item new state.next.variation state.lists.catalogue) (λ made h. variation_ids item new state made h)
step_fine (AddQuota new) draw state = quota_fine state (quota_added new state.next.quota state.lists.catalogue) (λ row h. quota_ids new state row h)
step_fine (ResizeQuota id patch) draw state = resize_fine state (quota_resized id patch state.lists.catalogue) (λ row h. resize_ids id patch state row h)
step_fine (AddVoucher new) draw state = voucher_fine state (voucher_made new draw state) (λ after row h. record {
  ids = made_ids new draw state after row h;
  not_over = made_not_over new draw state after row h;
  within = made_takes_no_more new draw state after row h;
})
step_fine (ChangeVoucher id patch) draw state = voucher_change_fine state (voucher_changed id patch state) (λ after row h. record {
  ids = changed_ids id patch state after row h;
  not_over = changed_not_over id patch state after row h;
  within = changed_takes_no_more id patch state after row h;
})
step_fine (DropVoucher id) draw state = voucher_drop_fine state (voucher_deleted id state) (λ after h. deleted_ids id state after h) (λ after h quota. deleted_lowers id state after quota h)
step_fine (ImportVouchers vouchers) draw state = import_fine state (rows_imported vouchers draw state) (rows_ids vouchers draw state)
step_fine (AddCart new) draw state = cart_fine state (position_added new draw state) (λ after row h. record {
  ids = added_ids new draw state after row h;
  not_over = added_none_over new draw state after row h;
  within = added_takes_no_more new draw state after row h;
})
step_fine (AddCarts entries) draw state = bulk_fine state (nat_lt most_entries (length entries)) (many_added entries draw state) (λ made h. record {
  ids = subst (λ (m : State × List Outcome). AllIdsGoOn state m.0) (many_is entries draw state made h) (entries_ids entries draw state);
  entries = few_entries entries draw state made h;
})
step_fine (AddOrder new) draw state = order_fine state (order_created new draw state) (λ after rows h. made_fine new draw state after rows h)
step_fine (MoveOrder number change) draw state = move_fine state (brings_back number change state.lists) (λ quota. fills_again (MoveOrder number change) state quota) (order_moved number change state) (λ after rows h. moved_fine number change state after rows h)
step_fine (DropCart id) draw state = cart_drop_fine state (position_dropped id state) (λ after h. dropped_ids id state after h) (λ after h quota. dropped_lowers id state after quota h)
step_fine (AddWaiting new) draw state = join_fine state (entry_joined new state) (λ after row h. record {
  ids = joined_ids new state after row h;
})
step_fine (ChangeWaiting id patch) draw state = priority_fine state (entry_changed id patch state) (λ after row h. record {
  ids = changed_entry_ids id patch state after row h;
  lowers = λ sound quota stands none. as_before (places_used after quota) (places_used state quota) (changed_keeps_used id patch state after row quota sound h);
})
step_fine (DropWaiting id) draw state = leave_fine state (entry_left id state) (λ after h. record {
  ids = left_ids id state after h;
  lowers = λ sound quota stands none. left_lowers id state after quota sound h;
})
step_fine (SendVoucher id) draw state = send_fine state (voucher_sent id draw state) (λ after row h. record {
  ids = sending_ids id draw state after row h;
  lowers = λ sound quota stands none. as_before (places_used after quota) (places_used state quota) (sending_keeps_used id draw state after row sound h quota);
})
step_fine Periodic draw state = periodic_fine state (periodic_done draw state) (record {
  ids = worked_ids draw state;
  lowers = λ sound quota stands none. worked_lowers draw state sound quota stands;
})
step_fine (AddCheckinList new) draw state = checkin_list_fine state (list_added new state) (λ after row h. record {
  ids = list_ids new state after row h;
  lowers = λ sound quota stands none. as_before (places_used after quota) (places_used state quota) (list_used new state after row quota h);
})
step_fine (Redeem list ticket scan) draw state = redeem_fine state (λ quota. fills_again (Redeem list ticket scan) state quota) (ticket_scanned list ticket scan state) (λ after position h. record {
  ids = scanned_ids list ticket scan state after position h;
  lowers = λ sound quota stands none. scan_lowers list ticket scan state after position sound h quota none;
})

-- the office's moment is never after the one of a command that comes
pub not_before : (clock : ℕ) (state : State) → state.moment ≤ moment_at clock state
not_before clock state = below_max state.moment (min clock last_moment)
  where
    below_max : (a b : ℕ) → a ≤ max a b
    below_max a b = omega arith

-- nor is that one beyond the last
pub in_range : (clock : ℕ) (state : State) → state.moment ≤ last_moment → moment_at clock state ≤ last_moment
in_range clock state le = by_last state.moment clock last_moment le
  where
    by_last : (moment clock last : ℕ) → moment ≤ last → max moment (min clock last) ≤ last
    by_last moment clock last le = omega (arith, le)

-- the step of an arrival, from the office at its moment
fine_at : (arrival : Arrival) (state : State) → (let now : State = record state { moment = moment_at arrival.clock state } in IsFine now (step arrival.command (moment_at arrival.clock state) arrival.draw state) (rows_taken arrival.command arrival.draw now) (is_itself arrival.command) (may_raise arrival.command arrival.draw now) (λ quota. fills_again arrival.command now quota))
fine_at arrival state = step_fine arrival.command arrival.draw (record state { moment = moment_at arrival.clock state })

pub sound_at : (arrival : Arrival) (state : State) → IsSound state → IsSound (record state { moment = moment_at arrival.clock state })
sound_at arrival state sound = sound_later state (moment_at arrival.clock state) (not_before arrival.clock state) (in_range arrival.clock state sound.range.moment) sound

pub sound_after : (arrival : Arrival) (state : State) → IsFitArrival arrival → IsSound state → IsSound (office_stepped arrival state).after
sound_after arrival state fit sound = step_sound arrival.command (moment_at arrival.clock state) arrival.draw state fit.command fit.draw (not_before arrival.clock state) (in_range arrival.clock state sound.range.moment) sound

moment_after : (arrival : Arrival) (state : State) → (office_stepped arrival state).after.moment ≡ moment_at arrival.clock state
moment_after arrival state = (sound_step arrival.command arrival.draw (record state { moment = moment_at arrival.clock state })).moment

-- ---- steps by themselves

-- a law of what is a step by itself, where something is known of each command, and of each of the entries of a bulk call and each of the
-- rows of an import, and from an office of which something is known that each step keeps
module _ (Law : Stepped → Type 0) (Fit : Arrival → Type 0) (Known : State → Type 0)
    (parts : (clock at : ℕ) (draw : Draw) (entries : List Entry) → Fit (record { clock = clock; draw = draw; command = AddCarts entries }) → AllByRecursion Fit (alone at draw entries))
    (rows : (clock at : ℕ) (draw : Draw) (vouchers : List NewVoucher) → Fit (record { clock = clock; draw = draw; command = ImportVouchers vouchers }) → AllByRecursion (λ new. Fit (made_alone at draw new)) vouchers)
    (one : (arrival : Arrival) (state : State) → Fit arrival → Known state → is_itself arrival.command ≡ true → Law (office_stepped arrival state))
    (later : (arrival : Arrival) (state : State) → Known state → Known (record state { moment = moment_at arrival.clock state }))
    (keeps : (arrival : Arrival) (state : State) → Fit arrival → Known state → Known (office_stepped arrival state).after) where
  alone_all : (clock : ℕ) (draw : Draw) (entries : List Entry) (state : State) → AllByRecursion Fit (alone clock draw entries) → Known state → AllByRecursion Law (trace (alone clock draw entries) state)
  alone_all clock draw [] state fit known = tt
  alone_all clock draw (Faulty fault ∷ entries) state fit known = alone_all clock draw entries state fit known
  alone_all clock draw (New new ∷ entries) state fit known =
      let arrival : Arrival = record { clock = clock; draw = draw; command = AddCart new } in
      (one arrival state fit.0 known refl, alone_all clock draw entries (office_stepped arrival state).after fit.1 (keeps arrival state fit.0 known))

  import_all : (clock : ℕ) (draw : Draw) (vouchers : List NewVoucher) (state : State) → AllByRecursion (λ new. Fit (made_alone clock draw new)) vouchers → Known state → AllByRecursion Law (import_trace clock draw vouchers state)
  import_all clock draw [] state fit known = tt
  import_all clock draw (new ∷ vouchers) state fit known =
      let arrival = made_alone clock draw new in
      by_namesake (is_some (namesake new.code state.lists)) (import_all clock draw vouchers state fit.1 known) (one arrival state fit.0 known refl, import_all clock draw vouchers (office_stepped arrival state).after fit.1 (keeps arrival state fit.0 known))
    where
      by_namesake : (stands : Bool) → AllByRecursion Law (import_trace clock draw vouchers state) → AllByRecursion Law (office_stepped (made_alone clock draw new) state ∷ import_trace clock draw vouchers (office_stepped (made_alone clock draw new) state).after)
          → AllByRecursion Law (if stands then import_trace clock draw vouchers state else (office_stepped (made_alone clock draw new) state ∷ import_trace clock draw vouchers (office_stepped (made_alone clock draw new) state).after))
      by_namesake true others all = others
      by_namesake false others all = all

  by_command : (command : Command) (s : Stepped) → (is_itself command ≡ true → Law s) → ((entries : List Entry) → command ≡ AddCarts entries → AllByRecursion Law (trace (alone s.at s.draw entries) (office_at s)))
      → ((vouchers : List NewVoucher) → command ≡ ImportVouchers vouchers → AllByRecursion Law (import_trace s.at s.draw vouchers (office_at s))) → AllByRecursion Law (steps_of command s)
  by_command (AddItem new) s own all imported = (own refl, tt)
  by_command (ChangeItem id patch) s own all imported = (own refl, tt)
  by_command (AddVariation item new) s own all imported = (own refl, tt)
  by_command (AddQuota new) s own all imported = (own refl, tt)
  by_command (ResizeQuota id patch) s own all imported = (own refl, tt)
  by_command (AddVoucher new) s own all imported = (own refl, tt)
  by_command (ChangeVoucher id patch) s own all imported = (own refl, tt)
  by_command (DropVoucher id) s own all imported = (own refl, tt)
  by_command (ImportVouchers vouchers) s own all imported = imported vouchers refl
  by_command (AddCart new) s own all imported = (own refl, tt)
  by_command (AddOrder new) s own all imported = (own refl, tt)
  by_command (MoveOrder number change) s own all imported = (own refl, tt)
  by_command (DropCart id) s own all imported = (own refl, tt)
  by_command (AddWaiting new) s own all imported = (own refl, tt)
  by_command (ChangeWaiting id patch) s own all imported = (own refl, tt)
  by_command (DropWaiting id) s own all imported = (own refl, tt)
  by_command (SendVoucher id) s own all imported = (own refl, tt)
  by_command Periodic s own all imported = (own refl, tt)
  by_command (AddCheckinList new) s own all imported = (own refl, tt)
  by_command (Redeem list ticket scan) s own all imported = (own refl, tt)
  by_command (AddCarts entries) s own all imported = by_count (nat_lt most_entries (length entries)) own
    where
      by_count : (many : Bool) → (many ≡ true → Law s) → AllByRecursion Law (if many then s ∷ [] else trace (alone s.at s.draw entries) (office_at s))
      by_count true own = (own refl, tt)
      by_count false own = all entries refl

  each_one : (arrival : Arrival) (state : State) → Fit arrival → Known state → Each Law (office_stepped arrival state)
  each_one arrival state fit known = by_command arrival.command (office_stepped arrival state) (one arrival state fit known) (λ entries is. by_parts entries is) (λ vouchers is. by_rows vouchers is)
    where
      by_parts : (entries : List Entry) → arrival.command ≡ AddCarts entries → (let s = office_stepped arrival state in AllByRecursion Law (trace (alone s.at s.draw entries) (office_at s)))
      by_parts entries is =
          let s = office_stepped arrival state in
          let all : Fit (record { clock = arrival.clock; draw = arrival.draw; command = AddCarts entries }) = subst (λ (command : Command). Fit (record { clock = arrival.clock; draw = arrival.draw; command = command })) is fit in
          alone_all s.at s.draw entries (office_at s) (parts arrival.clock s.at s.draw entries all) (later arrival state known)

      by_rows : (vouchers : List NewVoucher) → arrival.command ≡ ImportVouchers vouchers → (let s = office_stepped arrival state in AllByRecursion Law (import_trace s.at s.draw vouchers (office_at s)))
      by_rows vouchers is =
          let s = office_stepped arrival state in
          let all : Fit (record { clock = arrival.clock; draw = arrival.draw; command = ImportVouchers vouchers }) = subst (λ (command : Command). Fit (record { clock = arrival.clock; draw = arrival.draw; command = command })) is fit in
          import_all s.at s.draw vouchers (office_at s) (rows arrival.clock s.at s.draw vouchers all) (later arrival state known)

  each_all : (arrivals : List Arrival) (state : State) → AllByRecursion Fit arrivals → Known state → AllByRecursion (Each Law) (trace arrivals state)
  each_all [] state fit known = tt
  each_all (arrival ∷ arrivals) state fit known = (each_one arrival state fit.0 known, each_all arrivals (office_stepped arrival state).after fit.1 (keeps arrival state fit.0 known))

-- the entries of a bulk call that is fit are
fit_parts : (clock at : ℕ) (draw : Draw) (entries : List Entry) → IsFitArrival (record { clock = clock; draw = draw; command = AddCarts entries }) → AllByRecursion IsFitArrival (alone at draw entries)
fit_parts clock at draw [] fit = tt
fit_parts clock at draw (Faulty fault ∷ entries) fit = fit_parts clock at draw entries (record { command = fit.command.1; draw = fit.draw })
fit_parts clock at draw (New new ∷ entries) fit = (record { command = fit.command.0; draw = fit.draw }, fit_parts clock at draw entries (record { command = fit.command.1; draw = fit.draw }))

-- and so are the rows of an import
fit_rows : (clock at : ℕ) (draw : Draw) (vouchers : List NewVoucher) → IsFitArrival (record { clock = clock; draw = draw; command = ImportVouchers vouchers }) → AllByRecursion (λ new. IsFitArrival (made_alone at draw new)) vouchers
fit_rows clock at draw [] fit = tt
fit_rows clock at draw (new ∷ vouchers) fit = (record { command = fit.command.0; draw = fit.draw }, fit_rows clock at draw vouchers (record { command = fit.command.1; draw = fit.draw }))

pub none_over_all : (arrivals : List Arrival) (state : State) → AllByRecursion (Each NoneOver) (trace arrivals state)
none_over_all arrivals state =
    each_all NoneOver (λ arrival. Unit {0}) (λ s. Unit {0})
    (λ clock at draw entries any. all_of (λ arrival. Unit {0}) (λ arrival. tt) (alone at draw entries)) (λ clock at draw vouchers any. all_of (λ new. Unit {0}) (λ new. tt) vouchers)
    (λ arrival s any known itself. (fine_at arrival s).none_over) (λ arrival s known. tt) (λ arrival s any known. tt) arrivals state
    (all_of (λ arrival. Unit {0}) (λ arrival. tt) arrivals) tt

pub within_all : (arrivals : List Arrival) (state : State) → AllByRecursion IsFitArrival arrivals → IsSound state → AllByRecursion (Each StaysWithin) (trace arrivals state)
within_all = each_all StaysWithin IsFitArrival IsSound fit_parts fit_rows (λ arrival s fit sound itself. (fine_at arrival s).within (sound_at arrival s sound)) sound_at sound_after

pub lowers_all : (arrivals : List Arrival) (state : State) → AllByRecursion IsFitArrival arrivals → IsSound state → AllByRecursion (Each RaisesNothing) (trace arrivals state)
lowers_all = each_all RaisesNothing IsFitArrival IsSound fit_parts fit_rows (λ arrival s fit sound itself. (fine_at arrival s).lowers (sound_at arrival s sound) itself) sound_at sound_after

-- ---- whole commands

ids_at : (arrival : Arrival) (state : State) → AllIdsGoOn state (office_stepped arrival state).after
ids_at arrival state = before_it (fine_at arrival state).ids
  where
    before_it : AllIdsGoOn (record state { moment = moment_at arrival.clock state }) (office_stepped arrival state).after → AllIdsGoOn state (office_stepped arrival state).after
    before_it h = record { items = h.items; variations = h.variations; quotas = h.quotas; vouchers = h.vouchers; carts = h.carts; orders = h.orders; positions = h.positions; waiting = h.waiting; checkin_lists = h.checkin_lists; checkins = h.checkins }

pub ids_all : (arrivals : List Arrival) (state : State) → AllByRecursion GivesNewIds (trace arrivals state)
ids_all [] state = tt
ids_all (arrival ∷ arrivals) state = (ids_at arrival state, ids_all arrivals (office_stepped arrival state).after)

pub ids_over : (arrivals : List Arrival) (state : State) → AllIdsGoOn state (after_run arrivals state)
ids_over [] state = all_same state
ids_over (arrival ∷ arrivals) state =
    let next = (office_stepped arrival state).after in
    all_more state next (after_run arrivals next) (ids_at arrival state) (ids_over arrivals next)

pub sound_all : (arrivals : List Arrival) (state : State) → AllByRecursion IsFitArrival arrivals → IsSound state → AllByRecursion LeavesSound (trace arrivals state)
sound_all [] state fit sound = tt
sound_all (arrival ∷ arrivals) state fit sound = (sound_after arrival state fit.0 sound, sound_all arrivals (office_stepped arrival state).after fit.1 (sound_after arrival state fit.0 sound))

pub stores_all : (arrivals : List Arrival) (state : State) → AllByRecursion StoresItsMoment (trace arrivals state)
stores_all [] state = tt
stores_all (arrival ∷ arrivals) state = (moment_after arrival state, stores_all arrivals (office_stepped arrival state).after)

pub never_back_all : (arrivals : List Arrival) (state : State) → AllByRecursion NeverGoesBack (trace arrivals state)
never_back_all [] state = tt
never_back_all (arrival ∷ arrivals) state =
    (subst (λ (m : ℕ). state.moment ≤ m) (sym (moment_after arrival state)) (not_before arrival.clock state), never_back_all arrivals (office_stepped arrival state).after)

pub refused_all : (arrivals : List Arrival) (state : State) → AllByRecursion ChangesNothingElse (trace arrivals state)
refused_all [] state = tt
refused_all (arrival ∷ arrivals) state = ((fine_at arrival state).refused, refused_all arrivals (office_stepped arrival state).after)
