-- No step lowers a next id, and the ids of its new rows are new.
use Rattle.std.proofs.Common.{◌≡◌, ℕ, ◌+◌, ◌≤◌, ◌<◌, ◌≢◌, ◌⊎◌, inl, inr, Bool, true, false, eqb, List, [], ◌∷◌, length, map, Option, Some, None, Result, Ok, Err, refl, sym, ap, ◌∙◌, subst, arith}
use Rattle.std.specs.Prelude.{is_some, filter, if◌then◌else◌}
use Rattle.std.proofs.lemmas.Bool.Decides.{eqb_tells}
use Rattle.base_tables.specs.Tables.{row_at, with_row, without_row}
use Rattle.base_values.specs.declared.draw.Draw.{Draw}
use Rattle.base_tables.proofs.Edits.{row_at-with_row, row_at-without_row}
use Rattle.model_catalogue.specs.declared.rows.Item.{Item}
use Rattle.model_catalogue.specs.declared.rows.ItemRows.{ItemRows}
use Rattle.model_catalogue.specs.declared.rows.PricedVariation.{PricedVariation}
use Rattle.model_catalogue.specs.declared.rows.Quota.{Quota}
use Rattle.model_catalogue.specs.declared.rows.Variation.{Variation}
use Rattle.model_catalogue.specs.declared.requests.ItemPatch.{ItemPatch}
use Rattle.model_catalogue.specs.declared.requests.NewItem.{NewItem}
use Rattle.model_catalogue.specs.declared.requests.NewQuota.{NewQuota}
use Rattle.model_catalogue.specs.declared.requests.NewVariation.{NewVariation}
use Rattle.model_catalogue.specs.declared.requests.QuotaPatch.{QuotaPatch}
use Rattle.model_catalogue.specs.CatalogueLists.{item_at, quota_at}
use Rattle.model_catalogue.specs.ItemAdded.{item_rows, item_added}
use Rattle.model_catalogue.specs.ItemChanged.{item_changed}
use Rattle.model_catalogue.specs.VariationAdded.{variation_added}
use Rattle.model_catalogue.specs.QuotaAdded.{quota_added}
use Rattle.model_catalogue.specs.Resized.{quota_resized}
use Rattle.model_catalogue.proofs.Added.{item_added_is, item_changed_is, variation_added_is, quota_added_is, resized_is}
use Rattle.model_rows.specs.declared.changes.Change.TheVariants.{PutItem, PutVariation, PutQuota, PutVoucher, PutOrder, PutPosition, DropVoucher, DropCart, PutWaiting, DropWaiting}
use Rattle.model_rows.specs.declared.rows.CartPos.{CartPos}
use Rattle.model_rows.specs.declared.rows.NextIds.{NextIds}
use Rattle.model_rows.specs.declared.rows.Order.{Order}
use Rattle.model_rows.specs.declared.rows.OrderPos.{OrderPos}
use Rattle.model_rows.specs.declared.rows.OrderRows.{OrderRows}
use Rattle.model_rows.specs.declared.rows.Voucher.{Voucher}
use Rattle.model_rows.specs.declared.rows.Waiting.{Waiting}
use Rattle.model_rows.specs.declared.rows.CheckinList.{CheckinList}
use Rattle.model_rows.specs.declared.rows.Checkin.{Checkin}
use Rattle.model_rows.specs.Conditions.{is_live_cart}
use Rattle.model_rows.specs.Change.{after_change, after_all, change_applied, without_carts}
use Rattle.model_rows.specs.Consumed.{carts_consumed}
use Rattle.model_rows.specs.Lists.{State, voucher_at, order_at, waiting_at}
use Rattle.model_rows.specs.Numbered.{AreFrom, with_item, with_variation, with_quota, with_voucher, with_cart, with_waiting, with_checkin_list, with_checkin}
use Rattle.std.specs.List.{AllByRecursion}
use Rattle.model_rows.proofs.EachRow.{key-row_at, all_weaker}
use Rattle.model_invariant.proofs.Sound.{variation_rows_count}
use Rattle.model_commands.specs.declared.vouchers.NewVoucher.{NewVoucher}
use Rattle.model_commands.specs.declared.vouchers.VoucherPatch.{VoucherPatch}
use Rattle.decide_vouchers.specs.Made.{voucher_made}
use Rattle.decide_vouchers.specs.Changed.{voucher_changed}
use Rattle.decide_vouchers.specs.Deleted.{voucher_deleted}
use Rattle.decide_vouchers.specs.Imported.{row_imported, rows_imported}
use Rattle.model_commands.specs.declared.vouchers.Verdict.{Verdict}
use Rattle.decide_vouchers.proofs.Imports.{of_row}
use Rattle.decide_vouchers.proofs.Made.{made_is, made_id}
use Rattle.decide_vouchers.proofs.Changed.{changed_is}
use Rattle.decide_vouchers.proofs.Deleted.{deleted_is}
use Rattle.model_commands.specs.declared.carts.Entry.{Entry}
use Rattle.model_commands.specs.declared.carts.Entry.TheVariants.{New, Faulty}
use Rattle.model_commands.specs.declared.orders.Move.{Move}
use Rattle.model_commands.specs.declared.carts.NewCart.{NewCart}
use Rattle.model_commands.specs.declared.orders.NewOrder.{NewOrder}
use Rattle.model_commands.specs.declared.orders.OrderRefusal.{OrderRefusal}
use Rattle.decide_orders.specs.Bulk.{outcome_of, entry_added, all_added}
use Rattle.decide_orders.specs.Carts.{position_added}
use Rattle.decide_orders.specs.Created.{position_put, with_positions, with_order_row, order_created}
use Rattle.decide_orders.specs.Steps.{AreCounted}
use Rattle.decide_orders.specs.Dropped.{position_dropped}
use Rattle.decide_orders.specs.Moves.{order_moved}
use Rattle.decide_orders.proofs.Added.{added_is, added_id}
use Rattle.decide_orders.proofs.Created.{created_is}
use Rattle.decide_orders.proofs.Dropped.{dropped_is}
use Rattle.decide_orders.proofs.MoveLemmas.{found_id}
use Rattle.decide_orders.proofs.Moved.{moved_is}
use Rattle.decide_orders.proofs.Puts.{put_is}
use Rattle.decide_orders.proofs.Rows.{counted, puts_next}
use Rattle.model_rows.specs.Due.{is_due}
use Rattle.decide_orders.specs.Expired.{expired_row, expired_if_due, orders_expired, carts_dropped}
use Rattle.model_commands.specs.declared.waiting.NewWaiting.{NewWaiting}
use Rattle.model_commands.specs.declared.waiting.WaitingPatch.{WaitingPatch}
use Rattle.decide_waiting.specs.Joined.{entry_joined}
use Rattle.decide_waiting.specs.Changed.{entry_changed}
use Rattle.decide_waiting.specs.Left.{entry_left}
use Rattle.decide_waiting.proofs.Joins.{joined_is, joined_id}
use Rattle.decide_waiting.proofs.Leaves.{own_place, changed_is as changed_entry_is, changed_stood, left_is}
use Rattle.decide_waiting.proofs.Sent.{sent_is}
use Rattle.decide_waiting.specs.Sending.{with_sent, with_its_voucher, sent_voucher, voucher_sent}
use Rattle.decide_waiting.specs.Serving.{all_sent}
use Rattle.office_runs.specs.NewIds.{IdsGoOn, AllIdsGoOn}
use Rattle.office_step.specs.PeriodicWork.{pending_ended}

expired_id : (at : ℕ) (order : Order) → (expired_if_due at order).id ≡ order.id
expired_id at order = by_due (is_due at order)
  where
    by_due : (due : Bool) → (if due then expired_row order else order).id ≡ order.id
    by_due true = refl
    by_due false = refl

no_less : (n : ℕ) → n ≤ n
no_less n = omega arith

-- ---- one table

module _ {T : Type 0} (key : T → ℕ) where
  same : (next : ℕ) (rows : List T) → IdsGoOn key next next rows rows
  same next rows = record { rises = no_less next; new = λ id stands. inl stands }

  -- a row that is put is found under its id
  found : (row : T) (rows : List T) (id : ℕ) → is_some (row_at key id (with_row key row rows)) ≡ true → (key row ≡ id) ⊎ (is_some (row_at key id rows) ≡ true)
  found row rows id stands = by_id (eqb_tells (key row) id) (ap is_some (sym (row_at-with_row key id row rows)) ∙ stands)
    where
      by_id : (t : ((eqb (key row) id ≡ true) × (key row ≡ id)) ⊎ ((eqb (key row) id ≡ false) × (key row ≢ id))) → is_some (if eqb (key row) id then Some row else row_at key id rows) ≡ true → (key row ≡ id) ⊎ (is_some (row_at key id rows) ≡ true)
      by_id (inl t) e = inl t.1
      by_id (inr t) e = inr (ap (λ (b : Bool). is_some (if b then Some row else row_at key id rows)) (sym t.0) ∙ e)

  put_new : (row : T) (next : ℕ) (rows : List T) → key row ≡ next → IdsGoOn key next (next + 1) rows (with_row key row rows)
  put_new row next rows own = record { rises = omega arith; new = λ id stands. by_id id (found row rows id stands) }
    where
      by_id : (id : ℕ) → (key row ≡ id) ⊎ (is_some (row_at key id rows) ≡ true) → (is_some (row_at key id rows) ≡ true) ⊎ ((next ≤ id) × (id < next + 1))
      by_id id (inl e) = inr (omega (arith, own, e), omega (arith, own, e))
      by_id id (inr stood) = inl stood

  put_old : (row old : T) (next : ℕ) (rows : List T) → row_at key (key row) rows ≡ Some old → IdsGoOn key next next rows (with_row key row rows)
  put_old row old next rows stood = record { rises = no_less next; new = λ id stands. inl (by_id id (found row rows id stands)) }
    where
      by_id : (id : ℕ) → (key row ≡ id) ⊎ (is_some (row_at key id rows) ≡ true) → is_some (row_at key id rows) ≡ true
      by_id id (inl e) = subst (λ (n : ℕ). is_some (row_at key n rows) ≡ true) e (ap is_some stood)
      by_id id (inr stands) = stands

  dropped : (gone next : ℕ) (rows : List T) → IdsGoOn key next next rows (without_row key gone rows)
  dropped gone next rows = record { rises = no_less next; new = λ id stands. inl (by_id id (eqb gone id) (ap is_some (sym (row_at-without_row key id gone rows)) ∙ stands)) }
    where
      by_id : (id : ℕ) (b : Bool) → is_some (if b then None else row_at key id rows) ≡ true → is_some (row_at key id rows) ≡ true
      by_id id true e = absurd (cc (e))
      by_id id false e = e

  -- rows that a test keeps, or that stay under their ids
  by_head : (id : ℕ) (r : T) (own : Bool) (some more : Option T) → is_some (if own then Some r else some) ≡ true → (is_some some ≡ true → is_some more ≡ true) → is_some (if own then Some r else more) ≡ true
  by_head id r true some more e on = refl
  by_head id r false some more e on = on e

  or_later : (r : T) (own : Bool) (more : Option T) → is_some more ≡ true → is_some (if own then Some r else more) ≡ true
  or_later r true more e = refl
  or_later r false more e = e

  stood_kept : (test : T → Bool) (id : ℕ) (rows : List T) → is_some (row_at key id (filter test rows)) ≡ true → is_some (row_at key id rows) ≡ true
  stood_kept test id [] e = e
  stood_kept test id (r ∷ rs) e = by_test (test r) e (stood_kept test id rs)
    where
      by_test : (passes : Bool) → is_some (row_at key id (if passes then r ∷ filter test rs else filter test rs)) ≡ true → (is_some (row_at key id (filter test rs)) ≡ true → is_some (row_at key id rs) ≡ true) → is_some (row_at key id (r ∷ rs)) ≡ true
      by_test true e more = by_head id r (eqb (key r) id) (row_at key id (filter test rs)) (row_at key id rs) e more
      by_test false e more = or_later r (eqb (key r) id) (row_at key id rs) (more e)

  kept : (test : T → Bool) (next : ℕ) (rows : List T) → IdsGoOn key next next rows (filter test rows)
  kept test next rows = record { rises = no_less next; new = λ id stands. inl (stood_kept test id rows stands) }

  stood_mapped : (change : T → T) → ((r : T) → key (change r) ≡ key r) → (id : ℕ) (rows : List T) → is_some (row_at key id (map change rows)) ≡ true → is_some (row_at key id rows) ≡ true
  stood_mapped change same id [] e = e
  stood_mapped change same id (r ∷ rs) e =
      by_own (eqb (key (change r)) id) (eqb (key r) id) (ap (λ n. eqb n id) (same r)) e (stood_mapped change same id rs)
    where
      by_own : (now own : Bool) → now ≡ own → is_some (if now then Some (change r) else row_at key id (map change rs)) ≡ true → (is_some (row_at key id (map change rs)) ≡ true → is_some (row_at key id rs) ≡ true) → is_some (if own then Some r else row_at key id rs) ≡ true
      by_own now true is e more = refl
      by_own true false is e more = absurd (cc (is))
      by_own false false is e more = more e

  mapped : (change : T → T) → ((r : T) → key (change r) ≡ key r) → (next : ℕ) (rows : List T) → IdsGoOn key next next rows (map change rows)
  mapped change same next rows = record { rises = no_less next; new = λ id stands. inl (stood_mapped change same id rows stands) }

  one_more : (a b c : ℕ) (xs ys zs : List T) → IdsGoOn key a b xs ys → IdsGoOn key b c ys zs → IdsGoOn key a c xs zs
  one_more a b c xs ys zs first second = record { rises = omega (arith, first.rises, second.rises); new = λ id stands. by_second id (second.new id stands) }
    where
      by_first : (id : ℕ) → (is_some (row_at key id xs) ≡ true) ⊎ ((a ≤ id) × (id < b)) → (is_some (row_at key id xs) ≡ true) ⊎ ((a ≤ id) × (id < c))
      by_first id (inl stood) = inl stood
      by_first id (inr t) = inr (t.0, omega (arith, t.1, second.rises))

      by_second : (id : ℕ) → (is_some (row_at key id ys) ≡ true) ⊎ ((b ≤ id) × (id < c)) → (is_some (row_at key id xs) ≡ true) ⊎ ((a ≤ id) × (id < c))
      by_second id (inl stood) = by_first id (first.new id stood)
      by_second id (inr t) = inr (omega (arith, t.0, first.rises), t.1)

-- ---- all tables

pub all_same : (s : State) → AllIdsGoOn s s
all_same s = record {
  items = same (λ r. r.id) s.next.item s.lists.catalogue.items;
  variations = same (λ r. r.id) s.next.variation s.lists.catalogue.variations;
  quotas = same (λ r. r.id) s.next.quota s.lists.catalogue.quotas;
  vouchers = same (λ r. r.id) s.next.voucher s.lists.vouchers;
  carts = same (λ r. r.id) s.next.cart s.lists.carts;
  orders = same (λ r. r.id) s.next.order s.lists.orders;
  positions = same (λ r. r.id) s.next.position s.lists.positions;
  waiting = same (λ r. r.id) s.next.waiting s.lists.waiting;
  checkin_lists = same (λ r. r.id) s.next.list s.lists.checkin_lists;
  checkins = same (λ r. r.id) s.next.checkin s.lists.checkins;
}

pub all_more : (a b c : State) → AllIdsGoOn a b → AllIdsGoOn b c → AllIdsGoOn a c
all_more a b c first second = record {
  items = one_more (λ r. r.id) a.next.item b.next.item c.next.item a.lists.catalogue.items b.lists.catalogue.items c.lists.catalogue.items first.items second.items;
  variations = one_more (λ r. r.id) a.next.variation b.next.variation c.next.variation a.lists.catalogue.variations b.lists.catalogue.variations c.lists.catalogue.variations first.variations second.variations;
  quotas = one_more (λ r. r.id) a.next.quota b.next.quota c.next.quota a.lists.catalogue.quotas b.lists.catalogue.quotas c.lists.catalogue.quotas first.quotas second.quotas;
  vouchers = one_more (λ r. r.id) a.next.voucher b.next.voucher c.next.voucher a.lists.vouchers b.lists.vouchers c.lists.vouchers first.vouchers second.vouchers;
  carts = one_more (λ r. r.id) a.next.cart b.next.cart c.next.cart a.lists.carts b.lists.carts c.lists.carts first.carts second.carts;
  orders = one_more (λ r. r.id) a.next.order b.next.order c.next.order a.lists.orders b.lists.orders c.lists.orders first.orders second.orders;
  positions = one_more (λ r. r.id) a.next.position b.next.position c.next.position a.lists.positions b.lists.positions c.lists.positions first.positions second.positions;
  waiting = one_more (λ r. r.id) a.next.waiting b.next.waiting c.next.waiting a.lists.waiting b.lists.waiting c.lists.waiting first.waiting second.waiting;
  checkin_lists = one_more (λ r. r.id) a.next.list b.next.list c.next.list a.lists.checkin_lists b.lists.checkin_lists c.lists.checkin_lists first.checkin_lists second.checkin_lists;
  checkins = one_more (λ r. r.id) a.next.checkin b.next.checkin c.next.checkin a.lists.checkins b.lists.checkins c.lists.checkins first.checkins second.checkins;
}

module _ (s : State) where
  -- an item without its variations
  new_item : (row : Item) → row.id ≡ s.next.item → AllIdsGoOn s (record s { lists = after_change (PutItem row) s.lists; next = record s.next { item = s.next.item + 1 } })
  new_item row own = record {
    items = put_new (λ r. r.id) row s.next.item s.lists.catalogue.items own;
    variations = same (λ r. r.id) s.next.variation s.lists.catalogue.variations;
    quotas = same (λ r. r.id) s.next.quota s.lists.catalogue.quotas;
    vouchers = same (λ r. r.id) s.next.voucher s.lists.vouchers;
    carts = same (λ r. r.id) s.next.cart s.lists.carts;
    orders = same (λ r. r.id) s.next.order s.lists.orders;
    positions = same (λ r. r.id) s.next.position s.lists.positions;
    waiting = same (λ r. r.id) s.next.waiting s.lists.waiting;
    checkin_lists = same (λ r. r.id) s.next.list s.lists.checkin_lists;
    checkins = same (λ r. r.id) s.next.checkin s.lists.checkins;
  }

  old_item : (row old : Item) → item_at row.id s.lists.catalogue ≡ Some old → AllIdsGoOn s (change_applied (PutItem row) s)
  old_item row old stood = record {
    items = put_old (λ r. r.id) row old s.next.item s.lists.catalogue.items stood;
    variations = same (λ r. r.id) s.next.variation s.lists.catalogue.variations;
    quotas = same (λ r. r.id) s.next.quota s.lists.catalogue.quotas;
    vouchers = same (λ r. r.id) s.next.voucher s.lists.vouchers;
    carts = same (λ r. r.id) s.next.cart s.lists.carts;
    orders = same (λ r. r.id) s.next.order s.lists.orders;
    positions = same (λ r. r.id) s.next.position s.lists.positions;
    waiting = same (λ r. r.id) s.next.waiting s.lists.waiting;
    checkin_lists = same (λ r. r.id) s.next.list s.lists.checkin_lists;
    checkins = same (λ r. r.id) s.next.checkin s.lists.checkins;
  }

  new_variation : (row : Variation) → row.id ≡ s.next.variation → AllIdsGoOn s (with_variation row s)
  new_variation row own = record {
    items = same (λ r. r.id) s.next.item s.lists.catalogue.items;
    variations = put_new (λ r. r.id) row s.next.variation s.lists.catalogue.variations own;
    quotas = same (λ r. r.id) s.next.quota s.lists.catalogue.quotas;
    vouchers = same (λ r. r.id) s.next.voucher s.lists.vouchers;
    carts = same (λ r. r.id) s.next.cart s.lists.carts;
    orders = same (λ r. r.id) s.next.order s.lists.orders;
    positions = same (λ r. r.id) s.next.position s.lists.positions;
    waiting = same (λ r. r.id) s.next.waiting s.lists.waiting;
    checkin_lists = same (λ r. r.id) s.next.list s.lists.checkin_lists;
    checkins = same (λ r. r.id) s.next.checkin s.lists.checkins;
  }

  new_quota : (row : Quota) → row.id ≡ s.next.quota → AllIdsGoOn s (with_quota row s)
  new_quota row own = record {
    items = same (λ r. r.id) s.next.item s.lists.catalogue.items;
    variations = same (λ r. r.id) s.next.variation s.lists.catalogue.variations;
    quotas = put_new (λ r. r.id) row s.next.quota s.lists.catalogue.quotas own;
    vouchers = same (λ r. r.id) s.next.voucher s.lists.vouchers;
    carts = same (λ r. r.id) s.next.cart s.lists.carts;
    orders = same (λ r. r.id) s.next.order s.lists.orders;
    positions = same (λ r. r.id) s.next.position s.lists.positions;
    waiting = same (λ r. r.id) s.next.waiting s.lists.waiting;
    checkin_lists = same (λ r. r.id) s.next.list s.lists.checkin_lists;
    checkins = same (λ r. r.id) s.next.checkin s.lists.checkins;
  }

  old_quota : (row old : Quota) → quota_at row.id s.lists.catalogue ≡ Some old → AllIdsGoOn s (change_applied (PutQuota row) s)
  old_quota row old stood = record {
    items = same (λ r. r.id) s.next.item s.lists.catalogue.items;
    variations = same (λ r. r.id) s.next.variation s.lists.catalogue.variations;
    quotas = put_old (λ r. r.id) row old s.next.quota s.lists.catalogue.quotas stood;
    vouchers = same (λ r. r.id) s.next.voucher s.lists.vouchers;
    carts = same (λ r. r.id) s.next.cart s.lists.carts;
    orders = same (λ r. r.id) s.next.order s.lists.orders;
    positions = same (λ r. r.id) s.next.position s.lists.positions;
    waiting = same (λ r. r.id) s.next.waiting s.lists.waiting;
    checkin_lists = same (λ r. r.id) s.next.list s.lists.checkin_lists;
    checkins = same (λ r. r.id) s.next.checkin s.lists.checkins;
  }

  new_voucher : (row : Voucher) → row.id ≡ s.next.voucher → AllIdsGoOn s (with_voucher row s)
  new_voucher row own = record {
    items = same (λ r. r.id) s.next.item s.lists.catalogue.items;
    variations = same (λ r. r.id) s.next.variation s.lists.catalogue.variations;
    quotas = same (λ r. r.id) s.next.quota s.lists.catalogue.quotas;
    vouchers = put_new (λ r. r.id) row s.next.voucher s.lists.vouchers own;
    carts = same (λ r. r.id) s.next.cart s.lists.carts;
    orders = same (λ r. r.id) s.next.order s.lists.orders;
    positions = same (λ r. r.id) s.next.position s.lists.positions;
    waiting = same (λ r. r.id) s.next.waiting s.lists.waiting;
    checkin_lists = same (λ r. r.id) s.next.list s.lists.checkin_lists;
    checkins = same (λ r. r.id) s.next.checkin s.lists.checkins;
  }

  old_voucher : (row old : Voucher) → voucher_at row.id s.lists ≡ Some old → AllIdsGoOn s (change_applied (PutVoucher row) s)
  old_voucher row old stood = record {
    items = same (λ r. r.id) s.next.item s.lists.catalogue.items;
    variations = same (λ r. r.id) s.next.variation s.lists.catalogue.variations;
    quotas = same (λ r. r.id) s.next.quota s.lists.catalogue.quotas;
    vouchers = put_old (λ r. r.id) row old s.next.voucher s.lists.vouchers stood;
    carts = same (λ r. r.id) s.next.cart s.lists.carts;
    orders = same (λ r. r.id) s.next.order s.lists.orders;
    positions = same (λ r. r.id) s.next.position s.lists.positions;
    waiting = same (λ r. r.id) s.next.waiting s.lists.waiting;
    checkin_lists = same (λ r. r.id) s.next.list s.lists.checkin_lists;
    checkins = same (λ r. r.id) s.next.checkin s.lists.checkins;
  }

  drop_voucher : (id : ℕ) → AllIdsGoOn s (change_applied (DropVoucher id) s)
  drop_voucher id = record {
    items = same (λ r. r.id) s.next.item s.lists.catalogue.items;
    variations = same (λ r. r.id) s.next.variation s.lists.catalogue.variations;
    quotas = same (λ r. r.id) s.next.quota s.lists.catalogue.quotas;
    vouchers = dropped (λ r. r.id) id s.next.voucher s.lists.vouchers;
    carts = same (λ r. r.id) s.next.cart s.lists.carts;
    orders = same (λ r. r.id) s.next.order s.lists.orders;
    positions = same (λ r. r.id) s.next.position s.lists.positions;
    waiting = same (λ r. r.id) s.next.waiting s.lists.waiting;
    checkin_lists = same (λ r. r.id) s.next.list s.lists.checkin_lists;
    checkins = same (λ r. r.id) s.next.checkin s.lists.checkins;
  }

  new_cart : (row : CartPos) → row.id ≡ s.next.cart → AllIdsGoOn s (with_cart row s)
  new_cart row own = record {
    items = same (λ r. r.id) s.next.item s.lists.catalogue.items;
    variations = same (λ r. r.id) s.next.variation s.lists.catalogue.variations;
    quotas = same (λ r. r.id) s.next.quota s.lists.catalogue.quotas;
    vouchers = same (λ r. r.id) s.next.voucher s.lists.vouchers;
    carts = put_new (λ r. r.id) row s.next.cart s.lists.carts own;
    orders = same (λ r. r.id) s.next.order s.lists.orders;
    positions = same (λ r. r.id) s.next.position s.lists.positions;
    waiting = same (λ r. r.id) s.next.waiting s.lists.waiting;
    checkin_lists = same (λ r. r.id) s.next.list s.lists.checkin_lists;
    checkins = same (λ r. r.id) s.next.checkin s.lists.checkins;
  }

  drop_cart : (id : ℕ) → AllIdsGoOn s (change_applied (DropCart id) s)
  drop_cart id = record {
    items = same (λ r. r.id) s.next.item s.lists.catalogue.items;
    variations = same (λ r. r.id) s.next.variation s.lists.catalogue.variations;
    quotas = same (λ r. r.id) s.next.quota s.lists.catalogue.quotas;
    vouchers = same (λ r. r.id) s.next.voucher s.lists.vouchers;
    carts = dropped (λ r. r.id) id s.next.cart s.lists.carts;
    orders = same (λ r. r.id) s.next.order s.lists.orders;
    positions = same (λ r. r.id) s.next.position s.lists.positions;
    waiting = same (λ r. r.id) s.next.waiting s.lists.waiting;
    checkin_lists = same (λ r. r.id) s.next.list s.lists.checkin_lists;
    checkins = same (λ r. r.id) s.next.checkin s.lists.checkins;
  }

  old_order : (row old : Order) → order_at row.id s.lists ≡ Some old → AllIdsGoOn s (change_applied (PutOrder row) s)
  old_order row old stood = record {
    items = same (λ r. r.id) s.next.item s.lists.catalogue.items;
    variations = same (λ r. r.id) s.next.variation s.lists.catalogue.variations;
    quotas = same (λ r. r.id) s.next.quota s.lists.catalogue.quotas;
    vouchers = same (λ r. r.id) s.next.voucher s.lists.vouchers;
    carts = same (λ r. r.id) s.next.cart s.lists.carts;
    orders = put_old (λ r. r.id) row old s.next.order s.lists.orders stood;
    positions = same (λ r. r.id) s.next.position s.lists.positions;
    waiting = same (λ r. r.id) s.next.waiting s.lists.waiting;
    checkin_lists = same (λ r. r.id) s.next.list s.lists.checkin_lists;
    checkins = same (λ r. r.id) s.next.checkin s.lists.checkins;
  }

  new_waiting : (row : Waiting) → row.id ≡ s.next.waiting → AllIdsGoOn s (with_waiting row s)
  new_waiting row own = record {
    items = same (λ r. r.id) s.next.item s.lists.catalogue.items;
    variations = same (λ r. r.id) s.next.variation s.lists.catalogue.variations;
    quotas = same (λ r. r.id) s.next.quota s.lists.catalogue.quotas;
    vouchers = same (λ r. r.id) s.next.voucher s.lists.vouchers;
    carts = same (λ r. r.id) s.next.cart s.lists.carts;
    orders = same (λ r. r.id) s.next.order s.lists.orders;
    positions = same (λ r. r.id) s.next.position s.lists.positions;
    waiting = put_new (λ r. r.id) row s.next.waiting s.lists.waiting own;
    checkin_lists = same (λ r. r.id) s.next.list s.lists.checkin_lists;
    checkins = same (λ r. r.id) s.next.checkin s.lists.checkins;
  }

  old_waiting : (row old : Waiting) → waiting_at row.id s.lists ≡ Some old → AllIdsGoOn s (change_applied (PutWaiting row) s)
  old_waiting row old stood = record {
    items = same (λ r. r.id) s.next.item s.lists.catalogue.items;
    variations = same (λ r. r.id) s.next.variation s.lists.catalogue.variations;
    quotas = same (λ r. r.id) s.next.quota s.lists.catalogue.quotas;
    vouchers = same (λ r. r.id) s.next.voucher s.lists.vouchers;
    carts = same (λ r. r.id) s.next.cart s.lists.carts;
    orders = same (λ r. r.id) s.next.order s.lists.orders;
    positions = same (λ r. r.id) s.next.position s.lists.positions;
    waiting = put_old (λ r. r.id) row old s.next.waiting s.lists.waiting stood;
    checkin_lists = same (λ r. r.id) s.next.list s.lists.checkin_lists;
    checkins = same (λ r. r.id) s.next.checkin s.lists.checkins;
  }

  drop_waiting : (id : ℕ) → AllIdsGoOn s (change_applied (DropWaiting id) s)
  drop_waiting id = record {
    items = same (λ r. r.id) s.next.item s.lists.catalogue.items;
    variations = same (λ r. r.id) s.next.variation s.lists.catalogue.variations;
    quotas = same (λ r. r.id) s.next.quota s.lists.catalogue.quotas;
    vouchers = same (λ r. r.id) s.next.voucher s.lists.vouchers;
    carts = same (λ r. r.id) s.next.cart s.lists.carts;
    orders = same (λ r. r.id) s.next.order s.lists.orders;
    positions = same (λ r. r.id) s.next.position s.lists.positions;
    waiting = dropped (λ r. r.id) id s.next.waiting s.lists.waiting;
    checkin_lists = same (λ r. r.id) s.next.list s.lists.checkin_lists;
    checkins = same (λ r. r.id) s.next.checkin s.lists.checkins;
  }

  pub new_checkin_list : (row : CheckinList) → row.id ≡ s.next.list → AllIdsGoOn s (with_checkin_list row s)
  new_checkin_list row own = record {
    items = same (λ r. r.id) s.next.item s.lists.catalogue.items;
    variations = same (λ r. r.id) s.next.variation s.lists.catalogue.variations;
    quotas = same (λ r. r.id) s.next.quota s.lists.catalogue.quotas;
    vouchers = same (λ r. r.id) s.next.voucher s.lists.vouchers;
    carts = same (λ r. r.id) s.next.cart s.lists.carts;
    orders = same (λ r. r.id) s.next.order s.lists.orders;
    positions = same (λ r. r.id) s.next.position s.lists.positions;
    waiting = same (λ r. r.id) s.next.waiting s.lists.waiting;
    checkin_lists = put_new (λ r. r.id) row s.next.list s.lists.checkin_lists own;
    checkins = same (λ r. r.id) s.next.checkin s.lists.checkins;
  }

  pub new_checkin : (row : Checkin) → row.id ≡ s.next.checkin → AllIdsGoOn s (with_checkin row s)
  new_checkin row own = record {
    items = same (λ r. r.id) s.next.item s.lists.catalogue.items;
    variations = same (λ r. r.id) s.next.variation s.lists.catalogue.variations;
    quotas = same (λ r. r.id) s.next.quota s.lists.catalogue.quotas;
    vouchers = same (λ r. r.id) s.next.voucher s.lists.vouchers;
    carts = same (λ r. r.id) s.next.cart s.lists.carts;
    orders = same (λ r. r.id) s.next.order s.lists.orders;
    positions = same (λ r. r.id) s.next.position s.lists.positions;
    waiting = same (λ r. r.id) s.next.waiting s.lists.waiting;
    checkin_lists = same (λ r. r.id) s.next.list s.lists.checkin_lists;
    checkins = put_new (λ r. r.id) row s.next.checkin s.lists.checkins own;
  }

  -- what is overdue ends
  pub ended_ids : AllIdsGoOn s (pending_ended s)
  unfolding orders_expired carts_dropped
  ended_ids = record {
    items = same (λ r. r.id) s.next.item s.lists.catalogue.items;
    variations = same (λ r. r.id) s.next.variation s.lists.catalogue.variations;
    quotas = same (λ r. r.id) s.next.quota s.lists.catalogue.quotas;
    vouchers = same (λ r. r.id) s.next.voucher s.lists.vouchers;
    carts = kept (λ r. r.id) (is_live_cart s.moment) s.next.cart s.lists.carts;
    orders = mapped (λ r. r.id) (expired_if_due s.moment) (expired_id s.moment) s.next.order s.lists.orders;
    positions = same (λ r. r.id) s.next.position s.lists.positions;
    waiting = same (λ r. r.id) s.next.waiting s.lists.waiting;
    checkin_lists = same (λ r. r.id) s.next.list s.lists.checkin_lists;
    checkins = same (λ r. r.id) s.next.checkin s.lists.checkins;
  }

-- the order's id is used, and the next position gets this one
abbrev numbered : ℕ → State → State
numbered id s = record s { next = record s.next { order = s.next.order + 1; position = id } }

new_order : (s : State) (row : Order) → row.id ≡ s.next.order → AllIdsGoOn s (numbered s.next.position (change_applied (PutOrder row) s))
new_order s row own = record {
  items = same (λ r. r.id) s.next.item s.lists.catalogue.items;
  variations = same (λ r. r.id) s.next.variation s.lists.catalogue.variations;
  quotas = same (λ r. r.id) s.next.quota s.lists.catalogue.quotas;
  vouchers = same (λ r. r.id) s.next.voucher s.lists.vouchers;
  carts = same (λ r. r.id) s.next.cart s.lists.carts;
  orders = put_new (λ r. r.id) row s.next.order s.lists.orders own;
  positions = same (λ r. r.id) s.next.position s.lists.positions;
  waiting = same (λ r. r.id) s.next.waiting s.lists.waiting;
  checkin_lists = same (λ r. r.id) s.next.list s.lists.checkin_lists;
  checkins = same (λ r. r.id) s.next.checkin s.lists.checkins;
}

new_position : (s : State) (id : ℕ) (row : OrderPos) → row.id ≡ id → AllIdsGoOn (numbered id s) (numbered (id + 1) (change_applied (PutPosition row) s))
new_position s id row own = record {
  items = same (λ r. r.id) s.next.item s.lists.catalogue.items;
  variations = same (λ r. r.id) s.next.variation s.lists.catalogue.variations;
  quotas = same (λ r. r.id) s.next.quota s.lists.catalogue.quotas;
  vouchers = same (λ r. r.id) s.next.voucher s.lists.vouchers;
  carts = same (λ r. r.id) s.next.cart s.lists.carts;
  orders = same (λ r. r.id) (s.next.order + 1) s.lists.orders;
  positions = put_new (λ r. r.id) row id s.lists.positions own;
  waiting = same (λ r. r.id) s.next.waiting s.lists.waiting;
  checkin_lists = same (λ r. r.id) s.next.list s.lists.checkin_lists;
  checkins = same (λ r. r.id) s.next.checkin s.lists.checkins;
}

new_variations : (rows : List Variation) (s : State) → AreFrom s.next.variation rows → AllIdsGoOn s (record s { lists = after_all (map PutVariation rows) s.lists; next = record s.next { variation = s.next.variation + length rows } })
new_variations [] s from =
    let none : s.next.variation ≡ s.next.variation + 0 = omega arith in
    subst (λ (n : ℕ). AllIdsGoOn s (record s { next = record s.next { variation = n } })) none (all_same s)
new_variations (row ∷ rows) s from =
    let one = with_variation row s in
    let end : s.next.variation + 1 + length rows ≡ s.next.variation + length (row ∷ rows) = omega arith in
    let to : ℕ → State = λ n. record s { lists = after_all (map PutVariation (row ∷ rows)) s.lists; next = record s.next { variation = n } } in
    subst (λ (n : ℕ). AllIdsGoOn s (to n)) end (all_more s one (to (s.next.variation + 1 + length rows)) (new_variation s row from.0) (new_variations rows one from.1))

drop_carts : (ids : List ℕ) (s : State) → AllIdsGoOn s (without_carts ids s)
drop_carts [] s = all_same s
drop_carts (id ∷ ids) s = all_more s (change_applied (DropCart id) s) (without_carts (id ∷ ids) s) (drop_cart s id) (drop_carts ids (change_applied (DropCart id) s))

new_positions : (rows : List OrderPos) (id : ℕ) (s put : State) → AreCounted id rows → with_positions rows (Ok s) ≡ Ok put → AllIdsGoOn (numbered id s) (numbered (id + length rows) put)
new_positions [] id s put from h =
    let end : id ≡ id + 0 = omega arith in
    let is : s ≡ put = cc (h) in
    subst (λ (n : ℕ). AllIdsGoOn (numbered id s) (numbered n put)) end (subst (λ (t : State). AllIdsGoOn (numbered id s) (numbered id t)) is (all_same (numbered id s)))
new_positions (row ∷ rows) id s put from h = by_put (position_put row s) refl h (λ made. new_positions rows (id + 1) made put from.1)
  where
    by_put : (done : Result State OrderRefusal) → position_put row s ≡ done → with_positions rows done ≡ Ok put → ((made : State) → with_positions rows (Ok made) ≡ Ok put → AllIdsGoOn (numbered (id + 1) made) (numbered (id + 1 + length rows) put)) → AllIdsGoOn (numbered id s) (numbered (id + length (row ∷ rows)) put)
    by_put (Err refusal) e h more = absurd (cc (h))
    by_put (Ok made) e h more =
        let end : id + 1 + length rows ≡ id + length (row ∷ rows) = omega arith in
        let one : AllIdsGoOn (numbered id s) (numbered (id + 1) made) = subst (λ (t : State). AllIdsGoOn (numbered id s) (numbered (id + 1) t)) (put_is row s made e).is (new_position s id row from.0) in
        subst (λ (n : ℕ). AllIdsGoOn (numbered id s) (numbered n put)) end (all_more (numbered id s) (numbered (id + 1) made) (numbered (id + 1 + length rows) put) one (more made h))

-- ---- each command

pub item_ids : (new : NewItem) (s : State) (rows : ItemRows) → item_added new s.next.item s.next.variation s.lists.catalogue ≡ Ok rows → AllIdsGoOn s (with_item rows s)
item_ids new s rows h =
    let a = item_added_is new s.next.item s.next.variation s.lists.catalogue rows h in
    subst (λ (r : ItemRows). AllIdsGoOn s (with_item r s)) a.is_rows (with_rows (item_rows new s.next.item s.next.variation) refl (variation_rows_count new.variations s.next.item s.next.variation))
  where
    with_rows : (made : ItemRows) → made.item.id ≡ s.next.item → AreFrom s.next.variation made.variations → AllIdsGoOn s (with_item made s)
    with_rows made own from =
        let one : State = record s { lists = after_change (PutItem made.item) s.lists; next = record s.next { item = s.next.item + 1 } } in
        all_more s one (with_item made s) (new_item s made.item own) (new_variations made.variations one from)

pub item_change_ids : (id : ℕ) (patch : ItemPatch) (s : State) (row : Item) → item_changed id patch s.lists.catalogue ≡ Ok row → AllIdsGoOn s (change_applied (PutItem row) s)
item_change_ids id patch s row h =
    let c = item_changed_is id patch s.lists.catalogue row h in
    let own : row.id ≡ id = sym (ap (λ (r : Item). r.id) c.is_row) ∙ key-row_at (λ (r : Item). r.id) id s.lists.catalogue.items c.old c.stood in
    old_item s row c.old (ap (λ (n : ℕ). item_at n s.lists.catalogue) own ∙ c.stood)

pub variation_ids : (item : ℕ) (new : NewVariation) (s : State) (made : PricedVariation) → variation_added item new s.next.variation s.lists.catalogue ≡ Ok made → AllIdsGoOn s (with_variation made.row s)
variation_ids item new s made h =
    let a = variation_added_is item new s.next.variation s.lists.catalogue made h in
    new_variation s made.row (sym (ap (λ (m : PricedVariation). m.row.id) a.is_made))

pub quota_ids : (new : NewQuota) (s : State) (row : Quota) → quota_added new s.next.quota s.lists.catalogue ≡ Ok row → AllIdsGoOn s (with_quota row s)
quota_ids new s row h =
    let a = quota_added_is new s.next.quota s.lists.catalogue row h in
    new_quota s row (sym (ap (λ (r : Quota). r.id) a.is_row))

pub resize_ids : (id : ℕ) (patch : QuotaPatch) (s : State) (row : Quota) → quota_resized id patch s.lists.catalogue ≡ Ok row → AllIdsGoOn s (change_applied (PutQuota row) s)
resize_ids id patch s row h =
    let c = resized_is id patch s.lists.catalogue row h in
    let own : row.id ≡ id = sym (ap (λ (r : Quota). r.id) c.is_row) ∙ key-row_at (λ (r : Quota). r.id) id s.lists.catalogue.quotas c.old c.stood in
    old_quota s row c.old (ap (λ (n : ℕ). quota_at n s.lists.catalogue) own ∙ c.stood)

pub made_ids : (new : NewVoucher) (draw : Draw) (s after : State) (row : Voucher) → voucher_made new draw s ≡ Ok (after, row) → AllIdsGoOn s after
made_ids new draw s after row h =
    let m = made_is new draw s after row h in
    subst (λ (t : State). AllIdsGoOn s t) m.is_after (new_voucher s row (made_id new draw s after row m))

row_ids : (new : NewVoucher) (draw : Draw) (s : State) → AllIdsGoOn s (row_imported new draw s).0
row_ids new draw s = of_row new draw s (λ (m : State × Verdict). AllIdsGoOn s m.0) (λ verdict none. all_same s) (λ after row h. made_ids new draw s after row h)

pub rows_ids : (vouchers : List NewVoucher) (draw : Draw) (s : State) → AllIdsGoOn s (rows_imported vouchers draw s).0
rows_ids [] draw s = all_same s
rows_ids (new ∷ more) draw s =
    let next = (row_imported new draw s).0 in
    all_more s next (rows_imported more draw next).0 (row_ids new draw s) (rows_ids more draw next)

pub changed_ids : (id : ℕ) (patch : VoucherPatch) (s after : State) (row : Voucher) → voucher_changed id patch s ≡ Ok (after, row) → AllIdsGoOn s after
changed_ids id patch s after row h =
    let c = changed_is id patch s after row h in
    let own : row.id ≡ id = sym (ap (λ (r : Voucher). r.id) c.asked.is_row) ∙ key-row_at (λ (r : Voucher). r.id) id s.lists.vouchers c.old c.stood in
    subst (λ (t : State). AllIdsGoOn s t) c.is_after (old_voucher s row c.old (ap (λ (n : ℕ). voucher_at n s.lists) own ∙ c.stood))

pub deleted_ids : (id : ℕ) (s after : State) → voucher_deleted id s ≡ Ok after → AllIdsGoOn s after
deleted_ids id s after h = subst (λ (t : State). AllIdsGoOn s t) (deleted_is id s after h).is_after (drop_voucher s id)

pub dropped_ids : (id : ℕ) (s after : State) → position_dropped id s ≡ Ok after → AllIdsGoOn s after
dropped_ids id s after h = subst (λ (t : State). AllIdsGoOn s t) (dropped_is id s after h) (drop_cart s id)

pub added_ids : (new : NewCart) (draw : Draw) (s after : State) (row : CartPos) → position_added new draw s ≡ Ok (after, row) → AllIdsGoOn s after
added_ids new draw s after row h =
    let a = added_is new draw s after row h in
    subst (λ (t : State). AllIdsGoOn s t) a.is_after (new_cart s row (added_id new draw s after row a))

one_added : (new : NewCart) (draw : Draw) (s : State) (made : Result (State × CartPos) OrderRefusal) → position_added new draw s ≡ made → AllIdsGoOn s (outcome_of s made).0
one_added new draw s (Err refusal) h = all_same s
one_added new draw s (Ok (after, row)) h = added_ids new draw s after row h

entry_ids : (entry : Entry) (draw : Draw) (s : State) → AllIdsGoOn s (entry_added entry draw s).0
entry_ids (New new) draw s = one_added new draw s (position_added new draw s) refl
entry_ids (Faulty fault) draw s = all_same s

pub entries_ids : (entries : List Entry) (draw : Draw) (s : State) → AllIdsGoOn s (all_added entries draw s).0
entries_ids [] draw s = all_same s
entries_ids (entry ∷ entries) draw s =
    let next = (entry_added entry draw s).0 in
    all_more s next (all_added entries draw next).0 (entry_ids entry draw s) (entries_ids entries draw next)

pub created_ids : (new : NewOrder) (draw : Draw) (s after : State) (made : OrderRows) → order_created new draw s ≡ Ok (after, made) → AllIdsGoOn s after
created_ids new draw s after made h =
    let m = created_is new draw s after made h in
    let start = s.next.position in
    let free = without_carts (carts_consumed new.consume_carts s.lists) s in
    let placed = with_order_row made.order new.consume_carts s in
    let own : made.order.id ≡ s.next.order = sym (ap (λ (o : Order). o.id) m.is_order) in
    let ordered : AllIdsGoOn s (numbered start placed) = all_more s free (numbered start placed) (drop_carts (carts_consumed new.consume_carts s.lists) s) (new_order free made.order own) in
    let end = numbered (start + length made.positions) m.put in
    let all : AllIdsGoOn s end = all_more s (numbered start placed) end ordered (new_positions made.positions start placed m.put (counted draw s [] start 1 new.positions made.positions m.are_rows) m.puts) in
    let next = puts_next made.positions placed m.put m.puts in
    subst (λ (t : State). AllIdsGoOn s t) m.is_after (subst (λ (n : ℕ). AllIdsGoOn s (numbered n m.put)) (ap (λ (x : NextIds). x.position + length made.positions) (sym next)) all)

pub moved_ids : (number : ℕ) (change : Move) (s after : State) (rows : OrderRows) → order_moved number change s ≡ Ok (after, rows) → AllIdsGoOn s after
moved_ids number change s after rows h =
    let m = moved_is number change s after rows h in
    let id : m.old.id ≡ number = found_id number s.lists.orders m.old m.stood in
    let row : rows.order.id ≡ m.old.id = sym (ap (λ (o : Order). o.id) m.is_row) in
    subst (λ (t : State). AllIdsGoOn s t) m.is_after (old_order s rows.order m.old (ap (λ n. order_at n s.lists) (row ∙ id) ∙ m.stood))

-- each row stands under its id
pub each_stands : {T : Type 0} (key : T → ℕ) (rows : List T) → AllByRecursion (λ r. is_some (row_at key (key r) rows) ≡ true) rows
each_stands key [] = tt
each_stands {T} key (r ∷ rs) =
    (by_own (eqb_tells (key r) (key r)), all_weaker (λ x. is_some (row_at key (key x) rs) ≡ true) (λ x. is_some (row_at key (key x) (r ∷ rs)) ≡ true) (λ x is. or_later key r (eqb (key r) (key x)) (row_at key (key x) rs) is) rs (each_stands key rs))
  where
    by_own : ((eqb (key r) (key r) ≡ true) × (key r ≡ key r)) ⊎ ((eqb (key r) (key r) ≡ false) × (key r ≢ key r)) → is_some (row_at key (key r) (r ∷ rs)) ≡ true
    by_own (inl t) = ap (λ (b : Bool). is_some (if b then Some r else row_at key (key r) rs)) t.0
    by_own (inr t) = absurd (t.1 refl)

-- the entry of this id stands
abbrev pub stands_in : State → ℕ → Bool
stands_in s id = is_some (waiting_at id s.lists)

-- an entry that stands gets a voucher
pub sent_ids : (draw : Draw) (e : Waiting) (s : State) → stands_in s e.id ≡ true → AllIdsGoOn s (with_sent draw e s)
sent_ids draw e s stands = by_found (waiting_at e.id s.lists) refl stands
  where
    by_found : (found : Option Waiting) → waiting_at e.id s.lists ≡ found → is_some found ≡ true → AllIdsGoOn s (with_sent draw e s)
    by_found None is none = absurd (cc (none))
    by_found (Some old) is some =
        let one = with_voucher (sent_voucher draw s e.product) s in
        all_more s one (with_sent draw e s) (new_voucher s (sent_voucher draw s e.product) refl) (old_waiting one (with_its_voucher s e) old is)

-- and those that stood stand still
still_waits : (draw : Draw) (e : Waiting) (s : State) (id : ℕ) → stands_in s id ≡ true → stands_in (with_sent draw e s) id ≡ true
still_waits draw e s id stands = ap is_some (row_at-with_row (λ (r : Waiting). r.id) id (with_its_voucher s e) s.lists.waiting) ∙ or_later (λ (r : Waiting). r.id) (with_its_voucher s e) (eqb e.id id) (waiting_at id s.lists) stands

pub all_sent_ids : (draw : Draw) (es : List Waiting) (s : State) → AllByRecursion (λ e. stands_in s e.id ≡ true) es → AllIdsGoOn s (all_sent draw es s)
all_sent_ids draw [] s stand = all_same s
all_sent_ids draw (e ∷ es) s stand =
    let next = with_sent draw e s in
    all_more s next (all_sent draw es next) (sent_ids draw e s stand.0) (all_sent_ids draw es next (all_weaker (λ e. stands_in s e.id ≡ true) (λ e. stands_in next e.id ≡ true) (λ one is. still_waits draw e s one.id is) es stand.1))

pub joined_ids : (new : NewWaiting) (s after : State) (row : Waiting) → entry_joined new s ≡ Ok (after, row) → AllIdsGoOn s after
joined_ids new s after row h =
    let j = joined_is new s after row h in
    subst (λ (t : State). AllIdsGoOn s t) j.is_after (new_waiting s row (joined_id new s after row j))

pub changed_entry_ids : (id : ℕ) (patch : WaitingPatch) (s after : State) (row : Waiting) → entry_changed id patch s ≡ Ok (after, row) → AllIdsGoOn s after
changed_entry_ids id patch s after row h =
    let c = changed_entry_is id patch s after row h in
    subst (λ (t : State). AllIdsGoOn s t) c.is_after (old_waiting s row c.old (changed_stood id patch s after row c))

pub left_ids : (id : ℕ) (s after : State) → entry_left id s ≡ Ok after → AllIdsGoOn s after
left_ids id s after h = subst (λ (t : State). AllIdsGoOn s t) (left_is id s after h).is_after (drop_waiting s id)

pub sending_ids : (id : ℕ) (draw : Draw) (s after : State) (row : Waiting) → voucher_sent id draw s ≡ Ok (after, row) → AllIdsGoOn s after
sending_ids id draw s after row h =
    let v = sent_is id draw s after row h in
    subst (λ (t : State). AllIdsGoOn s t) v.to.is_after (sent_ids draw v.old s (ap is_some (own_place id s v.old v.stands)))
