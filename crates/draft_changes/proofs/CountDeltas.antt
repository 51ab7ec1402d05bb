-- Each of a quota's counts after a change of one row.
use Rattle.std.proofs.Common.{◌≡◌, ℕ, ◌+◌, ◌-◌, Bool, true, false, ◌&&◌, Option, Some, None, refl, sym, ap, ◌∙◌, count_by, sum_by, arith}
use mathlib.Core.Bool.{beq}
use Rattle.std.specs.Prelude.{if◌then◌else◌, not}
use Rattle.base_tables.specs.Tables.{AreInOrder, sum_at, with_row, without_row}
use Rattle.base_tables.proofs.Edits.{row_at-with_row, row_at-without_row, sum_by-with_row, sum_by-without_row}
use Rattle.model_catalogue.specs.declared.rows.Quota.{Quota}
use Rattle.model_catalogue.specs.Member.{is_in}
use Rattle.model_rows.specs.declared.rows.CartPos.{CartPos}
use Rattle.model_rows.specs.declared.rows.Waiting.{Waiting}
use Rattle.model_rows.specs.declared.rows.Order.{Order}
use Rattle.model_rows.specs.declared.rows.OrderPos.{OrderPos}
use Rattle.model_rows.specs.declared.rows.Status.{Status}
use Rattle.model_rows.specs.declared.rows.Usage.{Usage}
use Rattle.model_rows.specs.declared.rows.Voucher.{Voucher}
use Rattle.model_rows.specs.declared.rows.CheckinList.{CheckinList}
use Rattle.model_rows.specs.declared.rows.Checkin.{Checkin}
use Rattle.model_rows.specs.declared.changes.Change.{Change}
use Rattle.model_rows.specs.declared.changes.Change.TheVariants.{PutItem, PutVariation, PutQuota, PutVoucher, PutCart, PutOrder, PutPosition, PutWaiting, DropVoucher, DropCart, DropWaiting, PutCheckinList, PutCheckin}
use Rattle.model_rows.specs.Conditions.{is_paid, is_pending, is_in_force, blocks}
use Rattle.model_rows.specs.Lists.{Lists, voucher_at, order_at, position_at, checkin_at}
use Rattle.model_rows.specs.Kept.{IsKept}
use Rattle.model_rows.specs.Change.{after_change}
use Rattle.model_rows.specs.Asked.{held_in}
use Rattle.model_rows.specs.Usage.{usage_of, stands_as, cart_counts, blocked_by, blocks_if, is_covered_by, waits_for, is_released, redeemed}
use Rattle.model_rows.proofs.EachRow.{key-row_at}
use Rattle.model_rows.proofs.Exits.{exit_shift}
use Rattle.model_rows.proofs.Lowers.{checkin_list_apart}
use Rattle.model_rows.proofs.Orders.{counts, of_order, order_step, position_step, blocked_linear}
use Rattle.model_rows.proofs.Time.{one}
use Rattle.book_usage.proofs.OrderSums.{of_one, order_put_is}
use Rattle.book_usage.proofs.VoucherCounts.{carts_with}
use Rattle.book_usage.specs.OfOrder.{count_ordered, if_stands}
use Rattle.book_usage.specs.Shares.{cart_share, waiting_share, exited_share}
use Rattle.draft_counts.specs.Logs.{Log, rows_of}
use Rattle.draft_counts.specs.CountDelta.{left_of}
use Rattle.draft_changes.specs.CanCome.{CanCome, KeepsHeadroom}
use Rattle.model_rows.specs.declared.rows.Status.TheVariants.{Pending, Paid, Expired, Cancelled}
use Rattle.book_tally.specs.Amounts.{nothing, plus}
use Rattle.book_tally.proofs.AmountLemmas.{same_usage}
use Rattle.draft_counts.specs.CountDelta.{order_side, keeps_status, come_of, gone_of}

-- count by count
each_count : (u g v c : Usage) → u.paid + g.paid ≡ v.paid + c.paid → u.pending + g.pending ≡ v.pending + c.pending → u.blocked + g.blocked ≡ v.blocked + c.blocked → u.carts + g.carts ≡ v.carts + c.carts → u.waiting + g.waiting ≡ v.waiting + c.waiting → u.exited + g.exited ≡ v.exited + c.exited → plus u g ≡ plus v c
each_count u g v c = same_usage (plus u g) (plus v c)

-- what is the same on both sides may go
same_rest : (u v w : Usage) → plus u w ≡ plus v w → plus u nothing ≡ plus v nothing
same_rest u v w e =
    each_count u nothing v nothing (omega (arith, ap (λ (x : Usage). x.paid) e)) (omega (arith, ap (λ (x : Usage). x.pending) e)) (omega (arith, ap (λ (x : Usage). x.blocked) e)) (omega (arith, ap (λ (x : Usage). x.carts) e)) (omega (arith, ap (λ (x : Usage). x.waiting) e)) (omega (arith, ap (λ (x : Usage). x.exited) e))

-- an order of one status in the place of one of another
abbrev as_status : Status → Status → ℕ → ℕ → ℕ → Usage
as_status status other n m k = record nothing { paid = if is_paid status then n else 0; pending = if is_pending status then n else 0; blocked = if is_in_force other && not (is_in_force status) then m else 0; exited = if is_paid status then k else 0 }

alike : (a b : Status) (n m k : ℕ) → (beq (is_paid a) (is_paid b) && beq (is_pending a) (is_pending b)) ≡ true → as_status a b n m k ≡ as_status b a n m k
alike Pending Pending n m k e = refl
alike Pending Paid n m k e = absurd (cc e)
alike Pending Expired n m k e = absurd (cc e)
alike Pending Cancelled n m k e = absurd (cc e)
alike Paid Pending n m k e = absurd (cc e)
alike Paid Paid n m k e = refl
alike Paid Expired n m k e = absurd (cc e)
alike Paid Cancelled n m k e = absurd (cc e)
alike Expired Pending n m k e = absurd (cc e)
alike Expired Paid n m k e = absurd (cc e)
alike Expired Expired n m k e = refl
alike Expired Cancelled n m k e = refl
alike Cancelled Pending n m k e = absurd (cc e)
alike Cancelled Paid n m k e = absurd (cc e)
alike Cancelled Expired n m k e = refl
alike Cancelled Cancelled n m k e = refl

module _ (lists : Lists) (at : ℕ) (quota : Quota) where
  cart_put : (row : CartPos) → AreInOrder (λ r. r.id) lists.carts → plus (usage_of (after_change (PutCart row) lists) at quota) (gone_of lists at (PutCart row) quota) ≡ plus (usage_of lists at quota) (come_of lists at (PutCart row) quota)
  unfolding usage_of blocked_by cart_share
  cart_put row order =
      let f : CartPos → ℕ = λ c. if cart_counts lists at quota c then 1 else 0 in
      each_count (usage_of (after_change (PutCart row) lists) at quota) (gone_of lists at (PutCart row) quota) (usage_of lists at quota) (come_of lists at (PutCart row) quota)
      refl refl refl (sum_by-with_row (λ r. r.id) f 0 row lists.carts order) refl refl

  cart_drop : (id : ℕ) → AreInOrder (λ r. r.id) lists.carts → plus (usage_of (after_change (DropCart id) lists) at quota) (gone_of lists at (DropCart id) quota) ≡ plus (usage_of lists at quota) nothing
  unfolding usage_of blocked_by cart_share
  cart_drop id order =
      let f : CartPos → ℕ = λ c. if cart_counts lists at quota c then 1 else 0 in
      each_count (usage_of (after_change (DropCart id) lists) at quota) (gone_of lists at (DropCart id) quota) (usage_of lists at quota) nothing
      refl refl refl (omega (arith, sum_by-without_row (λ r. r.id) f 0 id lists.carts order)) refl refl

  waiting_put : (row : Waiting) → AreInOrder (λ r. r.id) lists.waiting → plus (usage_of (after_change (PutWaiting row) lists) at quota) (gone_of lists at (PutWaiting row) quota) ≡ plus (usage_of lists at quota) (come_of lists at (PutWaiting row) quota)
  unfolding usage_of blocked_by waiting_share
  waiting_put row order =
      let f : Waiting → ℕ = λ w. if waits_for quota w then 1 else 0 in
      each_count (usage_of (after_change (PutWaiting row) lists) at quota) (gone_of lists at (PutWaiting row) quota) (usage_of lists at quota) (come_of lists at (PutWaiting row) quota)
      refl refl refl refl (sum_by-with_row (λ r. r.id) f 0 row lists.waiting order) refl

  waiting_drop : (id : ℕ) → AreInOrder (λ r. r.id) lists.waiting → plus (usage_of (after_change (DropWaiting id) lists) at quota) (gone_of lists at (DropWaiting id) quota) ≡ plus (usage_of lists at quota) nothing
  unfolding usage_of blocked_by waiting_share
  waiting_drop id order =
      let f : Waiting → ℕ = λ w. if waits_for quota w then 1 else 0 in
      each_count (usage_of (after_change (DropWaiting id) lists) at quota) (gone_of lists at (DropWaiting id) quota) (usage_of lists at quota) nothing
      refl refl refl refl (omega (arith, sum_by-without_row (λ r. r.id) f 0 id lists.waiting order)) refl

  checkin_list_put : (row : CheckinList) → plus (usage_of (after_change (PutCheckinList row) lists) at quota) nothing ≡ plus (usage_of lists at quota) nothing
  checkin_list_put row = ap (λ (u : Usage). plus u nothing) (checkin_list_apart row lists at quota)

  checkin_put : (row : Checkin) → checkin_at row.id lists ≡ None → AreInOrder (λ r. r.id) lists.positions → plus (usage_of (after_change (PutCheckin row) lists) at quota) (gone_of lists at (PutCheckin row) quota) ≡ plus (usage_of lists at quota) (come_of lists at (PutCheckin row) quota)
  unfolding usage_of blocked_by exited_share
  checkin_put row new order =
      each_count (usage_of (after_change (PutCheckin row) lists) at quota) (gone_of lists at (PutCheckin row) quota) (usage_of lists at quota) (come_of lists at (PutCheckin row) quota)
      refl refl refl refl refl (exit_shift row lists new order quota)

  blocked_here : (id : ℕ) (voucher : Option Voucher) → ((v : Voucher) → voucher ≡ Some v → v.id ≡ id) → sum_at (blocked_by lists at quota) voucher ≡ (if blocks_if at quota voucher then left_of (redeemed id lists) voucher else 0)
  unfolding blocked_by
  blocked_here id None same = refl
  blocked_here id (Some v) same = ap (λ x. if blocks at quota v then v.max_usages - redeemed x lists else 0) (same v refl)

  -- the cart positions that both cover, or neither does, count as they did
  covered : (c c' held : ℕ) (old new : Bool) → c' + (if old then 0 else held) ≡ c + (if new then 0 else held) → c' + (if new && not old then held else 0) ≡ c + (if old && not new then held else 0)
  covered c c' held true true e = omega (arith, e)
  covered c c' held true false e = omega (arith, e)
  covered c c' held false true e = omega (arith, e)
  covered c c' held false false e = omega (arith, e)

  voucher_put : (row : Voucher) → AreInOrder (λ r. r.id) lists.vouchers → plus (usage_of (after_change (PutVoucher row) lists) at quota) (gone_of lists at (PutVoucher row) quota) ≡ plus (usage_of lists at quota) (come_of lists at (PutVoucher row) quota)
  unfolding usage_of blocked_by
  voucher_put row order =
      let after = after_change (PutVoucher row) lists in
      let gone = blocked_here row.id (voucher_at row.id lists) (key-row_at (λ r. r.id) row.id lists.vouchers) in
      let come = blocked_here row.id (Some row) (λ v is. ap (λ (o : Option Voucher). id_in row.id o) (sym is)) in
      each_count (usage_of after at quota) (gone_of lists at (PutVoucher row) quota) (usage_of lists at quota) (come_of lists at (PutVoucher row) quota)
      refl refl
      (omega (arith, sum_by-with_row (λ r. r.id) (blocked_by lists at quota) 0 row lists.vouchers order, gone, come))
      (covered (count_by (cart_counts lists at quota) lists.carts) (count_by (cart_counts after at quota) lists.carts) (held_in at quota row.id lists) (blocks_if at quota (voucher_at row.id lists)) (blocks at quota row)
      (carts_with lists at quota row.id (Some row) (with_row (λ r. r.id) row lists.vouchers) (λ x. row_at-with_row (λ r. r.id) x row lists.vouchers)))
      refl refl
    where
      id_in : ℕ → Option Voucher → ℕ
      id_in d None = d
      id_in d (Some v) = v.id

  voucher_drop : (id : ℕ) → AreInOrder (λ r. r.id) lists.vouchers → plus (usage_of (after_change (DropVoucher id) lists) at quota) (gone_of lists at (DropVoucher id) quota) ≡ plus (usage_of lists at quota) (come_of lists at (DropVoucher id) quota)
  unfolding usage_of blocked_by
  voucher_drop id order =
      let after = after_change (DropVoucher id) lists in
      let gone = blocked_here id (voucher_at id lists) (key-row_at (λ r. r.id) id lists.vouchers) in
      each_count (usage_of after at quota) (gone_of lists at (DropVoucher id) quota) (usage_of lists at quota) (come_of lists at (DropVoucher id) quota)
      refl refl
      (omega (arith, sum_by-without_row (λ r. r.id) (blocked_by lists at quota) 0 id lists.vouchers order, gone))
      (covered (count_by (cart_counts lists at quota) lists.carts) (count_by (cart_counts after at quota) lists.carts) (held_in at quota id lists) (blocks_if at quota (voucher_at id lists)) false
      (carts_with lists at quota id None (without_row (λ r. r.id) id lists.vouchers) (λ x. row_at-without_row (λ r. r.id) x id lists.vouchers)))
      refl refl

  -- what an order's positions do to what vouchers block
  given_back : (b b' n : ℕ) (old new : Bool) → b' + (if new then n else 0) ≡ b + (if old then n else 0) → b' + (if new && not old then n else 0) ≡ b + (if old && not new then n else 0)
  given_back b b' n true true e = omega (arith, e)
  given_back b b' n true false e = omega (arith, e)
  given_back b b' n false true e = omega (arith, e)
  given_back b b' n false false e = omega (arith, e)

module _ (lists : Lists) (at limit : ℕ) (kept : IsKept limit lists) (quota : Quota) where
  abbrev in_it : OrderPos → Bool
  in_it p = is_in quota p.product

  -- and released there
  abbrev freed : OrderPos → Bool
  freed p = is_in quota p.product && is_released lists quota p

  -- its voucher blocks the quota
  abbrev spends : OrderPos → Bool
  spends p = is_covered_by lists at quota p.voucher

  own : (test : Status → Bool) (more : OrderPos → Bool) (order : Order) → count_by (λ p. of_order test more order p && counts test more lists p) lists.positions ≡ if_stands test (order_at order.id lists) (count_ordered order.id more lists)
  own test more order = of_one test more order.id lists

  own_after : (test : Status → Bool) (more : OrderPos → Bool) (order : Order) → count_by (λ p. of_order test more order p && counts test more (after_change (PutOrder order) lists) p) lists.positions ≡ if_stands test (Some order) (count_ordered order.id more lists)
  own_after test more order = of_one test more order.id (after_change (PutOrder order) lists) ∙ ap (λ o. if_stands test o (count_ordered order.id more lists)) (order_put_is order lists)

  order_turn : (order : Order) → KeepsHeadroom at (PutOrder order) lists → plus (usage_of (after_change (PutOrder order) lists) at quota) (order_side lists at quota order.id (order_at order.id lists) (Some order)) ≡ plus (usage_of lists at quota) (order_side lists at quota order.id (Some order) (order_at order.id lists))
  unfolding usage_of blocked_by
  order_turn order room =
      let after = after_change (PutOrder order) lists in
      let vouchers = kept.vouchers.in_order in
      let old = order_at order.id lists in
      let blocks_as : sum_by (blocked_by after at quota) lists.vouchers + if_stands is_in_force (Some order) (count_ordered order.id spends lists) ≡ sum_by (blocked_by lists at quota) lists.vouchers + if_stands is_in_force old (count_ordered order.id spends lists) =
      omega (arith, blocked_linear at quota lists vouchers room.before, blocked_linear at quota after vouchers room.after, order_step is_in_force spends order lists, own is_in_force spends order, own_after is_in_force spends order) in
      each_count (usage_of after at quota) (order_side lists at quota order.id old (Some order)) (usage_of lists at quota) (order_side lists at quota order.id (Some order) old)
      (omega (arith, order_step is_paid in_it order lists, own is_paid in_it order, own_after is_paid in_it order))
      (omega (arith, order_step is_pending in_it order lists, own is_pending in_it order, own_after is_pending in_it order))
      (given_back lists at quota (sum_by (blocked_by lists at quota) lists.vouchers) (sum_by (blocked_by after at quota) lists.vouchers) (count_ordered order.id spends lists) (stands_as is_in_force old) (is_in_force order.status) blocks_as)
      refl refl
      (omega (arith, order_step is_paid freed order lists, own is_paid freed order, own_after is_paid freed order))

  -- where it counts as the one in its place did, nothing comes and nothing goes
  order_put : (order : Order) → KeepsHeadroom at (PutOrder order) lists → plus (usage_of (after_change (PutOrder order) lists) at quota) (gone_of lists at (PutOrder order) quota) ≡ plus (usage_of lists at quota) (come_of lists at (PutOrder order) quota)
  order_put order room = by_old (order_at order.id lists) (order_turn order room)
    where
      by_old : (old : Option Order) → plus (usage_of (after_change (PutOrder order) lists) at quota) (order_side lists at quota order.id old (Some order)) ≡ plus (usage_of lists at quota) (order_side lists at quota order.id (Some order) old)
          → plus (usage_of (after_change (PutOrder order) lists) at quota) (if keeps_status order old then nothing else order_side lists at quota order.id old (Some order)) ≡ plus (usage_of lists at quota) (if keeps_status order old then nothing else order_side lists at quota order.id (Some order) old)
      by_old None turn = turn
      by_old (Some old) turn = by_test (keeps_status order (Some old)) refl
        where
          by_test : (b : Bool) → keeps_status order (Some old) ≡ b → plus (usage_of (after_change (PutOrder order) lists) at quota) (if b then nothing else order_side lists at quota order.id (Some old) (Some order)) ≡ plus (usage_of lists at quota) (if b then nothing else order_side lists at quota order.id (Some order) (Some old))
          by_test true keeps = same_rest (usage_of (after_change (PutOrder order) lists) at quota) (usage_of lists at quota) (order_side lists at quota order.id (Some order) (Some old)) (ap (plus (usage_of (after_change (PutOrder order) lists) at quota)) (alike order.status old.status _ _ _ keeps) ∙ turn)
          by_test false keeps = turn

  position_put : (p : OrderPos) → position_at p.id lists ≡ None → KeepsHeadroom at (PutPosition p) lists → plus (usage_of (after_change (PutPosition p) lists) at quota) (gone_of lists at (PutPosition p) quota) ≡ plus (usage_of lists at quota) (come_of lists at (PutPosition p) quota)
  unfolding usage_of blocked_by
  position_put p new room =
      let after = after_change (PutPosition p) lists in
      let order = kept.positions.in_order in
      let vouchers = kept.vouchers.in_order in
      let none : (f : OrderPos → ℕ) → sum_at f (position_at p.id lists) ≡ 0 = λ f. ap (sum_at f) new in
      each_count (usage_of after at quota) (gone_of lists at (PutPosition p) quota) (usage_of lists at quota) (come_of lists at (PutPosition p) quota)
      (omega (arith, position_step is_paid in_it p lists order, none (λ p. one (counts is_paid in_it lists p))))
      (omega (arith, position_step is_pending in_it p lists order, none (λ p. one (counts is_pending in_it lists p))))
      (omega (arith, blocked_linear at quota lists vouchers room.before, blocked_linear at quota after vouchers room.after, position_step is_in_force spends p lists order, none (λ p. one (counts is_in_force spends lists p))))
      refl refl
      (omega (arith, position_step is_paid freed p lists order, none (λ p. one (counts is_paid freed lists p))))

-- any change that can come
pub one_step : (log : Log) (at limit : ℕ) → IsKept limit (rows_of log) → (change : Change) → CanCome at log change → (quota : Quota) → plus (usage_of (after_change change (rows_of log)) at quota) (gone_of (rows_of log) at change quota) ≡ plus (usage_of (rows_of log) at quota) (come_of (rows_of log) at change quota)
one_step log at limit kept (PutItem row) can quota = absurd can
one_step log at limit kept (PutVariation row) can quota = absurd can
one_step log at limit kept (PutQuota row) can quota = absurd can
one_step log at limit kept (PutVoucher row) can quota = voucher_put (rows_of log) at quota row kept.vouchers.in_order
one_step log at limit kept (DropVoucher id) can quota = voucher_drop (rows_of log) at quota id kept.vouchers.in_order
one_step log at limit kept (PutCart row) can quota = cart_put (rows_of log) at quota row kept.carts.in_order
one_step log at limit kept (DropCart id) can quota = cart_drop (rows_of log) at quota id kept.carts.in_order
one_step log at limit kept (PutOrder row) can quota = order_put (rows_of log) at limit kept quota row can
one_step log at limit kept (PutPosition row) can quota = position_put (rows_of log) at limit kept quota row can.0 can.1
one_step log at limit kept (PutWaiting row) can quota = waiting_put (rows_of log) at quota row kept.waiting.in_order
one_step log at limit kept (DropWaiting id) can quota = waiting_drop (rows_of log) at quota id kept.waiting.in_order
one_step log at limit kept (PutCheckinList row) can quota = checkin_list_put (rows_of log) at quota row
one_step log at limit kept (PutCheckin row) can quota = checkin_put (rows_of log) at quota row can.0 kept.positions.in_order
