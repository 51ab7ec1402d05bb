-- The uses of a voucher after one change.
use mathlib.Core.Bool.{beq}
use Rattle.std.proofs.Common.{◌≡◌, ℕ, ◌+◌, Bool, true, false, ◌&&◌, List, [], ◌∷◌, eqb, Option, None, Some, refl, sym, ap, ◌∙◌, sum_by, arith}
use Rattle.std.specs.Prelude.{if◌then◌else◌, not}
use Rattle.std.proofs.lemmas.List.Sums.{sum_by-cons}
use Rattle.base_tables.specs.Tables.{sum_at, AreInOrder}
use Rattle.base_tables.proofs.Edits.{sum_by-with_row, sum_by-without_row}
use Rattle.model_rows.specs.declared.rows.CartPos.{CartPos}
use Rattle.model_rows.specs.declared.rows.Order.{Order}
use Rattle.model_rows.specs.declared.rows.OrderPos.{OrderPos}
use Rattle.model_rows.specs.declared.rows.Status.{Status}
use Rattle.model_rows.specs.declared.rows.Status.TheVariants.{Pending, Paid, Expired, Cancelled}
use Rattle.model_rows.specs.declared.changes.Change.{Change}
use Rattle.model_rows.specs.declared.changes.Change.TheVariants.{PutItem, PutVariation, PutQuota, PutVoucher, PutCart, PutOrder, PutPosition, PutWaiting, DropVoucher, DropCart, DropWaiting, PutCheckinList, PutCheckin}
use Rattle.model_rows.specs.Change.{after_change}
use Rattle.model_rows.specs.Kept.{IsKept}
use Rattle.model_rows.specs.Lists.{Lists, cart_at, order_at, position_at}
use Rattle.model_rows.specs.Conditions.{is_paid, is_pending, is_in_force, is_live_cart, names, holds}
use Rattle.model_rows.specs.Usage.{redeemed, stands_as, uses, spends, spent}
use Rattle.model_rows.proofs.Budgets.{order_spends}
use Rattle.model_rows.proofs.Time.{one, same_sums}
use Rattle.draft_overlay.specs.Logs.{IsSale}
use Rattle.book_usage.specs.OfOrder.{count_ordered}
use Rattle.book_usage.specs.Shares.{held_name, used_name}
use Rattle.book_usage.proofs.Redeemed.{named, redeemed_order, redeemed_position}
use Rattle.book_tally.specs.Amounts.{plus_uses}
use Rattle.book_tally.proofs.AmountLemmas.{same_uses}
use Rattle.draft_counts.specs.CountDelta.{keeps_status}
use Rattle.draft_counts.specs.Uses.{uses_of, one_use, one_discount, ordered_discounts, use_come, use_gone}

held_is : (at v : ℕ) (cart : Option CartPos) → sum_at (λ c. if holds at v c then 1 else 0) cart ≡ one_use v (held_name at cart)
held_is at v None = refl
held_is at v (Some cart) = by_life (is_live_cart at cart)
  where
    by_life : (b : Bool) → (if b && names v cart.voucher then 1 else 0) ≡ one_use v (if b then cart.voucher else None)
    by_life true = refl
    by_life false = refl

used_is : (v : ℕ) (lists : Lists) (p : OrderPos) → one (uses v lists p) ≡ one_use v (used_name lists (Some p))
used_is v lists p = by_force (names v p.voucher) (stands_as is_in_force (order_at p.order lists)) refl
  where
    by_force : (named force : Bool) → names v p.voucher ≡ named → one (named && force) ≡ one_use v (if force then p.voucher else None)
    by_force true true is = rw is refl
    by_force true false is = refl
    by_force false true is = rw is refl
    by_force false false is = refl

spent_is : (v : ℕ) (lists : Lists) (p : OrderPos) → spends v lists p ≡ one_discount v (used_name lists (Some p)) p.discount
spent_is v lists p = by_force (names v p.voucher) (stands_as is_in_force (order_at p.order lists)) refl
  where
    by_force : (named force : Bool) → names v p.voucher ≡ named → ◌≡◌ {A = ℕ} (if named && force then p.discount else 0) (one_discount v (if force then p.voucher else None) p.discount)
    by_force true true is = rw is refl
    by_force true false is = refl
    by_force false true is = rw is refl
    by_force false false is = refl

-- an order that is in force as the one before it turns no uses
turned : (r r' n : ℕ) (old new : Bool) → r' + (if old then n else 0) ≡ r + (if new then n else 0) → r' + (if old && not new then n else 0) ≡ r + (if new && not old then n else 0)
turned r r' n true true e = omega (arith, e)
turned r r' n true false e = omega (arith, e)
turned r r' n false true e = omega (arith, e)
turned r r' n false false e = omega (arith, e)

-- an order's positions that name the voucher spend their discounts, where it is in force
abbrev given_by : Order → ℕ → Bool → OrderPos → ℕ
given_by row v force p = if eqb row.id p.order then (if names v p.voucher && force then p.discount else 0) else 0

given_is : (row : Order) (lists : Lists) (v : ℕ) (force : Bool) → sum_by (given_by row v force) lists.positions ≡ (if force then ordered_discounts lists row.id v else 0)
given_is row lists v true = same_sums (given_by row v true) (λ p. if eqb row.id p.order then one_discount v p.voucher p.discount else 0) lists.positions (λ p. in_force (eqb row.id p.order) (names v p.voucher) p.discount)
  where
    in_force : (own named : Bool) (cents : ℕ) → ◌≡◌ {A = ℕ} (if own then (if named && true then cents else 0) else 0) (if own then (if named then cents else 0) else 0)
    in_force true true cents = refl
    in_force true false cents = refl
    in_force false named cents = refl
given_is row lists v false = none lists.positions
  where
    nothing_of : (own named : Bool) (cents : ℕ) → ◌≡◌ {A = ℕ} (if own then (if named && false then cents else 0) else 0) 0
    nothing_of true true cents = refl
    nothing_of true false cents = refl
    nothing_of false named cents = refl

    none : (ps : List OrderPos) → sum_by (given_by row v false) ps ≡ 0
    none [] = refl
    none (p ∷ ps) = omega (arith, sum_by-cons (given_by row v false) p ps, nothing_of (eqb row.id p.order) (names v p.voucher) p.discount, none ps)

spent_order : (v : ℕ) (row : Order) (lists : Lists) → spent v (after_change (PutOrder row) lists) + (if stands_as is_in_force (order_at row.id lists) then ordered_discounts lists row.id v else 0) ≡ spent v lists + (if is_in_force row.status then ordered_discounts lists row.id v else 0)
spent_order v row lists =
    let shifts : spent v (after_change (PutOrder row) lists) + sum_by (given_by row v (stands_as is_in_force (order_at row.id lists))) lists.positions ≡ spent v lists + sum_by (given_by row v (is_in_force row.status)) lists.positions = order_spends row lists v in
    omega (arith, shifts, given_is row lists v (stands_as is_in_force (order_at row.id lists)), given_is row lists v (is_in_force row.status))

spent_position : (v : ℕ) (row : OrderPos) (lists : Lists) → AreInOrder (λ r. r.id) lists.positions → position_at row.id lists ≡ None → spent v (after_change (PutPosition row) lists) ≡ spent v lists + spends v lists row
spent_position v row lists order new =
    let none : sum_at (spends v lists) (position_at row.id lists) ≡ 0 = ap (sum_at (spends v lists)) new in
    omega (arith, sum_by-with_row (λ r. r.id) (spends v lists) 0 row lists.positions order, none)

-- with each change that can come the uses of each voucher are what they were, with those that come and without those that go
pub use_step : (lists : Lists) (at limit : ℕ) → IsKept limit lists → (change : Change) → IsSale change lists → (v : ℕ) → plus_uses (uses_of at (after_change change lists) v) (use_gone lists at change v) ≡ plus_uses (uses_of at lists v) (use_come lists at change v)
use_step lists at limit kept (PutItem row) sale v = refl
use_step lists at limit kept (PutVariation row) sale v = refl
use_step lists at limit kept (PutQuota row) sale v = refl
use_step lists at limit kept (PutVoucher row) sale v = refl
use_step lists at limit kept (DropVoucher id) sale v = refl
use_step lists at limit kept (PutCart row) sale v =
    same_uses (plus_uses (uses_of at (after_change (PutCart row) lists) v) (use_gone lists at (PutCart row) v)) (plus_uses (uses_of at lists v) (use_come lists at (PutCart row) v)) refl
    (omega (arith, sum_by-with_row (λ r. r.id) (λ c. if holds at v c then 1 else 0) 0 row lists.carts kept.carts.in_order, held_is at v (cart_at row.id lists), held_is at v (Some row))) refl
use_step lists at limit kept (DropCart id) sale v =
    same_uses (plus_uses (uses_of at (after_change (DropCart id) lists) v) (use_gone lists at (DropCart id) v)) (plus_uses (uses_of at lists v) (use_come lists at (DropCart id) v)) refl
    (omega (arith, sum_by-without_row (λ r. r.id) (λ c. if holds at v c then 1 else 0) 0 id lists.carts kept.carts.in_order, held_is at v (cart_at id lists))) refl
use_step lists at limit kept (PutOrder row) sale v =
    same_uses (plus_uses (uses_of at (after_change (PutOrder row) lists) v) (use_gone lists at (PutOrder row) v)) (plus_uses (uses_of at lists v) (use_come lists at (PutOrder row) v))
    (turned (redeemed v lists) (redeemed v (after_change (PutOrder row) lists)) (count_ordered row.id (named v) lists) (stands_as is_in_force (order_at row.id lists)) (is_in_force row.status) (redeemed_order v row lists)) refl
    (turned (spent v lists) (spent v (after_change (PutOrder row) lists)) (ordered_discounts lists row.id v) (stands_as is_in_force (order_at row.id lists)) (is_in_force row.status) (spent_order v row lists))
use_step lists at limit kept (PutPosition row) sale v =
    same_uses (plus_uses (uses_of at (after_change (PutPosition row) lists) v) (use_gone lists at (PutPosition row) v)) (plus_uses (uses_of at lists v) (use_come lists at (PutPosition row) v))
    (omega (arith, redeemed_position v row lists kept.positions.in_order sale, used_is v lists row)) refl
    (omega (arith, spent_position v row lists kept.positions.in_order sale, spent_is v lists row))
use_step lists at limit kept (PutWaiting row) sale v = refl
use_step lists at limit kept (DropWaiting id) sale v = refl
use_step lists at limit kept (PutCheckinList row) sale v = refl
use_step lists at limit kept (PutCheckin row) sale v = refl

-- an order that counts the same is in force as it was
pub force_kept : (row : Order) (old : Option Order) → keeps_status row old ≡ true → is_in_force row.status ≡ stands_as is_in_force old
force_kept row None e = absurd (cc e)
force_kept row (Some old) e = by_status row.status old.status e
  where
    by_status : (a b : Status) → (beq (is_paid a) (is_paid b) && beq (is_pending a) (is_pending b)) ≡ true → is_in_force a ≡ is_in_force b
    by_status Pending Pending e = refl
    by_status Pending Paid e = refl
    by_status Pending Expired e = absurd (cc e)
    by_status Pending Cancelled e = absurd (cc e)
    by_status Paid Pending e = refl
    by_status Paid Paid e = refl
    by_status Paid Expired e = absurd (cc e)
    by_status Paid Cancelled e = absurd (cc e)
    by_status Expired Pending e = absurd (cc e)
    by_status Expired Paid e = absurd (cc e)
    by_status Expired Expired e = refl
    by_status Expired Cancelled e = refl
    by_status Cancelled Pending e = absurd (cc e)
    by_status Cancelled Paid e = absurd (cc e)
    by_status Cancelled Expired e = refl
    by_status Cancelled Cancelled e = refl

-- so one that is in force otherwise counts otherwise
pub force_turns : (row : Order) (old : Option Order) → beq (is_in_force row.status) (stands_as is_in_force old) ≡ false → keeps_status row old ≡ false
force_turns row old turns = by_test (keeps_status row old) refl
  where
    by_test : (b : Bool) → keeps_status row old ≡ b → b ≡ false
    by_test true is = absurd (cc (sym (ap (beq (is_in_force row.status)) (sym (force_kept row old is)) ∙ same (is_in_force row.status)) ∙ turns))
      where
        same : (b : Bool) → beq b b ≡ true
        same true = refl
        same false = refl
    by_test false is = refl

pub equal : (a b : Bool) → beq a b ≡ true → a ≡ b
equal true true h = refl
equal true false h = absurd (cc h)
equal false true h = absurd (cc h)
equal false false h = refl
