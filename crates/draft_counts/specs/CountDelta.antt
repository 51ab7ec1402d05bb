-- What a change of one row brings to each of a quota's counts, and what it takes.
use mathlib.Core.Bool.{beq}
use Rattle.std.specs.Prelude.{◌≡◌, ℕ, ◌-◌, Bool, true, false, ◌&&◌, not, List, Option, Some, None, count_by, if◌then◌else◌}
use Rattle.std.specs.Option.{option_copied}
use Rattle.base_tables.specs.Tables.{sum_at}
use Rattle.model_catalogue.specs.declared.rows.Quota.{Quota}
use Rattle.model_catalogue.specs.declared.rows.Product.{Product}
use Rattle.model_catalogue.specs.Member.{is_in}
use Rattle.model_rows.specs.declared.rows.Voucher.{Voucher}
use Rattle.model_rows.specs.declared.rows.CartPos.{CartPos}
use Rattle.model_rows.specs.declared.rows.Waiting.{Waiting}
use Rattle.model_rows.specs.declared.rows.Checkin.{Checkin}
use Rattle.model_rows.specs.declared.rows.Order.{Order}
use Rattle.model_rows.specs.declared.rows.OrderPos.{OrderPos}
use Rattle.model_rows.specs.declared.rows.Usage.{Usage}
use Rattle.model_rows.specs.declared.changes.Change.{Change}
use Rattle.model_rows.specs.declared.changes.Change.TheVariants.{PutVoucher, PutCart, PutOrder, PutPosition, PutWaiting, DropVoucher, DropCart, DropWaiting, PutCheckin}
use Rattle.model_rows.specs.Conditions.{is_paid, is_pending, is_in_force}
use Rattle.model_rows.specs.Change.{after_change}
use Rattle.model_rows.specs.Lists.{Lists, voucher_at, cart_at, order_at, position_at, waiting_at}
use Rattle.model_rows.specs.Usage.{redeemed, stands_as, blocks_if, is_covered_by, is_released}
use Rattle.model_rows.specs.Asked.{held_in}
use Rattle.draft_overlay.specs.declared.purchases.Purchase.{Purchase}
use Rattle.book_tally.specs.Amounts.{nothing}
use Rattle.book_usage.specs.OfOrder.{count_ordered, if_stands}
use Rattle.book_usage.specs.Shares.{cart_share, waiting_share, exited_share}
use Rattle.draft_overlay.specs.Purchases.{ArePurchasesOf}
use Rattle.draft_counts.specs.declared.shift.Spot.{Spot}

-- 1 where this is true, else 0
abbrev pub once : Bool → ℕ
once b = if b then 1 else 0

-- a place for a product counts once in its quotas, unless the voucher blocks places there
abbrev pub spot_share : ℕ → Quota → Product → Option Voucher → ℕ
spot_share at quota product voucher = once (is_in quota product && not (blocks_if at quota voucher))

-- how much a place counts in a quota, and 0 where there is none
abbrev pub spot_counts : ℕ → Quota → Option Spot → ℕ
spot_counts at quota spot = sum_at (λ p. spot_share at quota p.product (option_copied p.voucher)) spot

-- a place of a product is in the quota and set free there, where its ticket has gone out
abbrev pub is_free_in : Quota → Product → Bool → Bool
is_free_in quota product out = is_in quota product && (quota.release_after_exit && out)

-- how many of the places are for products of the quota
abbrev pub count_here : Quota → List Spot → ℕ
count_here quota spots = count_by (λ s. is_in quota s.product) spots

-- how many of them have vouchers that block places of the quota
abbrev pub count_covered : ℕ → Quota → List Spot → ℕ
count_covered at quota spots = count_by (λ s. blocks_if at quota (option_copied s.voucher)) spots

-- how many of them are for products of the quota, and released there
abbrev pub count_released : Quota → List Spot → ℕ
count_released quota spots = count_by (λ s. is_free_in quota s.product s.out) spots

-- its positions in the quota
abbrev pub ordered_in : Lists → Quota → ℕ → ℕ
ordered_in lists quota id = count_ordered id (λ p. is_in quota p.product) lists

-- its positions in the quota that are released there
abbrev pub released_in : Lists → Quota → ℕ → ℕ
released_in lists quota id = count_ordered id (λ p. is_in quota p.product && is_released lists quota p) lists

-- its positions whose vouchers block places of the quota
abbrev pub ordered_covered : Lists → ℕ → Quota → ℕ → ℕ
ordered_covered lists at quota id = count_ordered id (λ p. is_covered_by lists at quota p.voucher) lists

-- how many of its uses a voucher has left, and none where there is none
abbrev pub left_of : ℕ → Option Voucher → ℕ
left_of redeemed voucher = sum_at (λ v. v.max_usages - redeemed) voucher

-- the usage of some places, of which cart positions take each or for which entries wait
abbrev pub usage_of_places : Bool → ℕ → Usage
usage_of_places waits count = if waits then record nothing { waiting = count } else record nothing { carts = count }

-- what comes with a cart position, if there is one
abbrev pub cart_come : Lists → ℕ → Option CartPos → Quota → Usage
cart_come lists at cart quota = usage_of_places false (cart_share lists at quota cart)

-- what goes with the cart position of an id
abbrev pub cart_gone : Lists → ℕ → ℕ → Quota → Usage
cart_gone lists at id quota = cart_come lists at (cart_at id lists) quota

-- what comes with a waiting entry, if there is one
abbrev pub waiting_come : Option Waiting → Quota → Usage
waiting_come entry quota = usage_of_places true (waiting_share quota entry)

-- what goes with the waiting entry of an id
abbrev pub waiting_gone : Lists → ℕ → Quota → Usage
waiting_gone lists id quota = waiting_come (waiting_at id lists) quota

-- what a voucher has left, where it blocks places; and the live cart positions that the other one covered, and it doesn't
abbrev pub voucher_counts : Bool → Bool → ℕ → ℕ → Usage
voucher_counts blocks other left held = record nothing { blocked = if blocks then left else 0; carts = if other && not blocks then held else 0 }

-- what counts with a voucher of this id, where another one or none goes
abbrev pub voucher_side : Lists → ℕ → Quota → ℕ → Option Voucher → Option Voucher → Usage
voucher_side lists at quota id voucher other = voucher_counts (blocks_if at quota voucher) (blocks_if at quota other) (left_of (redeemed id lists) voucher) (held_in at quota id lists)

-- what comes with a voucher, or none, in the place of the one of an id
abbrev pub voucher_come : Lists → ℕ → ℕ → Option Voucher → Quota → Usage
voucher_come lists at id voucher quota = voucher_side lists at quota id voucher (voucher_at id lists)

-- what goes with the one in whose place it comes
abbrev pub voucher_gone : Lists → ℕ → ℕ → Option Voucher → Quota → Usage
voucher_gone lists at id voucher quota = voucher_side lists at quota id (voucher_at id lists) voucher

-- the usage of some places of an order, by its status, and of some that are released, where it is paid; and of those that vouchers block
-- again, where the other order was in force and this one isn't
abbrev pub order_counts : Option Order → Option Order → ℕ → ℕ → ℕ → Usage
order_counts order other here covered released = record nothing {
  paid = if_stands is_paid order here;
  pending = if_stands is_pending order here;
  blocked = if stands_as is_in_force other && not (stands_as is_in_force order) then covered else 0;
  exited = if_stands is_paid order released;
}

-- what counts with an order of this id, where another one or none goes
abbrev pub order_side : Lists → ℕ → Quota → ℕ → Option Order → Option Order → Usage
order_side lists at quota id order other = order_counts order other (ordered_in lists quota id) (ordered_covered lists at quota id) (released_in lists quota id)

-- an order stands there that counts the same: paid as this one, and pending as this one
abbrev pub keeps_status : Order → Option Order → Bool
keeps_status row None = false
keeps_status row (Some old) = beq (is_paid row.status) (is_paid old.status) && beq (is_pending row.status) (is_pending old.status)

-- what comes or goes with an order, unless it counts the same
abbrev pub unless_kept : Bool → Usage → Usage
unless_kept keeps usage = if keeps then nothing else usage

-- the purchases are those of the order that a change puts so that it counts otherwise
abbrev pub AreTurned : Change → Lists → List Purchase → Type 0
AreTurned (PutOrder row) lists purchases = keeps_status row (order_at row.id lists) ≡ false → ArePurchasesOf row.id lists purchases
AreTurned _ lists purchases = Unit {0}

-- a place that is sold counts once, as paid or as pending; and as one that is released, where it is paid
abbrev pub sold_as : Bool → Bool → Bool → Bool → Usage
sold_as paid pending here released = record nothing { paid = once (paid && here); pending = once (pending && here); exited = once (paid && (here && released)) }

-- a new order position counts by the status of its order
abbrev pub sale_come : Lists → OrderPos → Quota → Usage
sale_come lists row quota = sold_as (stands_as is_paid (order_at row.order lists)) (stands_as is_pending (order_at row.order lists)) (is_in quota row.product) (is_released lists quota row)

-- and takes a place that its voucher blocked, where its order is in force
abbrev pub sale_gone : Lists → ℕ → OrderPos → Quota → Usage
sale_gone lists at row quota = record nothing { blocked = once (stands_as is_in_force (order_at row.order lists) && is_covered_by lists at quota row.voucher) }

-- a new check-in releases the place of its position, where its ticket goes out with it
abbrev pub checkin_come : Lists → Checkin → Quota → Usage
checkin_come lists row quota = record nothing { exited = exited_share (after_change (PutCheckin row) lists) quota (position_at row.position lists) }

-- and takes back the one that was released before it
abbrev pub checkin_gone : Lists → Checkin → Quota → Usage
checkin_gone lists row quota = record nothing { exited = exited_share lists quota (position_at row.position lists) }

-- what comes to a quota with a change
abbrev pub come_of : Lists → ℕ → Change → Quota → Usage
come_of lists at (PutVoucher row) quota = voucher_come lists at row.id (Some row) quota
come_of lists at (DropVoucher id) quota = voucher_come lists at id None quota
come_of lists at (PutCart row) quota = cart_come lists at (Some row) quota
come_of lists at (PutOrder row) quota = unless_kept (keeps_status row (order_at row.id lists)) (order_side lists at quota row.id (Some row) (order_at row.id lists))
come_of lists at (PutPosition row) quota = sale_come lists row quota
come_of lists at (PutWaiting row) quota = waiting_come (Some row) quota
come_of lists at (PutCheckin row) quota = checkin_come lists row quota
come_of lists at _ quota = nothing

-- what goes
abbrev pub gone_of : Lists → ℕ → Change → Quota → Usage
gone_of lists at (PutVoucher row) quota = voucher_gone lists at row.id (Some row) quota
gone_of lists at (DropVoucher id) quota = voucher_gone lists at id None quota
gone_of lists at (PutCart row) quota = cart_gone lists at row.id quota
gone_of lists at (DropCart id) quota = cart_gone lists at id quota
gone_of lists at (PutOrder row) quota = unless_kept (keeps_status row (order_at row.id lists)) (order_side lists at quota row.id (order_at row.id lists) (Some row))
gone_of lists at (PutPosition row) quota = sale_gone lists at row quota
gone_of lists at (PutWaiting row) quota = waiting_gone lists row.id quota
gone_of lists at (DropWaiting id) quota = waiting_gone lists id quota
gone_of lists at (PutCheckin row) quota = checkin_gone lists row quota
gone_of lists at _ quota = nothing
