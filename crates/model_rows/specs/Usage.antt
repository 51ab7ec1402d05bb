-- What uses a quota, counted afresh over the lists.
use Rattle.std.specs.Prelude.{ℕ, ◌-◌, Bool, true, false, ◌&&◌, not, Option, Some, None, count_by, sum_by, if◌then◌else◌}
use Rattle.model_catalogue.specs.declared.rows.Quota.{Quota}
use Rattle.model_catalogue.specs.Member.{is_in}
use Rattle.model_rows.specs.declared.rows.Voucher.{Voucher}
use Rattle.model_rows.specs.declared.rows.CartPos.{CartPos}
use Rattle.model_rows.specs.declared.rows.Order.{Order}
use Rattle.model_rows.specs.declared.rows.OrderPos.{OrderPos}
use Rattle.model_rows.specs.declared.rows.Waiting.{Waiting}
use Rattle.model_rows.specs.declared.rows.Status.{Status}
use Rattle.model_rows.specs.declared.rows.Status.TheVariants.{Pending, Paid, Expired, Cancelled}
use Rattle.model_rows.specs.declared.rows.Usage.{Usage}
use Rattle.model_rows.specs.Conditions.{is_paid, is_pending, is_in_force, is_live_cart, blocks, names}
use Rattle.model_rows.specs.Lists.{Lists, voucher_at, order_at}
use Rattle.model_rows.specs.Passages.{is_out}

-- an order that stands, and has such a status
abbrev pub stands_as : (Status → Bool) → Option Order → Bool
stands_as test None = false
stands_as test (Some order) = test order.status

-- an order position in the quota whose order has such a status
abbrev pub position_counts : (Status → Bool) → Lists → Quota → OrderPos → Bool
position_counts test lists quota position = stands_as test (order_at position.order lists) && is_in quota position.product

-- an order position that uses the voucher
abbrev pub uses : ℕ → Lists → OrderPos → Bool
uses id lists position = names id position.voucher && stands_as is_in_force (order_at position.order lists)

-- how often a voucher is redeemed: how many order positions use it
abbrev pub redeemed : ℕ → Lists → ℕ
redeemed id lists = count_by (uses id lists) lists.positions

-- what an order position that uses the voucher takes of its budget
abbrev pub spends : ℕ → Lists → OrderPos → ℕ
spends id lists position = if uses id lists position then position.discount else 0

-- what is spent of the voucher's budget, in cents
abbrev pub spent : ℕ → Lists → ℕ
spent id lists = sum_by (spends id lists) lists.positions

-- the places that it blocks there
unfoldable pub blocked_by : Lists → ℕ → Quota → Voucher → ℕ
blocked_by lists at quota voucher = if blocks at quota voucher then voucher.max_usages - redeemed voucher.id lists else 0

-- the voucher, if there is one, blocks places of the quota
abbrev pub blocks_if : ℕ → Quota → Option Voucher → Bool
blocks_if at quota None = false
blocks_if at quota (Some voucher) = blocks at quota voucher

-- the voucher of this id, if one is named and there, blocks places of the quota
abbrev pub is_covered_by : Lists → ℕ → Quota → Option ℕ → Bool
is_covered_by lists at quota None = false
is_covered_by lists at quota (Some id) = blocks_if at quota (voucher_at id lists)

-- a place that a voucher blocks is no second time used by its cart position
abbrev pub is_covered : Lists → ℕ → Quota → CartPos → Bool
is_covered lists at quota cart = is_covered_by lists at quota cart.voucher

-- a live cart position in the quota counts, unless its voucher blocks places of the quota
abbrev pub cart_counts : Lists → ℕ → Quota → CartPos → Bool
cart_counts lists at quota cart = is_live_cart at cart && is_in quota cart.product && not (is_covered lists at quota cart)

-- no voucher was sent to it
abbrev pub has_none : Option ℕ → Bool
has_none None = true
has_none (Some voucher) = false

-- a waiting entry without voucher whose product is in the quota
abbrev pub waits_for : Quota → Waiting → Bool
waits_for quota entry = has_none entry.voucher && is_in quota entry.product

-- the position has gone out, and the quota lets its place be sold again
abbrev pub is_released : Lists → Quota → OrderPos → Bool
is_released lists quota position = quota.release_after_exit && is_out position.id lists.checkins

-- a position of a paid order, in the quota, that is released
abbrev pub exit_counts : Lists → Quota → OrderPos → Bool
exit_counts lists quota position = stands_as is_paid (order_at position.order lists) && (is_in quota position.product && is_released lists quota position)

-- whether a position of an order of this status takes its place, where it is released or not
abbrev pub holds_place : Status → Bool → Bool
holds_place Pending released = true
holds_place Paid released = not released
holds_place Expired released = false
holds_place Cancelled released = false

-- an order position that takes a place of the quota
abbrev pub takes_place : Lists → Quota → OrderPos → Bool
takes_place lists quota position = stands_as (λ s. holds_place s (is_released lists quota position)) (order_at position.order lists) && is_in quota position.product

-- the counts: paid, pending, blocked, carts, waiting, and those of the paid ones that are released
unfoldable pub usage_of : Lists → ℕ → Quota → Usage
usage_of lists at quota = record {
  paid = count_by (position_counts is_paid lists quota) lists.positions;
  pending = count_by (position_counts is_pending lists quota) lists.positions;
  blocked = sum_by (blocked_by lists at quota) lists.vouchers;
  carts = count_by (cart_counts lists at quota) lists.carts;
  waiting = count_by (waits_for quota) lists.waiting;
  exited = count_by (exit_counts lists quota) lists.positions;
}
