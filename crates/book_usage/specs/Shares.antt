-- What single rows count, each by itself.
use Rattle.std.specs.Prelude.{ℕ, ◌-◌, Bool, Option, Some, None, if◌then◌else◌}
use Rattle.base_tables.specs.Tables.{sum_at}
use Rattle.model_catalogue.specs.declared.rows.Quota.{Quota}
use Rattle.model_rows.specs.declared.rows.CartPos.{CartPos}
use Rattle.model_rows.specs.declared.rows.OrderPos.{OrderPos}
use Rattle.model_rows.specs.declared.rows.Status.{Status}
use Rattle.model_rows.specs.declared.rows.Voucher.{Voucher}
use Rattle.model_rows.specs.declared.rows.Waiting.{Waiting}
use Rattle.model_rows.specs.Conditions.{blocks, is_in_force, is_live_cart}
use Rattle.model_rows.specs.Lists.{Lists, order_at}
use Rattle.model_rows.specs.Usage.{stands_as, exit_counts, position_counts, cart_counts, waits_for}

-- an order position of such an order counts in the quota once, or not
unfoldable pub status_share : (Status → Bool) → Lists → Quota → Option OrderPos → ℕ
status_share test lists quota position = sum_at (λ p. if position_counts test lists quota p then 1 else 0) position

-- an order position that is released counts once, or not
unfoldable pub exited_share : Lists → Quota → Option OrderPos → ℕ
exited_share lists quota position = sum_at (λ p. if exit_counts lists quota p then 1 else 0) position

-- a cart position counts once, or not
unfoldable pub cart_share : Lists → ℕ → Quota → Option CartPos → ℕ
cart_share lists at quota cart = sum_at (λ c. if cart_counts lists at quota c then 1 else 0) cart

-- a waiting entry counts once, or not
unfoldable pub waiting_share : Quota → Option Waiting → ℕ
waiting_share quota entry = sum_at (λ w. if waits_for quota w then 1 else 0) entry

-- what a voucher that is redeemed so often blocks
unfoldable pub blocked_share : ℕ → Quota → ℕ → Option Voucher → ℕ
blocked_share at quota spent voucher = sum_at (λ v. if blocks at quota v then v.max_usages - spent else 0) voucher

-- the voucher of which a cart position holds a use: the one that it names, while it is live
abbrev pub held_name : ℕ → Option CartPos → Option ℕ
held_name at None = None
held_name at (Some cart) = if is_live_cart at cart then cart.voucher else None

-- the voucher that an order position uses: the one that it names, while its order is in force
abbrev pub used_name : Lists → Option OrderPos → Option ℕ
used_name lists None = None
used_name lists (Some position) = if stands_as is_in_force (order_at position.order lists) then position.voucher else None
