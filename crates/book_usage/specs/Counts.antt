-- What uses a quota, each of its counts by itself.
use Rattle.std.specs.Prelude.{ℕ, count_by, sum_by}
use Rattle.model_catalogue.specs.declared.rows.Quota.{Quota}
use Rattle.model_rows.specs.Conditions.{is_paid, is_pending}
use Rattle.model_rows.specs.Lists.{Lists}
use Rattle.model_rows.specs.Usage.{position_counts, exit_counts, blocked_by, cart_counts}

-- the positions of paid orders
abbrev pub paid_in : Lists → Quota → ℕ
paid_in lists quota = count_by (position_counts is_paid lists quota) lists.positions

-- the positions of pending orders
abbrev pub pending_in : Lists → Quota → ℕ
pending_in lists quota = count_by (position_counts is_pending lists quota) lists.positions

-- the positions of paid orders whose places are released
abbrev pub exited_in : Lists → Quota → ℕ
exited_in lists quota = count_by (exit_counts lists quota) lists.positions

-- the places that vouchers block at a moment
abbrev pub blocked_in : Lists → ℕ → Quota → ℕ
blocked_in lists at quota = sum_by (blocked_by lists at quota) lists.vouchers

-- the cart positions that count at a moment
abbrev pub carts_in_quota : Lists → ℕ → Quota → ℕ
carts_in_quota lists at quota = count_by (cart_counts lists at quota) lists.carts
