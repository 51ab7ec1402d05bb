-- What a walk over what came due counts of each row.
use Rattle.std.specs.Prelude.{◌≡◌, ◌≤◌, ℕ, ◌+◌, ◌-◌, Bool, ◌&&◌, List, Option, Some, None, count_by, sum_by, if◌then◌else◌}
use Rattle.base_tables.specs.Tables.{sum_at}
use Rattle.model_catalogue.specs.declared.rows.Quota.{Quota}
use Rattle.model_rows.specs.declared.rows.Voucher.{Voucher}
use Rattle.model_rows.specs.CameDue.{is_due_voucher}
use Rattle.model_rows.specs.Conditions.{hits}
use Rattle.model_rows.specs.Lists.{Lists, State, voucher_at}
use Rattle.model_rows.specs.Usage.{redeemed}
use Rattle.model_rows.specs.Asked.{held_in}
use Rattle.book_usage.specs.Naming.{cart_names}

-- the cart positions that name a voucher
abbrev pub named_in : ℕ → Lists → ℕ
named_in id lists = count_by (cart_names id) lists.carts

-- the voucher, if there is one, is the one of its id
abbrev pub Stands : Lists → Option Voucher → Type 0
Stands lists None = Unit {0}
Stands lists (Some v) = voucher_at v.id lists ≡ Some v

-- the voucher blocks places of the quota while it is live
abbrev pub may_block : Quota → Voucher → Bool
may_block quota voucher = voucher.block_quota && hits quota voucher

-- the places that a voucher blocked, while it was live
unfoldable pub release_if : Lists → Quota → Option Voucher → ℕ
release_if lists quota voucher = sum_at (λ v. if may_block quota v then v.max_usages - redeemed v.id lists else 0) voucher

-- the cart positions that it covered, and that are live
unfoldable pub free_if : Lists → ℕ → Quota → Option Voucher → ℕ
free_if lists at quota voucher = sum_at (λ v. if may_block quota v then held_in at quota v.id lists else 0) voucher

-- how many cart positions name the voucher, if there is one
unfoldable pub naming_if : Lists → Option Voucher → ℕ
naming_if lists voucher = sum_at (λ v. named_in v.id lists) voucher

-- the steps so far, with a step for each voucher that has ended since, and a step for each cart position that names one of these
abbrev pub with_release_steps : State → ℕ → ℕ → ℕ
with_release_steps state at steps = steps + count_by (is_due_voucher state.moment at) state.lists.vouchers + sum_by (λ v. if is_due_voucher state.moment at v then naming_if state.lists (Some v) else 0) state.lists.vouchers
