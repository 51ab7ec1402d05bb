-- What a change adds to the usage of a quota, and takes from it.
use Rattle.std.specs.Prelude.{◌≡◌, ℕ, ◌+◌, ◌-◌, min, max, Bool, ◌&&◌, List, [], ◌∷◌, Vec, Option, Some, count_by, sum_by, if◌then◌else◌}
use Rattle.model_catalogue.specs.declared.rows.Quota.{Quota}
use Rattle.model_rows.specs.declared.rows.CartPos.{CartPos}
use Rattle.model_rows.specs.declared.rows.Waiting.{Waiting}
use Rattle.model_rows.specs.declared.rows.Usage.{Usage}
use Rattle.model_rows.specs.Lists.{Lists}
use Rattle.model_rows.specs.declared.rows.Voucher.{Voucher}
use Rattle.model_rows.specs.Usage.{cart_counts}
use Rattle.model_rows.specs.CameDue.{is_due_cart, is_due_voucher}
use Rattle.book_usage.specs.Shares.{blocked_share, cart_share, waiting_share}
use Rattle.book_counts_over_time.specs.Later.{release_if, free_if}

-- each of the second list by the one beside it
abbrev pub map_beside : {X Y : Type 0} → (X → Y → Y) → List X → List Y → List Y
map_beside f [] ys = ys
map_beside f (x ∷ xs) [] = []
map_beside f (x ∷ xs) (y ∷ ys) = f x y ∷ map_beside f xs ys

-- the usage of each of these quotas is shifted so
abbrev pub AreShifted : {Z : Type 0} → (Quota → Usage → Usage) → List Quota → Vec Usage Z → Vec Usage Z → Type 0
AreShifted shift quotas old new = new.items ≡ map_beside shift quotas old.items

-- the quotas that pass, and no other
abbrev pub only : (Quota → Bool) → (Quota → Usage → Usage) → Quota → Usage → Usage
only test shift quota usage = if test quota then shift quota usage else usage

-- a count that some came to: at most 2^64 - 1, and never less than it was
abbrev pub grown : ℕ → ℕ → ℕ
grown count come = max count (min (count + come) 18446744073709551615)

-- a count after some came, and some went
abbrev pub count_moved : ℕ → ℕ → ℕ → ℕ
count_moved count come gone = grown count come - gone

-- a cart position comes, and one goes
abbrev pub cart_shift : Lists → ℕ → Option CartPos → Option CartPos → Quota → Usage → Usage
cart_shift lists at come gone quota usage = record usage { carts = count_moved usage.carts (cart_share lists at quota come) (cart_share lists at quota gone) }

-- a waiting entry comes, and one goes
abbrev pub waiting_shift : Option Waiting → Option Waiting → Quota → Usage → Usage
waiting_shift come gone quota usage = record usage { waiting = count_moved usage.waiting (waiting_share quota come) (waiting_share quota gone) }

-- what the vouchers blocked that came due
abbrev pub blocks_released : Lists → ℕ → ℕ → Quota → ℕ
blocks_released lists from to quota = sum_by (λ v. if is_due_voucher from to v then release_if lists quota (Some v) else 0) lists.vouchers

-- the live cart positions that they covered
abbrev pub carts_freed : Lists → ℕ → ℕ → Quota → ℕ
carts_freed lists from to quota = sum_by (λ v. if is_due_voucher from to v then free_if lists to quota (Some v) else 0) lists.vouchers

-- the cart positions that counted, and came due
abbrev pub carts_lapsed : Lists → ℕ → ℕ → Quota → ℕ
carts_lapsed lists from to quota = count_by (λ c. is_due_cart from to c && cart_counts lists from quota c) lists.carts

-- time passes
abbrev pub time_shift : Lists → ℕ → ℕ → Quota → Usage → Usage
time_shift lists from to quota usage = record usage {
  blocked = count_moved usage.blocked 0 (blocks_released lists from to quota);
  carts = count_moved usage.carts (carts_freed lists from to quota) (carts_lapsed lists from to quota);
}

-- what one blocks that is redeemed so often comes, and what another blocks goes
abbrev pub block_shift : ℕ → ℕ → Option Voucher → Option Voucher → Quota → Usage → Usage
block_shift at spent come gone quota usage = record usage { blocked = count_moved usage.blocked (blocked_share at quota spent come) (blocked_share at quota spent gone) }
