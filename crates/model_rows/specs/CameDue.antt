-- What has ended between two moments, and the cart positions that name a voucher which did.
use Rattle.std.specs.Prelude.{ℕ, ◌+◌, ◌&&◌, Bool, false, nat_le, nat_lt, List, Option, Some, None, count_by}
use Rattle.base_tables.specs.Tables.{row_at}
use Rattle.model_rows.specs.declared.rows.CartPos.{CartPos}
use Rattle.model_rows.specs.declared.rows.Voucher.{Voucher}
use Rattle.model_rows.specs.Lists.{Lists, voucher_at}

-- an end at `from` or later, and before `to`
abbrev pub ends_between : ℕ → ℕ → Option ℕ → Bool
ends_between from to None = false
ends_between from to (Some end) = nat_le from end && nat_lt end to

-- a cart position that came due: it expires at `from` or later, and before `to`
abbrev pub is_due_cart : ℕ → ℕ → CartPos → Bool
is_due_cart from to cart = ends_between from to (Some cart.expires)

-- a voucher that came due: its end is at `from` or later, and before `to`
abbrev pub is_due_voucher : ℕ → ℕ → Voucher → Bool
is_due_voucher from to voucher = ends_between from to voucher.valid_until

-- the cart positions and the vouchers that came due
abbrev pub came_due : ℕ → ℕ → Lists → ℕ
came_due from to lists = count_by (is_due_cart from to) lists.carts + count_by (is_due_voucher from to) lists.vouchers

-- the voucher is there, and came due
abbrev pub is_due_if : ℕ → ℕ → Option Voucher → Bool
is_due_if from to None = false
is_due_if from to (Some voucher) = is_due_voucher from to voucher

-- the voucher of this id, if one is named and there, came due
abbrev pub names_due_by : ℕ → ℕ → Lists → Option ℕ → Bool
names_due_by from to lists None = false
names_due_by from to lists (Some id) = is_due_if from to (voucher_at id lists)

-- the cart position names a voucher that came due
abbrev pub names_due : ℕ → ℕ → Lists → CartPos → Bool
names_due from to lists cart = names_due_by from to lists cart.voucher

-- the cart positions that name one of these vouchers
abbrev pub naming_due : ℕ → ℕ → Lists → ℕ
naming_due from to lists = count_by (names_due from to lists) lists.carts
