-- No voucher is named more often than it may be used.
use Rattle.std.specs.Prelude.{ℕ, ◌+◌, ◌≤◌, Bool, true, nat_lt, nat_le, List, Option, Some, None, count_by}
use Rattle.std.specs.List.{list_all, AllByRecursion}
use Rattle.model_rows.specs.declared.rows.Voucher.{Voucher}
use Rattle.model_rows.specs.declared.rows.OrderPos.{OrderPos}
use Rattle.model_rows.specs.Conditions.{holds}
use Rattle.model_rows.specs.Lists.{Lists, voucher_at}
use Rattle.model_rows.specs.Usage.{redeemed}

-- the uses that are held in carts
abbrev pub held : ℕ → ℕ → Lists → ℕ
held at id lists = count_by (holds at id) lists.carts

-- its uses in orders and in live carts are no more than it may have
abbrev pub HasHeadroom : ℕ → Lists → Voucher → Type 0
HasHeadroom at lists voucher = redeemed voucher.id lists + held at voucher.id lists ≤ voucher.max_usages

-- no voucher has more uses in orders and in live carts than it may have
abbrev pub AllHaveHeadroom : ℕ → Lists → Type 0
AllHaveHeadroom at lists = AllByRecursion (HasHeadroom at lists) lists.vouchers

-- a cart position more may name the voucher
abbrev pub has_use_by : ℕ → Lists → Option Voucher → Bool
has_use_by at lists None = true
has_use_by at lists (Some voucher) = nat_lt (redeemed voucher.id lists + held at voucher.id lists) voucher.max_usages

-- a cart position more may name the voucher of this id; where none is named or there, nothing is asked
abbrev pub has_use : ℕ → Lists → Option ℕ → Bool
has_use at lists None = true
has_use at lists (Some id) = has_use_by at lists (voucher_at id lists)

-- the voucher isn't named more often than it may be used
abbrev pub has_room_by : ℕ → Lists → Option Voucher → Bool
has_room_by at lists None = true
has_room_by at lists (Some voucher) = nat_le (redeemed voucher.id lists + held at voucher.id lists) voucher.max_usages

-- the voucher of this id isn't named more often than it may be used; it holds too where none is named or there
abbrev pub has_room : ℕ → Lists → Option ℕ → Bool
has_room at lists None = true
has_room at lists (Some id) = has_room_by at lists (voucher_at id lists)

-- none of the vouchers that these order positions name is named more often than it may be used
abbrev pub have_room : ℕ → Lists → List OrderPos → Bool
have_room at lists positions = list_all (λ p. has_room at lists p.voucher) positions
