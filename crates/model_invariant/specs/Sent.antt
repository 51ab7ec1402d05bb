-- The vouchers that waiting entries got.
use Rattle.std.specs.Prelude.{◌≡◌, ℕ, Bool, true, is_some, List, Option, Some, None}
use Rattle.std.specs.List.{AllByRecursion}
use Rattle.base_tables.specs.Tables.{row_at}
use Rattle.model_rows.specs.declared.rows.Voucher.{Voucher}
use Rattle.model_rows.specs.Lists.{Lists}

-- the voucher that is named stands
abbrev pub voucher_stands : List Voucher → Option ℕ → Bool
voucher_stands vouchers None = true
voucher_stands vouchers (Some id) = is_some (row_at (λ r. r.id) id vouchers)

-- the voucher that a waiting entry names stands
abbrev pub AllSent : Lists → Type 0
AllSent lists = AllByRecursion (λ w. voucher_stands lists.vouchers w.voucher ≡ true) lists.waiting
