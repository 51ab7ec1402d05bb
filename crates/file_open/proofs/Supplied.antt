-- The rows that an early version lacks.
use Rattle.std.proofs.Common.{◌≡◌, ◌≤◌, ℕ, zero, suc, List, map, refl, arith}
use Rattle.file_rows.specs.declared.rows.CountRow.{CountRow}
use Rattle.file_rows.specs.declared.rows.VoucherRow.{VoucherRow}
use Rattle.file_open.specs.Supplied.{none_out, none_spent, lacking_exits, lacking_spents}

pub exits_lacking : (own : ℕ) → own ≤ 1 → (counts : List CountRow) → lacking_exits own counts ≡ map none_out counts
exits_lacking zero small counts = refl
exits_lacking (suc zero) small counts = refl
exits_lacking (suc (suc own)) small counts = absurd (omega (arith, small))

pub spents_lacking : (own : ℕ) → own ≤ 2 → (vouchers : List VoucherRow) → lacking_spents own vouchers ≡ map none_spent vouchers
spents_lacking zero small vouchers = refl
spents_lacking (suc zero) small vouchers = refl
spents_lacking (suc (suc zero)) small vouchers = refl
spents_lacking (suc (suc (suc own))) small vouchers = absurd (omega (arith, small))
