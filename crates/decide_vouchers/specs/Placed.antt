-- Whether a voucher's row may stand: it has the uses and the budget that are taken, and no quota is then over.
use Rattle.std.specs.Prelude.{ℕ, ◌+◌, Bool, nat_le, [], Option, None, Result, Ok, if◌then◌else◌}
use Rattle.base_values.specs.Deciding.{◌>>◌, check, refuse_some}
use Rattle.model_rows.specs.declared.rows.Voucher.{Voucher}
use Rattle.model_rows.specs.declared.changes.Change.TheVariants.{PutVoucher}
use Rattle.model_rows.specs.Lists.{State}
use Rattle.model_rows.specs.Budgets.{covers}
use Rattle.model_rows.specs.Change.{after_change}
use Rattle.model_rows.specs.Headroom.{held}
use Rattle.model_rows.specs.Usage.{redeemed}
use Rattle.model_rows.specs.Over.{first_over}
use Rattle.model_commands.specs.declared.vouchers.VoucherRefusal.{VoucherRefusal}
use Rattle.model_commands.specs.declared.vouchers.VoucherRefusal.TheVariants.{NoHeadroom, OverBudget, SoldOut}

-- its uses in orders in force and in live carts are no more than it may have
abbrev pub has_uses : Voucher → State → Bool
has_uses row state = nat_le (redeemed row.id state.lists + held state.moment row.id state.lists) row.max_usages

-- the least quota of which the row takes too much, unless it ignores quotas
abbrev pub over_with : Voucher → State → Option ℕ
over_with row state = if row.allow_ignore_quota then None else first_over state.lists (after_change (PutVoucher row) state.lists) state.moment []

-- the voucher has the uses that are taken, what it took off is within its budget, and no quota is taken too much of; or the
-- first refusal
unfoldable pub place_test : ℕ → Voucher → State → Result (Unit {0}) VoucherRefusal
place_test taken_off row state = do
  check (has_uses row state) NoHeadroom
  check (covers row.budget taken_off) OverBudget
  refuse_some SoldOut (over_with row state)
  Ok tt
