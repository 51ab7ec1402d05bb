-- A voucher that is deleted.
use Rattle.std.specs.Prelude.{ℕ, Result, Ok}
use Rattle.std.specs.Option.{ok_or}
use Rattle.base_values.specs.Deciding.{◌>>=◌, ◌>>◌, refuse_if}
use Rattle.model_rows.specs.declared.changes.Change.TheVariants.{DropVoucher}
use Rattle.model_rows.specs.Lists.{State, voucher_at}
use Rattle.model_rows.specs.Named.{is_used}
use Rattle.model_rows.specs.Change.{change_applied}
use Rattle.model_commands.specs.declared.vouchers.VoucherRefusal.{VoucherRefusal}
use Rattle.model_commands.specs.declared.vouchers.VoucherRefusal.TheVariants.{NoVoucher, InUse}

-- the box office without the voucher, or the first refusal; one in use isn't deleted
unfoldable pub voucher_deleted : ℕ → State → Result State VoucherRefusal
voucher_deleted id state = do
  _ ← ok_or (voucher_at id state.lists) NoVoucher
  refuse_if (is_used id state.lists) InUse
  Ok (change_applied (DropVoucher id) state)
