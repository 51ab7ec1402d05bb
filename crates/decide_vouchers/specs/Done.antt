-- Decisions on vouchers that weren't refused, as laws speak of them.
use Rattle.std.specs.Prelude.{◌≡◌, ℕ, Ok}
use Rattle.base_values.specs.declared.draw.Draw.{Draw}
use Rattle.model_rows.specs.declared.rows.Voucher.{Voucher}
use Rattle.model_rows.specs.Lists.{State}
use Rattle.model_commands.specs.declared.vouchers.NewVoucher.{NewVoucher}
use Rattle.model_commands.specs.declared.vouchers.VoucherPatch.{VoucherPatch}
use Rattle.decide_vouchers.specs.Made.{voucher_made}
use Rattle.decide_vouchers.specs.Changed.{voucher_changed}

-- a voucher was made: what was asked for, the box office before and after it, and the voucher
pub record VoucherMade : Type 0 where
  pub request : NewVoucher
  pub draw : Draw
  pub before : State
  pub after : State
  pub row : Voucher
  pub done : voucher_made request draw before ≡ Ok (after, row)

-- the voucher of an id was changed: what was asked for, the box office before and after it, and the voucher as it is then
pub record VoucherChanged : Type 0 where
  pub id : ℕ
  pub patch : VoucherPatch
  pub before : State
  pub after : State
  pub row : Voucher
  pub done : voucher_changed id patch before ≡ Ok (after, row)
