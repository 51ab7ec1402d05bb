-- A new voucher.
use Rattle.std.specs.Prelude.{Result, Ok}
use Rattle.base_values.specs.Deciding.{◌>>◌, check}
use Rattle.base_values.specs.declared.draw.Draw.{Draw}
use Rattle.model_catalogue.specs.declared.refusal.CatalogueRefusal.TheVariants.{Full}
use Rattle.model_rows.specs.declared.rows.Voucher.{Voucher}
use Rattle.model_rows.specs.Lists.{State}
use Rattle.model_rows.specs.Full.{takes_voucher}
use Rattle.model_rows.specs.Numbered.{with_voucher}
use Rattle.model_commands.specs.declared.vouchers.NewVoucher.{NewVoucher}
use Rattle.model_commands.specs.declared.vouchers.VoucherRefusal.{VoucherRefusal}
use Rattle.model_commands.specs.declared.vouchers.VoucherRefusal.TheVariants.{Catalogue}
use Rattle.decide_vouchers.specs.Rows.{voucher_row}
use Rattle.decide_vouchers.specs.Checks.{row_test}
use Rattle.decide_vouchers.specs.Placed.{place_test}

-- the box office with the new voucher, and its row, or the first refusal; nothing names it yet, so it took nothing off
unfoldable pub voucher_made : NewVoucher → Draw → State → Result (State × Voucher) VoucherRefusal
voucher_made new draw state = do
  let row = voucher_row new draw state.next.voucher
  row_test new.code row state.lists
  place_test 0 row state
  check (takes_voucher state) (Catalogue Full)
  Ok (with_voucher row state, row)
