-- Whether a voucher can be used for a product.
use Rattle.std.specs.Prelude.{ℕ, Result, Ok}
use Rattle.base_values.specs.Deciding.{◌>>◌, check}
use Rattle.model_catalogue.specs.declared.rows.Product.{Product}
use Rattle.model_catalogue.specs.CatalogueLists.{CatalogueLists}
use Rattle.model_rows.specs.declared.rows.Voucher.{Voucher}
use Rattle.model_rows.specs.Conditions.{is_live_voucher}
use Rattle.model_rows.specs.Fits.{fits}
use Rattle.model_commands.specs.declared.vouchers.VoucherRefusal.{VoucherRefusal}
use Rattle.model_commands.specs.declared.vouchers.VoucherRefusal.TheVariants.{VoucherExpired, WrongProduct}

-- the voucher is live at the moment, and for the product
abbrev pub usable : CatalogueLists → ℕ → Product → Voucher → Result (Unit {0}) VoucherRefusal
usable lists at product voucher = do
  check (is_live_voucher at voucher) VoucherExpired
  check (fits lists voucher product) WrongProduct
  Ok tt
