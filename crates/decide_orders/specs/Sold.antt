-- What is sold at what price: the product, the price without its voucher and with it, and the voucher of one position.
-- Amounts are cents. No price that the shop computes takes more off than is left of the voucher's budget.
use Rattle.std.specs.Prelude.{ℕ, ◌-◌, List, Option, Some, None, Result, Ok, option_map, unwrap_or, is_some, if◌then◌else◌}
use Rattle.std.specs.Option.{ok_or}
use Rattle.base_values.specs.Deciding.{◌>>=◌, ◌>>◌, check, map_err}
use Rattle.base_values.specs.Price.{price_within}
use Rattle.model_catalogue.specs.declared.rows.Product.{Product}
use Rattle.model_catalogue.specs.declared.refusal.CatalogueRefusal.{CatalogueRefusal}
use Rattle.model_catalogue.specs.declared.refusal.CatalogueRefusal.TheVariants.{NoItem, Inactive, NotSold}
use Rattle.model_catalogue.specs.CatalogueLists.{CatalogueLists, product_of, base_price, is_active, is_sold}
use Rattle.model_rows.specs.declared.rows.OrderPos.{OrderPos}
use Rattle.model_rows.specs.declared.rows.Voucher.{Voucher}
use Rattle.model_rows.specs.Budgets.{left_after}
use Rattle.model_rows.specs.Lists.{Lists, State}
use Rattle.model_rows.specs.Named.{voucher_of}
use Rattle.model_commands.specs.declared.vouchers.VoucherRefusal.{VoucherRefusal}
use Rattle.model_commands.specs.declared.vouchers.VoucherRefusal.TheVariants.{Catalogue, NoVoucher}
use Rattle.decide_orders.specs.Usable.{usable}
use Rattle.model_commands.specs.declared.carts.Asked.{Asked}
use Rattle.decide_orders.specs.declared.sold.Sold.{Sold}

-- the product that is asked for, which is active and in a quota
abbrev pub product_for_sale : ℕ → Option ℕ → CatalogueLists → Result Product CatalogueRefusal
product_for_sale item variation lists = do
  product ← product_of item variation lists
  check (is_active product lists) Inactive
  check (is_sold product lists) NotSold
  Ok product

-- the voucher of the code that is given, if one is, where it can be used for the product
unfoldable pub voucher_asked : Option (List ℕ) → State → Product → Result (Option Voucher) VoucherRefusal
voucher_asked None state product = Ok None
voucher_asked (Some code) state product = do
  voucher ← ok_or (voucher_of code state.lists) NoVoucher
  usable state.lists.catalogue state.moment product voucher
  Ok (Some voucher)

-- the base price as the voucher changes it, which takes off no more than these earlier rows of the same request leave of its budget
abbrev pub price_with : Lists → List OrderPos → Option Voucher → ℕ → ℕ
price_with lists before None base = base
price_with lists before (Some voucher) base = price_within voucher.price_mode voucher.value base (left_after lists before voucher)

-- the price that is given, else this one
abbrev pub sold_at : Option ℕ → Product → Option Voucher → ℕ → ℕ → Sold
sold_at given product voucher base price = record {
  product = product;
  base = base;
  price = unwrap_or given price;
  voucher = option_map (λ v. v.id) voucher;
}

-- with a voucher, how far the price is below the base price, at least 0; without one 0
abbrev pub discount_of : Sold → ℕ
discount_of sold = if is_some sold.voucher then sold.base - sold.price else 0

-- the product that is asked for, its base price and its price after these earlier rows of the same request, and its voucher, or
-- the first refusal
unfoldable pub sold_for : Asked → List OrderPos → State → Result Sold VoucherRefusal
sold_for asked before state = do
  product ← map_err Catalogue (product_for_sale asked.item asked.variation state.lists.catalogue)
  voucher ← voucher_asked asked.voucher state product
  -- what is for sale has one
  base ← ok_or (base_price product state.lists.catalogue) (Catalogue NoItem)
  Ok (sold_at asked.price product voucher base (price_with state.lists before voucher base))
