-- Which products a voucher is for.
use Rattle.std.specs.Prelude.{◌≡◌, ℕ, Bool, true, false, not, ◌&&◌, ◌||◌, ◌==◌, is_some, is_none, Option, Some, None}
use Rattle.std.specs.List.{AllByRecursion}
use Rattle.model_catalogue.specs.declared.rows.Product.{Product}
use Rattle.model_catalogue.specs.declared.rows.Quota.{Quota}
use Rattle.model_catalogue.specs.Member.{is_in}
use Rattle.model_catalogue.specs.CatalogueLists.{CatalogueLists, quota_at}
use Rattle.model_rows.specs.declared.rows.Voucher.{Voucher}
use Rattle.model_rows.specs.Conditions.{names}
use Rattle.model_rows.specs.Lists.{Lists, voucher_at}

-- any variation, or the one that is named
abbrev pub has_variation : Option ℕ → Product → Bool
has_variation None product = true
has_variation (Some id) product = names id product.variation

-- any product, or those of the item that is named
abbrev pub fits_item : Option ℕ → Option ℕ → Product → Bool
fits_item None variation product = true
fits_item (Some item) variation product = item == product.item && has_variation variation product

-- the quota is there, and has the product
abbrev pub fits_quota : Option Quota → Product → Bool
fits_quota None product = false
fits_quota (Some quota) product = is_in quota product

-- the product is one of the voucher's quota, where it names one, and else it is one of its item and variation
abbrev pub fits_by : CatalogueLists → Voucher → Product → Option ℕ → Bool
fits_by catalogue voucher product (Some quota) = fits_quota (quota_at quota catalogue) product
fits_by catalogue voucher product None = fits_item voucher.item voucher.variation product

-- a voucher is for the products in its quota, or of its item, or of its item and variation, or for any
abbrev pub fits : CatalogueLists → Voucher → Product → Bool
fits catalogue voucher product = fits_by catalogue voucher product voucher.quota

-- the voucher is there, and is for the product
abbrev pub fits_if : CatalogueLists → Product → Option Voucher → Bool
fits_if catalogue product None = false
fits_if catalogue product (Some voucher) = fits catalogue voucher product

-- a row names no voucher, or one that stands and is for the row's product
abbrev pub is_fit : Lists → Product → Option ℕ → Bool
is_fit lists product None = true
is_fit lists product (Some id) = fits_if lists.catalogue product (voucher_at id lists)

-- each cart position and each order position, of whatever status, names no voucher or one that is for its product
pub record AllFit (lists : Lists) : Type 0 where
  pub carts : AllByRecursion (λ c. is_fit lists c.product c.voucher ≡ true) lists.carts
  pub positions : AllByRecursion (λ p. is_fit lists p.product p.voucher ≡ true) lists.positions

-- a voucher that blocks tells the product whole: by a quota, by a variation, or the product has none
abbrev pub is_exact_if : Product → Option Voucher → Bool
is_exact_if product None = true
is_exact_if product (Some voucher) = not voucher.block_quota || (is_some voucher.quota || (is_some voucher.variation || is_none product.variation))
