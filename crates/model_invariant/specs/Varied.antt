-- Items that are sold by their variations alone, and how variations, products and vouchers name them.
use Rattle.std.specs.Prelude.{◌≡◌, ℕ, Bool, true, false, not, ◌||◌, is_some, is_none, List, Option, Some, None}
use Rattle.std.specs.List.{AllByRecursion}
use Rattle.base_tables.specs.Tables.{row_at}
use Rattle.model_catalogue.specs.declared.rows.Item.{Item}
use Rattle.model_catalogue.specs.declared.rows.Product.{Product}
use Rattle.model_catalogue.specs.declared.rows.Variation.{Variation}
use Rattle.model_catalogue.specs.CatalogueLists.{CatalogueLists}
use Rattle.model_rows.specs.declared.rows.Voucher.{Voucher}
use Rattle.model_rows.specs.Lists.{Lists}
use Rattle.model_invariant.specs.Targets.{variation_stands}

-- the item is there, and whether it is sold by variation passes the test
abbrev pub sold_as : (Bool → Bool) → Option Item → Bool
sold_as test None = false
sold_as test (Some item) = test item.varied

-- the item stands, and whether it is sold by variation passes the test
abbrev pub is_sold_as : (Bool → Bool) → ℕ → List Item → Bool
is_sold_as test id items = sold_as test (row_at (λ r. r.id) id items)

-- the item that is named stands, and isn't sold by variation
abbrev pub is_plain : List Item → Option ℕ → Bool
is_plain items None = false
is_plain items (Some id) = is_sold_as (λ varied. not varied) id items

-- a variation's item stands, and is sold by variation
abbrev pub is_of_varied : List Item → Variation → Bool
is_of_varied items variation = is_sold_as (λ varied. varied) variation.item items

-- each variation's item is there, and is sold by variation
abbrev pub AllVaried : Lists → Type 0
AllVaried lists = AllByRecursion (λ v. is_of_varied lists.catalogue.items v ≡ true) lists.catalogue.variations

-- with a variation where the item is sold by variation, and else without
abbrev pub names_as_sold : Option ℕ → Bool → Bool
names_as_sold variation true = is_some variation
names_as_sold variation false = is_none variation

-- a product's item stands, and the product names a variation exactly where the item is sold by variation
abbrev pub is_named_as_sold : List Item → Product → Bool
is_named_as_sold items product = is_sold_as (names_as_sold product.variation) product.item items

-- and the variation that it names stands, and is of the item
pub record IsProduct (catalogue : CatalogueLists) (product : Product) : Type 0 where
  pub as_sold : is_named_as_sold catalogue.items product ≡ true
  pub own : variation_stands catalogue (Some product.item) product.variation ≡ true

-- the product of each cart position, order position and waiting entry
pub record AllProducts (lists : Lists) : Type 0 where
  pub carts : AllByRecursion (λ c. IsProduct lists.catalogue c.product) lists.carts
  pub positions : AllByRecursion (λ p. IsProduct lists.catalogue p.product) lists.positions
  pub waiting : AllByRecursion (λ w. IsProduct lists.catalogue w.product) lists.waiting

-- a voucher that blocks names a quota, or a variation, or an item that stands and isn't sold by variation
abbrev pub is_whole : List Item → Voucher → Bool
is_whole items voucher = not voucher.block_quota || (is_some voucher.quota || (is_some voucher.variation || is_plain items voucher.item))

-- each voucher that blocks names a quota, or a variation, or an item that isn't sold by variation
abbrev pub AllWhole : Lists → Type 0
AllWhole lists = AllByRecursion (λ v. is_whole lists.catalogue.items v ≡ true) lists.vouchers
