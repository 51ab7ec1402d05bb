-- All that is for sale, as lists of rows in order of id.
use Rattle.std.specs.Prelude.{ℕ, Bool, true, false, ◌&&◌, List, filter, ◌==◌, Option, Some, None, Result, Ok, unwrap_or}
use Rattle.std.specs.List.{list_any}
use Rattle.std.specs.Option.{ok_or}
use Rattle.base_values.specs.Deciding.{◌>>=◌, ◌>>◌, check, refuse_if}
use Rattle.base_tables.specs.Tables.{row_at}
use Rattle.model_catalogue.specs.declared.rows.Item.{Item}
use Rattle.model_catalogue.specs.declared.rows.Variation.{Variation}
use Rattle.model_catalogue.specs.declared.rows.Quota.{Quota}
use Rattle.model_catalogue.specs.declared.rows.Product.{Product}
use Rattle.model_catalogue.specs.declared.rows.ItemRows.{ItemRows}
use Rattle.model_catalogue.specs.declared.refusal.CatalogueRefusal.{CatalogueRefusal}
use Rattle.model_catalogue.specs.declared.refusal.CatalogueRefusal.TheVariants.{NoItem, NoVariation, NeedsVariation}
use Rattle.model_catalogue.specs.Member.{is_in}

-- the items, the variations and the quotas, each in order of id
pub record CatalogueLists : Type 0 where
  pub items : List Item
  pub variations : List Variation
  pub quotas : List Quota

-- the item of this id, if there is one
abbrev pub item_at : ℕ → CatalogueLists → Option Item
item_at id lists = row_at (λ r. r.id) id lists.items

-- the variation of this id, if there is one
abbrev pub variation_at : ℕ → CatalogueLists → Option Variation
variation_at id lists = row_at (λ r. r.id) id lists.variations

-- the quota of this id, if there is one
abbrev pub quota_at : ℕ → CatalogueLists → Option Quota
quota_at id lists = row_at (λ r. r.id) id lists.quotas

-- the variations of an item, by id
abbrev pub variations_of : ℕ → CatalogueLists → List Variation
variations_of item lists = filter (λ variation. variation.item == item) lists.variations

-- an item with its variations
abbrev pub with_variations : CatalogueLists → Item → ItemRows
with_variations lists item = record { item = item; variations = variations_of item.id lists }

-- an item that is varied is sold by one of its variations, and any other by itself
abbrev pub product_in : ℕ → Option ℕ → CatalogueLists → Item → Result Product CatalogueRefusal
product_in item None lists row = do
  refuse_if row.varied NeedsVariation
  Ok (record { item = item; variation = None })
product_in item (Some id) lists row = do
  variation ← ok_or (variation_at id lists) NoVariation
  check (variation.item == item) NoVariation
  Ok (record { item = item; variation = Some id })

-- the product that an item and a variation, or none, name, or the first refusal
abbrev pub product_of : ℕ → Option ℕ → CatalogueLists → Result Product CatalogueRefusal
product_of item variation lists = do
  row ← ok_or (item_at item lists) NoItem
  product_in item variation lists row

-- the variation's price where it has one, else the item's
abbrev pub price_of : ℕ → Option Variation → Option ℕ
price_of price None = None
price_of price (Some variation) = Some (unwrap_or variation.default_price price)

-- the price of the item, or of the variation that is named; none where the item or the variation isn't there
abbrev pub base_price_by : Option ℕ → Option Item → CatalogueLists → Option ℕ
base_price_by variation None lists = None
base_price_by None (Some item) lists = Some item.default_price
base_price_by (Some id) (Some item) lists = price_of item.default_price (variation_at id lists)

-- what a product costs without a voucher; none where its item or its variation isn't there
abbrev pub base_price : Product → CatalogueLists → Option ℕ
base_price product lists = base_price_by product.variation (item_at product.item lists) lists

-- the item is there, and active
abbrev pub item_is_active : Option Item → Bool
item_is_active None = false
item_is_active (Some item) = item.active

-- the variation is there, and active
abbrev pub variation_is_active : Option Variation → Bool
variation_is_active None = false
variation_is_active (Some variation) = variation.active

-- no variation is named, or the one that is named is there and active
abbrev pub variation_if_any_is_active : Option ℕ → CatalogueLists → Bool
variation_if_any_is_active None lists = true
variation_if_any_is_active (Some id) lists = variation_is_active (variation_at id lists)

-- its item is active, and so is its variation, where it has one
abbrev pub is_active : Product → CatalogueLists → Bool
is_active product lists = item_is_active (item_at product.item lists) && variation_if_any_is_active product.variation lists

-- the product is in a quota
abbrev pub is_sold : Product → CatalogueLists → Bool
is_sold product lists = list_any (λ quota. is_in quota product) lists.quotas
