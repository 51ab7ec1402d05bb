-- A new variation.
use Rattle.std.specs.Prelude.{ℕ, Result, Ok, unwrap_or}
use Rattle.std.specs.Option.{ok_or}
use Rattle.base_values.specs.Deciding.{◌>>=◌, ◌>>◌, check}
use Rattle.model_catalogue.specs.declared.rows.Item.{Item}
use Rattle.model_catalogue.specs.declared.rows.Variation.{Variation}
use Rattle.model_catalogue.specs.declared.rows.PricedVariation.{PricedVariation}
use Rattle.model_catalogue.specs.declared.requests.NewVariation.{NewVariation}
use Rattle.model_catalogue.specs.declared.refusal.CatalogueRefusal.{CatalogueRefusal}
use Rattle.model_catalogue.specs.declared.refusal.CatalogueRefusal.TheVariants.{NoItem, Plain, Full}
use Rattle.model_catalogue.specs.Limits.{takes_row}
use Rattle.model_catalogue.specs.CatalogueLists.{CatalogueLists, item_at}

-- the row of a new variation of this item
abbrev pub variation_row : NewVariation → ℕ → ℕ → Variation
variation_row new item id = record { id = id; item = item; name = new.name; default_price = new.default_price; active = new.active }

-- its own price, or else the item's
abbrev pub priced_variation : Item → Variation → PricedVariation
priced_variation item row = record { row = row; price = unwrap_or row.default_price item.default_price }

-- the row with its price, or the first refusal
unfoldable pub variation_added : ℕ → NewVariation → ℕ → CatalogueLists → Result PricedVariation CatalogueRefusal
variation_added item new id lists = do
  row ← ok_or (item_at item lists) NoItem
  -- an item that was made without variations never gets one
  check row.varied Plain
  check (takes_row id lists.variations) Full
  Ok (priced_variation row (variation_row new row.id id))
