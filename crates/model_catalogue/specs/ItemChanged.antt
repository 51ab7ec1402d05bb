-- An item that is changed.
use Rattle.std.specs.Prelude.{ℕ, Result, Ok, unwrap_or}
use Rattle.std.specs.Option.{ok_or}
use Rattle.base_values.specs.Deciding.{◌>>=◌}
use Rattle.model_catalogue.specs.declared.rows.Item.{Item}
use Rattle.model_catalogue.specs.declared.requests.ItemPatch.{ItemPatch}
use Rattle.model_catalogue.specs.declared.refusal.CatalogueRefusal.{CatalogueRefusal}
use Rattle.model_catalogue.specs.declared.refusal.CatalogueRefusal.TheVariants.{NoItem}
use Rattle.model_catalogue.specs.CatalogueLists.{CatalogueLists, item_at}

-- what isn't given stays, and so does by what the item is sold
abbrev pub patched_item : ItemPatch → Item → Item
patched_item patch row = record row { name = unwrap_or patch.name row.name; default_price = unwrap_or patch.default_price row.default_price; active = unwrap_or patch.active row.active }

-- the row as it is afterwards
abbrev pub item_changed : ℕ → ItemPatch → CatalogueLists → Result Item CatalogueRefusal
item_changed id patch lists = do
  row ← ok_or (item_at id lists) NoItem
  Ok (patched_item patch row)
