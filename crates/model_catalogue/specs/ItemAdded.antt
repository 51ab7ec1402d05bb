-- A new item, with its variations.
use Rattle.std.specs.Prelude.{ℕ, ◌+◌, Bool, true, false, ◌&&◌, List, [], ◌∷◌, length, Result, Ok}
use Rattle.base_values.specs.Deciding.{◌>>◌, check}
use Rattle.model_catalogue.specs.declared.rows.Item.{Item}
use Rattle.model_catalogue.specs.declared.rows.Variation.{Variation}
use Rattle.model_catalogue.specs.declared.rows.ItemRows.{ItemRows}
use Rattle.model_catalogue.specs.declared.requests.NewItem.{NewItem}
use Rattle.model_catalogue.specs.declared.requests.NewVariation.{NewVariation}
use Rattle.model_catalogue.specs.declared.refusal.CatalogueRefusal.{CatalogueRefusal}
use Rattle.model_catalogue.specs.declared.refusal.CatalogueRefusal.TheVariants.{Full}
use Rattle.model_catalogue.specs.Limits.{takes_row, takes_rows}
use Rattle.model_catalogue.specs.VariationAdded.{variation_row}
use Rattle.model_catalogue.specs.CatalogueLists.{CatalogueLists}

-- an item that is made with variations is sold by them alone, for good
abbrev pub is_varied : List NewVariation → Bool
is_varied [] = false
is_varied (variation ∷ variations) = true

-- the row of a new item
abbrev pub item_row : NewItem → ℕ → Item
item_row new id = record { id = id; name = new.name; default_price = new.default_price; active = new.active; varied = is_varied new.variations }

-- the rows of its variations, whose ids count on from this one
abbrev pub variation_rows : List NewVariation → ℕ → ℕ → List Variation
variation_rows [] item id = []
variation_rows (variation ∷ variations) item id = variation_row variation item id ∷ variation_rows variations item (id + 1)

-- the rows of a new item of this id and of its variations, whose ids count on from the first one
abbrev pub item_rows : NewItem → ℕ → ℕ → ItemRows
item_rows new id first = record { item = item_row new id; variations = variation_rows new.variations id first }

-- the rows, where the items take one more, and the variations as many as there are; the first variation gets the id first
unfoldable pub item_added : NewItem → ℕ → ℕ → CatalogueLists → Result ItemRows CatalogueRefusal
item_added new id first lists = do
  check (takes_row id lists.items && takes_rows (length new.variations) first lists.variations) Full
  Ok (item_rows new id first)
