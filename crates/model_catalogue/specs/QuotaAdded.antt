-- A new quota: its row, and the tests in the order of their refusals.
use Rattle.std.specs.Prelude.{ℕ, Bool, false, ◌&&◌, ◌||◌, not, List, Option, Some, None, Result, Ok}
use Rattle.std.specs.List.{filter_map, list_all}
use Rattle.std.specs.Option.{is_some}
use Rattle.base_values.specs.Deciding.{◌>>◌, check}
use Rattle.base_tables.specs.Tables.{has}
use Rattle.base_tables.specs.Rising.{rising}
use Rattle.model_catalogue.specs.declared.rows.Item.{Item}
use Rattle.model_catalogue.specs.declared.rows.Variation.{Variation}
use Rattle.model_catalogue.specs.declared.rows.Quota.{Quota}
use Rattle.model_catalogue.specs.declared.requests.NewQuota.{NewQuota}
use Rattle.model_catalogue.specs.declared.refusal.CatalogueRefusal.{CatalogueRefusal}
use Rattle.model_catalogue.specs.declared.refusal.CatalogueRefusal.TheVariants.{NoItem, NoVariation, BadMember, Full}
use Rattle.model_catalogue.specs.Limits.{takes_row}
use Rattle.model_catalogue.specs.CatalogueLists.{CatalogueLists, item_at, variation_at}

-- the row of a new quota; ids that are given twice count once
abbrev pub quota_row : NewQuota → ℕ → Quota
quota_row new id = record { id = id; name = new.name; release_after_exit = new.release_after_exit; size = new.size; items = rising new.items; variations = rising new.variations }

-- the variation is of one of these items
abbrev pub is_of_one : List ℕ → Option Variation → Bool
is_of_one items None = false
is_of_one items (Some variation) = has variation.item items

-- the item that a variation is of
abbrev pub item_of : Option Variation → Option ℕ
item_of None = None
item_of (Some variation) = Some variation.item

-- the items that these variations are of
abbrev pub items_of : List ℕ → CatalogueLists → List ℕ
items_of variations lists = filter_map (λ id. item_of (variation_at id lists)) variations

-- an item that is sold by variations is one of these
abbrev pub is_offered : List ℕ → Option Item → Bool
is_offered items None = false
is_offered items (Some item) = not item.varied || has item.id items

-- each variation's item is listed
unfoldable pub variations_fit : Quota → CatalogueLists → Bool
variations_fit quota lists = list_all (λ id. is_of_one quota.items (variation_at id lists)) quota.variations

-- each item that is sold by variations is listed with one of them
unfoldable pub items_fit : Quota → CatalogueLists → Bool
items_fit quota lists = list_all (λ id. is_offered (items_of quota.variations lists) (item_at id lists)) quota.items

-- each of its items is in the catalogue
unfoldable pub items_stand : Quota → CatalogueLists → Bool
items_stand quota lists = list_all (λ id. is_some (item_at id lists)) quota.items

-- each of its variations is in the catalogue
unfoldable pub variations_stand : Quota → CatalogueLists → Bool
variations_stand quota lists = list_all (λ id. is_some (variation_at id lists)) quota.variations

-- all its items stand, all its variations do, they fit together, and there is room
unfoldable pub quota_test : Quota → CatalogueLists → Result (Unit {0}) CatalogueRefusal
quota_test quota lists = do
  check (items_stand quota lists) NoItem
  check (variations_stand quota lists) NoVariation
  check (variations_fit quota lists && items_fit quota lists) BadMember
  check (takes_row quota.id lists.quotas) Full
  Ok tt

-- the row, or the first refusal
unfoldable pub quota_added : NewQuota → ℕ → CatalogueLists → Result Quota CatalogueRefusal
quota_added new id lists = do
  let quota = quota_row new id
  quota_test quota lists
  Ok quota
