-- A new check-in list.
use Rattle.std.specs.Prelude.{ℕ, Bool, is_some, List, Result, Ok}
use Rattle.std.specs.List.{list_all}
use Rattle.base_values.specs.Deciding.{◌>>◌, check}
use Rattle.base_tables.specs.Rising.{rising}
use Rattle.model_catalogue.specs.declared.refusal.CatalogueRefusal.TheVariants.{NoItem, Full}
use Rattle.model_catalogue.specs.CatalogueLists.{CatalogueLists, item_at}
use Rattle.model_rows.specs.declared.rows.CheckinList.{CheckinList}
use Rattle.model_rows.specs.Lists.{State}
use Rattle.model_rows.specs.Full.{takes_checkin_list}
use Rattle.model_rows.specs.Numbered.{with_checkin_list}
use Rattle.model_commands.specs.declared.doors.NewCheckinList.{NewCheckinList}
use Rattle.model_commands.specs.declared.doors.DoorRefusal.{DoorRefusal}
use Rattle.model_commands.specs.declared.doors.DoorRefusal.TheVariants.{Catalogue}

-- its row; ids that are given twice count once
abbrev pub list_row : NewCheckinList → ℕ → CheckinList
list_row new id = record { id = id; name = new.name; all_products = new.all_products; limit_products = rising new.limit_products; include_pending = new.include_pending; allow_multiple_entries = new.allow_multiple_entries; allow_entry_after_exit = new.allow_entry_after_exit }

-- an item of each of these ids stands
unfoldable pub items_stand : List ℕ → CatalogueLists → Bool
items_stand ids lists = list_all (λ id. is_some (item_at id lists)) ids

-- the box office with the new list, and its row, or the first refusal
unfoldable pub list_added : NewCheckinList → State → Result (State × CheckinList) DoorRefusal
list_added new state = do
  let row = list_row new state.next.list
  check (items_stand row.limit_products state.lists.catalogue) (Catalogue NoItem)
  check (takes_checkin_list state) (Catalogue Full)
  Ok (with_checkin_list row state, row)
