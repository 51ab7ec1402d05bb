-- The report on a check-in list: a line for each item that the list is for, and one for all.
use Rattle.std.specs.Prelude.{ℕ, List, [], ◌∷◌, ◌++◌, map, Option, Some, None, codes}
use Rattle.std.specs.List.{concat}
use Rattle.std.specs.Fmt.{decimal}
use Rattle.model_catalogue.specs.declared.rows.Item.{Item}
use Rattle.model_rows.specs.declared.rows.CheckinList.{CheckinList}
use Rattle.model_rows.specs.Lists.{Lists, checkin_list_at}
use Rattle.model_commands.specs.declared.doors.DoorStatus.{DoorStatus}
use Rattle.decide_door.specs.Status.{status_of}
use Rattle.office_reports.specs.declared.entries.Entries.{Entries}
use Rattle.office_reports.specs.Columns.{column, right}
use Rattle.office_reports.specs.Entered.{entries_of, items_on}

-- how many positions there are, have entered, and are inside
abbrev pub door_columns : ℕ → ℕ → ℕ → List ℕ
door_columns positions entered inside = column 9 (decimal positions) ++ (column 9 (decimal entered) ++ column 9 (decimal inside))

-- an item's number, who came in, and its name
abbrev pub door_line : Item → Entries → List ℕ
door_line item e = right 6 (decimal item.id) ++ (door_columns e.positions e.entered e.inside ++ (codes "  " ++ (item.name ++ 10 ∷ [])))

-- the line of all positions that belong to the list: how many there are, who came in, and who is inside
abbrev pub status_line : DoorStatus → List ℕ
status_line s = codes " total" ++ (door_columns s.positions s.entered s.inside ++ 10 ∷ [])

-- each item that the list is for, by id, and all of them
abbrev pub door_text : CheckinList → Lists → List ℕ
door_text list lists = concat (map (λ i. door_line i (entries_of list lists i)) (items_on list lists)) ++ status_line (status_of list lists)

-- of the list of this number, if it stands
abbrev pub door_text_if : Option CheckinList → Lists → Option (List ℕ)
door_text_if None lists = None
door_text_if (Some list) lists = Some (door_text list lists)

-- the report on the list that has this number in the shop, or none
abbrev pub door_text_of : ℕ → Lists → Option (List ℕ)
door_text_of id lists = door_text_if (checkin_list_at id lists) lists
