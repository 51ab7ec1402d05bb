-- Who came in by a check-in list, item by item.
use Rattle.std.specs.Prelude.{ℕ, ◌==◌, ◌&&◌, Bool, List, filter, count_by}
use Rattle.model_catalogue.specs.declared.rows.Item.{Item}
use Rattle.model_rows.specs.declared.rows.CheckinList.{CheckinList}
use Rattle.model_rows.specs.declared.rows.OrderPos.{OrderPos}
use Rattle.model_rows.specs.Lists.{Lists}
use Rattle.decide_door.specs.Belongs.{belonging, is_for}
use Rattle.decide_door.specs.Status.{has_entered, is_inside}
use Rattle.office_reports.specs.declared.entries.Entries.{Entries}
use Rattle.office_reports.specs.declared.entries.ItemEntries.{ItemEntries}

-- how many of these positions are of the item, and pass
abbrev pub visitors_come : ℕ → (OrderPos → Bool) → List OrderPos → ℕ
visitors_come item test positions = count_by (λ p. p.product.item == item && test p) positions

-- of an item's positions that belong to the list: how many there are, have entered, and are inside
unfoldable pub entries_of : CheckinList → Lists → Item → Entries
entries_of list lists item = record {
  positions = count_by (λ p. p.product.item == item.id) (belonging list lists);
  entered = visitors_come item.id (has_entered list.id lists.checkins) (belonging list lists);
  inside = visitors_come item.id (is_inside list.id lists.checkins) (belonging list lists);
}

-- the items that the list is for, by id
abbrev pub items_on : CheckinList → Lists → List Item
items_on list lists = filter (λ i. is_for list i.id) lists.catalogue.items

-- an item's number, beside who came in with a ticket for it
abbrev pub item_entries : CheckinList → Lists → Item → ItemEntries
item_entries list lists item = record { item = item.id; entries = entries_of list lists item }
