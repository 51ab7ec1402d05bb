-- The lines of items, one after another.
use Rattle.std.specs.Prelude.{ℕ, List, [], ◌∷◌, ◌++◌, Option, Some, None}
use Rattle.model_catalogue.specs.CatalogueLists.{CatalogueLists, item_at}
use Rattle.model_catalogue.specs.declared.rows.Item.{Item}
use Rattle.office_reports.specs.declared.entries.Entries.{Entries}
use Rattle.office_reports.specs.declared.entries.ItemEntries.{ItemEntries}
use Rattle.office_reports.specs.declared.sales.ItemSales.{ItemSales}
use Rattle.office_reports.specs.DoorText.{door_line}
use Rattle.office_reports.specs.SalesText.{sales_line}

-- items beside what was sold of them
abbrev pub lines_of : List Item → List ItemSales → List ℕ
lines_of (i ∷ is) (r ∷ rs) = sales_line i r.sales ++ lines_of is rs
lines_of _ _ = []

-- items by their numbers, beside who came in
abbrev pub door_line_if : Option Item → Entries → List ℕ
door_line_if None e = []
door_line_if (Some item) e = door_line item e

-- a line for each item, in order; a number that no item has gives none
abbrev pub door_lines : CatalogueLists → List ItemEntries → List ℕ
door_lines catalogue [] = []
door_lines catalogue (r ∷ rs) = door_line_if (item_at r.item catalogue) r.entries ++ door_lines catalogue rs
