-- Who came in, counted in one pass over the positions.
use Rattle.std.specs.Prelude.{ℕ, ◌+◌, ◌≤◌, ◌==◌, Bool, List, [], ◌∷◌, if◌then◌else◌, map}
use Rattle.std.specs.List.{AllByRecursion}
use Rattle.model_catalogue.specs.declared.rows.Item.{Item}
use Rattle.model_rows.specs.declared.rows.CheckinList.{CheckinList}
use Rattle.model_rows.specs.declared.rows.OrderPos.{OrderPos}
use Rattle.model_rows.specs.Lists.{Lists}
use Rattle.decide_door.specs.Belongs.{belongs}
use Rattle.decide_door.specs.Status.{has_entered, is_inside}
use Rattle.office_reports.specs.declared.entries.Entries.{Entries}
use Rattle.office_reports.specs.declared.entries.ItemEntries.{ItemEntries}
use Rattle.office_reports.specs.Entered.{items_on, item_entries}

-- no position is counted yet
abbrev pub nobody : Entries
nobody = record { positions = 0; entered = 0; inside = 0 }

-- an item, before any position
abbrev pub item_unvisited : Item → ItemEntries
item_unvisited item = record { item = item.id; entries = nobody }

-- 1 where it is true, and else 0
abbrev pub one_if : Bool → ℕ
one_if b = if b then 1 else 0

-- with one more position, which has entered, or is inside
abbrev pub with_ticket : Bool → Bool → Entries → Entries
with_ticket entered inside e = record { positions = e.positions + 1; entered = e.entered + one_if entered; inside = e.inside + one_if inside }

-- with a position of this item
unfoldable pub position_counted : ℕ → Bool → Bool → ItemEntries → ItemEntries
position_counted item entered inside s = if item == s.item then record s { entries = with_ticket entered inside s.entries } else s

-- with a position, where a test of it is passed
abbrev pub counted_where : Bool → CheckinList → Lists → OrderPos → ItemEntries → ItemEntries
counted_where b list lists position s = if b then position_counted position.product.item (has_entered list.id lists.checkins position) (is_inside list.id lists.checkins position) s else s

-- with the next position, where it belongs to the list
abbrev pub counted_next : CheckinList → Lists → OrderPos → ItemEntries → ItemEntries
counted_next list lists position s = counted_where (belongs list lists position) list lists position s

-- with one position after another
abbrev pub counted_all : CheckinList → Lists → List OrderPos → ItemEntries → ItemEntries
counted_all list lists [] s = s
counted_all list lists (p ∷ ps) s = counted_all list lists ps (counted_next list lists p s)

-- no count is above n
pub record AreAtMost (n : ℕ) (e : Entries) : Type 0 where
  pub positions : e.positions ≤ n
  pub entered : e.entered ≤ n
  pub inside : e.inside ≤ n

-- no count of any item is above n
abbrev pub AllAtMost : ℕ → List ItemEntries → Type 0
AllAtMost n rows = AllByRecursion (λ r. AreAtMost n r.entries) rows

-- each item that the list is for, by id, beside who came in with a ticket for it
abbrev pub all_entries : CheckinList → Lists → List ItemEntries
all_entries list lists = map (item_entries list lists) (items_on list lists)
