-- The moment and the next ids are in range.
use Rattle.std.specs.Prelude.{ℕ, ◌+◌, ◌≤◌}
use Rattle.base_values.specs.Codes.{last_order}
use Rattle.base_values.specs.Moments.{last_moment}
use Rattle.model_catalogue.specs.Limits.{last_id}
use Rattle.model_rows.specs.declared.rows.NextIds.{NextIds}
use Rattle.model_invariant.specs.Ids.{EachTable}

-- ids count from 1, and a table whose last id is given has the one behind it as its next
pub record IsNextId (last next : ℕ) : Type 0 where
  pub from_one : 1 ≤ next
  pub within : next ≤ last + 1

-- the next id of each table
abbrev pub AllNextIds : NextIds → Type 0
AllNextIds next =
    EachTable
    (IsNextId last_id next.item)
    (IsNextId last_id next.variation)
    (IsNextId last_id next.quota)
    (IsNextId last_id next.voucher)
    (IsNextId last_id next.cart)
    (IsNextId last_order next.order)
    (IsNextId last_id next.position)
    (IsNextId last_id next.waiting)
    (IsNextId last_id next.list)
    (IsNextId last_id next.checkin)

-- the moment is at most the last one; each next id is at most one past the last id
pub record AreInRange (at : ℕ) (next : NextIds) : Type 0 where
  pub moment : at ≤ last_moment
  pub next_ids : AllNextIds next
