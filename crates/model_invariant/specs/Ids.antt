-- The ids of the rows of each table.
use Rattle.std.specs.Prelude.{ℕ, ◌<◌, ◌≤◌, List}
use Rattle.std.specs.List.{AllByRecursion}
use Rattle.base_tables.specs.Tables.{AreInOrder}
use Rattle.model_rows.specs.declared.rows.NextIds.{NextIds}
use Rattle.model_rows.specs.Lists.{Lists}

-- a statement for each table
pub record EachTable (of_items of_variations of_quotas of_vouchers of_carts of_orders of_positions of_waiting of_checkin_lists of_checkins : Type 0) : Type 0 where
  pub items : of_items
  pub variations : of_variations
  pub quotas : of_quotas
  pub vouchers : of_vouchers
  pub carts : of_carts
  pub orders : of_orders
  pub positions : of_positions
  pub waiting : of_waiting
  pub checkin_lists : of_checkin_lists
  pub checkins : of_checkins

-- ids rise, and each is at least 1 and below the next one
pub record AreNumbered {T : Type 0} (key : T → ℕ) (next : ℕ) (rows : List T) : Type 0 where
  pub in_order : AreInOrder key rows
  pub from_one : AllByRecursion (λ row. 1 ≤ key row) rows
  pub below : AllByRecursion (λ row. key row < next) rows

-- in each table
abbrev pub AllNumbered : NextIds → Lists → Type 0
AllNumbered next lists =
    EachTable
    (AreNumbered (λ r. r.id) next.item lists.catalogue.items)
    (AreNumbered (λ r. r.id) next.variation lists.catalogue.variations)
    (AreNumbered (λ r. r.id) next.quota lists.catalogue.quotas)
    (AreNumbered (λ r. r.id) next.voucher lists.vouchers)
    (AreNumbered (λ r. r.id) next.cart lists.carts)
    (AreNumbered (λ r. r.id) next.order lists.orders)
    (AreNumbered (λ r. r.id) next.position lists.positions)
    (AreNumbered (λ r. r.id) next.waiting lists.waiting)
    (AreNumbered (λ r. r.id) next.list lists.checkin_lists)
    (AreNumbered (λ r. r.id) next.checkin lists.checkins)
