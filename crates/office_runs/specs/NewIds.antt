-- Ids are never used again.
use Rattle.std.specs.Prelude.{◌≡◌, ℕ, ◌≤◌, ◌<◌, ◌⊎◌, true, is_some, List}
use Rattle.base_tables.specs.Tables.{row_at}
use Rattle.model_rows.specs.Lists.{State}

-- A table's rows before and after, with its next id before and after: the next id doesn't fall, and a row that stands
-- stood before under its id, or has a new one, which is at least the next id before and below the next id after.
pub record IdsGoOn {T : Type 0} (key : T → ℕ) (next next' : ℕ) (rows rows' : List T) : Type 0 where
  pub rises : next ≤ next'
  pub new : (id : ℕ) → is_some (row_at key id rows') ≡ true → (is_some (row_at key id rows) ≡ true) ⊎ ((next ≤ id) × (id < next'))

-- in each table the next id doesn't fall, and a new row's id lies between the next id before and the next id after
pub record AllIdsGoOn (before after : State) : Type 0 where
  pub items : IdsGoOn (λ r. r.id) before.next.item after.next.item before.lists.catalogue.items after.lists.catalogue.items
  pub variations : IdsGoOn (λ r. r.id) before.next.variation after.next.variation before.lists.catalogue.variations after.lists.catalogue.variations
  pub quotas : IdsGoOn (λ r. r.id) before.next.quota after.next.quota before.lists.catalogue.quotas after.lists.catalogue.quotas
  pub vouchers : IdsGoOn (λ r. r.id) before.next.voucher after.next.voucher before.lists.vouchers after.lists.vouchers
  pub carts : IdsGoOn (λ r. r.id) before.next.cart after.next.cart before.lists.carts after.lists.carts
  pub orders : IdsGoOn (λ r. r.id) before.next.order after.next.order before.lists.orders after.lists.orders
  pub positions : IdsGoOn (λ r. r.id) before.next.position after.next.position before.lists.positions after.lists.positions
  pub waiting : IdsGoOn (λ r. r.id) before.next.waiting after.next.waiting before.lists.waiting after.lists.waiting
  pub checkin_lists : IdsGoOn (λ r. r.id) before.next.list after.next.list before.lists.checkin_lists after.lists.checkin_lists
  pub checkins : IdsGoOn (λ r. r.id) before.next.checkin after.next.checkin before.lists.checkins after.lists.checkins
