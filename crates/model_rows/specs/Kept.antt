-- What is known of the lists of every book: ids rise, and none is too long to be counted.
use Rattle.std.specs.Prelude.{ℕ}
use Rattle.base_tables.specs.Tables.{AreKept}
use Rattle.model_rows.specs.Lists.{Lists}

-- in the lists of sales and of the door ids rise, and none of them is longer than this
pub record IsKept (limit : ℕ) (lists : Lists) : Type 0 where
  pub vouchers : AreKept (λ r. r.id) limit lists.vouchers
  pub carts : AreKept (λ r. r.id) limit lists.carts
  pub orders : AreKept (λ r. r.id) limit lists.orders
  pub positions : AreKept (λ r. r.id) limit lists.positions
  pub waiting : AreKept (λ r. r.id) limit lists.waiting
  pub checkin_lists : AreKept (λ r. r.id) limit lists.checkin_lists
  pub checkins : AreKept (λ r. r.id) limit lists.checkins
