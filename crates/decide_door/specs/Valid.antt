-- What a scan that is let through rests on, but for the check-ins that are stored.
use Rattle.std.specs.Prelude.{◌≡◌, ℕ, ◌⊎◌, true, false, Some}
use Rattle.model_rows.specs.declared.rows.Order.{Order}
use Rattle.model_rows.specs.declared.rows.OrderPos.{OrderPos}
use Rattle.model_rows.specs.declared.rows.CheckinList.{CheckinList}
use Rattle.model_rows.specs.Conditions.{is_paid}
use Rattle.model_rows.specs.Lists.{Lists, order_at}
use Rattle.model_commands.specs.declared.doors.Scan.{Scan}
use Rattle.decide_door.specs.Belongs.{is_for}
use Rattle.decide_door.specs.Verdict.{is_in_force_if, is_unpaid_if}

-- the position's order is paid, or pending where that is enough, and the list is for the position's item
pub record IsValid (list : CheckinList) (position : OrderPos) (scan : Scan) (lists : Lists) : Type 0 where
  -- its order is pending or paid
  pub in_force : is_in_force_if (order_at position.order lists) ≡ true
  -- the list is for its item
  pub listed : is_for list position.product.item ≡ true
  -- its order is paid, or pending as the scan and the list allow it
  pub paid : is_unpaid_if list scan (order_at position.order lists) ≡ false

-- an order stands as it did before, or is paid
pub record IsStillGood (order : ℕ) (before after : Lists) : Type 0 where
  pub old : Order
  pub new : Order
  pub stood : order_at order before ≡ Some old
  pub stands : order_at order after ≡ Some new
  pub status : (is_paid new.status ≡ true) ⊎ (new.status ≡ old.status)
