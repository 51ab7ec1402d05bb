-- Whether a ticket has gone out, and which quotas let its place be sold again then.
use Rattle.std.specs.Prelude.{◌≡◌, Bool, true}
use Rattle.model_catalogue.specs.declared.rows.Quota.{Quota}
use Rattle.model_catalogue.specs.Member.{is_in}
use Rattle.model_rows.specs.declared.rows.OrderPos.{OrderPos}
use Rattle.model_rows.specs.Conditions.{is_paid}
use Rattle.model_rows.specs.Lists.{Lists, State, order_at}
use Rattle.model_rows.specs.Passages.{is_out}
use Rattle.model_rows.specs.Usage.{stands_as}

-- the last check-in of the position, by whatever list, is an exit
abbrev pub has_gone : OrderPos → State → Bool
has_gone position state = is_out position.id state.lists.checkins

-- the position is paid, and the quota is of its product and releases the places of those who have gone out
pub record IsReleasing (quota : Quota) (position : OrderPos) (lists : Lists) : Type 0 where
  pub paid : stands_as is_paid (order_at position.order lists) ≡ true
  pub inside : is_in quota position.product ≡ true
  pub releases : quota.release_after_exit ≡ true
