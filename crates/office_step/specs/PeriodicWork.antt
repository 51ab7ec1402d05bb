-- Periodic work: what is overdue ends, and then those who wait are served.
use Rattle.std.specs.Prelude.{ℕ, List, ◌++◌, length}
use Rattle.base_values.specs.declared.draw.Draw.{Draw}
use Rattle.model_rows.specs.declared.changes.Change.{Change}
use Rattle.model_rows.specs.Lists.{State}
use Rattle.model_rows.specs.Due.{due_orders, dead_carts}
use Rattle.model_commands.specs.declared.waiting.PeriodicCounts.{PeriodicCounts}
pub use Rattle.decide_orders.specs.Expired.{orders_expired, carts_dropped, expired_changes, dropped_changes}
use Rattle.decide_waiting.specs.Serving.{all_served, served_changes}

-- the pending orders whose end is before the moment are expired, and the dead cart positions are gone
abbrev pub pending_ended : State → State
pending_ended state = carts_dropped (orders_expired state)

-- how many orders and cart positions end, and how many entries are then sent a voucher
abbrev pub periodic_counts : State → List ℕ → PeriodicCounts
periodic_counts state sent = record {
  expired = length (due_orders state.moment state.lists);
  deleted = length (dead_carts state.moment state.lists);
  sent = length sent;
}

-- first what is overdue ends, then all who wait are served, in the box office as it is then; and how many of each
abbrev pub periodic_done : Draw → State → State × PeriodicCounts
periodic_done draw state = let served = all_served draw (pending_ended state) in (served.0, periodic_counts state served.1)

-- what it changes: orders that expire, cart positions that go, then each voucher that is sent and the entry that has it
abbrev pub periodic_changes : Draw → State → List Change
periodic_changes draw state = expired_changes state ++ dropped_changes (orders_expired state) ++ served_changes draw (pending_ended state)
