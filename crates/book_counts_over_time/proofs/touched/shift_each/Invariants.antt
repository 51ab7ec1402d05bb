use Rattle.std.proofs.Common.{◌≡◌, length, take, vec_capacity}
use Rattle.base_tables.specs.Tables.{has}
use Rattle.book_counts_over_time.specs.UsageUpdates.{map_beside, only}
use Rattle.book_counts_over_time.proofs.touched.shift_each.Given as goal

-- the quotas of the ids so far have their new usage
abbrev pub invariant-loop-place : goal.invariant-loop-place
invariant-loop-place g l = record {
  done : l.usages.items ≡ map_beside (only (λ q. has q.id (take l.place l.ids)) (g.S.UsageUpdate.shift l.shift)) l.quotas l.fn.usages.items;
  same : length l.usages.items ≡ length l.quotas;
  room : vec_capacity l.usages ≡ vec_capacity l.fn.usages;
}
