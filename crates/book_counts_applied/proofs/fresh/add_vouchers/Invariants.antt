use Rattle.std.proofs.Common.{◌≡◌, length, drop}
use Rattle.book_counts_over_time.specs.UsageUpdates.{map_beside}
use Rattle.book_counts_applied.specs.Fresh.{after_each, voucher_comes}
use Rattle.book_counts_applied.proofs.fresh.add_vouchers.Given as goal

-- with the rows that are left the usages are those with all
abbrev pub invariant-loop-row : goal.invariant-loop-row
invariant-loop-row l = record {
  items : map_beside (after_each (voucher_comes l.store.state.lists l.at) (drop l.row-index l.rows)) l.store.state.lists.catalogue.quotas l.usages.items ≡ map_beside (after_each (voucher_comes l.store.state.lists l.at) l.rows) l.store.state.lists.catalogue.quotas l.fn.usages.items;
  same : length l.usages.items ≡ length l.fn.usages.items;
}
