use Rattle.std.proofs.Common.{◌≡◌, ◌≤◌, length, map, take, vec_capacity}
use Rattle.book_counts_applied.specs.Settled.{nothing}
use Rattle.book_counts_applied.proofs.fresh.clear_usages.Given as goal

-- those of the quotas so far
abbrev pub invariant-loop-quota : goal.invariant-loop-quota
invariant-loop-quota l = record {
  items : l.usages.items ≡ map (λ q. nothing) (take l.quota-index l.quotas);
  count : length l.usages.items ≡ l.quota-index;
  room : length l.quotas ≤ vec_capacity l.usages;
}
