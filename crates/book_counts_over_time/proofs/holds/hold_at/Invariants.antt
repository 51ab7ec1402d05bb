use Rattle.std.proofs.Common.{◌≡◌, length, take, map, vec_capacity, false}
use Rattle.model_rows.specs.Headroom.{held}
use Rattle.model_rows.specs.Lists.{cart_at}
use Rattle.book_counts_over_time.specs.Held.{named_by}
use Rattle.book_counts_over_time.specs.Redemptions.{turn_each}
use Rattle.book_counts_over_time.proofs.holds.hold_at.Given as goal

-- those so far have ended
abbrev pub invariant-loop-place : goal.invariant-loop-place
invariant-loop-place l = record {
  done : l.holds.items ≡ map (λ v. turn_each false (map (λ i. named_by (cart_at i l.store.state.lists)) (take l.place l.ids)) (λ n. held l.store.state.moment n l.store.state.lists) v.id) l.store.state.lists.vouchers;
  same : length l.holds.items ≡ length l.store.state.lists.vouchers;
  whole : length l.holds.items ≡ length l.fn.holds.items;
  room : vec_capacity l.holds ≡ vec_capacity l.fn.holds;
}
