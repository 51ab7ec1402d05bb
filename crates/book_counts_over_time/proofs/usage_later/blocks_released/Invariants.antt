use Rattle.std.proofs.Common.{◌≡◌, ◌≤◌, ◌+◌, ◌*◌, take, sum_by}
use Rattle.model_rows.specs.Lists.{voucher_at}
use Rattle.book_counts_over_time.specs.Later.{release_if, free_if, naming_if}
use Rattle.book_counts_over_time.proofs.usage_later.blocks_released.Given as goal

abbrev pub invariant-loop-place : goal.invariant-loop-place
invariant-loop-place g l = record {
  blocked_is : l.blocked ≡ sum_by (λ i. release_if l.ended.state.lists l.quota (voucher_at i l.ended.state.lists)) (take l.place l.vouchers.ids);
  blocked_small : l.blocked ≤ l.place * 4294967295;
  carts_is : l.carts ≡ sum_by (λ i. free_if l.ended.state.lists l.at l.quota (voucher_at i l.ended.state.lists)) (take l.place l.vouchers.ids);
  carts_small : l.carts ≤ l.place * 4294967296;
  ticked : l.steps ≤ l.fn.steps + l.place + sum_by (λ i. naming_if l.ended.state.lists (voucher_at i l.ended.state.lists)) (take l.place l.vouchers.ids);
}
