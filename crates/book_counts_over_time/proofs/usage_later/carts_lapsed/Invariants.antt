use Rattle.std.proofs.Common.{◌≡◌, ◌≤◌, ◌+◌, take, sum_by}
use Rattle.model_rows.specs.Lists.{cart_at}
use Rattle.model_rows.specs.Usage.{cart_counts}
use Rattle.book_store.specs.Walks.{one_if}
use Rattle.book_counts_over_time.proofs.usage_later.carts_lapsed.Given as goal

abbrev pub invariant-loop-place : goal.invariant-loop-place
invariant-loop-place g l = record {
  counted : l.count ≡ sum_by (λ i. one_if (cart_counts l.ended.state.lists l.from l.quota) (cart_at i l.ended.state.lists)) (take l.place l.carts.ids);
  small : l.count ≤ l.place;
  ticked : l.steps ≡ l.fn.steps + l.place;
}
