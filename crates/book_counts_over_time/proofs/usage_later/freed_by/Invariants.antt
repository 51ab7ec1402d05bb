use Rattle.std.proofs.Common.{◌≡◌, ◌≤◌, ◌+◌, ◌&&◌, take, sum_by}
use Rattle.model_rows.specs.Lists.{cart_at}
use Rattle.model_rows.specs.Conditions.{is_live_cart}
use Rattle.model_catalogue.specs.Member.{is_in}
use Rattle.book_store.specs.Walks.{one_if}
use Rattle.book_counts_over_time.proofs.usage_later.freed_by.Given as goal

abbrev pub invariant-loop-place : goal.invariant-loop-place
invariant-loop-place g l = record {
  counted : l.count ≡ sum_by (λ i. one_if (λ c. is_live_cart l.at c && is_in l.quota c.product) (cart_at i l.ended.state.lists)) (take l.place l.carts.ids);
  small : l.count ≤ l.place;
  ticked : l.steps ≡ l.fn.steps + l.place;
}
