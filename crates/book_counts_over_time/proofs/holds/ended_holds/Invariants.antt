use Rattle.std.proofs.Common.{◌≡◌, ◌≤◌, take, sum_by}
use Rattle.model_rows.specs.Conditions.{names}
use Rattle.model_rows.specs.Lists.{cart_at}
use Rattle.book_store.specs.Walks.{one_if}
use Rattle.book_counts_over_time.proofs.holds.ended_holds.Given as goal

abbrev pub invariant-loop-place : goal.invariant-loop-place
invariant-loop-place l = record {
  counted : l.count ≡ sum_by (λ i. one_if (λ c. names l.voucher c.voucher) (cart_at i l.store.state.lists)) (take l.place l.ids);
  small : l.count ≤ l.place;
}
