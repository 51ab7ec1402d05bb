use Rattle.std.proofs.Common.{◌≡◌, ◌≤◌, take, sum_by}
use Rattle.model_rows.specs.Conditions.{is_live_cart}
use Rattle.model_rows.specs.Lists.{cart_at}
use Rattle.book_store.specs.Walks.{one_if}
use Rattle.book_store.proofs.store.Store.held.Given as goal

abbrev pub invariant-loop-place : goal.invariant-loop-place
invariant-loop-place l = record {
  counted : l.count ≡ sum_by (λ i. one_if (is_live_cart l.at) (cart_at i l.self.state.lists)) (take l.place l.named);
  small : l.count ≤ l.place;
}
