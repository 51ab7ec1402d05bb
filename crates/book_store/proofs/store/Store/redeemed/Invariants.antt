use Rattle.std.proofs.Common.{◌≡◌, ◌≤◌, take, sum_by}
use Rattle.model_rows.specs.Conditions.{is_in_force}
use Rattle.model_rows.specs.Lists.{order_at, position_at}
use Rattle.model_rows.specs.Usage.{stands_as}
use Rattle.book_store.specs.Walks.{one_if}
use Rattle.book_store.proofs.store.Store.redeemed.Given as goal

abbrev pub invariant-loop-place : goal.invariant-loop-place
invariant-loop-place l = record {
  counted : l.count ≡ sum_by (λ i. one_if (λ p. stands_as is_in_force (order_at p.order l.self.state.lists)) (position_at i l.self.state.lists)) (take l.place l.named);
  small : l.count ≤ l.place;
}
