use Rattle.std.proofs.Common.{◌≡◌, ◌≤◌, take, sum_by}
use Rattle.model_rows.specs.Lists.{position_at}
use Rattle.book_store.specs.Walks.{one_if}
use Rattle.book_store.proofs.store.Store.count_ordered.Given as goal

abbrev pub invariant-loop-place : goal.invariant-loop-place
invariant-loop-place g l = record {
  counted : l.count ≡ sum_by (λ i. one_if (g.T.PositionTest.passes l.test) (position_at i l.self.state.lists)) (take l.place l.ids);
  small : l.count ≤ l.place;
}
