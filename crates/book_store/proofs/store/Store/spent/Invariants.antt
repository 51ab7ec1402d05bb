use Rattle.std.proofs.Common.{◌≡◌, ◌≤◌, ◌*◌, take, sum_by}
use Rattle.model_rows.specs.Lists.{position_at}
use Rattle.model_rows.specs.Usage.{spends}
use Rattle.book_store.specs.Walks.{amount_of}
use Rattle.book_store.proofs.store.Store.spent.Given as goal

abbrev pub invariant-loop-place : goal.invariant-loop-place
invariant-loop-place l = record {
  added : l.total ≡ sum_by (λ i. amount_of (spends l.voucher l.self.state.lists) (position_at i l.self.state.lists)) (take l.place l.named);
  small : l.total ≤ l.place * 9999999999;
}
