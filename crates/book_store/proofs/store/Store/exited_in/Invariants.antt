use Rattle.std.proofs.Common.{◌≡◌, ◌≤◌, ◌+◌, take, count_by}
use Rattle.model_rows.specs.Usage.{exit_counts}
use Rattle.book_store.proofs.store.Store.exited_in.Given as goal

abbrev pub invariant-loop-row : goal.invariant-loop-row
invariant-loop-row g l = record {
  counted : l.count ≡ count_by (exit_counts l.self.state.lists l.quota) (take l.row-index l.row-items);
  small : l.count ≤ l.row-index;
  ticked : l.steps ≡ l.fn.steps + l.row-index;
}
