use Rattle.std.proofs.Common.{◌≡◌, ◌≤◌, ◌+◌, ◌*◌, take, sum_by}
use Rattle.model_rows.specs.Usage.{blocked_by}
use Rattle.book_store.proofs.store.Store.blocked_in.Given as goal

abbrev pub invariant-loop-row : goal.invariant-loop-row
invariant-loop-row g l = record {
  counted : l.blocked ≡ sum_by (blocked_by l.self.state.lists l.at l.quota) (take l.row-index l.row-items);
  small : l.blocked ≤ l.row-index * 4294967295;
  ticked : l.steps ≡ l.fn.steps + l.row-index;
}
